-- What a change of one entry leaves of the others.
use Rattle.std.proofs.Common.{◌≡◌, ◌≢◌, ℕ, ◌%◌, ◌/◌, Box, cond, refl}
use Rattle.std.specs.Prelude.{◌==◌, Some}
use Rattle.std.specs.declared.alloc.Global.{Global}
use Rattle.udt_disk.specs.Names.{same_name}
use Rattle.udt_disk.specs.Tree.{entry_from}
use Rattle.udt_disk.specs.declared.name.FileName.{FileName}
use Rattle.udt_disk.specs.declared.tree.Entry.{Entry}
use Rattle.udt_disk.specs.declared.tree.Fork.{Fork}
use Rattle.udt_disk.specs.declared.tree.Tree.{Tree}
use Rattle.udt_disk.specs.declared.tree.Tree.TheViews as views
use Rattle.udt_disk.proofs.Names.{other_name}

-- another entry of the same name
pub fork_others : (old : Tree) (fork : Box Fork Global) (now : Fork) (entry dest : Entry) → old ≡ views.Fork fork → now ≡ fork.value → dest ≡ entry → now.entry.name ≡ entry.name
    → (b : ℕ) (n : FileName) → n ≢ entry.name → cond (same_name dest.name n) (Some dest) (cond (b % 2 == 1) (entry_from now.odd (b / 2) n) (entry_from now.even (b / 2) n)) ≡ entry_from old b n
fork_others old fork now entry dest is value put same b n apart =
    rw (is, ← value, put, same, other_name entry.name n apart) refl
