-- The entries of a folder's names, in a tree by the bits of the names' numbers.
use Rattle.std.specs.Prelude.{◌≡◌, ◌≢◌, ℕ, ◌%◌, ◌/◌, ◌==◌, cond, Option, Some, None}
use Rattle.std.specs.Borrow.{Bor}
use Rattle.udt_disk.specs.Names.{same_name, number_of}
use Rattle.udt_disk.specs.declared.name.FileName.{FileName}
use Rattle.udt_disk.specs.declared.tree.Entry.{Entry}
use Rattle.udt_disk.specs.declared.tree.Place.{Place}
use Rattle.udt_disk.specs.declared.tree.Tree.{Tree, Empty, Fork'}

-- the entry of a name below a fork where these bits of its number are left
abbrev pub entry_from : Tree → ℕ → FileName → Option Entry
entry_from Empty bits n = None
entry_from (Fork' p e even odd) bits n = cond (same_name e.name n) (Some e) (cond (bits % 2 == 1) (entry_from odd (bits / 2) n) (entry_from even (bits / 2) n))

abbrev pub entry_named : Tree → FileName → Option Entry
entry_named tree n = entry_from tree (number_of n) n

abbrev pub place_in_entry : Option Entry → Option Place
place_in_entry None = None
place_in_entry (Some e) = Some e.place

-- when the file of the name was last given back, 0 where none was
abbrev pub early : Option Entry → ℕ
early None = 0
early (Some e) = e.since

-- the name has this entry, if any, and the others have what they had
pub record Changed (name : FileName) (entry : Option Entry) (old new : Tree) : Type 0 where
  pub there : entry_named new name ≡ entry
  pub others : (n : FileName) → n ≢ name → entry_named new n ≡ entry_named old n

-- the entry that is lent
abbrev pub lent : Option (Bor Entry) → Option Entry
lent None = None
lent (Some e) = Some e.now
