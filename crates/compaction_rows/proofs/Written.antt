-- Tables that were written are inputs.
use Rattle.std.proofs.Common.{◌≡◌, ℕ, List, sym, ap, subst, ◌∙◌}
use Rattle.std.specs.Prelude.{Result, Ok, Err}
use Rattle.ts_key.specs.declared.version.Form.{Form}
use Rattle.ts_key.specs.declared.version.Form.TheVariants.{Persist}
use Rattle.ts_key.specs.declared.numbers.Ts.{Ts}
use Rattle.ts_key.specs.Items.{Item}
use Rattle.udt_disk.specs.declared.file.DiskFile.{Ghosts}
use Rattle.block_table.specs.Contents.{Contents}
use Rattle.block_table.specs.Held.{Held}
use Rattle.block_table.specs.Pushed.{contents_of}
use Rattle.block_table.specs.Tables.{IsTable}
use Rattle.block_table.specs.Writes.{WritesTable}
use Rattle.block_table.specs.declared.fault.TableWriteFault.{TableWriteFault}
use Rattle.compaction.specs.Made.{IsInput}
use Rattle.compaction_rows.specs.Inputs.{IsOfFirst, first_family}

pub written_is : {F : Type 0} (g : Ghosts F) (floor : Ts) (vs : List Item) (old new : F) (r : Result Held TableWriteFault) (table : Held) → r ≡ Ok table → WritesTable g (contents_of first_family Persist floor vs) old new r → (number : ℕ) → IsOfFirst (record { number = number; table = table })
written_is g floor vs old new (Ok t) table e w number =
    let k : t ≡ table = cc in
    let is : table.contents ≡ contents_of first_family Persist floor vs = ap (λ (h : Held). h.contents) (sym k) ∙ w.0 in
    record {
      family_is = ap (λ (c : Contents). c.family) is;
      form_is = ap (λ (c : Contents). c.form) is;
      table = subst (λ (h : Held). IsTable h.contents h.image) k (subst (λ (c : Contents). IsTable c t.image) (sym w.0) w.1);
    }
written_is g floor vs old new (Err f) table e w number = cc
