-- What writing a table to a new file leaves.
use Rattle.std.proofs.Common.{◌≡◌, ℕ, zero, suc, ◌+◌, ◌^◌, ◌<◌, ◌≤◌, Bool, List, [], ◌++◌, drop, length, refl, sym, ap, subst, ◌∙◌}
use Rattle.std.specs.Prelude.{IsTrue, Option, Ok, Err}
use Rattle.std.proofs.lemmas.List.{append-nil}
use Rattle.udt_disk.specs.Bytes.{overwritten}
use Rattle.udt_disk.specs.Causes.{IsCause, plus_faults}
use Rattle.udt_disk.specs.declared.file.DiskFile as file
use Rattle.udt_disk.specs.declared.name.FileName.TheVariants.{Table}
use Rattle.block_table.specs.Contents.{Contents, properties_of}
use Rattle.block_table.specs.Held.{Held}
use Rattle.block_table.specs.Tables.{IsTable}
use Rattle.block_table.specs.Writes.{WritesTable}
use Rattle.block_table.specs.declared.fault.TableWriteFault.{TableWriteFault}
use Rattle.block_table.specs.declared.fault.TableWriteFault.TheVariants.{DiskFault, NoMemory}
use Rattle.super_version.specs.Jobs.{MayGive, MayRefuse, is_fault}
use Rattle.compaction.specs.Made.{HoldsOutput, job_cause}
use Rattle.compaction.proofs.Drawn.{may_fail, none_more, rose_more}

drop_none : {X : Type 0} (n : ℕ) → drop {A = X} n [] ≡ []
drop_none zero = refl
drop_none (suc n) = refl

whole_image : (old image : List ℕ) → old ≡ [] → overwritten old 0 image ≡ image
whole_image old image e = ap (λ l. overwritten l 0 image) e ∙ ap (λ l. image ++ l) (drop_none (0 + length image)) ∙ append-nil image

module _ {F : Type 0} (g : file.Ghosts F) where
  -- a file that was empty holds the table that was written to it
  pub holds_table : (t : Contents) (old new : F) (table : Held) (number count : ℕ) (is_told is_model : Bool) → WritesTable g t old new (Ok table)
      → (IsTrue (g.is_told old) → g.seen old ≡ []) → g.name old ≡ Table number → g.faults old ≡ 0 → g.is_told old ≡ is_told → g.keeps_model old ≡ is_model → count ≡ (properties_of table.contents).count
      → HoldsOutput g is_told is_model (record { number = number; file = new; table = table; kept = count })
  holds_table t old new table number count is_told is_model w empty name faults told model counted =
      let written = w.2 in
      record {
        table = subst (λ (u : Contents). IsTable u table.image) (sym w.0) w.1;
        kept = counted;
        name = written.same.name ∙ name;
        holds = λ h. let k : IsTrue (g.is_told old) = subst IsTrue (sym told) h in written.written k ∙ whole_image (g.seen old) table.image (empty k);
        synced = written.durable;
        faults = written.cause.kept ∙ faults;
        told = written.same.told ∙ told;
        model = written.same.model ∙ model;
      }

  -- where a table wasn't written, the file keeps its name, and has failed or is as it was
  pub name_stays : (t : Contents) (old new : F) (fault : TableWriteFault) → WritesTable g t old new (Err fault) → g.name new ≡ g.name old
  name_stays t old new DiskFault w = w.2.1.same.name
  name_stays t old new NoMemory w = ap g.name w

  pub cause_is : (t : Contents) (old new : F) (fault : TableWriteFault) (before after : ℕ) → WritesTable g t old new (Err fault) → g.faults old ≡ 0 → after ≡ plus_faults before (g.faults new) → before ≤ after → IsCause (is_fault (job_cause fault)) before after
  cause_is t old new DiskFault before after w none e le = rose_more before after (g.faults old) (g.faults new) none w.2.1.cause.failed e
  cause_is t old new NoMemory before after w none e le = none_more before after (g.faults new) (ap g.faults w ∙ none) e le

pub refusal_is : (fault : TableWriteFault) (seen halt : Option ℕ) (told next number : ℕ) → MayGive seen told number → halt ≡ seen → next ≡ told → MayRefuse halt next (job_cause fault)
refusal_is DiskFault seen halt told next number h e f =
    let k = may_fail seen told number h in
    (e ∙ k.0, subst (λ z. z < 2 ^ 63) (sym f) k.1)
refusal_is NoMemory seen halt told next number h e f = tt
