-- What a batch makes of the families.
use Rattle.std.specs.Prelude.{◌≡◌, ◌+◌, ◌==◌, List, [], ◌∷◌, ◌++◌, length, filter}
use Rattle.ts_key.specs.declared.numbers.Family.{Family}
use Rattle.ts_key.specs.declared.batch.WriteOp.{WriteOp}
use Rattle.ts_key.specs.declared.version.Version.{Version}
use Rattle.sorted_run.specs.Sorts.{sorted}
use Rattle.udt_model.specs.Versions.{made}
use Rattle.memtable.specs.Memtables.{versions_of_memtable}
use Rattle.super_version.specs.declared.family.FamilyState.{FamilyState}
use Rattle.super_version.specs.declared.version.SuperVersion.{SuperVersion}

-- the versions of a family
abbrev pub of_family : Family → List Version → List Version
of_family family vs = filter (λ v. v.family.0 == family.0) vs

-- the active memtable has these versions more; all else is as before, and everything is where there is none
pub record IsWrittenTo (more : List Version) (old new : FamilyState) : Type 0 where
  pub family : new.active.family ≡ old.active.family
  pub versions : versions_of_memtable new.active ≡ sorted (more ++ versions_of_memtable old.active)
  pub others : new ≡ record old { active = new.active }
  pub kept : more ≡ [] → new ≡ old

-- each family has those of the versions more that are its own
abbrev pub AreWrittenTo : List Version → List FamilyState → List FamilyState → Type 0
AreWrittenTo vs [] new = new ≡ []
AreWrittenTo vs (f ∷ fs) [] = ⊥
AreWrittenTo vs (f ∷ fs) (g ∷ gs) = IsWrittenTo (of_family f.active.family vs) f g × AreWrittenTo vs fs gs

-- the operations of a batch have the sequences behind the last one, and each family the versions that they make of it
pub record AddsBatch (batch : List WriteOp) (old new : SuperVersion) : Type 0 where
  pub last : new.last.0 ≡ old.last.0 + length batch
  pub families : AreWrittenTo (made old.last.0 batch) old.families new.families
