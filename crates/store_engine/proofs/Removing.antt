-- Removals of files, one after the other.
use Rattle.std.proofs.Common.{◌≡◌, ◌≤◌, List, [], ◌∷◌, ◌++◌, Result, Ok, Err, None, sym, ◌∙◌, subst, arith, inl, inr}
use Rattle.std.specs.Prelude.{IsTrue, OnOk}
use Rattle.udt_disk.specs.Causes.{HasCause, Rose}
use Rattle.udt_disk.specs.Folder.{OthersStay}
use Rattle.udt_disk.specs.declared.disk.Disk as disk
use Rattle.udt_disk.specs.declared.name.FileName.{FileName}
use Rattle.udt_disk.proofs.Names.{same_or_other}
use Rattle.floor_laws.proofs.Members.{In-append, contains_In, In-contains}
use Rattle.store_engine.specs.Asides.{AreAbsent, IsRemoval}

module _ {D F : Type 0} (d : disk.Ghosts D F) (old mid new : D) where
  rose_then : Rose (d.faults old) (d.faults mid) → d.faults mid ≤ d.faults new → Rose (d.faults old) (d.faults new)
  rose_then rose later = omega (arith, rose, later)

  absent_then : (names : List FileName) (name : FileName) → AreAbsent d names mid → (IsTrue (d.is_told mid) → d.stands new name ≡ None) → OthersStay name (d.stands mid) (d.stands new) (d.may_leave mid) (d.may_leave new) → d.is_told new ≡ d.is_told mid → AreAbsent d (names ++ name ∷ []) new
  absent_then names name absent gone others told n i told_now =
      let told_before : IsTrue (d.is_told mid) = subst IsTrue told told_now in
      elim (same_or_other name n) [
        | inl same ↦ subst (λ x. d.stands new x ≡ None) (sym same) (gone told_before)
        | inr other ↦ elim (In-append n names (name ∷ []) (contains_In (names ++ name ∷ []) n i)) [
          | inl j ↦ others.same n other ∙ absent n (In-contains names n j) told_before
          | inr j ↦ elim j [ inl q ↦ absurd (other (sym q)) | inr none ↦ absurd none ]
        ]
      ]

  pub removal_then : {T E : Type 0} (names : List FileName) (name : FileName) (result : Result T E) → OnOk result (IsTrue (d.is_told mid) → d.stands new name ≡ None) → OthersStay name (d.stands mid) (d.stands new) (d.may_leave mid) (d.may_leave new) → HasCause (d.faults mid) (d.faults new) result → d.is_told new ≡ d.is_told mid
      → IsRemoval d names old mid → IsRemoval d (names ++ name ∷ []) old new
  removal_then names name result gone others cause told (inr rose) = inr (rose_then rose cause.later)
  removal_then names name (Ok u) gone others cause told (inl so_far) = inl (absent_then names name so_far.0 gone others told, cause.kept ∙ so_far.1)
  removal_then names name (Err e) gone others cause told (inl so_far) = inr (subst (λ n. Rose n (d.faults new)) so_far.1 cause.failed)
