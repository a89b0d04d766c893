-- What an act that changes nothing on the disk leaves of what the engine holds, and accounts that agree on what is live.
use Rattle.std.proofs.Common.{◌≡◌, ℕ, ◌+◌, ◌==◌, ◌≤◌, false, List, ◌++◌, length, Some, refl, sym, ap, ◌∙◌, subst, arith}
use Rattle.std.specs.Prelude.{All, Contains, slice_get}
use Rattle.std.proofs.lemmas.Bool.{eqb-true, false_from_ne_true}
use Rattle.ts_key.specs.declared.numbers.Family.{Family}
use Rattle.ts_key.specs.declared.numbers.Seq.{Seq}
use Rattle.wal.specs.declared.numbered.Numbered.{Numbered}
use Rattle.wal.specs.Records.{IsLoggedBatch}
use Rattle.wal.specs.Sequences.{GoesOn, IsInSequence}
use Rattle.udt_model.specs.State.{FamilyState, LiveTable, State}
use Rattle.udt_model.specs.Crashes.{Course}
use Rattle.manifest_edit.specs.declared.edit.TableAt.{TableAt}
use Rattle.manifest_fold.specs.declared.fold.FamilyFold.{FamilyFold}
use Rattle.manifest_fold.specs.declared.fold.Folded.{Folded}
use Rattle.floor_laws.specs.Sound.{IsSoundCourse, IsSoundState}
use Rattle.floor_laws.proofs.Members.{In-contains}
use Rattle.engine_laws.specs.Logs.{above, last_of, last_over, versions_of}
use Rattle.engine_laws.specs.Manifests.{IsLive, IsWell}
use Rattle.engine_laws.specs.Standing.{Fits, Says, TableSays, families_said, family_said, head_of, live_batches, table_of}
use Rattle.engine_laws.specs.Engine.{AreSameKept, HoldsState, IsOnCourse, SameLive, durable_last, with_new_log, with_new_table}
use Rattle.engine_laws.proofs.Places.{In-get, map_same}
use Rattle.engine_laws.proofs.Batches.{batches_same}

-- an act that changes nothing that is kept
pub keeps_holds : (m n : State) (c d : Course) (s : Says) (waiting : List Numbered) → AreSameKept m n → IsSoundState n → IsSoundCourse n d → d.ends ≡ c.ends → d.synced ≡ c.synced → HoldsState m c s waiting → HoldsState n d s waiting
keeps_holds m n c d s waiting k sound course ends synced h =
    let last : n.last.0 ≡ m.last.0 = ap (λ (z : Seq). z.0) k.last in
    record {
      families = k.families ∙ h.families;
      unflushed = λ i f e. ap (above i f.through.0) k.versions ∙ h.unflushed i f (subst (λ z. slice_get z i.0 ≡ Some f) k.families e);
      last = last ∙ h.last;
      within = let a = h.within in omega (arith, a, last);
      sequence = h.sequence;
      goes_on = h.goes_on;
      logged = h.logged;
      behind = h.behind;
      fits = h.fits;
      well = h.well;
      sound = sound;
      course = record {
        here = subst (λ z. Contains z (durable_last s)) (sym ends) h.course.here;
        all = subst (λ z. Contains d.ends z) (sym last) (subst (λ z. Contains z m.last.0) (sym ends) h.course.all);
        synced = let a = h.course.synced in omega (arith, a, synced);
        sound = course;
      };
    }

-- ---- accounts

pub same_batches : (a b : Says) → SameLive a b → live_batches b ≡ live_batches a
same_batches a b h = ap (λ (z : Folded). live_batches (record b { fold = z })) h.fold ∙ batches_same a.logs b.logs a.fold.logs (λ n i. h.logs n (In-contains a.fold.logs n i))

pub same_families : (a b : Says) → SameLive a b → families_said b.tables b.fold ≡ families_said a.tables a.fold
same_families a b h =
    ap (families_said b.tables) h.fold
    ∙ map_same (family_said b.tables) (family_said a.tables) a.fold.families (λ f i.
    let k = In-get a.fold.families f i in
    ap (λ ts. let r : FamilyState = record { head = head_of f; through = f.through; tables = ts } in r)
    (map_same (table_of b.tables) (table_of a.tables) f.tables (λ t j. ap (λ (z : TableSays). let r : LiveTable = record { number = t.number; level = t.level; versions = z.versions } in r) (h.tables (record { 0 = k.0 }) f t (record { family = k.1; table = In-contains f.tables t j })))))

pub same_last : (s o : Says) → SameLive s o → durable_last o ≡ durable_last s
same_last s o k = ap (λ (z : Folded). last_over z.last.0 (live_batches o)) k.fold ∙ ap (last_over s.fold.last.0) (same_batches s o k)

pub same_holds : (m : State) (c : Course) (s o : Says) (waiting : List Numbered) → SameLive s o → HoldsState m c s waiting → HoldsState m c o waiting
same_holds m c s o waiting k h =
    let b : live_batches s ≡ live_batches o = sym (same_batches s o k) in
    let f : s.fold ≡ o.fold = sym k.fold in
    let l : durable_last s ≡ durable_last o = sym (same_last s o k) in
    let live : (i : Family) (x : FamilyFold) (t : TableAt) → IsLive o.fold i x t → IsLive s.fold i x t = λ i x t y. subst (λ z. IsLive z i x t) k.fold y in
    record {
      families = h.families ∙ sym (same_families s o k);
      unflushed = λ i x q. h.unflushed i x q ∙ ap (λ z. above i x.through.0 (versions_of (z ++ waiting))) b;
      last = h.last ∙ ap (λ (z : Folded). last_over z.last.0 (live_batches s ++ waiting)) f ∙ ap (λ z. last_over o.fold.last.0 (z ++ waiting)) b;
      within = h.within;
      sequence = subst IsInSequence b h.sequence;
      goes_on = subst (λ z. GoesOn (Some (z + 1)) waiting) l h.goes_on;
      logged = subst (λ (z : Folded). All (IsLoggedBatch (length z.families)) (live_batches o ++ waiting)) f (subst (λ z. All (IsLoggedBatch (length s.fold.families)) (z ++ waiting)) b h.logged);
      behind = subst (λ (z : Folded). z.last.0 ≤ last_of z.last.0 (live_batches o)) f (subst (λ z. s.fold.last.0 ≤ last_of s.fold.last.0 z) b h.behind);
      fits = λ i x t y. let z = live i x t y in subst (Fits i x) (sym (k.tables i x t z)) (h.fits i x t z);
      well = subst IsWell f h.well;
      sound = h.sound;
      course = subst (IsOnCourse m c) l h.course;
    }

-- what a table that isn't live yet says may be set: the account agrees on all that is live
pub fixed_table : (s : Says) (n : ℕ) (says : TableSays) → ((i : Family) (x : FamilyFold) (t : TableAt) → IsLive s.fold i x t → t.number ≡ n → ⊥) → SameLive s (with_new_table s n says)
fixed_table s n says dead = record {
  fold = refl;
  logs = λ k i. refl;
  tables = λ i x t l. let e : (t.number == n) ≡ false = false_from_ne_true (t.number == n) (λ y. dead i x t l (eqb-true t.number n y)) in rw e refl;
}

-- and what a log that isn't live yet says
pub fixed_log : (s : Says) (n : ℕ) (batches : List Numbered) → (Contains s.fold.logs n → ⊥) → SameLive s (with_new_log s n batches)
fixed_log s n batches dead = record {
  fold = refl;
  logs = λ k i. let e : (k == n) ≡ false = false_from_ne_true (k == n) (λ y. dead (subst (Contains s.fold.logs) (eqb-true k n y) i)) in rw e refl;
  tables = λ i x t l. refl;
}
