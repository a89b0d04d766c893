-- What may be there of a file that is created now.
use Rattle.std.proofs.Common.{◌≡◌, inl, inr, Bool, true, false, not, refl, sym, subst}
use Rattle.std.specs.Prelude.{Some, None, IsTrue, List, [], ◌∷◌, ℕ, reverse}
use Rattle.std.proofs.lemmas.Bool.{false≢true}
use Rattle.udt_disk.specs.History.{CallsLeave, undone, is_synced}
use Rattle.udt_disk.specs.Files.{LeavesBirth, PlaceLeaves, file_stays}
use Rattle.udt_disk.specs.declared.history.FileCall.{FileCall}
use Rattle.udt_disk.specs.declared.history.FileCall.TheVariants.{Wrote, Synced}
use Rattle.udt_disk.specs.declared.mem_file.FileData.{FileData}
use Rattle.udt_disk.specs.declared.tree.Place.{Place}
use Rattle.udt_disk.specs.declared.tree.Place.TheVariants.{Home, Gone}

-- a file that was created and not synced may be missing
pub may_miss_still : (miss differ : Bool) (now : List ℕ) (calls : List FileCall) → is_synced calls ≡ false → IsTrue miss → CallsLeave miss differ now calls None
may_miss_still miss differ now [] h m = m
may_miss_still miss differ now (Wrote at count over ∷ earlier) h m = inr (None, may_miss_still miss differ (undone now at count over.items) earlier h m, tt)
may_miss_still miss differ now (Synced ∷ earlier) h m = absurd (false≢true (sym h))

-- what stood there may be there
pub birth_at_home : (place : Place) (f : FileData) (miss : Bool) → place ≡ Home f → (IsTrue miss → (is_synced (reverse f.calls.items) ≡ false) × IsTrue f.may_miss) → LeavesBirth miss true (PlaceLeaves (Some place))
birth_at_home place f miss is h = subst (λ (p : Place). LeavesBirth miss true (PlaceLeaves (Some p))) (sym is) (record {
  missing = λ m. may_miss_still f.may_miss f.may_differ f.bytes.items (reverse f.calls.items) (h m).0 (h m).1;
  differing = λ _. (f.bytes.items, file_stays f);
})

pub birth_at_gone : (place : Place) (f : FileData) → place ≡ Gone f → LeavesBirth true true (PlaceLeaves (Some place))
birth_at_gone place f is = subst (λ (p : Place). LeavesBirth true true (PlaceLeaves (Some p))) (sym is) (record {
  missing = λ _. inl refl;
  differing = λ _. (f.bytes.items, inr (file_stays f));
})

pub unsynced : (b : Bool) → not b ≡ true → b ≡ false
unsynced true h = absurd (false≢true h)
unsynced false h = refl
