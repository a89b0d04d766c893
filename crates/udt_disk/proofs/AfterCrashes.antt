-- What an outcome of a crash leaves is one of the images.
use Rattle.std.proofs.Common.{◌≡◌, inl, inr, ℕ, ◌≤◌, Bool, true, false, cond, List, [], ◌∷◌, ◌++◌, length, replicate, reverse, refl, sym, ◌∙◌, subst, arith, Option, Some, None, nat_le}
use Rattle.std.specs.Prelude.{IsTrue}
use Rattle.std.proofs.lemmas.Bool.{false≢true}
use Rattle.std.proofs.lemmas.Bool.Decides.{nat_tests}
use Rattle.std.proofs.lemmas.List.{length-replicate, append-nil}
use Rattle.udt_disk.specs.Bytes.{Torn}
use Rattle.udt_disk.specs.Crash.{Image}
use Rattle.udt_disk.specs.History.{undone, is_synced, First, CallsLeave}
use Rattle.udt_disk.specs.Outcomes.{synced_bytes, spoiled, spoiled_at}
use Rattle.udt_disk.specs.Tree.{entry_named, place_in_entry}
use Rattle.udt_disk.specs.Files.{FileLeaves, PlaceLeaves, file_stays}
use Rattle.udt_disk.specs.Crashed.{lost_birth, file_crash, place_crash, synced_before, entry_crash}
use Rattle.udt_disk.specs.Directory.{NameLeaves}
use Rattle.udt_disk.specs.AfterCrash.{crash_image}
use Rattle.udt_disk.specs.declared.name.FileName.{FileName}
use Rattle.udt_disk.specs.declared.history.FileCall.{FileCall}
use Rattle.udt_disk.specs.declared.history.FileCall.TheVariants.{Wrote, Synced}
use Rattle.udt_disk.specs.declared.mem_file.FileData.{FileData}
use Rattle.udt_disk.specs.declared.outcome.Outcome.{Outcome}
use Rattle.udt_disk.specs.declared.outcome.Outcome.TheVariants.{Lost, Kept, Hostile}
use Rattle.udt_disk.specs.declared.tree.Entry.{Entry}
use Rattle.udt_disk.specs.declared.tree.Place.{Place}
use Rattle.udt_disk.specs.declared.tree.Place.TheVariants.{Home, Out, Gone, Missing}
use Rattle.udt_disk.specs.declared.directory.Directory.{Directory}
use Rattle.udt_disk.proofs.Histories.{torn_whole}
use Rattle.udt_disk.proofs.Births.{may_miss_still}

-- a write that left nothing
torn_nothing : (at n : ℕ) (bytes : List ℕ) → Torn at n bytes bytes
torn_nothing at n bytes = record { before = refl; after = refl; no_shorter = omega arith; no_longer = omega arith }

synced_left : (miss differ : Bool) (now : List ℕ) (calls : List FileCall) → CallsLeave miss differ now calls (Some (synced_bytes now calls))
synced_left miss differ now [] = inl refl
synced_left miss differ now (Wrote at count over ∷ earlier) =
    let before = undone now at count over.items in
    inr (Some (synced_bytes before earlier), synced_left miss differ before earlier, torn_nothing at count (synced_bytes before earlier))
synced_left miss differ now (Synced ∷ earlier) = refl

differing_left : (miss differ : Bool) (now any : List ℕ) (calls : List FileCall) → is_synced calls ≡ false → IsTrue differ → CallsLeave miss differ now calls (Some any)
differing_left miss differ now any [] h d = inr d
differing_left miss differ now any (Wrote at count over ∷ earlier) h d =
    inr (Some any, differing_left miss differ (undone now at count over.items) any earlier h d, torn_nothing at count any)
differing_left miss differ now any (Synced ∷ earlier) h d = absurd (false≢true (sym h))

torn_filled : (at count : ℕ) (bytes : List ℕ) → at ≤ length bytes → Torn at count bytes (undone bytes at count (replicate count 165))
torn_filled at count bytes within =
    let long : length (replicate count 165) ≡ count = grind (arith, length-replicate) in
    subst (λ (n : ℕ). Torn at n bytes (undone bytes at n (replicate count 165))) long (torn_whole at bytes (replicate count 165) within)

torn_by : (at count : ℕ) (bytes : List ℕ) (b : Bool) → (b ≡ true → at ≤ length bytes) → Torn at count bytes (cond b (undone bytes at count (replicate count 165)) bytes)
torn_by at count bytes true h = torn_filled at count bytes (h refl)
torn_by at count bytes false h = torn_nothing at count bytes

within_from : (a b : ℕ) → nat_le a b ≡ true → a ≤ b
within_from a b h = grind (arith, nat_tests)

torn_spoiled : (at count : ℕ) (bytes : List ℕ) → Torn at count bytes (spoiled_at bytes at count)
torn_spoiled at count bytes = torn_by at count bytes (nat_le at (length bytes)) (within_from at (length bytes))

-- only a file that was emptied may differ
emptied_left : (miss differ : Bool) (emptied : ℕ) (now : List ℕ) → First miss differ now (Some (now ++ replicate (cond differ emptied 0) 165))
emptied_left miss true emptied now = inr refl
emptied_left miss false emptied now = inl (append-nil now)

spoiled_left : (miss differ : Bool) (emptied : ℕ) (now : List ℕ) (calls : List FileCall) → CallsLeave miss differ now calls (Some (spoiled (cond differ emptied 0) now calls))
spoiled_left miss differ emptied now [] = emptied_left miss differ emptied now
spoiled_left miss differ emptied now (Wrote at count over ∷ earlier) =
    let before = undone now at count over.items in
    let left = spoiled (cond differ emptied 0) before earlier in
    inr (Some left, spoiled_left miss differ emptied before earlier, torn_spoiled at count left)
spoiled_left miss differ emptied now (Synced ∷ earlier) = refl

module _ (f : FileData) where
  unsynced_left : (before : Image) → is_synced (reverse f.calls.items) ≡ false → (miss differ : Bool) → f.may_miss ≡ miss → f.may_differ ≡ differ → FileLeaves f (lost_birth miss differ before (synced_bytes f.bytes.items (reverse f.calls.items)))
  unsynced_left (Some bytes) h miss true m d = differing_left f.may_miss f.may_differ f.bytes.items bytes (reverse f.calls.items) h d
  unsynced_left (Some bytes) h true false m d = may_miss_still f.may_miss f.may_differ f.bytes.items (reverse f.calls.items) h m
  unsynced_left (Some bytes) h false false m d = synced_left f.may_miss f.may_differ f.bytes.items (reverse f.calls.items)
  unsynced_left None h true differ m d = may_miss_still f.may_miss f.may_differ f.bytes.items (reverse f.calls.items) h m
  unsynced_left None h false differ m d = synced_left f.may_miss f.may_differ f.bytes.items (reverse f.calls.items)

  lost_left : (before : Image) (synced_now : Bool) → f.was_synced ≡ synced_now → FileLeaves f (cond synced_now (Some (synced_bytes f.bytes.items (reverse f.calls.items))) (lost_birth f.may_miss f.may_differ before (synced_bytes f.bytes.items (reverse f.calls.items))))
  lost_left before true e = synced_left f.may_miss f.may_differ f.bytes.items (reverse f.calls.items)
  lost_left before false e = unsynced_left before (sym f.synced ∙ e) f.may_miss f.may_differ refl refl

  file_left : (outcome : Outcome) (before : Image) → FileLeaves f (file_crash outcome f before)
  file_left Kept before = file_stays f
  file_left Hostile before = spoiled_left f.may_miss f.may_differ f.emptied f.bytes.items (reverse f.calls.items)
  file_left Lost before = lost_left before f.was_synced refl

place_left : (outcome : Outcome) (place : Place) (before : Image) → PlaceLeaves (Some place) (place_crash outcome place before)
place_left outcome (Home f) before = file_left f outcome before
place_left Kept (Gone f) before = inl refl
place_left Lost (Gone f) before = inr (file_left f Lost before)
place_left Hostile (Gone f) before = inr (file_left f Hostile before)
place_left outcome Out before = tt
place_left outcome Missing before = refl

entry_left : (outcome : Outcome) (entry : Option Entry) → PlaceLeaves (place_in_entry entry) (entry_crash outcome entry)
entry_left outcome None = refl
entry_left outcome (Some e) = place_left outcome e.place (synced_before e.before)

-- each outcome is one of the images that a crash may leave
pub name_left : (outcome : Outcome) (dir : Directory) (n : FileName) → NameLeaves dir n (crash_image outcome dir n)
name_left outcome dir n = entry_left outcome (entry_named dir.tree n)
