-- Which frame is the first outside the grammar.
use Rattle.std.proofs.Common.{◌≡◌, inl, inr, ℕ, List, [], ◌∷◌, map, length, false, Option, Some, None, Ok, Err, Vec, Global, refl, sym, ap, ◌∙◌, arith, subst}
use Rattle.std.proofs.lemmas.List.{length-map}
use Rattle.std.specs.List.{slice_get}
use Rattle.gate_log.specs.Placed.{Placed}
use Rattle.gate_log.specs.Frames.{IsLog}
use Rattle.gate_log.specs.Reads.{body_of}
use Rattle.gate_log.specs.Outcomes.{IsReading, IsFramesFault}
use Rattle.gate_log.specs.declared.fault.FramesFault.{FramesFault}
use Rattle.gate_log.specs.declared.fault.FramesFault.TheVariants.{BadFrame}
use Rattle.udt_model.specs.declared.line.FamilyHead.{FamilyHead}
use Rattle.head_manifest.specs.Heads.{IsHead}
use Rattle.head_manifest.specs.Folds.{IsManifest, AreSoundFrames, IsOutside, IsUsable, family_fold, fold_of}
use Rattle.head_manifest.specs.Files.{IsBadManifestAt}
use Rattle.head_manifest.specs.Files.IsBadManifestAt.{in_log, before_torn, torn, no_frame}
use Rattle.head_manifest.specs.Answers.{Folds, IsRefusal, IsFoldFault, is_manifest_disk_fault}
use Rattle.head_manifest.specs.declared.fold.Folded.{Folded}
use Rattle.head_manifest.specs.declared.fault.ManifestFault.{ManifestFault}
use Rattle.head_manifest.specs.declared.fault.ManifestFault.TheVariants as faults

pub bad_head : (frames : List Placed) (first : Placed) (later : List Placed) (body : List ℕ) → frames ≡ first ∷ later → body ≡ first.bytes → ((families : List FamilyHead) → IsHead body families → ⊥) → IsOutside frames first.at
bad_head frames first later body is same none =
    record { before = []; body = first.bytes; after = later; is = is; sound = inl refl; bad = λ fold means. none means.0 (rw same means.1) }

pub behind_head : (frames : List Placed) (first : Placed) (later : List Placed) (body : List ℕ) (families : List FamilyHead) (next : Placed) → frames ≡ first ∷ later → body ≡ first.bytes → IsHead body families → slice_get later 0 ≡ Some next → IsOutside frames next.at
behind_head frames first [] body families next is same head found = cc
behind_head frames first (other ∷ rest) body families next is same head found =
    let this : other ≡ next = cc in
    record {
      before = first ∷ [];
      body = next.bytes;
      after = rest;
      is = is ∙ ap (λ (p : Placed). first ∷ p ∷ rest) this;
      sound = inr (fold_of families, (families, rw (← same) head, refl));
      bad = λ fold means. means;
    }

-- frames that have a fold, or none, are sound
pub sound_frames : (frames : List Placed) (found : Option Folded) → Folds frames (Ok found) → AreSoundFrames (map body_of frames)
sound_frames frames None none = inl (ap (map body_of) none)
sound_frames frames (Some fold) means = inr (fold, means)

-- where the frames are sound up to the place where the bytes are no log, that place is bad
pub torn_there : (fault : FramesFault) (at : ℕ) (before : Vec Placed Global) (found : Option Folded) (bytes : List ℕ) → fault ≡ BadFrame at before → Folds before.items (Ok found) → IsFramesFault fault bytes → IsBadManifestAt bytes at
torn_there fault at before found bytes is folds bad = let here = rw is at bad in torn before.items here.0 (sound_frames before.items found folds)

-- where they aren't, the first that is outside the grammar is
pub outside_before : (fault : FramesFault) (at : ℕ) (before : Vec Placed Global) (refused : ManifestFault) (bytes : List ℕ) → fault ≡ BadFrame at before → Folds before.items (Err refused) → IsFramesFault fault bytes → IsRefusal (Some bytes) refused
outside_before fault at before (faults.BadManifest place) bytes is folds bad = let here = rw is at bad in before_torn before.items at here.0 folds
outside_before fault at before faults.DiskFault bytes is folds bad = tt
outside_before fault at before faults.NoMemory bytes is folds bad = tt

-- what is wrong with the frames of a log
pub bad_in_log : (frames : List Placed) (refused : ManifestFault) (bytes : List ℕ) → IsReading frames bytes → IsFoldFault frames refused → IsRefusal (Some bytes) refused
bad_in_log frames (faults.BadManifest at) bytes reading (inl outside) = in_log frames (record { log = reading.log; places = reading.places }) outside
bad_in_log frames (faults.BadManifest at) bytes reading (inr none) =
    let log : IsLog [] bytes = subst (λ (l : List Placed). IsLog (map body_of l) bytes) none.0 reading.log in
    no_frame log none.1
bad_in_log frames faults.DiskFault bytes reading bad = tt
bad_in_log frames faults.NoMemory bytes reading bad = tt

-- frames that were read, and where they are refused the disk isn't to blame
pub not_by_disk : (frames : List Placed) (fault : ManifestFault) → Folds frames (Err fault) → is_manifest_disk_fault fault ≡ false
not_by_disk frames (faults.BadManifest at) refused = refl
not_by_disk frames faults.DiskFault refused = absurd refused
not_by_disk frames faults.NoMemory refused = refl

pub not_by_disk_too : (frames : List Placed) (fault : ManifestFault) → IsFoldFault frames fault → is_manifest_disk_fault fault ≡ false
not_by_disk_too frames (faults.BadManifest at) refused = refl
not_by_disk_too frames faults.DiskFault refused = absurd refused
not_by_disk_too frames faults.NoMemory refused = refl

-- each fold of a manifest is usable
pub manifest_usable : (bodies : List (List ℕ)) (fold : Folded) → IsManifest bodies fold → (number : ℕ) × IsUsable fold number
manifest_usable [] fold means = absurd means
manifest_usable (body ∷ []) fold means =
    let families = means.0 in
    let new = means.1.new in
    let long : length (fold_of families).families ≡ length families = simp length-map in
    subst (λ (f : Folded). (number : ℕ) × IsUsable f number) (sym means.2) (1, record { live = refl; some = omega (arith, long, new.some); few = omega (arith, long, new.few); last = omega arith })
manifest_usable (body ∷ next ∷ bodies) fold means = absurd means
