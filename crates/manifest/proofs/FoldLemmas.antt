-- Which frame is the first outside the grammar.
use Rattle.std.proofs.Common.{◌≡◌, inl, inr, ℕ, List, [], ◌∷◌, ◌++◌, map, false, Option, Some, None, Ok, Err, Vec, Global, refl, sym, ap, ◌∙◌, subst}
use Rattle.gate_log.specs.Placed.{Placed}
use Rattle.gate_log.specs.Frames.{IsLog}
use Rattle.gate_log.specs.Reads.{body_of}
use Rattle.gate_log.specs.Outcomes.{IsReading, IsFramesFault}
use Rattle.gate_log.specs.declared.fault.FramesFault.{FramesFault}
use Rattle.gate_log.specs.declared.fault.FramesFault.TheVariants.{BadFrame}
use Rattle.udt_model.specs.declared.line.FamilyHead.{FamilyHead}
use Rattle.manifest.specs.Heads.{IsHead}
use Rattle.manifest_fold.specs.Bodies.{LeadsTo, LeadsNowhere, LeadAll}
use Rattle.manifest_fold.proofs.Prefixes.{front_leads, one_end}
use Rattle.edit_log.specs.Replays.{IsRefusedAt}
use Rattle.manifest.specs.Folds.{IsManifest, AreSoundFrames, IsOutside, fold_of}
use Rattle.manifest.proofs.Spellings.{head_once}
use Rattle.manifest.specs.Files.{IsBadManifestAt}
use Rattle.manifest.specs.Files.IsBadManifestAt.{in_log, before_torn, torn, no_frame}
use Rattle.manifest.specs.Answers.{Folds, IsRefusal, IsFoldFault, is_manifest_disk_fault}
use Rattle.manifest_fold.specs.declared.fold.Folded.{Folded}
use Rattle.manifest.specs.declared.fault.ManifestFault.{ManifestFault}
use Rattle.manifest.specs.declared.fault.ManifestFault.TheVariants as faults

pub bad_head : (frames : List Placed) (first : Placed) (later : List Placed) (body : List ℕ) → frames ≡ first ∷ later → body ≡ first.bytes → ((families : List FamilyHead) → IsHead body families → ⊥) → IsOutside frames first.at
bad_head frames first later body is same none =
    record { before = []; body = first.bytes; after = later; is = is; sound = inl refl; bad = λ fold means. none means.0 (rw same means.1) }

-- no fold is meant by a head and edits of which the last is refused
still_refused : (first : List ℕ) (families : List FamilyHead) (bodies : List (List ℕ)) (body : List ℕ) (end : Folded) → IsHead first families → LeadAll (fold_of families) bodies end → LeadsNowhere end body
    → (fold : Folded) → IsManifest (first ∷ (bodies ++ body ∷ [])) fold → ⊥
still_refused first families bodies body end head leads nowhere fold means =
    let start = fold_of families in
    let one = head_once first means.0 families means.1 head in
    let all = subst (λ (fs : List FamilyHead). LeadAll (fold_of fs) (bodies ++ body ∷ []) fold) one means.2 in
    let front = front_leads bodies (body ∷ []) start fold all in
    let mid = one_end bodies start front.0 end front.1 leads in
    nowhere front.2.0 (subst (λ (m : Folded). LeadsTo m body front.2.0) mid front.2.1)

-- behind a head the first edit that is refused is the first frame outside the grammar
pub edits_outside : (frames : List Placed) (first : Placed) (later : List Placed) (body : List ℕ) (families : List FamilyHead) (at : ℕ) → frames ≡ first ∷ later → body ≡ first.bytes → IsHead body families → IsRefusedAt (fold_of families) later at → IsOutside frames at
edits_outside frames first later body families at is same head refused =
    let here : IsHead first.bytes families = subst (λ (b : List ℕ). IsHead b families) same head in
    record {
      before = first ∷ refused.before;
      body = refused.body;
      after = refused.after;
      is = is ∙ ap (λ (l : List Placed). first ∷ l) refused.is;
      sound = inr (refused.fold, (families, here, refused.sound));
      bad = still_refused first.bytes families (map body_of refused.before) refused.body refused.fold here refused.sound refused.bad;
    }

-- a head and edits that lead on mean the fold to which they lead
pub edits_mean : (frames : List Placed) (first : Placed) (later : List Placed) (body : List ℕ) (families : List FamilyHead) (fold : Folded) → frames ≡ first ∷ later → body ≡ first.bytes → IsHead body families → LeadAll (fold_of families) (map body_of later) fold → IsManifest (map body_of frames) fold
edits_mean frames first later body families fold is same head leads =
    subst (λ (l : List Placed). IsManifest (map body_of l) fold) (sym is) (families, subst (λ (b : List ℕ). IsHead b families) same head, leads)

-- frames that have a fold, or none, are sound
pub sound_frames : (frames : List Placed) (found : Option Folded) → Folds frames (Ok found) → AreSoundFrames (map body_of frames)
sound_frames frames None none = inl (ap (map body_of) none)
sound_frames frames (Some fold) means = inr (fold, means)

-- where the frames are sound up to the place where the bytes are no log, that place is bad
pub torn_there : (fault : FramesFault) (at : ℕ) (before : Vec Placed Global) (found : Option Folded) (bytes : List ℕ) → fault ≡ BadFrame at before → Folds before.items (Ok found) → IsFramesFault fault bytes → IsBadManifestAt bytes at
torn_there fault at before found bytes is folds bad = let here = rw is at bad in torn before.items here.0 (sound_frames before.items found folds)

-- where they aren't, the first that is outside the grammar is
pub outside_before : (fault : FramesFault) (at : ℕ) (before : Vec Placed Global) (refused : ManifestFault) (bytes : List ℕ) → fault ≡ BadFrame at before → Folds before.items (Err refused) → IsFramesFault fault bytes → IsRefusal (Some bytes) refused
outside_before fault at before (faults.BadManifest place) bytes is folds bad = let here = rw is at bad in before_torn before.items at here.0 folds
outside_before fault at before faults.DiskFault bytes is folds bad = tt
outside_before fault at before faults.NoMemory bytes is folds bad = tt

-- what is wrong with the frames of a log
pub bad_in_log : (frames : List Placed) (refused : ManifestFault) (bytes : List ℕ) → IsReading frames bytes → IsFoldFault frames refused → IsRefusal (Some bytes) refused
bad_in_log frames (faults.BadManifest at) bytes reading (inl outside) = in_log frames (record { log = reading.log; places = reading.places }) outside
bad_in_log frames (faults.BadManifest at) bytes reading (inr none) =
    let log : IsLog [] bytes = subst (λ (l : List Placed). IsLog (map body_of l) bytes) none.0 reading.log in
    no_frame log none.1
bad_in_log frames faults.DiskFault bytes reading bad = tt
bad_in_log frames faults.NoMemory bytes reading bad = tt

-- frames that were read, and where they are refused the disk isn't to blame
pub not_by_disk : (frames : List Placed) (fault : ManifestFault) → Folds frames (Err fault) → is_manifest_disk_fault fault ≡ false
not_by_disk frames (faults.BadManifest at) refused = refl
not_by_disk frames faults.DiskFault refused = absurd refused
not_by_disk frames faults.NoMemory refused = refl

pub not_by_disk_too : (frames : List Placed) (fault : ManifestFault) → IsFoldFault frames fault → is_manifest_disk_fault fault ≡ false
not_by_disk_too frames (faults.BadManifest at) refused = refl
not_by_disk_too frames faults.DiskFault refused = absurd refused
not_by_disk_too frames faults.NoMemory refused = refl
