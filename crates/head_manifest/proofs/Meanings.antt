-- A folder means one thing at most.
use Rattle.std.proofs.Common.{◌≡◌, ◌≢◌, ◌⊎◌, inl, inr, ℕ, Bool, true, List, [], ◌∷◌, ◌++◌, map, Some, None, refl, sym, ap, ◌∙◌, subst}
use Rattle.std.specs.Prelude.{IfSome, is_some}
use Rattle.std.proofs.lemmas.List.{map-append}
use Rattle.udt_disk.specs.Crash.{Image}
use Rattle.udt_disk.specs.Joint.{Folder}
use Rattle.udt_disk.specs.declared.name.FileName.TheVariants.{Made}
use Rattle.gate_log.specs.Placed.{Placed}
use Rattle.gate_log.specs.Frames.{IsLog}
use Rattle.gate_log.specs.Reads.{IsBad, placed, body_of}
use Rattle.gate_log.proofs.Reading.{only_log, only_bad, bad_is_none}
use Rattle.head_manifest.specs.Folds.{IsManifest, AreSoundFrames, IsOutside, fold_of}
use Rattle.head_manifest.specs.Files.{AreFrames, IsBadManifestAt, HasFold, IsBadFile}
use Rattle.head_manifest.specs.Files.IsBadManifestAt.{in_log, before_torn, torn, no_frame}
use Rattle.head_manifest.specs.Folders.{Meaning, Means, chosen, told_by_fault}
use Rattle.head_manifest.specs.Folders.Meaning.{no_store, store, bad_at}
use Rattle.head_manifest.specs.Answers.{IsRefusal}
use Rattle.head_manifest.specs.declared.fold.Folded.{Folded}
use Rattle.head_manifest.specs.declared.fault.ManifestFault.{ManifestFault}
use Rattle.head_manifest.specs.declared.fault.ManifestFault.TheVariants as faults
use Rattle.head_manifest.proofs.Spellings.{head_once}

-- ---- folds

manifest_once : (bodies : List (List ℕ)) (a b : Folded) → IsManifest bodies a → IsManifest bodies b → a ≡ b
manifest_once [] a b p q = absurd p
manifest_once (body ∷ []) a b p q = p.2 ∙ ap fold_of (head_once body p.0 q.0 p.1 q.1) ∙ sym q.2
manifest_once (body ∷ next ∷ bodies) a b p q = absurd p

-- frames that are sound are so as far as each of them
sound_front : (before : List (List ℕ)) (body : List ℕ) (after : List (List ℕ)) → AreSoundFrames (before ++ body ∷ after) → (fold : Folded) × IsManifest (before ++ body ∷ []) fold
sound_front [] body [] (inl none) = cc
sound_front [] body [] (inr means) = means
sound_front [] body (next ∷ after) (inl none) = cc
sound_front [] body (next ∷ after) (inr means) = absurd means.1
sound_front (first ∷ []) body after (inl none) = cc
sound_front (first ∷ []) body after (inr means) = absurd means.1
sound_front (first ∷ second ∷ before) body after (inl none) = cc
sound_front (first ∷ second ∷ before) body after (inr means) = absurd means.1

-- ---- the first frame outside the grammar

no_sound : (before : List Placed) (x : Placed) (after : List Placed) (frames : List Placed) → frames ≡ before ++ x ∷ after → ((fold : Folded) → IsManifest (map body_of before ++ x.bytes ∷ []) fold → ⊥) → AreSoundFrames (map body_of frames) → ⊥
no_sound before x after frames is bad sound =
    let split : map body_of frames ≡ map body_of before ++ x.bytes ∷ map body_of after = ap (map body_of) is ∙ map-append body_of before (x ∷ after) in
    let front = sound_front (map body_of before) x.bytes (map body_of after) (subst AreSoundFrames split sound) in
    bad front.0 front.1

pub outside_isn't_sound : (frames : List Placed) (at : ℕ) → IsOutside frames at → AreSoundFrames (map body_of frames) → ⊥
outside_isn't_sound frames at out sound = no_sound out.before (record { at = at; bytes = out.body }) out.after frames out.is out.bad sound

-- of two places in one list one stands before the other, or they are one
data Order (a b : List Placed) (x y : Placed) : Type 0 where
  same : x ≡ y → Order a b x y
  sooner : (r : List Placed) → b ≡ a ++ x ∷ r → Order a b x y
  later : (r : List Placed) → a ≡ b ++ y ∷ r → Order a b x y

order_more : (z w : Placed) (a b : List Placed) (x y : Placed) → z ≡ w → Order a b x y → Order (z ∷ a) (w ∷ b) x y
order_more z w a b x y is (same e) = same e
order_more z w a b x y is (sooner r e) = sooner r (ap (λ (l : List Placed). w ∷ l) e ∙ ap (λ (p : Placed). p ∷ (a ++ x ∷ r)) (sym is))
order_more z w a b x y is (later r e) = later r (ap (λ (l : List Placed). z ∷ l) e ∙ ap (λ (p : Placed). p ∷ (b ++ y ∷ r)) is)

order_of : (a b : List Placed) (x y : Placed) (s t : List Placed) → a ++ x ∷ s ≡ b ++ y ∷ t → Order a b x y
order_of [] [] x y s t e = let one : x ≡ y = cc in same one
order_of [] (w ∷ b) x y s t e = let one : w ≡ x = cc in sooner b (ap (λ (p : Placed). p ∷ b) one)
order_of (z ∷ a) [] x y s t e = let one : z ≡ y = cc in later a (ap (λ (p : Placed). p ∷ a) one)
order_of (z ∷ a) (w ∷ b) x y s t e =
    let one : z ≡ w = cc in
    let rest : a ++ x ∷ s ≡ b ++ y ∷ t = cc in
    order_more z w a b x y one (order_of a b x y s t rest)

outside_by : (frames : List Placed) (i j : ℕ) (p : IsOutside frames i) (q : IsOutside frames j) → Order p.before q.before (record { at = i; bytes = p.body }) (record { at = j; bytes = q.body }) → i ≡ j
outside_by frames i j p q (same e) = ap (λ (x : Placed). x.at) e
outside_by frames i j p q (sooner r e) = absurd (no_sound p.before (record { at = i; bytes = p.body }) r q.before e p.bad q.sound)
outside_by frames i j p q (later r e) = absurd (no_sound q.before (record { at = j; bytes = q.body }) r p.before e q.bad p.sound)

outside_once : (frames : List Placed) (i j : ℕ) → IsOutside frames i → IsOutside frames j → i ≡ j
outside_once frames i j p q =
    outside_by frames i j p q (order_of p.before q.before (record { at = i; bytes = p.body }) (record { at = j; bytes = q.body }) p.after q.after (sym p.is ∙ q.is))

-- ---- bytes

log_once : (a b : List Placed) (bytes : List ℕ) → AreFrames a bytes → AreFrames b bytes → a ≡ b
log_once a b bytes p q = p.places ∙ ap (placed 0) (only_log (map body_of a) (map body_of b) bytes p.log q.log) ∙ sym q.places

-- what is wrong, by the frames of a log or of a torn one
abbrev InLog : List Placed → ℕ → Type 0
InLog frames at = IsOutside frames at ⊎ ((frames ≡ []) × (at ≡ 0))

abbrev InTorn : List Placed → ℕ → ℕ → Type 0
InTorn frames place at = IsOutside frames at ⊎ (AreSoundFrames (map body_of frames) × (at ≡ place))

abbrev Wrong : List ℕ → ℕ → Type 0
Wrong bytes at = ((frames : List Placed) × AreFrames frames bytes × InLog frames at) ⊎ ((frames : List Placed) × (place : ℕ) × IsBad frames place bytes × InTorn frames place at)

wrong : (bytes : List ℕ) (at : ℕ) → IsBadManifestAt bytes at → Wrong bytes at
wrong bytes at (in_log frames is out) = inl (frames, is, inl out)
wrong bytes at (before_torn frames place bad out) = inr (frames, place, bad, inl out)
wrong bytes at (torn frames bad sound) = inr (frames, at, bad, inr (sound, refl))
wrong bytes at (no_frame log zero) = inl ([], record { log = log; places = refl }, inr (refl, zero))

no_outside : (at : ℕ) (frames : List Placed) → frames ≡ [] → IsOutside frames at → ⊥
no_outside at frames none out = outside_isn't_sound frames at out (inl (ap (map body_of) none))

in_log_once : (frames : List Placed) (i j : ℕ) → InLog frames i → InLog frames j → i ≡ j
in_log_once frames i j (inl p) (inl q) = outside_once frames i j p q
in_log_once frames i j (inl p) (inr q) = absurd (no_outside i frames q.0 p)
in_log_once frames i j (inr p) (inl q) = absurd (no_outside j frames p.0 q)
in_log_once frames i j (inr p) (inr q) = p.1 ∙ sym q.1

in_torn_once : (frames : List Placed) (place i j : ℕ) → InTorn frames place i → InTorn frames place j → i ≡ j
in_torn_once frames place i j (inl p) (inl q) = outside_once frames i j p q
in_torn_once frames place i j (inl p) (inr q) = absurd (outside_isn't_sound frames i p q.0)
in_torn_once frames place i j (inr p) (inl q) = absurd (outside_isn't_sound frames j q p.0)
in_torn_once frames place i j (inr p) (inr q) = p.1 ∙ sym q.1

wrong_once : (bytes : List ℕ) (i j : ℕ) → Wrong bytes i → Wrong bytes j → i ≡ j
wrong_once bytes i j (inl p) (inl q) = in_log_once q.0 i j (subst (λ (l : List Placed). InLog l i) (log_once p.0 q.0 bytes p.1 q.1) p.2) q.2
wrong_once bytes i j (inl p) (inr q) = absurd (bad_is_none q.0 q.1 bytes q.2 (map body_of p.0) p.1.log)
wrong_once bytes i j (inr p) (inl q) = absurd (bad_is_none p.0 p.1 bytes p.2 (map body_of q.0) q.1.log)
wrong_once bytes i j (inr p) (inr q) =
    let one = only_bad p.0 q.0 p.1 q.1 bytes p.2 q.2 in
    in_torn_once q.0 q.1 i j (subst (λ (k : ℕ). InTorn q.0 k i) one.1 (subst (λ (l : List Placed). InTorn l p.1 i) one.0 p.3)) q.3

-- bytes with a fold are nowhere bad
log_isn't_wrong : (bytes : List ℕ) (bodies : List (List ℕ)) (fold : Folded) (frames : List Placed) (at : ℕ) → IsLog bodies bytes → IsManifest bodies fold → AreFrames frames bytes → InLog frames at → ⊥
log_isn't_wrong bytes bodies fold frames at log means is (inl out) =
    outside_isn't_sound frames at out (inr (fold, subst (λ (l : List (List ℕ)). IsManifest l fold) (only_log bodies (map body_of frames) bytes log is.log) means))
log_isn't_wrong bytes bodies fold frames at log means is (inr none) =
    subst (λ (l : List (List ℕ)). IsManifest l fold) (only_log bodies (map body_of frames) bytes log is.log ∙ ap (map body_of) none.0) means

fold_isn't_wrong : (bytes : List ℕ) (fold : Folded) (at : ℕ) → HasFold (Some bytes) fold → Wrong bytes at → ⊥
fold_isn't_wrong bytes fold at has (inl p) = log_isn't_wrong bytes has.0 fold p.0 at has.1 has.2 p.1 p.2
fold_isn't_wrong bytes fold at has (inr p) = bad_is_none p.0 p.1 bytes p.2 has.0 has.1

-- ---- files

fold_once : (image : Image) (a b : Folded) → HasFold image a → HasFold image b → a ≡ b
fold_once None a b p q = absurd p
fold_once (Some bytes) a b p q = manifest_once q.0 a b (subst (λ (l : List (List ℕ)). IsManifest l a) (only_log p.0 q.0 bytes p.1 q.1) p.2) q.2

bad_once : (image : Image) (i j : ℕ) → IsBadFile image i → IsBadFile image j → i ≡ j
bad_once None i j p q = p ∙ sym q
bad_once (Some bytes) i j p q = wrong_once bytes i j (wrong bytes i p) (wrong bytes j q)

fold_isn't_bad : (image : Image) (fold : Folded) (at : ℕ) → HasFold image fold → IsBadFile image at → ⊥
fold_isn't_bad None fold at p q = p
fold_isn't_bad (Some bytes) fold at p q = fold_isn't_wrong bytes fold at p (wrong bytes at q)

-- ---- folders

pub means_once : (folder : Folder) (a b : Meaning) → Means folder a → Means folder b → a ≡ b
means_once folder no_store no_store p q = refl
means_once folder no_store (store fold) p q = absurd (q.0 p)
means_once folder no_store (bad_at at) p q = absurd (q.0 p)
means_once folder (store fold) no_store p q = absurd (p.0 q)
means_once folder (store a) (store b) p q = ap store (fold_once (folder (chosen folder)) a b p.1 q.1)
means_once folder (store fold) (bad_at at) p q = absurd (fold_isn't_bad (folder (chosen folder)) fold at p.1 q.1)
means_once folder (bad_at at) no_store p q = absurd (p.0 q)
means_once folder (bad_at at) (store fold) p q = absurd (fold_isn't_bad (folder (chosen folder)) fold at q.1 p.1)
means_once folder (bad_at i) (bad_at j) p q = ap bad_at (bad_once (folder (chosen folder)) i j p.1 q.1)

-- `MADE` is there
pub made_there : (b : Bool) (image : Image) → b ≡ true → b ≡ is_some image → image ≢ None
made_there b None p q = λ none. cc
made_there b (Some bytes) p q = λ none. cc

-- what a reader that found the chosen manifest refuses
pub refused_once : (folder : Folder) (bytes : List ℕ) (fault : ManifestFault) → folder Made ≢ None → folder (chosen folder) ≡ Some bytes → IsRefusal (Some bytes) fault → (m : Meaning) → Means folder m → IfSome (told_by_fault fault) (λ told. told ≡ m)
refused_once folder bytes (faults.BadManifest at) made is bad m means = means_once folder (bad_at at) m (made, subst (λ (image : Image). IsBadFile image at) (sym is) bad) means
refused_once folder bytes faults.DiskFault made is bad m means = tt
refused_once folder bytes faults.NoMemory made is bad m means = tt

-- what it reads
pub found_once : (folder : Folder) (bytes : List ℕ) (fold : Folded) → folder Made ≢ None → folder (chosen folder) ≡ Some bytes → HasFold (Some bytes) fold → (m : Meaning) → Means folder m → store fold ≡ m
found_once folder bytes fold made is has m means = means_once folder (store fold) m (made, subst (λ (image : Image). HasFold image fold) (sym is) has) means
