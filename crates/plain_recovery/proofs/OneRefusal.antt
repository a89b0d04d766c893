-- A folder is refused in one way at most, and one that is refused stands for no state.
use Rattle.std.proofs.Common.{◌≡◌, ◌⊎◌, inl, inr, ℕ, ◌<◌, ◌^◌, List, [], ◌∷◌, ◌++◌, length, drop, Some, None, refl, sym, ◌∙◌, ap, subst, arith}
use Rattle.std.specs.Prelude.{⊤, map}
use Rattle.std.specs.Int.{w32, to_le_bytes, from_le_bytes}
use Rattle.std.proofs.lemmas.List.{length-append, append_assoc, length-map, drop_at}
use Rattle.std.proofs.lemmas.Nat.{from_le_bytes-to_le_bytes_4}
use Rattle.udt_disk.specs.Crash.{Image}
use Rattle.udt_disk.specs.Joint.{Folder}
use Rattle.udt_disk.specs.declared.name.FileName.TheVariants.{Log}
use Rattle.udt_model.specs.State.{State}
use Rattle.gate_log.specs.Placed.{Placed}
use Rattle.gate_log.specs.Frames.{frame, framed, IsBody, AreBodies}
use Rattle.gate_log.specs.Reads.{body_of, IsWhole, IsTorn}
use Rattle.wal.specs.Bodies.{HoldsBatches}
use Rattle.wal.specs.Replays.{IsStrangeFrame, IsBadLogAt, ReadsAs}
use Rattle.wal.specs.declared.numbered.Numbered.{Numbered}
use Rattle.wal.proofs.Bodies.{holds_front}
use Rattle.wal.proofs.Fronts.{fronts_same}
use Rattle.head_manifest.specs.declared.fold.Folded.{Folded}
use Rattle.head_manifest.specs.Folders.{Means}
use Rattle.head_manifest.specs.Folders.Meaning.{no_store, bad_at, store}
use Rattle.head_manifest.proofs.Meanings.{means_once}
use Rattle.plain_recovery.specs.Stores.{sizes_of, FolderStands}
use Rattle.plain_recovery.specs.Fault.{IsBadLogFile, IsBadLog, RefusesOpening}
use Rattle.plain_recovery.specs.declared.fault.OpenFault.{OpenFault}
use Rattle.plain_recovery.specs.declared.fault.OpenFault.TheVariants.{NoStore, BadManifest, BadLog, DiskFault, NoMemory}

-- ---- frames at the front of the same bytes

-- two frames at the front of the same bytes are one
same_frame : (a b s t : List ℕ) → IsBody a → IsBody b → frame a ++ s ≡ frame b ++ t → (a ≡ b) × (s ≡ t)
same_frame a b s t is_a is_b e =
    let la = to_le_bytes w32 (length a) in
    let lb = to_le_bytes w32 (length b) in
    let size_a : length a < 2 ^ 32 = omega (arith, is_a.short) in
    let size_b : length b < 2 ^ 32 = omega (arith, is_b.short) in
    let rest : la ++ (a ++ s) ≡ lb ++ (b ++ t) = sym (append_assoc la a s) ∙ ap (drop 1) e ∙ append_assoc lb b t in
    let heads = fronts_same la lb (a ++ s) (b ++ t) refl rest in
    let long : length a ≡ length b = sym (from_le_bytes-to_le_bytes_4 (length a) size_a) ∙ ap (from_le_bytes w32) heads.0 ∙ from_le_bytes-to_le_bytes_4 (length b) size_b in
    fronts_same a b s t long heads.1

-- of two fronts of whole frames one goes on where the other ends, or they are one
data Fronts (a b : List (List ℕ)) (s t : List ℕ) : Type 0 where
  same : a ≡ b → Fronts a b s t
  sooner : (c : List ℕ) (r : List (List ℕ)) → b ≡ a ++ c ∷ r → IsBody c → s ≡ frame c ++ (framed r ++ t) → Fronts a b s t
  later : (c : List ℕ) (r : List (List ℕ)) → a ≡ b ++ c ∷ r → IsBody c → t ≡ frame c ++ (framed r ++ s) → Fronts a b s t

fronts_more : (x y : List ℕ) (a b : List (List ℕ)) (s t : List ℕ) → x ≡ y → Fronts a b s t → Fronts (x ∷ a) (y ∷ b) s t
fronts_more x y a b s t is (same e) = same (ap (λ (z : List ℕ). z ∷ a) is ∙ ap (λ (l : List (List ℕ)). y ∷ l) e)
fronts_more x y a b s t is (sooner c r e fits there) = sooner c r (ap (λ (l : List (List ℕ)). y ∷ l) e ∙ ap (λ (z : List ℕ). z ∷ (a ++ c ∷ r)) (sym is)) fits there
fronts_more x y a b s t is (later c r e fits there) = later c r (ap (λ (l : List (List ℕ)). x ∷ l) e ∙ ap (λ (z : List ℕ). z ∷ (b ++ c ∷ r)) is) fits there

fronts_of : (a b : List (List ℕ)) (s t : List ℕ) → AreBodies a → AreBodies b → framed a ++ s ≡ framed b ++ t → Fronts a b s t
fronts_of [] [] s t fit_a fit_b e = same refl
fronts_of [] (c ∷ r) s t fit_a fit_b e = sooner c r refl fit_b.0 (e ∙ append_assoc (frame c) (framed r) t)
fronts_of (c ∷ r) [] s t fit_a fit_b e = later c r refl fit_a.0 (sym e ∙ append_assoc (frame c) (framed r) s)
fronts_of (x ∷ a) (y ∷ b) s t fit_a fit_b e =
    let one = same_frame x y (framed a ++ s) (framed b ++ t) fit_a.0 fit_b.0 (sym (append_assoc (frame x) (framed a) s) ∙ e ∙ append_assoc (frame y) (framed b) t) in
    fronts_more x y a b s t one.0 (fronts_of a b s t fit_a.1 fit_b.1 one.1)

-- ---- the first bad place of a log

-- a frame with a byte behind it is whole
whole_frame : (c rest t : List ℕ) → IsBody c → 0 < length t → rest ≡ to_le_bytes w32 (length c) ++ (c ++ t) → IsWhole (length c) rest
whole_frame c rest t fits some is =
    let size = to_le_bytes w32 (length c) in
    let behind : drop 4 rest ≡ c ++ t = ap (drop 4) is ∙ drop_at size (c ++ t) 4 refl in
    let four : length size ≡ 4 = refl in
    record {
      some = fits.some;
      short = fits.short;
      size = is ∙ ap (λ (l : List ℕ). size ++ l) (sym behind);
      there = omega (arith, ap length is, length-append size (c ++ t), length-append c t, four, some);
    }

torn_has_no_frame : (frames : List Placed) (c s t : List ℕ) → IsBody c → 0 < length t → IsTorn frames s → s ≡ frame c ++ t → ⊥
torn_has_no_frame frames c [] t fits some torn is = cc
torn_has_no_frame frames c (gate ∷ rest) t fits some torn is =
    torn.1 (length c) (whole_frame c rest t fits some (ap (drop 1) is ∙ append_assoc (to_le_bytes w32 (length c)) c t))

-- what is wrong with what stands behind these frames
abbrev IsWrong : List ℕ → List Placed → List ℕ → Type 0
IsWrong sizes before tail = IsTorn before tail ⊎ IsStrangeFrame sizes (map body_of before) tail

-- behind a frame something stands, if it is wrong
some_behind : (sizes : List ℕ) (before : List Placed) (tail : List ℕ) → 0 < length before → IsWrong sizes before tail → 0 < length tail
some_behind sizes before [] some (inl torn) = absurd (omega (arith, some, ap length torn))
some_behind sizes before (gate ∷ rest) some (inl torn) = omega arith
some_behind sizes before tail some (inr strange) = omega (arith, ap length strange.is, length-append (frame strange.body) strange.rest, strange.gate)

-- no log goes on with a frame where it is wrong
goes_on_nowhere : (sizes : List ℕ) (before : List Placed) (c : List ℕ) (r : List (List ℕ)) (batches : List Numbered) (s t : List ℕ) → HoldsBatches sizes (map body_of before ++ c ∷ r) batches → IsBody c → 0 < length t → s ≡ frame c ++ t → IsWrong sizes before s → ⊥
goes_on_nowhere sizes before c r batches s t held fits some is (inl torn) = torn_has_no_frame before c s t fits some torn is
goes_on_nowhere sizes before c r batches s t held fits some is (inr strange) =
    let bodies = map body_of before in
    let body : c ≡ strange.body = sym (same_frame strange.body c strange.rest t strange.fits fits (sym strange.is ∙ is)).0 in
    let front = holds_front sizes (bodies ++ c ∷ []) r batches (subst (λ (l : List (List ℕ)). HoldsBatches sizes l batches) (sym (append_assoc bodies (c ∷ []) r)) held) in
    strange.strange front.0 (subst (λ (x : List ℕ). HoldsBatches sizes (bodies ++ x ∷ []) front.0) body front.1)

-- a bad place has no frame of a longer front
bad_ends : (sizes : List ℕ) (bytes : List ℕ) (a b : ℕ) (p : IsBadLogAt sizes bytes a) (q : IsBadLogAt sizes bytes b) (c : List ℕ) (r : List (List ℕ)) → map body_of q.before ≡ map body_of p.before ++ c ∷ r → IsBody c → drop a bytes ≡ frame c ++ (framed r ++ drop b bytes) → ⊥
bad_ends sizes bytes a b p q c r longer fits there =
    let frames : 0 < length q.before = omega (arith, length-map q.before body_of, ap length longer, length-append (map body_of p.before) (c ∷ r)) in
    let tail : 0 < length (drop b bytes) = some_behind sizes q.before (drop b bytes) frames q.bad in
    let some : 0 < length (framed r ++ drop b bytes) = omega (arith, tail, length-append (framed r) (drop b bytes)) in
    goes_on_nowhere sizes p.before c r q.batches (drop a bytes) (framed r ++ drop b bytes) (subst (λ (l : List (List ℕ)). HoldsBatches sizes l q.batches) longer q.held) fits some there p.bad

bad_place_by : (sizes : List ℕ) (bytes : List ℕ) (a b : ℕ) (p : IsBadLogAt sizes bytes a) (q : IsBadLogAt sizes bytes b) → Fronts (map body_of p.before) (map body_of q.before) (drop a bytes) (drop b bytes) → a ≡ b
bad_place_by sizes bytes a b p q (same e) = p.front.end ∙ ap (λ (l : List (List ℕ)). length (framed l)) e ∙ sym q.front.end
bad_place_by sizes bytes a b p q (sooner c r longer fits there) = absurd (bad_ends sizes bytes a b p q c r longer fits there)
bad_place_by sizes bytes a b p q (later c r longer fits there) = absurd (bad_ends sizes bytes b a q p c r longer fits there)

-- given bytes are bad at one place at most
pub one_bad_place : (sizes : List ℕ) (bytes : List ℕ) (a b : ℕ) → IsBadLogAt sizes bytes a → IsBadLogAt sizes bytes b → a ≡ b
one_bad_place sizes bytes a b p q =
    bad_place_by sizes bytes a b p q (fronts_of (map body_of p.before) (map body_of q.before) (drop a bytes) (drop b bytes) p.front.fit q.front.fit (sym p.front.is ∙ q.front.is))

-- ---- files

bad_file_once : (sizes : List ℕ) (image : Image) (a b : ℕ) → IsBadLogFile sizes image a → IsBadLogFile sizes image b → a ≡ b
bad_file_once sizes None a b p q = p ∙ sym q
bad_file_once sizes (Some bytes) a b p q = one_bad_place sizes bytes a b p.0 q.0

bad_file_holds_none : (sizes : List ℕ) (image : Image) (at : ℕ) (batches : List Numbered) → IsBadLogFile sizes image at → ReadsAs sizes batches image → ⊥
bad_file_holds_none sizes None at batches bad holds = holds
bad_file_holds_none sizes (Some bytes) at batches bad holds = bad.1 batches holds

-- ---- folders

-- a folder with two folds has one
pub fold_once : (folder : Folder) (f g : Folded) → Means folder (store f) → Means folder (store g) → f ≡ g
fold_once folder f g p q = let one : store f ≡ store g = means_once folder (store f) (store g) p q in cc

-- and one live log
pub live_once : (f g : Folded) (n m : ℕ) → f ≡ g → f.logs ≡ n ∷ [] → g.logs ≡ m ∷ [] → n ≡ m
live_once f g n m one p q = let logs : n ∷ [] ≡ m ∷ [] = sym p ∙ ap (λ (x : Folded). x.logs) one ∙ q in cc

-- a bad log, by the fold and the live log that another way to read the folder gives
bad_file_of : (folder : Folder) (n m at : ℕ) (bad : IsBadLog folder n at) (fold : Folded) → bad.fold ≡ fold → n ≡ m → IsBadLogFile (sizes_of fold) (folder (Log m)) at
bad_file_of folder n m at bad fold one live =
    subst (λ (k : ℕ). IsBadLogFile (sizes_of fold) (folder (Log k)) at) live (subst (λ (f : Folded). IsBadLogFile (sizes_of f) (folder (Log n)) at) one bad.bad)

-- a folder has one bad log at most, and that is bad at one place
pub one_bad_log : (folder : Folder) (n m a b : ℕ) → IsBadLog folder n a → IsBadLog folder m b → (n ≡ m) × (a ≡ b)
one_bad_log folder n m a b p q =
    let one = fold_once folder p.fold q.fold p.means q.means in
    let live = live_once p.fold q.fold n m one p.live q.live in
    (live, bad_file_once (sizes_of q.fold) (folder (Log m)) a b (bad_file_of folder n m a p q.fold one live) q.bad)

-- the fault tells what the folder holds, and not how the disk or the memory fared
abbrev pub IsToldRefusal : OpenFault → Type 0
IsToldRefusal NoStore = ⊤
IsToldRefusal (BadManifest at) = ⊤
IsToldRefusal (BadLog number at) = ⊤
IsToldRefusal DiskFault = ⊥
IsToldRefusal NoMemory = ⊥

none_isn't_bad : (folder : Folder) (at : ℕ) → Means folder no_store → Means folder (bad_at at) → ⊥
none_isn't_bad folder at p q = q.0 p

none_isn't_store : (folder : Folder) (fold : Folded) → Means folder no_store → Means folder (store fold) → ⊥
none_isn't_store folder fold p q = q.0 p

bad_isn't_store : (folder : Folder) (at : ℕ) (fold : Folded) → Means folder (bad_at at) → Means folder (store fold) → ⊥
bad_isn't_store folder at fold p q = let one : bad_at at ≡ store fold = means_once folder (bad_at at) (store fold) p q in cc

bad_manifest_once : (folder : Folder) (i j : ℕ) → Means folder (bad_at i) → Means folder (bad_at j) → i ≡ j
bad_manifest_once folder i j p q = let one : bad_at i ≡ bad_at j = means_once folder (bad_at i) (bad_at j) p q in cc

-- a folder is refused in one way at most
pub one_opening_refusal : (folder : Folder) (a b : OpenFault) → IsToldRefusal a → IsToldRefusal b → RefusesOpening folder a → RefusesOpening folder b → a ≡ b
one_opening_refusal folder NoStore NoStore x y p q = refl
one_opening_refusal folder NoStore (BadManifest j) x y p q = absurd (none_isn't_bad folder j p q)
one_opening_refusal folder NoStore (BadLog m j) x y p q = absurd (none_isn't_store folder q.fold p q.means)
one_opening_refusal folder (BadManifest i) NoStore x y p q = absurd (none_isn't_bad folder i q p)
one_opening_refusal folder (BadManifest i) (BadManifest j) x y p q = ap (λ (k : ℕ). BadManifest k) (bad_manifest_once folder i j p q)
one_opening_refusal folder (BadManifest i) (BadLog m j) x y p q = absurd (bad_isn't_store folder i q.fold p q.means)
one_opening_refusal folder (BadLog n i) NoStore x y p q = absurd (none_isn't_store folder p.fold q p.means)
one_opening_refusal folder (BadLog n i) (BadManifest j) x y p q = absurd (bad_isn't_store folder j p.fold q p.means)
one_opening_refusal folder (BadLog n i) (BadLog m j) x y p q =
    let one = one_bad_log folder n m i j p q in
    ap (λ (k : ℕ). BadLog k i) one.0 ∙ ap (λ (k : ℕ). BadLog m k) one.1
one_opening_refusal folder DiskFault b x y p q = absurd x
one_opening_refusal folder NoMemory b x y p q = absurd x
one_opening_refusal folder a DiskFault x y p q = absurd y
one_opening_refusal folder a NoMemory x y p q = absurd y

-- a bad log holds no batches
bad_log_stands_for_none : (folder : Folder) (n at : ℕ) (m : State) → IsBadLog folder n at → FolderStands folder m → ⊥
bad_log_stands_for_none folder n at m bad stands =
    let one = fold_once folder bad.fold stands.fold bad.means stands.means in
    let live = live_once bad.fold stands.fold n stands.number one bad.live stands.live in
    bad_file_holds_none (sizes_of stands.fold) (folder (Log stands.number)) at stands.batches (bad_file_of folder n stands.number at bad stands.fold one live) stands.held

-- a folder that is refused stands for no state
pub refused_stands_for_none : (folder : Folder) (fault : OpenFault) → IsToldRefusal fault → RefusesOpening folder fault → (m : State) → FolderStands folder m → ⊥
refused_stands_for_none folder NoStore told refused m stands = none_isn't_store folder stands.fold refused stands.means
refused_stands_for_none folder (BadManifest at) told refused m stands = bad_isn't_store folder at stands.fold refused stands.means
refused_stands_for_none folder (BadLog number at) told refused m stands = bad_log_stands_for_none folder number at m refused stands
refused_stands_for_none folder DiskFault told refused m stands = told
refused_stands_for_none folder NoMemory told refused m stands = told
