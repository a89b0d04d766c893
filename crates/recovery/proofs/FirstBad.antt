-- Where a log's file is bad first.
use Rattle.std.proofs.Common.{◌≡◌, ◌⊎◌, inl, inr, ℕ, ◌<◌, ◌^◌, List, [], ◌∷◌, ◌++◌, length, drop, Some, None, refl, sym, ◌∙◌, ap, subst, arith}
use Rattle.std.specs.Prelude.{map}
use Rattle.std.specs.Int.{w32, to_le_bytes, from_le_bytes}
use Rattle.std.proofs.lemmas.List.{length-append, append_assoc, length-map, drop_at}
use Rattle.std.proofs.lemmas.Nat.{from_le_bytes-to_le_bytes_4}
use Rattle.udt_disk.specs.Crash.{Image}
use Rattle.gate_log.specs.Placed.{Placed}
use Rattle.gate_log.specs.Frames.{frame, framed, IsBody, AreBodies}
use Rattle.gate_log.specs.Reads.{body_of, IsWhole, IsTorn}
use Rattle.wal.specs.Bodies.{HoldsBatches}
use Rattle.wal.specs.Replays.{IsStrangeFrame, IsBadLogAt, ReadsAs}
use Rattle.wal.specs.declared.numbered.Numbered.{Numbered}
use Rattle.wal.proofs.Bodies.{holds_front}
use Rattle.wal.proofs.Fronts.{fronts_same}
use Rattle.recovery.specs.Refusals.{IsBadLogFile}

-- ---- frames at the front of the same bytes

-- two frames at the front of the same bytes are one
same_frame : (a b s t : List ℕ) → IsBody a → IsBody b → frame a ++ s ≡ frame b ++ t → (a ≡ b) × (s ≡ t)
same_frame a b s t is_a is_b e =
    let la = to_le_bytes w32 (length a) in
    let lb = to_le_bytes w32 (length b) in
    let size_a : length a < 2 ^ 32 = omega (arith, is_a.short) in
    let size_b : length b < 2 ^ 32 = omega (arith, is_b.short) in
    let rest : la ++ (a ++ s) ≡ lb ++ (b ++ t) = sym (append_assoc la a s) ∙ ap (drop 1) e ∙ append_assoc lb b t in
    let heads = fronts_same la lb (a ++ s) (b ++ t) refl rest in
    let long : length a ≡ length b = sym (from_le_bytes-to_le_bytes_4 (length a) size_a) ∙ ap (from_le_bytes w32) heads.0 ∙ from_le_bytes-to_le_bytes_4 (length b) size_b in
    fronts_same a b s t long heads.1

-- of two fronts of whole frames one goes on where the other ends, or they are one
data Fronts (a b : List (List ℕ)) (s t : List ℕ) : Type 0 where
  same : a ≡ b → Fronts a b s t
  sooner : (c : List ℕ) (r : List (List ℕ)) → b ≡ a ++ c ∷ r → IsBody c → s ≡ frame c ++ (framed r ++ t) → Fronts a b s t
  later : (c : List ℕ) (r : List (List ℕ)) → a ≡ b ++ c ∷ r → IsBody c → t ≡ frame c ++ (framed r ++ s) → Fronts a b s t

fronts_more : (x y : List ℕ) (a b : List (List ℕ)) (s t : List ℕ) → x ≡ y → Fronts a b s t → Fronts (x ∷ a) (y ∷ b) s t
fronts_more x y a b s t is (same e) = same (ap (λ (z : List ℕ). z ∷ a) is ∙ ap (λ (l : List (List ℕ)). y ∷ l) e)
fronts_more x y a b s t is (sooner c r e fits there) = sooner c r (ap (λ (l : List (List ℕ)). y ∷ l) e ∙ ap (λ (z : List ℕ). z ∷ (a ++ c ∷ r)) (sym is)) fits there
fronts_more x y a b s t is (later c r e fits there) = later c r (ap (λ (l : List (List ℕ)). x ∷ l) e ∙ ap (λ (z : List ℕ). z ∷ (b ++ c ∷ r)) is) fits there

fronts_of : (a b : List (List ℕ)) (s t : List ℕ) → AreBodies a → AreBodies b → framed a ++ s ≡ framed b ++ t → Fronts a b s t
fronts_of [] [] s t fit_a fit_b e = same refl
fronts_of [] (c ∷ r) s t fit_a fit_b e = sooner c r refl fit_b.0 (e ∙ append_assoc (frame c) (framed r) t)
fronts_of (c ∷ r) [] s t fit_a fit_b e = later c r refl fit_a.0 (sym e ∙ append_assoc (frame c) (framed r) s)
fronts_of (x ∷ a) (y ∷ b) s t fit_a fit_b e =
    let one = same_frame x y (framed a ++ s) (framed b ++ t) fit_a.0 fit_b.0 (sym (append_assoc (frame x) (framed a) s) ∙ e ∙ append_assoc (frame y) (framed b) t) in
    fronts_more x y a b s t one.0 (fronts_of a b s t fit_a.1 fit_b.1 one.1)

-- ---- the first bad place of a log

-- a frame with a byte behind it is whole
whole_frame : (c rest t : List ℕ) → IsBody c → 0 < length t → rest ≡ to_le_bytes w32 (length c) ++ (c ++ t) → IsWhole (length c) rest
whole_frame c rest t fits some is =
    let size = to_le_bytes w32 (length c) in
    let behind : drop 4 rest ≡ c ++ t = ap (drop 4) is ∙ drop_at size (c ++ t) 4 refl in
    let four : length size ≡ 4 = refl in
    record {
      some = fits.some;
      short = fits.short;
      size = is ∙ ap (λ (l : List ℕ). size ++ l) (sym behind);
      there = omega (arith, ap length is, length-append size (c ++ t), length-append c t, four, some);
    }

torn_has_no_frame : (frames : List Placed) (c s t : List ℕ) → IsBody c → 0 < length t → IsTorn frames s → s ≡ frame c ++ t → ⊥
torn_has_no_frame frames c [] t fits some torn is = cc
torn_has_no_frame frames c (gate ∷ rest) t fits some torn is =
    torn.1 (length c) (whole_frame c rest t fits some (ap (drop 1) is ∙ append_assoc (to_le_bytes w32 (length c)) c t))

-- what is wrong with what stands behind these frames
abbrev IsWrong : List ℕ → List Placed → List ℕ → Type 0
IsWrong sizes before tail = IsTorn before tail ⊎ IsStrangeFrame sizes (map body_of before) tail

-- behind a frame something stands, if it is wrong
some_behind : (sizes : List ℕ) (before : List Placed) (tail : List ℕ) → 0 < length before → IsWrong sizes before tail → 0 < length tail
some_behind sizes before [] some (inl torn) = absurd (omega (arith, some, ap length torn))
some_behind sizes before (gate ∷ rest) some (inl torn) = omega arith
some_behind sizes before tail some (inr strange) = omega (arith, ap length strange.is, length-append (frame strange.body) strange.rest, strange.gate)

-- no log goes on with a frame where it is wrong
goes_on_nowhere : (sizes : List ℕ) (before : List Placed) (c : List ℕ) (r : List (List ℕ)) (batches : List Numbered) (s t : List ℕ) → HoldsBatches sizes (map body_of before ++ c ∷ r) batches → IsBody c → 0 < length t → s ≡ frame c ++ t → IsWrong sizes before s → ⊥
goes_on_nowhere sizes before c r batches s t held fits some is (inl torn) = torn_has_no_frame before c s t fits some torn is
goes_on_nowhere sizes before c r batches s t held fits some is (inr strange) =
    let bodies = map body_of before in
    let body : c ≡ strange.body = sym (same_frame strange.body c strange.rest t strange.fits fits (sym strange.is ∙ is)).0 in
    let front = holds_front sizes (bodies ++ c ∷ []) r batches (subst (λ (l : List (List ℕ)). HoldsBatches sizes l batches) (sym (append_assoc bodies (c ∷ []) r)) held) in
    strange.strange front.0 (subst (λ (x : List ℕ). HoldsBatches sizes (bodies ++ x ∷ []) front.0) body front.1)

-- a bad place has no frame of a longer front
bad_ends : (sizes : List ℕ) (bytes : List ℕ) (a b : ℕ) (p : IsBadLogAt sizes bytes a) (q : IsBadLogAt sizes bytes b) (c : List ℕ) (r : List (List ℕ)) → map body_of q.before ≡ map body_of p.before ++ c ∷ r → IsBody c → drop a bytes ≡ frame c ++ (framed r ++ drop b bytes) → ⊥
bad_ends sizes bytes a b p q c r longer fits there =
    let frames : 0 < length q.before = omega (arith, length-map q.before body_of, ap length longer, length-append (map body_of p.before) (c ∷ r)) in
    let tail : 0 < length (drop b bytes) = some_behind sizes q.before (drop b bytes) frames q.bad in
    let some : 0 < length (framed r ++ drop b bytes) = omega (arith, tail, length-append (framed r) (drop b bytes)) in
    goes_on_nowhere sizes p.before c r q.batches (drop a bytes) (framed r ++ drop b bytes) (subst (λ (l : List (List ℕ)). HoldsBatches sizes l q.batches) longer q.held) fits some there p.bad

bad_place_by : (sizes : List ℕ) (bytes : List ℕ) (a b : ℕ) (p : IsBadLogAt sizes bytes a) (q : IsBadLogAt sizes bytes b) → Fronts (map body_of p.before) (map body_of q.before) (drop a bytes) (drop b bytes) → a ≡ b
bad_place_by sizes bytes a b p q (same e) = p.front.end ∙ ap (λ (l : List (List ℕ)). length (framed l)) e ∙ sym q.front.end
bad_place_by sizes bytes a b p q (sooner c r longer fits there) = absurd (bad_ends sizes bytes a b p q c r longer fits there)
bad_place_by sizes bytes a b p q (later c r longer fits there) = absurd (bad_ends sizes bytes b a q p c r longer fits there)

-- given bytes are bad at one place at most
pub one_bad_place : (sizes : List ℕ) (bytes : List ℕ) (a b : ℕ) → IsBadLogAt sizes bytes a → IsBadLogAt sizes bytes b → a ≡ b
one_bad_place sizes bytes a b p q =
    bad_place_by sizes bytes a b p q (fronts_of (map body_of p.before) (map body_of q.before) (drop a bytes) (drop b bytes) p.front.fit q.front.fit (sym p.front.is ∙ q.front.is))

-- ---- files

pub bad_file_once : (sizes : List ℕ) (image : Image) (a b : ℕ) → IsBadLogFile sizes image a → IsBadLogFile sizes image b → a ≡ b
bad_file_once sizes None a b p q = p ∙ sym q
bad_file_once sizes (Some bytes) a b p q = one_bad_place sizes bytes a b p.0 q.0

pub bad_file_holds_none : (sizes : List ℕ) (image : Image) (at : ℕ) (batches : List Numbered) → IsBadLogFile sizes image at → ReadsAs sizes batches image → ⊥
bad_file_holds_none sizes None at batches bad holds = holds
bad_file_holds_none sizes (Some bytes) at batches bad holds = bad.1 batches holds
