-- A file that is read from the front: what one piece more is of it, and that what stands in the front stands in all of it.
use Rattle.std.proofs.Common.{◌≡◌, ◌⊎◌, inl, inr, ⊎_elim, ℕ, ◌+◌, ◌≤◌, ◌<◌, List, ◌++◌, length, take, drop, get_or, refl, sym, ◌∙◌, ap, subst, arith, append_assoc, length-append, take-append-drop}
use Rattle.std.specs.Int.{w32, to_le_bytes}
use Rattle.std.proofs.Math.Seq.{drop-append_seam}
use Rattle.std.proofs.lemmas.List.{drop-append-le, take-append-le, take_all, length-take, length-take-le, length-drop, take_at, get_or_append_left}
use Rattle.gate_log.specs.Reads.{IsWhole}
use Rattle.gate_log.specs.Fronts.{IsFrontOf, IsReadTo}
use Rattle.gate_log.proofs.Reading.{length_is_four}

-- what a read behind the front gives is of what stands behind it
got : (old piece all : List ℕ) (n p : ℕ) (front : IsFrontOf old all) → take n piece ≡ take p (drop (length old) all) → take n piece ≡ take p front.behind
got old piece all n p front read = read ∙ ap (λ (l : List ℕ). take p (drop (length old) l)) front.is ∙ ap (take p) (drop-append_seam old front.behind)

pub front_more : (old piece all : List ℕ) (n p : ℕ) → IsFrontOf old all → take n piece ≡ take p (drop (length old) all) → IsFrontOf (old ++ take n piece) all
front_more old piece all n p front read =
    let b = front.behind in
    record {
      behind = drop p b;
      is = front.is ∙ ap (λ (l : List ℕ). old ++ l) (sym (take-append-drop p b)) ∙ sym (append_assoc old (take p b) (drop p b)) ∙ ap (λ (l : List ℕ). (old ++ l) ++ drop p b) (sym (got old piece all n p front read));
    }

pub front_last : (old piece all : List ℕ) (n p : ℕ) → IsFrontOf old all → take n piece ≡ take p (drop (length old) all) → n ≤ length piece → n < p → old ++ take n piece ≡ all
front_last old piece all n p front read within fewer =
    let b = front.behind in
    let is = got old piece all n p front read in
    let size : length (take p b) ≡ n = ap length (sym is) ∙ length-take-le n piece within in
    let short : length b ≤ p = omega (arith, size, length-take p b, fewer) in
    ap (λ (l : List ℕ). old ++ l) (is ∙ take_all p b short) ∙ sym front.is

pub gate_at : (bytes all : List ℕ) (at : ℕ) → IsFrontOf bytes all → at < length bytes → get_or all at 0 ≡ get_or bytes at 0
gate_at bytes all at front within = ap (λ (l : List ℕ). get_or l at 0) front.is ∙ get_or_append_left bytes front.behind 0 at within

pub rest_at : (bytes all : List ℕ) (at : ℕ) (front : IsFrontOf bytes all) → at < length bytes → drop (at + 1) all ≡ drop (at + 1) bytes ++ front.behind
rest_at bytes all at front within = ap (drop (at + 1)) front.is ∙ drop-append-le (at + 1) bytes front.behind (omega arith)

pub longer : (bytes all : List ℕ) → IsFrontOf bytes all → length bytes ≤ length all
longer bytes all front = omega (arith, ap length front.is, length-append bytes front.behind)

-- a frame that is whole is whole with more behind it
pub whole_more : (n : ℕ) (rest behind : List ℕ) → IsWhole n rest → IsWhole n (rest ++ behind)
whole_more n rest behind whole = record {
  some = whole.some;
  short = whole.short;
  size = ap (λ (l : List ℕ). l ++ behind) whole.size ∙ append_assoc (to_le_bytes w32 n) (drop 4 rest) behind ∙ ap (λ (l : List ℕ). to_le_bytes w32 n ++ l) (sym (drop-append-le 4 rest behind (omega (arith, whole.there))));
  there = omega (arith, whole.there, length-append rest behind);
}

-- the length of a whole frame stands in front
pub length_found : (n : ℕ) (rest behind : List ℕ) → 4 ≤ length rest → IsWhole n (rest ++ behind) → take 4 rest ≡ to_le_bytes w32 n
length_found n rest behind long whole = sym (take-append-le 4 rest behind long) ∙ ap (take 4) whole.size ∙ take_at (to_le_bytes w32 n) (drop 4 (rest ++ behind)) 4 (length_is_four n)

-- and is whole without what stands behind it
pub whole_less : (n : ℕ) (rest behind : List ℕ) → n + 5 ≤ length rest → IsWhole n (rest ++ behind) → IsWhole n rest
whole_less n rest behind long whole = record {
  some = whole.some;
  short = whole.short;
  size = sym (take-append-drop 4 rest) ∙ ap (λ (l : List ℕ). l ++ drop 4 rest) (length_found n rest behind (omega (arith, long)) whole);
  there = long;
}

-- the body of a frame that was read whole
pub body_there : (at n : ℕ) (bytes all : List ℕ) → IsFrontOf bytes all → at + n + 6 ≤ length bytes → take n (drop 4 (drop (at + 1) all)) ≡ take n (drop 4 (drop (at + 1) bytes))
body_there at n bytes all front long =
    let rest = drop (at + 1) bytes in
    let size : n + 5 ≤ length rest = omega (arith, long, length-drop (at + 1) bytes) in
    let size4 : n ≤ length (drop 4 rest) = omega (arith, size, length-drop 4 rest) in
    ap (λ (l : List ℕ). take n (drop 4 l)) (rest_at bytes all at front (omega (arith, long)))
    ∙ ap (take n) (drop-append-le 4 rest front.behind (omega (arith, size)))
    ∙ take-append-le n (drop 4 rest) front.behind size4

-- where enough was read, a frame that isn't whole in it isn't whole
pub no_whole : (at m : ℕ) (first bytes all : List ℕ) → IsReadTo (at + 5) first all → IsReadTo (at + m + 6) bytes all → at < length first → at < length bytes
    → ((n : ℕ) (behind : List ℕ) → 4 ≤ length (drop (at + 1) first) → IsWhole n (drop (at + 1) first ++ behind) → m ≡ n)
    → ((n : ℕ) → IsWhole n (drop (at + 1) bytes) → ⊥) → (n : ℕ) → IsWhole n (drop (at + 1) all) → ⊥
no_whole at m first bytes all early read in_first in_bytes found none n whole =
    let front = early.front in
    let here : IsWhole n (drop (at + 1) first ++ front.behind) = subst (IsWhole n) (rest_at first all at front in_first) whole in
    let far : 4 ≤ length (drop (at + 1) first) = ⊎_elim
    (λ (long : at + 5 ≤ length first). omega (arith, long, length-drop (at + 1) first))
    (λ (is : first ≡ all). omega (arith, whole.there, ap (λ (l : List ℕ). length (drop (at + 1) l)) is))
    early.far in
    let same : m ≡ n = found n front.behind far here in
    let more : IsWhole n (drop (at + 1) bytes ++ read.front.behind) = subst (IsWhole n) (rest_at bytes all at read.front in_bytes) whole in
    ⊎_elim
    (λ (long : at + m + 6 ≤ length bytes). none n (whole_less n (drop (at + 1) bytes) read.front.behind (omega (arith, long, same, length-drop (at + 1) bytes)) more))
    (λ (is : bytes ≡ all). none n (subst (λ (l : List ℕ). IsWhole n (drop (at + 1) l)) (sym is) whole))
    read.far
