-- Sequences that rise, in whatever order they stand: no two versions have one.
use Rattle.std.proofs.Common.{◌≡◌, ℕ, suc, ◌+◌, ◌<◌, ◌≤◌, ◌==◌, List, [], ◌∷◌, ◌++◌, length, map, take, refl, sym, ap, ◌∙◌, subst, arith, inl, inr}
use Rattle.std.specs.Prelude.{All, if◌then◌else◌, slice_index, slice_index_or as get_or}
use Rattle.std.specs.List.{sum_by}
use Rattle.std.specs.List.Sorted.{IsPermutation, IsStrictlyIncreasing}
use Rattle.std.proofs.lemmas.Bool.{cases_Bool, eqb-true}
use Rattle.std.proofs.lemmas.List.{append-nil, append_assoc, length-map, map-append, take_more}
use Rattle.std.proofs.lemmas.List.Elements.{All-append, All-more}
use Rattle.std.proofs.lemmas.List.Recursion.{is_sum_by}
use Rattle.std.proofs.lemmas.List.Sorted.{length_permutation, sum_by-IsPermutation}
use Rattle.std.proofs.lemmas.List.Concat.{flat_map-append}
use Rattle.ts_key.specs.declared.numbers.Family.{Family}
use Rattle.ts_key.specs.declared.version.Version.{Version}
use Rattle.memtable.specs.Memtables.{Memtable, versions_of_memtable}
use Rattle.floor_laws.specs.Lists.{HaveOwnSequences}
use Rattle.floor_laws.proofs.Counts.{Distinct, count, distinct_pairs}
use Rattle.flush_job.specs.Flushes.{AreFlushable}
use Rattle.flush_job.specs.Walks.{versions_of_all}
use Rattle.solo_store.specs.Flushable.{AreVersionsSpelled, MayBeFlushed, sequence_of}

-- how often a number is there
abbrev times : ℕ → List ℕ → ℕ
times k [] = 0
times k (n ∷ ns) = (if n == k then 1 else 0) + times k ns

times_moved : (k : ℕ) (ns ms : List ℕ) → IsPermutation ns ms → times k ms ≡ times k ns
times_moved k ns ms moved =
    let one : ℕ → ℕ = λ n. if n == k then 1 else 0 in
    let is : (zs : List ℕ) → times k zs ≡ sum_by one zs = is_sum_by (times k) one refl (λ n zs. refl) in
    is ms ∙ sum_by-IsPermutation one ns ms moved ∙ sym (is ns)

rise_tail : (n : ℕ) (ns : List ℕ) → IsStrictlyIncreasing (n ∷ ns) → IsStrictlyIncreasing ns
rise_tail n ns rise i within =
    let next : suc i + 1 ≡ suc (i + 1) = omega arith in
    subst (λ (j : ℕ). slice_index ns i < slice_index (n ∷ ns) j) next (rise (suc i) (omega (arith, within)))

-- where numbers rise, none is at or below one before
times_below : (k n : ℕ) (ns : List ℕ) → IsStrictlyIncreasing (n ∷ ns) → k ≤ n → times k ns ≡ 0
times_below k n [] rise le = refl
times_below k n (m ∷ ns) rise le =
    let above : n < m = rise 0 (omega arith) in
    let rest = times_below k m ns (rise_tail n (m ∷ ns) rise) (omega (arith, le, above)) in
    elim (cases_Bool (m == k)) [
      | inl y ↦ let e = eqb-true m k y in absurd (omega (arith, e, above, le))
      | inr y ↦ rw y (omega (arith, rest))
    ]

times_once : (k : ℕ) (ns : List ℕ) → IsStrictlyIncreasing ns → times k ns ≤ 1
times_once k [] rise = omega arith
times_once k (n ∷ ns) rise = elim (cases_Bool (n == k)) [
  | inl y ↦ let e = eqb-true n k y in let none = times_below k n ns rise (omega (arith, e)) in rw y (omega (arith, none))
  | inr y ↦ let rest = times_once k ns (rise_tail n ns rise) in rw y (omega (arith, rest))
]

count_times : (k : ℕ) (vs : List Version) → count k vs ≡ times k (map sequence_of vs)
count_times k [] = refl
count_times k (v ∷ vs) = ap (λ (n : ℕ). (if v.seq.0 == k then 1 else 0) + n) (count_times k vs)

-- no two versions have one sequence where the sequences rise once they are put in order
pub own_sequences : (vs : List Version) (sorted : List ℕ) → IsPermutation (map sequence_of vs) sorted → IsStrictlyIncreasing sorted → HaveOwnSequences vs
own_sequences vs sorted moved rise =
    let distinct : Distinct vs = λ k.
    let a = count_times k vs in
    let b = times_moved k (map sequence_of vs) sorted moved in
    let c = times_once k sorted rise in
    omega (arith, a, b, c)
    in
    distinct_pairs vs distinct

-- one version more
pub each_more : (P : Version → Type 0) (vs : List Version) (i : ℕ) (v : Version) → i < length vs → v ≡ get_or vs i v → All P (take i vs) → P v → All P (take (i + 1) vs)
each_more P vs i v within at all p = All-more P vs i v within all (subst P at p)

pub numbers_more : (ns : List ℕ) (vs : List Version) (i : ℕ) (v : Version) → i < length vs → v ≡ get_or vs i v → (ns ++ map sequence_of (take i vs)) ++ v.seq.0 ∷ [] ≡ ns ++ map sequence_of (take (i + 1) vs)
numbers_more ns vs i v within at =
    let more : take (i + 1) vs ≡ take i vs ++ v ∷ [] = take_more vs i v within ∙ ap (λ (u : Version). take i vs ++ u ∷ []) (sym at) in
    append_assoc ns (map sequence_of (take i vs)) (v.seq.0 ∷ []) ∙ ap (λ (ms : List ℕ). ns ++ ms) (sym (ap (map sequence_of) more ∙ map-append sequence_of (take i vs) (v ∷ [])))

-- one memtable more
pub all_more : {X : Type 0} (g : X → Memtable) (xs : List X) (i : ℕ) (x : X) → i < length xs → x ≡ get_or xs i x → versions_of_all (map g (take (i + 1) xs)) ≡ versions_of_all (map g (take i xs)) ++ versions_of_memtable (g x)
all_more {X} g xs i x within at =
    let more : take (i + 1) xs ≡ take i xs ++ x ∷ [] = take_more xs i x within ∙ ap (λ (u : X). take i xs ++ u ∷ []) (sym at) in
    ap (λ (ys : List X). versions_of_all (map g ys)) more
    ∙ (ap versions_of_all (map-append g (take i xs) (x ∷ []))
    ∙ (flat_map-append versions_of_memtable (map g (take i xs)) (g x ∷ []) ∙ ap (λ (vs : List Version). versions_of_all (map g (take i xs)) ++ vs) (append-nil (versions_of_memtable (g x)))))

pub spelled_more : (family : Family) (vs ws : List Version) → AreVersionsSpelled family vs → AreVersionsSpelled family ws → AreVersionsSpelled family (vs ++ ws)
spelled_more family vs ws a b = record {
  own = All-append (λ (v : Version). v.family ≡ family) vs ws a.own b.own;
  each = All-append MayBeFlushed vs ws a.each b.each;
}

pub numbers_joined : (ns : List ℕ) (vs ws : List Version) → (ns ++ map sequence_of vs) ++ map sequence_of ws ≡ ns ++ map sequence_of (vs ++ ws)
numbers_joined ns vs ws = append_assoc ns (map sequence_of vs) (map sequence_of ws) ∙ ap (λ (ms : List ℕ). ns ++ ms) (sym (map-append sequence_of vs ws))

-- versions that are spelled and have sequences that rise may be flushed
pub flushable_of : (family : Family) (vs : List Version) (sorted : List ℕ) → 0 < length sorted → AreVersionsSpelled family vs → IsPermutation (map sequence_of vs) sorted → IsStrictlyIncreasing sorted → AreFlushable family vs
flushable_of family vs sorted some spelled moved rise = record {
  some = let a = length_permutation (map sequence_of vs) sorted moved in let b = length-map vs sequence_of in omega (arith, a, b, some);
  one_family = spelled.own;
  own = own_sequences vs sorted moved rise;
  stamps = λ k d within. (spelled.each k d within).stamp;
  sequences = λ k d within. (spelled.each k d within).sequence;
}
