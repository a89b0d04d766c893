-- Numbers that ascend.
use Rattle.std.proofs.Common.{◌≡◌, ⊎_elim, ℕ, zero, suc, ◌+◌, ◌<◌, ◌≤◌, ◌==◌, false, List, length, map, get_or, Result, Ok, Err, refl, sym, arith}
use Rattle.std.specs.Prelude.{is_ok, ◌-◌}
use Rattle.std.specs.List.{list_any}
use Rattle.std.specs.List.Sorted.{IsStrictlyIncreasing, IsBinarySearchResult}
use Rattle.std.specs.Ordering.{nat_cmp}
use Rattle.std.proofs.lemmas.List.{get_or-map}
use Rattle.std.proofs.lemmas.Bool.{eq-eqb, ne_eqb, cases_lt}
use Rattle.std.proofs.lemmas.List.Elements.{All-from_get_or}
use Rattle.std.proofs.lemmas.List.Folds.{list_any_at, list_any_none}
use Rattle.std.proofs.lemmas.List.Sorted.{searched}
use Rattle.manifest_edit.specs.declared.edit.TableAt.{TableAt}

-- the number of the table at an index
pub number_there : (ts : List TableAt) (i : ℕ) → i < length ts → get_or (map (λ (t : TableAt). t.number) ts) i 0 ≡ (get_or ts i (record { level = 0; number = 0 })).number
number_there ts i within = get_or-map (λ (t : TableAt). t.number) ts i (record { level = 0; number = 0 }) 0 within

rises : (ns : List ℕ) (i j n : ℕ) → j ≡ i + n → IsStrictlyIncreasing ns → j < length ns → get_or ns i 0 ≤ get_or ns j 0
rises ns i j zero is up within = let same : j ≡ i = omega arith in rw same (omega arith)
rises ns i j (suc n) is up within =
    let same : j ≡ (i + n) + 1 = omega arith in
    let before = rises ns i (i + n) n refl up (omega arith) in
    let last = up (i + n) (omega arith) in
    rw same (omega arith)

-- no number is what all before it are below, and all from it on above
apart_at : (at k i n : ℕ) → (k < i → at < n) → (i ≤ k → n < at) → at ≡ n → ⊥
apart_at at k i n below above same = ⊎_elim (λ (less : k < i). let b = below less in omega arith) (λ (more : i ≤ k). let a = above more in omega arith) (cases_lt k i)

-- what a search in ascending numbers answers
pub found_or_not : (ns : List ℕ) (n : ℕ) (r : Result ℕ ℕ) → IsStrictlyIncreasing ns → IsBinarySearchResult (λ m. nat_cmp m n) ns r → is_ok r ≡ list_any (λ m. m == n) ns
found_or_not ns n (Ok i) up found =
    let there = searched ns n (Ok i) found (λ i j before within. rises ns i j (j - i) (omega arith) up within) in
    sym (list_any_at (λ m. m == n) ns i 0 there.0 (eq-eqb (get_or ns i 0) n there.1))
found_or_not ns n (Err i) up none =
    let apart = searched ns n (Err i) none (λ i j before within. rises ns i j (j - i) (omega arith) up within) in
    sym (list_any_none (λ m. m == n) ns (All-from_get_or (λ m. (m == n) ≡ false) ns 0 (λ k within. ne_eqb (get_or ns k 0) n (apart_at (get_or ns k 0) k i n (apart.1 k) (λ behind. apart.2 k behind within)))))
