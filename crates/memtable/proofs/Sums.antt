-- What sorting and joining leave: how many versions there are, how much they weigh and what holds of each.
use Rattle.std.proofs.Common.{◌≡◌, ℕ, zero, suc, ◌+◌, ◌*◌, ◌/◌, ◌<◌, ◌≤◌, Bool, true, false, cond, min, List, [], ◌∷◌, ◌++◌, length, get_or, map, take, drop, Some, refl, sym, ap, ◌∙◌, inl, inr, arith, append_assoc, length-append}
use Rattle.std.specs.Prelude.{slice_get, ◌==◌}
use Rattle.std.specs.List.{AllByRecursion}
use Rattle.std.proofs.lemmas.Bool.Decides.{nat_tests}
use Rattle.std.proofs.lemmas.Bool.{cases_Bool}
use Rattle.ts_key.specs.declared.version.Version.{Version}
use Rattle.sorted_run.specs.Sorts.{is_sorted_before, with_sorted, sorted}
use Rattle.sorted_run.proofs.Sorting.{sorted-left, sorted-right}
use Rattle.memtable.specs.Memtables.{joined, weight, weight_of, capped_weight}
use Rattle.memtable.specs.declared.limits.TheConstants.{BYTES_LIMIT}

length-with : (v : Version) (vs : List Version) → length (with_sorted v vs) ≡ suc (length vs)
length-with v [] = refl
length-with v (x ∷ xs) =
    elim (cases_Bool (is_sorted_before x v)) [
      | inl y ↦ rw y (ap suc (length-with v xs))
      | inr y ↦ rw y refl
    ]

pub length-sorted : (vs : List Version) → length (sorted vs) ≡ length vs
length-sorted [] = refl
length-sorted (v ∷ vs) = length-with v (sorted vs) ∙ ap suc (length-sorted vs)

weight-with : (v : Version) (vs : List Version) → weight_of (with_sorted v vs) ≡ weight v + weight_of vs
weight-with v [] = refl
weight-with v (x ∷ xs) =
    elim (cases_Bool (is_sorted_before x v)) [
      | inl y ↦ rw y (omega (arith, weight-with v xs))
      | inr y ↦ rw y refl
    ]

pub weight-sorted : (vs : List Version) → weight_of (sorted vs) ≡ weight_of vs
weight-sorted [] = refl
weight-sorted (v ∷ vs) = weight-with v (sorted vs) ∙ ap (λ n. weight v + n) (weight-sorted vs)

pub weight-append : (vs ws : List Version) → weight_of (vs ++ ws) ≡ weight_of vs + weight_of ws
weight-append [] ws = omega arith
weight-append (v ∷ vs) ws = omega (arith, weight-append vs ws)

pub all-append : (P : Version → Type 0) (xs ys : List Version) → AllByRecursion P xs → AllByRecursion P ys → AllByRecursion P (xs ++ ys)
all-append P [] ys h g = g
all-append P (x ∷ xs) ys h g = (h.0, all-append P xs ys h.1 g)

all-with : (P : Version → Type 0) (v : Version) (vs : List Version) → P v → AllByRecursion P vs → AllByRecursion P (with_sorted v vs)
all-with P v [] p h = (p, tt)
all-with P v (x ∷ xs) p h =
    elim (cases_Bool (is_sorted_before x v)) [
      | inl y ↦ rw y (h.0, all-with P v xs p h.1)
      | inr y ↦ rw y (p, h)
    ]

pub all-sorted : (P : Version → Type 0) (vs : List Version) → AllByRecursion P vs → AllByRecursion P (sorted vs)
all-sorted P [] h = tt
all-sorted P (v ∷ vs) h = all-with P v (sorted vs) h.0 (all-sorted P vs h.1)

all_front : (P : Version → Type 0) (xs ys : List Version) → AllByRecursion P (xs ++ ys) → AllByRecursion P xs
all_front P [] ys h = tt
all_front P (x ∷ xs) ys h = (h.0, all_front P xs ys h.1)

all_back : (P : Version → Type 0) (xs ys : List Version) → AllByRecursion P (xs ++ ys) → AllByRecursion P ys
all_back P [] ys h = h
all_back P (x ∷ xs) ys h = all_back P xs ys h.1

-- ---- the newest n runs and the others

pub joined_parts : (rs : List (List Version)) (n : ℕ) → joined (take n rs) ++ joined (drop n rs) ≡ joined rs
joined_parts rs zero = refl
joined_parts [] (suc n) = refl
joined_parts (r ∷ rs) (suc n) = append_assoc r (joined (take n rs)) (joined (drop n rs)) ∙ ap (λ vs. r ++ vs) (joined_parts rs n)

module _ (batch : List Version) (rs : List (List Version)) (n : ℕ) (run : List Version) (is : run ≡ sorted (batch ++ joined (take n rs))) where
  -- the batch merged into the newest n runs, and the others behind
  pub absorbs : sorted (run ++ joined (drop n rs)) ≡ sorted (batch ++ sorted (joined rs))
  absorbs =
      ap (λ vs. sorted (vs ++ joined (drop n rs))) is
      ∙ sorted-left (batch ++ joined (take n rs)) (joined (drop n rs))
      ∙ ap sorted (append_assoc batch (joined (take n rs)) (joined (drop n rs)) ∙ ap (λ vs. batch ++ vs) (joined_parts rs n))
      ∙ sym (sorted-right batch (joined rs))

  pub absorbs_all : (P : Version → Type 0) → AllByRecursion P batch → AllByRecursion P (joined rs) → AllByRecursion P (run ++ joined (drop n rs))
  absorbs_all P h g =
      let parts : AllByRecursion P (joined (take n rs) ++ joined (drop n rs)) = rw (joined_parts rs n) g in
      all-append P run (joined (drop n rs))
      (rw is (all-sorted P (batch ++ joined (take n rs)) (all-append P batch (joined (take n rs)) h (all_front P (joined (take n rs)) (joined (drop n rs)) parts))))
      (all_back P (joined (take n rs)) (joined (drop n rs)) parts)

  absorbs_weight : weight_of (run ++ joined (drop n rs)) ≡ weight_of batch + weight_of (joined rs)
  absorbs_weight =
      let a = weight-append run (joined (drop n rs)) in
      let b = ap weight_of is ∙ weight-sorted (batch ++ joined (take n rs)) ∙ weight-append batch (joined (take n rs)) in
      let c = ap weight_of (sym (joined_parts rs n)) ∙ weight-append (joined (take n rs)) (joined (drop n rs)) in
      omega (arith, a, b, c)

  pub absorbs_bytes : (old more : ℕ) → old ≡ capped_weight (joined rs) → more ≡ capped_weight batch → min (old + more) BYTES_LIMIT ≡ capped_weight (run ++ joined (drop n rs))
  absorbs_bytes old more e f = let w = absorbs_weight in omega (arith, e, f, w)

-- ---- one run more is merged in

pub absorbs_more : (batch older was run taken more : List Version) → was ≡ sorted (batch ++ taken) → run ≡ sorted (was ++ older) → more ≡ taken ++ older → run ≡ sorted (batch ++ more)
absorbs_more batch older was run taken more e f g =
    f
    ∙ ap (λ vs. sorted (vs ++ older)) e
    ∙ sorted-left (batch ++ taken) older
    ∙ ap sorted (append_assoc batch taken older ∙ ap (λ vs. batch ++ vs) (sym g))

pub length-absorbed : (batch taken run : List Version) → run ≡ sorted (batch ++ taken) → length run ≡ length batch + length taken
length-absorbed batch taken run e = ap length e ∙ length-sorted (batch ++ taken) ∙ length-append batch taken

-- a run that is twice as long as the batch isn't merged first
pub first_kept : (batch taken run older first : List Version) → run ≡ sorted (batch ++ taken) → length taken ≡ 0 → first ≡ older → length older / 2 < length run → 2 * length batch ≤ length first → ⊥
first_kept batch taken run older first e z f l m =
    let a = length-absorbed batch taken run e in
    let b = ap length f in
    omega (arith, a, b, z, l, m)

-- the newest run, where the count stands at 0
pub first_item : {A : Type 0} (f : A → List Version) (rs : List A) (n : ℕ) (item : A) (first : List Version) → n ≡ 0 → n < length rs → item ≡ get_or rs n item → slice_get (map f rs) 0 ≡ Some first → first ≡ f item
first_item f [] n item first z l e g = absurd (omega arith)
first_item f (x ∷ xs) zero item first z l e g = let q : f x ≡ first = cc in sym q ∙ ap f (sym e)
first_item f (x ∷ xs) (suc n) item first z l e g = absurd (omega arith)

pub empty_is : (vs : List Version) → (length vs == 0) ≡ true → vs ≡ []
empty_is [] e = refl
empty_is (v ∷ vs) e = absurd (let n : length (v ∷ vs) ≡ 0 = grind (arith, nat_tests) in omega (arith, n))

-- ---- the runs of the new memtable

pub inside : (rs : List (List Version)) (n : ℕ) (next : List Version) → slice_get rs n ≡ Some next → n < length rs
inside [] n next e = absurd cc
inside (x ∷ xs) zero next e = omega arith
inside (x ∷ xs) (suc n) next e = let l = inside xs n next e in omega (arith, l)

pub item_at : {A : Type 0} (f : A → List Version) (rs : List A) (n : ℕ) (item : A) (next : List Version) → n < length rs → item ≡ get_or rs n item → slice_get (map f rs) n ≡ Some next → next ≡ f item
item_at f [] n item next l e g = absurd (omega arith)
item_at f (x ∷ xs) zero item next l e g = let q : f x ≡ next = cc in sym q ∙ ap f (sym e)
item_at f (x ∷ xs) (suc n) item next l e g = item_at f xs n item next (omega arith) e g

map-drop : {A : Type 0} (f : A → List Version) (n : ℕ) (xs : List A) → map f (drop n xs) ≡ drop n (map f xs)
map-drop f zero xs = refl
map-drop f (suc n) [] = refl
map-drop f (suc n) (x ∷ xs) = map-drop f n xs

pub new_runs : {A : Type 0} (f : A → List Version) (out pushed first rest items : List A) (item : A) (n : ℕ) (run : List Version) → map f out ≡ map f pushed ++ map f rest → pushed ≡ first ++ item ∷ [] → first ≡ [] → f item ≡ run → rest ≡ drop n items → map f out ≡ run ∷ drop n (map f items)
new_runs f out pushed first rest items item n run e1 e2 e3 e4 e5 =
    e1
    ∙ ap (λ l. map f l ++ map f rest) (e2 ∙ ap (λ l. l ++ item ∷ []) e3)
    ∙ ap (λ r. r ∷ map f rest) e4
    ∙ ap (λ l. run ∷ map f l) e5
    ∙ ap (λ l. run ∷ l) (map-drop f n items)
