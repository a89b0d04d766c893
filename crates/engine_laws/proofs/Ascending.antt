-- Numbers that ascend, and the newest of them.
use Rattle.std.proofs.Common.{◌≡◌, ℕ, zero, suc, ◌+◌, ◌-◌, ◌<◌, ◌≤◌, List, [], ◌∷◌, ◌++◌, length, drop, take, get_or, refl, sym, ap, ◌∙◌, subst, arith, inl, inr}
use Rattle.std.specs.Prelude.{slice_index}
use Rattle.std.specs.List.Sorted.{IsStrictlyIncreasing}
use Rattle.std.proofs.lemmas.List.{length-append, take-append-drop}
use Rattle.floor_laws.proofs.Members.{In, In-append, In-right}
use Rattle.floor_laws.proofs.Tables.{Sorted}
use Rattle.manifest_fold.specs.Folds.{newest_log}

pub rising_sorted : (ns : List ℕ) → IsStrictlyIncreasing ns → Sorted ns
rising_sorted [] h = tt
rising_sorted (n ∷ []) h = ((λ m i. absurd i), tt)
rising_sorted (n ∷ k ∷ ns) h =
    let up : n < k = h 0 (omega arith) in
    let rest : IsStrictlyIncreasing (k ∷ ns) = λ j l.
    let e : suc j + 1 ≡ suc (j + 1) = omega arith in
    subst (λ z. slice_index (k ∷ ns) j < slice_index (n ∷ k ∷ ns) z) e (h (suc j) (omega (arith, l))) in
    let r = rising_sorted (k ∷ ns) rest in
    ((λ m i. elim i [ inl q ↦ omega (arith, up, q) | inr j ↦ let u = r.0 m j in omega (arith, up, u) ]), r)

pub sorted_rising : (ns : List ℕ) → Sorted ns → IsStrictlyIncreasing ns
sorted_rising [] h k l = absurd (omega (arith, l))
sorted_rising (n ∷ []) h k l = absurd (omega (arith, l))
sorted_rising (n ∷ m ∷ ns) h zero l = h.0 m (inl refl)
sorted_rising (n ∷ m ∷ ns) h (suc k) l =
    let e : suc (k + 1) ≡ suc k + 1 = omega arith in
    subst (λ z. slice_index (m ∷ ns) k < slice_index (n ∷ m ∷ ns) z) e (sorted_rising (m ∷ ns) h.1 k (omega (arith, l)))

pub sorted_append : (xs ys : List ℕ) → Sorted xs → Sorted ys → ((x y : ℕ) → In x xs → In y ys → x < y) → Sorted (xs ++ ys)
sorted_append [] ys a b h = b
sorted_append (x ∷ xs) ys a b h = ((λ m i. elim (In-append m xs ys i) [ inl j ↦ a.0 m j | inr j ↦ h x m (inl refl) j ]), sorted_append xs ys a.1 b (λ u v i j. h u v (inr i) j))

pub sorted_drop : (n : ℕ) (xs : List ℕ) → Sorted xs → Sorted (drop n xs)
sorted_drop zero xs h = h
sorted_drop (suc n) [] h = h
sorted_drop (suc n) (x ∷ xs) h = sorted_drop n xs h.1

pub drop-In : (n : ℕ) (xs : List ℕ) (x : ℕ) → In x (drop n xs) → In x xs
drop-In n xs x i = subst (λ z. In x z) (take-append-drop n xs) (In-right x (take n xs) (drop n xs) i)

-- of sorted numbers what is in front isn't behind
pub sorted_apart : (xs ys : List ℕ) (n : ℕ) → Sorted (xs ++ ys) → In n xs → In n ys → ⊥
sorted_apart [] ys n h i j = i
sorted_apart (x ∷ xs) ys n h (inl q) j = let l = h.0 n (In-right n xs ys j) in omega (arith, l, q)
sorted_apart (x ∷ xs) ys n h (inr i) j = sorted_apart xs ys n h.1 i j

-- ---- the newest

get_last : (xs : List ℕ) (n : ℕ) → get_or (xs ++ n ∷ []) (length xs) 0 ≡ n
get_last [] n = refl
get_last (x ∷ xs) n = get_last xs n

pub newest_last : (xs : List ℕ) (n : ℕ) → newest_log (xs ++ n ∷ []) ≡ n
newest_last xs n =
    let e : length (xs ++ n ∷ []) - 1 ≡ length xs = let l = length-append xs (n ∷ []) in omega (arith, l) in
    ap (λ k. get_or (xs ++ n ∷ []) k 0) e ∙ get_last xs n

-- a last number, above the others
pub record Newest (ns : List ℕ) : Type 0 where
  pub older : List ℕ
  pub is : ns ≡ older ++ newest_log ns ∷ []
  pub above : (n : ℕ) → In n older → n < newest_log ns
  pub top : (n : ℕ) → In n ns → n ≤ newest_log ns

split_last : (ns : List ℕ) → 1 ≤ length ns → (older : List ℕ) × (n : ℕ) × (ns ≡ older ++ n ∷ [])
split_last [] some = absurd (omega (arith, some))
split_last (n ∷ []) some = ([], n, refl)
split_last (n ∷ k ∷ ns) some = let r = split_last (k ∷ ns) (omega arith) in (n ∷ r.0, r.1, ap (λ z. n ∷ z) r.2)

before_last : (xs : List ℕ) (n m : ℕ) → Sorted (xs ++ n ∷ []) → In m xs → m < n
before_last [] n m h i = absurd i
before_last (x ∷ xs) n m h (inl q) = let l = h.0 n (In-right n xs (n ∷ []) (inl refl)) in omega (arith, l, q)
before_last (x ∷ xs) n m h (inr i) = before_last xs n m h.1 i

pub newest_of : (ns : List ℕ) → 1 ≤ length ns → Sorted ns → Newest ns
newest_of ns some h =
    let r = split_last ns some in
    let e : newest_log ns ≡ r.1 = ap newest_log r.2 ∙ newest_last r.0 r.1 in
    let low : (n : ℕ) → In n r.0 → n < newest_log ns = λ n i. let l = before_last r.0 r.1 n (subst Sorted r.2 h) i in omega (arith, l, e) in
    record {
      older = r.0;
      is = r.2 ∙ ap (λ z. r.0 ++ z ∷ []) (sym e);
      above = low;
      top = λ n i. elim (In-append n r.0 (r.1 ∷ []) (subst (λ z. In n z) r.2 i)) [
        | inl j ↦ let l = low n j in omega (arith, l)
        | inr j ↦ elim j [ inl q ↦ omega (arith, q, e) | inr b ↦ absurd b ]
      ];
    }
