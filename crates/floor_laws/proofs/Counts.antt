-- How many versions have a sequence.
use Rattle.std.proofs.Common.{◌≡◌, ◌≢◌, ℕ, zero, suc, ◌+◌, ◌<◌, ◌≤◌, Bool, true, List, [], ◌∷◌, ◌++◌, length, map, refl, sym, ap, ◌∙◌, arith, inl, inr}
use Rattle.std.specs.List.{filter}
use Rattle.std.specs.Prelude.{AllPairs, ◌==◌, if◌then◌else◌, slice_index_or}
use Rattle.std.proofs.lemmas.Bool.{cases_Bool, eqb-true, eq-eqb, ne_eqb}
use Rattle.ts_key.specs.declared.version.Version.{Version}
use Rattle.udt_model.specs.Orders.{is_version_before, with_version, stored}
use Rattle.udt_model.specs.Collecting.{without_ts}
use Rattle.floor_laws.proofs.Members.{In}
use Rattle.floor_laws.proofs.Best.{Single}

abbrev pub count : ℕ → List Version → ℕ
count q [] = 0
count q (v ∷ vs) = (if v.seq.0 == q then 1 else 0) + count q vs

-- no two places have one sequence
abbrev pub Distinct : List Version → Type 0
Distinct w = (q : ℕ) → count q w ≤ 1

pub count-append : (q : ℕ) (xs ys : List Version) → count q (xs ++ ys) ≡ count q xs + count q ys
count-append q [] ys = omega arith
count-append q (x ∷ xs) ys = let h = count-append q xs ys in omega (arith, h)

pub count-filter : (q : ℕ) (p : Version → Bool) (xs : List Version) → count q (filter p xs) ≤ count q xs
count-filter q p [] = omega arith
count-filter q p (x ∷ xs) =
    let h = count-filter q p xs in
    elim (cases_Bool (p x)) [ inl y ↦ rw y (omega (arith, h)) | inr y ↦ rw y (omega (arith, h)) ]

pub count-without_ts : (q : ℕ) (xs : List Version) → count q (map without_ts xs) ≡ count q xs
count-without_ts q [] = refl
count-without_ts q (x ∷ xs) = ap (λ n. (if x.seq.0 == q then 1 else 0) + n) (count-without_ts q xs)

pub count-none : (q : ℕ) (xs : List Version) → ((v : Version) → In v xs → v.seq.0 ≡ q → ⊥) → count q xs ≡ 0
count-none q [] h = refl
count-none q (x ∷ xs) h =
    let a = ne_eqb x.seq.0 q (h x (inl refl)) in
    let b = count-none q xs (λ v i. h v (inr i)) in
    rw (a, b) refl

pub count_some : (v : Version) (vs : List Version) → In v vs → 1 ≤ count v.seq.0 vs
count_some v [] i = absurd i
count_some v (x ∷ xs) (inl q) = let e : (x.seq.0 == v.seq.0) ≡ true = eq-eqb x.seq.0 v.seq.0 (ap (λ (z : Version). z.seq.0) q) in rw e (omega arith)
count_some v (x ∷ xs) (inr i) = let r = count_some v xs i in omega (arith, r)

count-with_version : (q : ℕ) (v : Version) (xs : List Version) → count q (with_version v xs) ≡ (if v.seq.0 == q then 1 else 0) + count q xs
count-with_version q v [] = refl
count-with_version q v (x ∷ xs) =
    elim (cases_Bool (is_version_before x v)) [
      | inl y ↦ let h = count-with_version q v xs in rw y (omega (arith, h))
      | inr y ↦ rw y refl
    ]

pub count-stored : (q : ℕ) (xs : List Version) → count q (stored xs) ≡ count q xs
count-stored q [] = refl
count-stored q (x ∷ xs) = count-with_version q x (stored xs) ∙ ap (λ n. (if x.seq.0 == q then 1 else 0) + n) (count-stored q xs)

-- ---- distinct lists

pub distinct_head : (v : Version) (vs : List Version) → Distinct (v ∷ vs) → (u : Version) → In u vs → u.seq.0 ≡ v.seq.0 → ⊥
distinct_head v vs h u i q =
    let a = h v.seq.0 in
    let y : (v.seq.0 == v.seq.0) ≡ true = eq-eqb v.seq.0 v.seq.0 refl in
    let b : 1 + count v.seq.0 vs ≤ 1 = rw y at a in
    let c = count_some u vs i in
    let e : count u.seq.0 vs ≡ count v.seq.0 vs = ap (λ n. count n vs) q in
    omega (arith, b, c, e)

pub distinct_tail : (v : Version) (vs : List Version) → Distinct (v ∷ vs) → Distinct vs
distinct_tail v vs h q = let a = h q in omega (arith, a)

pub distinct_single : (vs : List Version) → Distinct vs → Single vs
distinct_single [] h a b i j q = absurd i
distinct_single (v ∷ vs) h a b (inl i) (inl j) q = sym i ∙ j
distinct_single (v ∷ vs) h a b (inl i) (inr j) q = absurd (distinct_head v vs h b j (sym q ∙ sym (ap (λ (z : Version). z.seq.0) i)))
distinct_single (v ∷ vs) h a b (inr i) (inl j) q = absurd (distinct_head v vs h a i (q ∙ sym (ap (λ (z : Version). z.seq.0) j)))
distinct_single (v ∷ vs) h a b (inr i) (inr j) q = distinct_single vs (distinct_tail v vs h) a b i j q

at-In : (vs : List Version) (i : ℕ) (d : Version) → i < length vs → In (slice_index_or vs i d) vs
at-In [] i d h = absurd (omega arith)
at-In (v ∷ vs) zero d h = inl refl
at-In (v ∷ vs) (suc i) d h = inr (at-In vs i d (omega arith))

pub distinct_pairs : (vs : List Version) → Distinct vs → AllPairs (λ (a b : Version). a.seq.0 ≢ b.seq.0) vs
distinct_pairs [] h i j d lt l = absurd (omega arith)
distinct_pairs (v ∷ vs) h i zero d lt l = absurd (omega arith)
distinct_pairs (v ∷ vs) h zero (suc j) d lt l = λ e. distinct_head v vs h (slice_index_or vs j d) (at-In vs j d (omega arith)) (sym e)
distinct_pairs (v ∷ vs) h (suc i) (suc j) d lt l = distinct_pairs vs (distinct_tail v vs h) i j d (omega arith) (omega arith)

place_of : (v : Version) (vs : List Version) → In v vs → (k : ℕ) × (k < length vs) × (slice_index_or vs k v ≡ v)
place_of v [] i = absurd i
place_of v (x ∷ xs) (inl q) = (0, omega arith, q)
place_of v (x ∷ xs) (inr i) = let r = place_of v xs i in let l = r.1 in (suc r.0, omega (arith, l), r.2)

pub pairs_distinct : (vs : List Version) → AllPairs (λ (a b : Version). a.seq.0 ≢ b.seq.0) vs → Distinct vs
pairs_distinct [] h q = omega arith
pairs_distinct (v ∷ vs) h q =
    elim (cases_Bool (v.seq.0 == q)) [
      | inl y ↦
          let e = eqb-true v.seq.0 q y in
          let z = count-none q vs (λ u i k.
          let r = place_of u vs i in
          let l = r.1 in
          h 0 (suc r.0) u (omega arith) (omega (arith, l)) (e ∙ sym k ∙ sym (ap (λ (x : Version). x.seq.0) r.2))) in
          rw (y, z) (omega arith)
      | inr y ↦ let r = pairs_distinct vs (λ i j d lt l. h (suc i) (suc j) d (omega (arith, lt)) (omega (arith, l))) q in rw y (omega (arith, r))
    ]
