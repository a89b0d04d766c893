-- The greatest timestamp of a key, by what is in a list.
use Rattle.std.proofs.Common.{◌≡◌, ◌⊎◌, ℕ, ◌≤◌, true, false, List, [], ◌∷◌, max, Option, Some, None, refl, sym, ap, ◌∙◌, subst, arith, inl, inr}
use Rattle.std.specs.Prelude.{option_map}
use Rattle.std.proofs.lemmas.Bool.{cases_Bool, cases_lt, false≢true}
use Rattle.std.proofs.lemmas.Bool.Decides.{nat_tests}
use Rattle.ts_key.specs.declared.batch.WriteOp.{WriteOp}
use Rattle.ts_key.specs.declared.numbers.Family.{Family}
use Rattle.ts_key.specs.declared.version.Version.{Version}
use Rattle.ts_key.specs.Items.{Item}
use Rattle.ts_key.specs.Visible as items
use Rattle.memtable.specs.Memtables.{greater}
use Rattle.udt_model.specs.Versions.{is_newer, is_of, newest_of, of_key}
use Rattle.super_version.proofs.Greatest.{newest_ts-append}
use Rattle.floor_laws.proofs.Members.{In}
use Rattle.floor_laws.proofs.Best.{Best, best_filter}
use Rattle.store_engine.specs.Admission.{is_on_key, latest_at, stamp_at}

-- ---- the greatest number with a property, where there is one

abbrev pub Top : (ℕ → Type 0) → Option ℕ → Type 0
Top P None = (n : ℕ) → P n → ⊥
Top P (Some n) = P n × ((k : ℕ) → P k → k ≤ n)

pub top_once : (P : ℕ → Type 0) (a b : Option ℕ) → Top P a → Top P b → a ≡ b
top_once P None None x y = refl
top_once P None (Some n) x y = absurd (x n y.0)
top_once P (Some n) None x y = absurd (y n x.0)
top_once P (Some n) (Some k) x y = let l = x.1 k y.0 in let g = y.1 n x.0 in let e : n ≡ k = omega (arith, l, g) in ap Some e

pub top_same : (P Q : ℕ → Type 0) (a : Option ℕ) → ((n : ℕ) → P n → Q n) → ((n : ℕ) → Q n → P n) → Top P a → Top Q a
top_same P Q None to from h = λ n q. h n (from n q)
top_same P Q (Some n) to from h = (to n h.0, λ k q. h.1 k (from k q))

pub top_both : (P Q : ℕ → Type 0) (a b : Option ℕ) → Top P a → Top Q b → Top (λ n. P n ⊎ Q n) (greater a b)
top_both P Q None None x y = λ n e. elim e [ inl p ↦ x n p | inr q ↦ y n q ]
top_both P Q None (Some k) x y = (inr y.0, λ n e. elim e [ inl p ↦ absurd (x n p) | inr q ↦ y.1 n q ])
top_both P Q (Some n) None x y = (inl x.0, λ k e. elim e [ inl p ↦ x.1 k p | inr q ↦ absurd (y k q) ])
top_both P Q (Some n) (Some k) x y = elim (cases_lt n k) [
  | inl l ↦
      let e : k ≡ max n k = omega (arith, l) in
      (inr (subst Q e y.0), λ j h. elim h [ inl p ↦ let u = x.1 j p in omega (arith, u) | inr q ↦ let u = y.1 j q in omega (arith, u) ])
  | inr l ↦
      let e : n ≡ max n k = omega (arith, l) in
      (inl (subst P e x.0), λ j h. elim h [ inl p ↦ let u = x.1 j p in omega (arith, u) | inr q ↦ let u = y.1 j q in omega (arith, u) ])
]

-- ---- versions

-- the timestamp of a version, where there is one
abbrev pub stamp_of : Option Version → Option ℕ
stamp_of o = option_map (λ v. v.ts.0) o

-- a version of the list on this key has this timestamp
abbrev pub IsStampIn : List Version → Family → List ℕ → ℕ → Type 0
IsStampIn vs family key n = (v : Version) × In v vs × (is_of family key v ≡ true) × (v.ts.0 ≡ n)

not_newer_upto : (u v : Version) → is_newer u v ≡ false → u.ts.0 ≤ v.ts.0
not_newer_upto u v h = grind (arith, nat_tests)

best_top : (vs : List Version) (family : Family) (key : List ℕ) (o : Option Version) → Best vs (is_of family key) o → Top (IsStampIn vs family key) (stamp_of o)
best_top vs family key None b = λ n s. b s.0 s.1 s.2
best_top vs family key (Some v) b = ((v, b.there, b.fit, refl), λ k s. let l = not_newer_upto s.0 v (b.top s.0 s.1 s.2) in let e = s.3 in omega (arith, l, e))

pub top_newest : (vs : List Version) (family : Family) (key : List ℕ) → Top (IsStampIn vs family key) (stamp_of (newest_of (of_key vs family key)))
top_newest vs family key = best_top vs family key (newest_of (of_key vs family key)) (best_filter (is_of family key) vs)

-- ---- versions without their family

abbrev pub IsStampOf : List Item → List ℕ → ℕ → Type 0
IsStampOf vs key n = (v : Item) × In v vs × (items.is_item_of key v ≡ true) × (v.sort_key.ts ≡ n)

top_one : (v : Item) (key : List ℕ) → Top (IsStampOf (v ∷ []) key) (items.newest_ts (v ∷ []) key)
top_one v key = elim (cases_Bool (items.is_item_of key v)) [
  | inl y ↦ rw y (
    (v, inl refl, y, refl),
    λ k s. elim s.1 [
      | inl q ↦ let e : v.sort_key.ts ≡ k = ap (λ (x : Item). x.sort_key.ts) q ∙ s.3 in omega (arith, e)
      | inr b ↦ absurd b
    ],
  )
  | inr y ↦ rw y (λ n s. elim s.1 [
    | inl q ↦ false≢true (sym y ∙ ap (items.is_item_of key) q ∙ s.2)
    | inr b ↦ b
  ])
]

pub top_items : (vs : List Item) (key : List ℕ) → Top (IsStampOf vs key) (items.newest_ts vs key)
top_items [] key = λ n s. s.1
top_items (v ∷ vs) key =
    subst (Top (IsStampOf (v ∷ vs) key)) (sym (newest_ts-append (v ∷ []) vs key))
    (top_same (λ n. IsStampOf (v ∷ []) key n ⊎ IsStampOf vs key n) (IsStampOf (v ∷ vs) key) (greater (items.newest_ts (v ∷ []) key) (items.newest_ts vs key))
    (λ n h. elim h [
      | inl s ↦ (s.0, elim s.1 [ inl q ↦ inl q | inr b ↦ absurd b ], s.2, s.3)
      | inr s ↦ (s.0, inr s.1, s.2, s.3)
    ])
    (λ n s. elim s.1 [ inl q ↦ inl (s.0, inl q, s.2, s.3) | inr i ↦ inr (s.0, i, s.2, s.3) ])
    (top_both (IsStampOf (v ∷ []) key) (IsStampOf vs key) (items.newest_ts (v ∷ []) key) (items.newest_ts vs key) (top_one v key) (top_items vs key)))

-- ---- operations

abbrev pub IsStampOn : List WriteOp → Family → List ℕ → ℕ → Type 0
IsStampOn ops family key n = (o : WriteOp) × In o ops × (is_on_key family key o ≡ true) × (o.ts.0 ≡ n)

top_op : (o : WriteOp) (family : Family) (key : List ℕ) → Top (IsStampOn (o ∷ []) family key) (stamp_at family key o)
top_op o family key = elim (cases_Bool (is_on_key family key o)) [
  | inl y ↦ rw y (
    (o, inl refl, y, refl),
    λ k s. elim s.1 [
      | inl q ↦ let e : o.ts.0 ≡ k = ap (λ (x : WriteOp). x.ts.0) q ∙ s.3 in omega (arith, e)
      | inr b ↦ absurd b
    ],
  )
  | inr y ↦ rw y (λ n s. elim s.1 [
    | inl q ↦ false≢true (sym y ∙ ap (is_on_key family key) q ∙ s.2)
    | inr b ↦ b
  ])
]

pub top_ops : (ops : List WriteOp) (family : Family) (key : List ℕ) → Top (IsStampOn ops family key) (latest_at family key ops)
top_ops [] family key = λ n s. s.1
top_ops (o ∷ ops) family key =
    top_same (λ n. IsStampOn (o ∷ []) family key n ⊎ IsStampOn ops family key n) (IsStampOn (o ∷ ops) family key) (greater (stamp_at family key o) (latest_at family key ops))
    (λ n h. elim h [
      | inl s ↦ (s.0, elim s.1 [ inl q ↦ inl q | inr b ↦ absurd b ], s.2, s.3)
      | inr s ↦ (s.0, inr s.1, s.2, s.3)
    ])
    (λ n s. elim s.1 [ inl q ↦ inl (s.0, inl q, s.2, s.3) | inr i ↦ inr (s.0, i, s.2, s.3) ])
    (top_both (IsStampOn (o ∷ []) family key) (IsStampOn ops family key) (stamp_at family key o) (latest_at family key ops) (top_op o family key) (top_ops ops family key))
