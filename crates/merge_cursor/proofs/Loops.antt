-- The loops that look for the lowest and the highest side, from the end on.
use Rattle.std.proofs.Common.{◌≡◌, ℕ, zero, suc, ◌-◌, ◌<◌, ◌≤◌, Bool, true, false, List, [], ◌∷◌, length, get_or, set, Option, Some, None, refl, sym, ap, ◌∙◌, ◌⊎◌, inl, inr, not, arith}
use Rattle.std.specs.Prelude.{slice_get}
use Rattle.std.proofs.Math.Seq.{map-set_same}
use Rattle.ts_key.specs.Order.{SortKey, is_before}
use Rattle.ts_key.specs.Items.{Item}
use Rattle.ts_key.specs.Orders.{before_itself, before_back, upto_before, upto_upto}
use Rattle.ts_key.specs.Ordered.{not_false}
use Rattle.merge_cursor.specs.Sides.{Side, side, sides, front, back, front_of, back_of, is_lower, is_first, is_higher, IsLow, IsTop}
use Rattle.std.proofs.lemmas.Bool.{cases_eq, cases_lt}

pub first_some : (a b : Option SortKey) → true ≡ is_first a b → a ≡ None → ⊥
first_some None b y q = cc
first_some (Some a) b y q = cc

pub higher_some : (a b : Option SortKey) → true ≡ is_higher a b → a ≡ None → ⊥
higher_some None b y q = cc
higher_some (Some a) b y q = cc

-- ---- the lowest of places

first_not_lower : (a b : Option SortKey) → true ≡ is_first a b → is_lower b a ≡ false
first_not_lower None b h = absurd cc
first_not_lower (Some a) b h = not_false (is_lower b (Some a)) (sym h)

lower_self : (a : Option SortKey) → is_lower a a ≡ false
lower_self None = refl
lower_self (Some a) = before_itself a

lower_trans : (a b c : Option SortKey) → is_lower a b ≡ false → is_lower b c ≡ false → is_lower a c ≡ false
lower_trans None b c x y = refl
lower_trans (Some a) None c x y = absurd cc
lower_trans (Some a) (Some b) None x y = absurd cc
lower_trans (Some a) (Some b) (Some c) x y = upto_upto c b a y x

not_not : (b : Bool) → false ≡ not b → b ≡ true
not_not true e = refl
not_not false e = absurd cc

lower_back : (a b : Option SortKey) → is_lower a b ≡ true → is_lower b a ≡ false
lower_back None b h = absurd cc
lower_back (Some a) None h = refl
lower_back (Some a) (Some b) h = before_back a b h

-- a key that isn't first
off_lower : (key best : Option SortKey) → false ≡ is_first key best → is_lower key best ≡ false
off_lower None best h = refl
off_lower (Some k) best h = lower_back best (Some k) (not_not (is_lower best (Some k)) h)

off_first : (key best : Option SortKey) (p : SortKey) → best ≡ Some p → false ≡ is_first key best → is_lower (Some p) key ≡ true
off_first None best p e h = refl
off_first (Some k) best p e h = ap (λ b. is_lower b (Some k)) (sym e) ∙ not_not (is_lower best (Some k)) h

-- ---- the highest of places

higher_self : (a : Option SortKey) → is_higher a a ≡ false
higher_self None = refl
higher_self (Some a) = before_itself a

on_last : (b key best : Option SortKey) (p : SortKey) → key ≡ Some p → is_higher b best ≡ false → true ≡ is_higher key best → is_higher (Some p) b ≡ true
on_last None key best p e x y = refl
on_last (Some b) key None p e x y = absurd cc
on_last (Some b) key (Some t) p e x y =
    let z : is_before t p ≡ true = ap (λ k. is_higher k (Some t)) (sym e) ∙ sym y in
    upto_before b t p x z

on_most : (b key best : Option SortKey) → is_higher b best ≡ false → true ≡ is_higher key best → is_higher b key ≡ false
on_most b None best x y = absurd cc
on_most None (Some p) best x y = refl
on_most (Some b) (Some p) best x y = before_back b p (on_last (Some b) (Some p) best p refl x y)

-- ---- the sides from i on

pub record LowFrom (ss : List Side) (i low : ℕ) (best : Option SortKey) : Type 0 where
  pub least : (k : ℕ) (d : Side) → i ≤ k → k < length ss → is_lower (front (get_or ss k d)) best ≡ false
  pub first : (p : SortKey) → best ≡ Some p → (k : ℕ) (d : Side) → i ≤ k → k < low → k < length ss → is_lower (Some p) (front (get_or ss k d)) ≡ true

pub record TopFrom (ss : List Side) (i top : ℕ) (best : Option SortKey) : Type 0 where
  pub most : (k : ℕ) (d : Side) → i ≤ k → k < length ss → is_higher (back (get_or ss k d)) best ≡ false
  pub last : (p : SortKey) → best ≡ Some p → (k : ℕ) (d : Side) → i ≤ k → top < k → k < length ss → is_higher (Some p) (back (get_or ss k d)) ≡ true
  pub from : i ≤ top

pub low_end : (ss : List Side) (i low : ℕ) → length ss ≤ i → LowFrom ss i low None
low_end ss i low l = record {
  least = λ k d o m. absurd (omega arith);
  first = λ p e k d o n m. absurd (omega arith);
}

pub top_end : (ss : List Side) (i : ℕ) → length ss ≤ i → TopFrom ss i i None
top_end ss i l = record {
  most = λ k d o m. absurd (omega arith);
  last = λ p e k d o n m. absurd (omega arith);
  from = omega arith;
}

module _ (ss : List Side) (i : ℕ) (best key : Option SortKey) (pos : 0 < i) where
  -- the one at i - 1, or one after it
  one_of : (k : ℕ) → i - 1 ≤ k → (k ≡ i - 1) ⊎ (i ≤ k)
  one_of k l = elim (cases_eq k (i - 1)) [ inl e ↦ inl e | inr ne ↦ inr (after k l ne) ]
    where
      after : (k : ℕ) → i - 1 ≤ k → (k ≡ i - 1 → ⊥) → i ≤ k
      after k l ne = elim (cases_lt k i) [ inl m ↦ absurd (ne (omega arith)) | inr g ↦ g ]

  pub low_on : (low : ℕ) → LowFrom ss i low best → ((d : Side) → front (get_or ss (i - 1) d) ≡ key) → true ≡ is_first key best → LowFrom ss (i - 1) (i - 1) key
  low_on low h at y = record {
    least = λ k d o m. elim (one_of k o) [
      | inl e ↦ ap (λ b. is_lower b key) (ap (λ (n : ℕ). front (get_or ss n d)) e ∙ at d) ∙ lower_self key
      | inr g ↦ lower_trans (front (get_or ss k d)) best key (h.least k d g m) (first_not_lower key best y)
    ];
    first = λ p e k d o n m. absurd (omega arith);
  }

  pub low_off : (low : ℕ) → LowFrom ss i low best → ((d : Side) → front (get_or ss (i - 1) d) ≡ key) → false ≡ is_first key best → LowFrom ss (i - 1) low best
  low_off low h at y = record {
    least = λ k d o m. elim (one_of k o) [
      | inl e ↦ ap (λ b. is_lower b best) (ap (λ (n : ℕ). front (get_or ss n d)) e ∙ at d) ∙ off_lower key best y
      | inr g ↦ h.least k d g m
    ];
    first = λ p q k d o n m. elim (one_of k o) [
      | inl e ↦ ap (is_lower (Some p)) (ap (λ (n : ℕ). front (get_or ss n d)) e ∙ at d) ∙ off_first key best p q y
      | inr g ↦ h.first p q k d g n m
    ];
  }

  pub top_on : (top : ℕ) → TopFrom ss i top best → ((d : Side) → back (get_or ss (i - 1) d) ≡ key) → true ≡ is_higher key best → TopFrom ss (i - 1) (i - 1) key
  top_on top h at y = record {
    most = λ k d o m. elim (one_of k o) [
      | inl e ↦ ap (λ b. is_higher b key) (ap (λ (n : ℕ). back (get_or ss n d)) e ∙ at d) ∙ higher_self key
      | inr g ↦ on_most (back (get_or ss k d)) key best (h.most k d g m) y
    ];
    last = λ p q k d o n m. on_last (back (get_or ss k d)) key best p q (h.most k d (omega arith) m) y;
    from = omega arith;
  }

  pub top_off : (top : ℕ) → TopFrom ss i top best → ((d : Side) → back (get_or ss (i - 1) d) ≡ key) → false ≡ is_higher key best → TopFrom ss (i - 1) top best
  top_off top h at y = record {
    most = λ k d o m. elim (one_of k o) [
      | inl e ↦ ap (λ b. is_higher b best) (ap (λ (n : ℕ). back (get_or ss n d)) e ∙ at d) ∙ sym y
      | inr g ↦ h.most k d g m
    ];
    last = λ p q k d o n m. h.last p q k d (let f = h.from in omega (arith, f)) n m;
    from = let f = h.from in omega (arith, f);
  }

-- all of them
pub is_low : (ss : List Side) (i low : ℕ) (best : Option SortKey) → i ≡ 0 → LowFrom ss i low best → front_of (slice_get ss low) ≡ best → (best ≡ None → length ss ≤ low) → IsLow ss low
is_low ss i low best z h e n = record {
  least = λ k d l. ap (is_lower (front (get_or ss k d))) e ∙ h.least k d (omega (arith, z)) l;
  first = λ p q k d o l. h.first p (sym e ∙ q) k d (omega (arith, z)) o l;
  none = λ q. n (sym e ∙ q);
}

pub is_top : (ss : List Side) (i top : ℕ) (best : Option SortKey) → i ≡ 0 → TopFrom ss i top best → back_of (slice_get ss top) ≡ best → (best ≡ None → length ss ≤ top) → IsTop ss top
is_top ss i top best z h e n = record {
  most = λ k d l. ap (is_higher (back (get_or ss k d))) e ∙ h.most k d (omega (arith, z)) l;
  last = λ p q k d o l. h.last p (sym e ∙ q) k d (omega (arith, z)) o l;
  none = λ q. n (sym e ∙ q);
}

module _ {C : Type 0} (items : C → List Item) (place : C → ℕ) where
  pub side_at : (cs : List C) (k : ℕ) (c : C) → k < length cs → c ≡ get_or cs k c → slice_get (sides items place cs) k ≡ Some (side items place c)
  side_at [] k c l is = absurd (omega arith)
  side_at (x ∷ xs) zero c l is = ap (λ (y : C). Some (side items place y)) (sym is)
  side_at (x ∷ xs) (suc k) c l is = side_at xs k c (omega arith) is

  pub side_or : (cs : List C) (k : ℕ) (c : C) (d : Side) → k < length cs → c ≡ get_or cs k c → get_or (sides items place cs) k d ≡ side items place c
  side_or [] k c d l is = absurd (omega arith)
  side_or (x ∷ xs) zero c d l is = ap (side items place) (sym is)
  side_or (x ∷ xs) (suc k) c d l is = side_or xs k c d (omega arith) is

  -- no side is left after the last
  past : (cs : List C) → slice_get (sides items place cs) (length cs) ≡ None
  past [] = refl
  past (x ∷ xs) = past xs

  pub front_end : (cs : List C) → front_of (slice_get (sides items place cs) (length cs)) ≡ None
  front_end cs = ap front_of (past cs)

  pub back_end : (cs : List C) → back_of (slice_get (sides items place cs) (length cs)) ≡ None
  back_end cs = ap back_of (past cs)

  -- a cursor that moved and came back
  pub side_same : (a b : C) → items a ≡ items b → place a ≡ place b → side items place a ≡ side items place b
  side_same a b e q = λ i. record { versions = e i; passed = q i - 1 }

  pub sides_same : (cs : List C) (k : ℕ) (c x : C) → c ≡ get_or cs k c → items x ≡ items c → place x ≡ place c → sides items place (set cs k x) ≡ sides items place cs
  sides_same cs k c x is e q = map-set_same (side items place) cs k x c (side_same x c e q ∙ ap (side items place) is)
