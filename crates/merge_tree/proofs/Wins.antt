-- Who goes before whom, and which games are still won when one is played again.
use Rattle.std.proofs.Common.{◌≡◌, ◌≢◌, ℕ, zero, suc, ◌+◌, ◌-◌, ◌*◌, ◌/◌, ◌<◌, ◌≤◌, true, false, List, length, get_or, set, Option, Some, None, refl, sym, ap, subst, ◌∙◌, ◌⊎◌, inl, inr, arith}
use Rattle.std.specs.Prelude.{All, slice_get, nat_lt}
use Rattle.std.proofs.lemmas.Bool.{cases_eq, cases_lt, lt-ltb}
use Rattle.std.proofs.lemmas.List.{length-set, get_or-set_other, get_or-set_same}
use Rattle.std.proofs.lemmas.List.Elements.{All-get_or}
use Rattle.std.proofs.lemmas.Option.{slice_get-get_or, slice_get_past}
use Rattle.ts_key.specs.Order.{SortKey}
use Rattle.ts_key.specs.Orders.{before_back, before_itself, before_upto, upto_before, upto_upto}
use Rattle.merge_cursor.specs.Sides.{Side, front, front_of, is_lower, IsLow}
use Rattle.merge_cursor.proofs.Steps.{none_some}
use Rattle.merge_tree.specs.Games.{AreWon, AreWonBut, GoesBefore, IsAbove, IsBetter, IsWon, front_at, halved, winner_at}

-- ---- who goes before whom

lower_self : (a : Option SortKey) → is_lower a a ≡ false
lower_self None = refl
lower_self (Some a) = before_itself a

lower_trans : (a b c : Option SortKey) → is_lower a b ≡ false → is_lower b c ≡ false → is_lower a c ≡ false
lower_trans None b c x y = refl
lower_trans (Some a) None c x y = absurd cc
lower_trans (Some a) (Some b) None x y = absurd cc
lower_trans (Some a) (Some b) (Some c) x y = upto_upto c b a y x

lower_back : (a b : Option SortKey) → is_lower a b ≡ true → is_lower b a ≡ false
lower_back None b h = absurd cc
lower_back (Some a) None h = refl
lower_back (Some a) (Some b) h = before_back a b h

-- a key before one that stands no higher than another
on_to : (b c : Option SortKey) (p : SortKey) → is_lower (Some p) b ≡ true → is_lower c b ≡ false → is_lower (Some p) c ≡ true
on_to b None p x y = refl
on_to None (Some r) p x y = absurd cc
on_to (Some q) (Some r) p x y = before_upto p q r x y

through : (a b c : Option SortKey) (p : SortKey) → a ≡ Some p → is_lower b a ≡ false → is_lower c b ≡ false → ((q : SortKey) → b ≡ Some q → is_lower (Some q) c ≡ true) → is_lower (Some p) c ≡ true
through a b None p e x y h = refl
through a None (Some r) p e x y h = absurd cc
through a (Some q) (Some r) p e x y h = upto_before p q r (ap (is_lower (Some q)) (sym e) ∙ x) (h q refl)

module _ (ss : List Side) where
  itself : (i : ℕ) → GoesBefore ss i i
  itself i = record { least = lower_self (front_at ss i); first = λ p e l. absurd (omega arith) }

  goes_on : (i j k : ℕ) → GoesBefore ss i j → GoesBefore ss j k → GoesBefore ss i k
  goes_on i j k x y = record {
    least = lower_trans (front_at ss k) (front_at ss j) (front_at ss i) y.least x.least;
    first = λ p e l. elim (cases_lt j i) [
      | inl m ↦ on_to (front_at ss j) (front_at ss k) p (x.first p e m) y.least
      | inr g ↦ through (front_at ss i) (front_at ss j) (front_at ss k) p e x.least y.least (λ q f. y.first q f (omega arith))
    ];
  }

  pub later_better : (a b : ℕ) → a ≤ b → true ≡ is_lower (front_at ss b) (front_at ss a) → IsBetter ss a b b
  later_better a b o h = record {
    one = λ n. refl;
    left = record {
      least = lower_back (front_at ss b) (front_at ss a) (sym h);
      first = λ p e l. ap (λ f. is_lower f (front_at ss a)) (sym e) ∙ sym h;
    };
    right = itself b;
  }

  pub earlier_better : (a b : ℕ) → a ≤ b → false ≡ is_lower (front_at ss b) (front_at ss a) → IsBetter ss a b a
  earlier_better a b o h = record {
    one = λ n. absurd (n refl);
    left = itself a;
    right = record { least = sym h; first = λ p e l. absurd (omega arith) };
  }

  pub turned : (a b best : ℕ) → IsBetter ss b a best → IsBetter ss a b best
  turned a b best h = record {
    one = λ n. elim (cases_eq best b) [ inl e ↦ e | inr ne ↦ absurd (n (h.one ne)) ];
    left = h.right;
    right = h.left;
  }

  pub same_better : (a a' b b' best best' : ℕ) → a ≡ a' → b ≡ b' → best ≡ best' → IsBetter ss a b best → IsBetter ss a' b' best'
  same_better a a' b b' best best' e f g h = subst (λ x. IsBetter ss a' b' x) g (subst (λ x. IsBetter ss a' x best) f (subst (λ x. IsBetter ss x b best) e h))

-- ---- places

winner_leaf : (ws : List ℕ) (p : ℕ) → length ws ≤ p → winner_at ws p ≡ p - length ws
winner_leaf ws p l = let q : nat_lt p (length ws) ≡ false = lt-off p (length ws) l in rw q refl
  where
    lt-off : (p n : ℕ) → n ≤ p → nat_lt p n ≡ false
    lt-off p n l = grind arith

winner_inner : (ws : List ℕ) (p : ℕ) → p < length ws → winner_at ws p ≡ get_or ws p 0
winner_inner ws p l = let q : nat_lt p (length ws) ≡ true = lt-ltb p (length ws) l in rw q refl

pub winner_within : (ws : List ℕ) (p n : ℕ) → length ws ≡ n → All (λ w. w < n) ws → p < 2 * n → winner_at ws p < n
winner_within ws p n e h l = elim (cases_lt p (length ws)) [
  | inl m ↦ let q = winner_inner ws p m in let r : get_or ws p 0 < n = All-get_or (λ w. w < n) ws p 0 m h in omega (arith, q, r)
  | inr g ↦ let q = winner_leaf ws p g in omega (arith, q, e)
]

winner_set : (ws : List ℕ) (n w p : ℕ) → p ≢ n → winner_at (set ws n w) p ≡ winner_at ws p
winner_set ws n w p ne = rw (length-set ws n w, get_or-set_other ws n p w 0 ne) refl

winner_new : (ws : List ℕ) (n w : ℕ) → n < length ws → winner_at (set ws n w) n ≡ w
winner_new ws n w l = winner_inner (set ws n w) n (let q = length-set ws n w in omega (arith, q)) ∙ get_or-set_same ws n w 0 l

halved_on : (times p : ℕ) → halved (suc times) p ≡ halved times p / 2
halved_on zero p = refl
halved_on (suc times) p = halved_on times (p / 2)

-- ---- a game that is played again

module _ (ss : List Side) (ws : List ℕ) (n w : ℕ) (above : 1 ≤ n) (inside : n < length ws)
    (better : IsBetter ss (winner_at ws (2 * n)) (winner_at ws (2 * n + 1)) w)
  where
    still_won : (p : ℕ) → p ≢ n → 2 * p ≢ n → 2 * p + 1 ≢ n → IsWon ss ws p → IsWon ss (set ws n w) p
    still_won p a b c h =
        same_better ss (winner_at ws (2 * p)) (winner_at (set ws n w) (2 * p)) (winner_at ws (2 * p + 1)) (winner_at (set ws n w) (2 * p + 1)) (winner_at ws p) (winner_at (set ws n w) p)
        (sym (winner_set ws n w (2 * p) b)) (sym (winner_set ws n w (2 * p + 1) c)) (sym (winner_set ws n w p a)) h

    now_won : IsWon ss (set ws n w) n
    now_won =
        same_better ss (winner_at ws (2 * n)) (winner_at (set ws n w) (2 * n)) (winner_at ws (2 * n + 1)) (winner_at (set ws n w) (2 * n + 1)) w (winner_at (set ws n w) n)
        (sym (winner_set ws n w (2 * n) (λ e. omega (arith, e)))) (sym (winner_set ws n w (2 * n + 1) (λ e. omega (arith, e)))) (sym (winner_new ws n w inside)) better

    pub won_from : ((p : ℕ) → n < p → p < length ws → IsWon ss ws p) → (p : ℕ) → n ≤ p → p < length (set ws n w) → IsWon ss (set ws n w) p
    won_from h p l m = elim (cases_eq p n) [
      | inl e ↦ subst (λ q. IsWon ss (set ws n w) q) (sym e) now_won
      | inr ne ↦ still_won p ne (λ e. omega (arith, e)) (λ e. omega (arith, e)) (h p (omega (arith, ne)) (let q = length-set ws n w in omega (arith, q)))
    ]

    pub won_but : AreWonBut ss ws n → AreWonBut ss (set ws n w) (n / 2)
    won_but h p l m = elim (cases_eq p n) [
      | inl e ↦ inl (subst (λ q. IsWon ss (set ws n w) q) (sym e) now_won)
      | inr ne ↦ elim (h p l (let q = length-set ws n w in omega (arith, q))) [
        | inl won ↦ other p ne won
        | inr (times, e) ↦ inr (up p ne times e)
      ]
    ]
      where
        up : (p : ℕ) → (p ≢ n) → (times : ℕ) → halved times n ≡ p → IsAbove p (n / 2)
        up p ne zero e = absurd (ne (sym e))
        up p ne (suc times) e = (times, e)

        other : (p : ℕ) → (p ≢ n) → IsWon ss ws p → IsWon ss (set ws n w) p ⊎ IsAbove p (n / 2)
        other p ne won = elim (cases_eq p (n / 2)) [
          | inl e ↦ inr (0, sym e)
          | inr off ↦ inl (still_won p ne (λ e. off (omega (arith, e))) (λ e. off (omega (arith, e))) won)
        ]

-- the way ends above the top
pub won_all : (ss : List Side) (ws : List ℕ) → AreWonBut ss ws 0 → AreWon ss ws
won_all ss ws h p l m = elim (h p l m) [ inl won ↦ won | inr (times, e) ↦ absurd (none times (sym e)) ]
  where
    none : (times : ℕ) → p ≡ halved times 0 → ⊥
    none zero e = omega (arith, e)
    none (suc times) e = none times e

-- ---- a side that moves

module _ (ss : List Side) (ws : List ℕ) (won : AreWon ss ws) where
  leaf_above : (moved p : ℕ) → length ws ≤ p → winner_at ws p ≡ moved → IsAbove p (length ws + moved)
  leaf_above moved p g e = (0, let q = winner_leaf ws p g in omega (arith, q, e))

  half_above : (p q from : ℕ) → q / 2 ≡ p → IsAbove q from → IsAbove p from
  half_above p q from h a = (suc a.0, halved_on a.0 from ∙ ap (λ x. x / 2) a.1 ∙ h)

  -- a side has won only on the way from its leaf to the top
  on_way : (moved fuel p : ℕ) → 2 * length ws ≤ fuel + p → 1 ≤ p → winner_at ws p ≡ moved → IsAbove p (length ws + moved)
  on_way moved zero p f l e = leaf_above moved p (omega (arith, f)) e
  on_way moved (suc fuel) p f l e = elim (cases_lt p (length ws)) [
    | inr g ↦ leaf_above moved p g e
    | inl m ↦ elim (cases_eq (winner_at ws p) (winner_at ws (2 * p))) [
      | inl s ↦ half_above p (2 * p) (length ws + moved) (omega arith) (on_way moved fuel (2 * p) (omega (arith, f, l)) (omega (arith, l)) (sym s ∙ e))
      | inr ne ↦ half_above p (2 * p + 1) (length ws + moved) (omega arith) (on_way moved fuel (2 * p + 1) (omega (arith, f, l)) (omega (arith, l)) (sym ((won p l m).one ne) ∙ e))
    ]
  ]

  -- the top is the first of all
  top_first : (fuel p : ℕ) → p ≤ fuel → 1 ≤ p → p < 2 * length ws → GoesBefore ss (winner_at ws 1) (winner_at ws p)
  top_first zero p f l m = absurd (omega (arith, f, l))
  top_first (suc fuel) p f l m = elim (cases_eq p 1) [
    | inl e ↦ subst (λ q. GoesBefore ss (winner_at ws 1) (winner_at ws q)) (sym e) (itself ss (winner_at ws 1))
    | inr ne ↦
        let h = top_first fuel (p / 2) (omega (arith, f, l)) (omega (arith, l, ne)) (omega (arith, m)) in
        let g = won (p / 2) (omega (arith, l, ne)) (omega (arith, m)) in
        elim (cases_eq (2 * (p / 2)) p) [
          | inl e ↦ subst (λ q. GoesBefore ss (winner_at ws 1) (winner_at ws q)) e (goes_on ss (winner_at ws 1) (winner_at ws (p / 2)) (winner_at ws (2 * (p / 2))) h g.left)
          | inr off ↦ subst (λ q. GoesBefore ss (winner_at ws 1) (winner_at ws q)) (odd p off) (goes_on ss (winner_at ws 1) (winner_at ws (p / 2)) (winner_at ws (2 * (p / 2) + 1)) h g.right)
        ]
  ]
    where
      odd : (p : ℕ) → 2 * (p / 2) ≢ p → 2 * (p / 2) + 1 ≡ p
      odd p off = omega (arith, off)

  module _ (count : length ws ≡ length ss) where
    before_all : (k : ℕ) → k < length ss → GoesBefore ss (winner_at ws 1) k
    before_all k l = subst (λ q. GoesBefore ss (winner_at ws 1) q) (winner_leaf ws (length ws + k) (omega arith) ∙ omega arith) (top_first (length ws + k) (length ws + k) (omega arith) (omega (arith, l, count)) (omega (arith, l, count)))

    front_is : (k : ℕ) (d : Side) → k < length ss → front_at ss k ≡ front (get_or ss k d)
    front_is k d l = ap front_of (slice_get-get_or ss k d l)

    pub low_some : (p : SortKey) → front_at ss (winner_at ws 1) ≡ Some p → IsLow ss (winner_at ws 1)
    low_some p e = record {
      least = λ k d l. ap (λ f. is_lower f (front_at ss (winner_at ws 1))) (sym (front_is k d l)) ∙ (before_all k l).least;
      first = λ q f k d o l. ap (is_lower (Some q)) (sym (front_is k d l)) ∙ (before_all k l).first q f o;
      none = λ f. absurd (none_some p (sym e ∙ f));
    }

    pub low_none : front_at ss (winner_at ws 1) ≡ None → IsLow ss (length ss)
    low_none e =
        let past : front_of (slice_get ss (length ss)) ≡ None = ap front_of (slice_get_past ss (length ss) (omega arith)) in
        record {
          least = λ k d l. ap (is_lower (front (get_or ss k d))) past ∙ ap (λ f. is_lower f None) (sym (front_is k d l)) ∙ ap (is_lower (front_at ss k)) (sym e) ∙ (before_all k l).least;
          first = λ q f k d o l. absurd (none_some q (sym f ∙ past));
          none = λ f. omega arith;
        }

    pub some_low : (o : Option SortKey) → front_at ss (winner_at ws 1) ≡ o → (low : ℕ) × IsLow ss low
    some_low None e = (length ss, low_none e)
    some_low (Some p) e = (winner_at ws 1, low_some p e)

  -- the others are still won when one side has moved
  module _ (new : List Side) (moved : ℕ) (same : (i : ℕ) → i ≢ moved → front_at new i ≡ front_at ss i) where
    same_before : (i j : ℕ) → i ≢ moved → j ≢ moved → GoesBefore ss i j → GoesBefore new i j
    same_before i j x y h = record {
      least = ap (λ f. is_lower f (front_at new i)) (same j y) ∙ ap (is_lower (front_at ss j)) (same i x) ∙ h.least;
      first = λ p e l. ap (is_lower (Some p)) (same j y) ∙ h.first p (sym (same i x) ∙ e) l;
    }

    above_half : (p : ℕ) → p < length ws → IsAbove p (length ws + moved) → IsAbove p ((length ws + moved) / 2)
    above_half p m (zero, e) = absurd (omega (arith, m, e))
    above_half p m (suc times, e) = (times, e)

    below_way : (p q : ℕ) → 1 ≤ p → p < length ws → q / 2 ≡ p → 1 ≤ q → winner_at ws q ≡ moved → IsAbove p ((length ws + moved) / 2)
    below_way p q l m h k e =
        let a = on_way moved (2 * length ws) q (omega arith) k e in
        above_half p m (half_above p q (length ws + moved) h a)

    pub moved_but : AreWonBut new ws ((length ws + moved) / 2)
    moved_but p l m = elim (cases_eq (winner_at ws p) moved) [
      | inl e ↦ inr (above_half p m (on_way moved (2 * length ws) p (omega arith) l e))
      | inr a ↦ elim (cases_eq (winner_at ws (2 * p)) moved) [
        | inl e ↦ inr (below_way p (2 * p) l m (omega arith) (omega (arith, l)) e)
        | inr b ↦ elim (cases_eq (winner_at ws (2 * p + 1)) moved) [
          | inl e ↦ inr (below_way p (2 * p + 1) l m (omega arith) (omega arith) e)
          | inr c ↦ inl (record {
            one = (won p l m).one;
            left = same_before (winner_at ws p) (winner_at ws (2 * p)) a b (won p l m).left;
            right = same_before (winner_at ws p) (winner_at ws (2 * p + 1)) a c (won p l m).right;
          })
        ]
      ]
    ]
