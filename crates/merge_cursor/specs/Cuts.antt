-- Moves of one side keep what is passed before what isn't.
use Rattle.std.proofs.Common.{◌≡◌, ℕ, zero, suc, ◌<◌, ◌≤◌, true, false, List, [], ◌∷◌, length, get_or, set, Option, Some, None, refl, sym, ap, subst, ◌∙◌, inl, inr, arith, get_or-set_same, get_or-set_other}
use Rattle.std.specs.Prelude.{slice_get, All, ◌≢◌}
use Rattle.std.proofs.Math.ListN.{length-set}
use Rattle.std.proofs.lemmas.Bool.{cases_eq, cases_lt}
use Rattle.std.proofs.lemmas.Option.{slice_get-get_or, slice_get_past}
use Rattle.ts_key.specs.Order.{SortKey, is_before}
use Rattle.ts_key.specs.Items.{Item}
use Rattle.ts_key.specs.Lists.{IsOrdered, below, standing}
use Rattle.ts_key.specs.Orders.{before_itself, before_back, upto_before, before_upto, upto_upto}
use Rattle.ts_key.specs.Counts.{get_inside, count_of_within}
use Rattle.ts_key.specs.Ordered.{not_true, not_false, next_upto, below_back, below_front}
use Rattle.merge_cursor.specs.Sides.{Side, key_in, front, back, front_of, is_lower, is_higher, is_upto, is_apart, IsLow, AreSidesCut}

abbrev pub AreOrdered : List Side → Type 0
AreOrdered ss = All (λ s. IsOrdered s.versions) ss

-- ---- places that may be wanting

upto_on : (a f : Option SortKey) (v : SortKey) → is_upto a (Some v) ≡ true → is_lower f (Some v) ≡ false → is_upto a f ≡ true
upto_on None f v h g = refl
upto_on (Some x) None v h g = refl
upto_on (Some x) (Some y) v h g = not_true (is_before y x) (upto_upto x v y (not_false (is_before v x) h) g)

apart_on : (a f : Option SortKey) (v : SortKey) → is_apart a (Some v) ≡ true → is_lower f (Some v) ≡ false → is_apart a f ≡ true
apart_on None f v h g = refl
apart_on (Some x) None v h g = refl
apart_on (Some x) (Some y) v h g = before_upto x v y h g

pub least_upto : (f : Option SortKey) (v : SortKey) → is_lower f (Some v) ≡ false → is_upto (Some v) f ≡ true
least_upto None v h = refl
least_upto (Some y) v h = not_true (is_before y v) h

pub first_apart : (f : Option SortKey) (v : SortKey) → is_lower (Some v) f ≡ true → is_apart (Some v) f ≡ true
first_apart None v h = refl
first_apart (Some y) v h = h

pub upto_least : (f : Option SortKey) (v : SortKey) → is_upto (Some v) f ≡ true → is_lower f (Some v) ≡ false
upto_least None v h = refl
upto_least (Some y) v h = not_false (is_before y v) h

pub apart_first : (f : Option SortKey) (v : SortKey) → is_apart (Some v) f ≡ true → is_lower (Some v) f ≡ true
apart_first None v h = refl
apart_first (Some y) v h = h

apart_least : (f : Option SortKey) (v : SortKey) → is_apart (Some v) f ≡ true → is_lower f (Some v) ≡ false
apart_least None v h = refl
apart_least (Some y) v h = before_back v y h

upto_back : (b f : Option SortKey) (v : SortKey) → is_upto (Some v) f ≡ true → is_higher b (Some v) ≡ false → is_upto b f ≡ true
upto_back None f v h g = refl
upto_back (Some x) None v h g = refl
upto_back (Some x) (Some y) v h g = not_true (is_before y x) (upto_upto x v y g (not_false (is_before y v) h))

apart_back : (b f : Option SortKey) (v : SortKey) → is_apart (Some v) f ≡ true → is_higher b (Some v) ≡ false → is_apart b f ≡ true
apart_back None f v h g = refl
apart_back (Some x) None v h g = refl
apart_back (Some x) (Some y) v h g = upto_before x v y g h

top_upto : (b : Option SortKey) (v : SortKey) → is_higher b (Some v) ≡ false → is_upto b (Some v) ≡ true
top_upto None v h = refl
top_upto (Some x) v h = not_true (is_before v x) h

last_apart : (b : Option SortKey) (v : SortKey) → is_higher (Some v) b ≡ true → is_apart b (Some v) ≡ true
last_apart None v h = refl
last_apart (Some x) v h = h

lower_itself : (v : SortKey) → is_lower (Some v) (Some v) ≡ false
lower_itself v = before_itself v

-- ---- the version in front, and the one behind

front_next : (vs : List Item) (n : ℕ) (v : Item) (o : Option Item) → IsOrdered vs → slice_get vs n ≡ Some v → slice_get vs (suc n) ≡ o → is_lower (key_in o) (Some v.sort_key) ≡ false
front_next vs n v None so e f = refl
front_next vs n v (Some w) so e f = next_upto vs n v w so e f

back_prev : (vs : List Item) (n : ℕ) (v : Item) → IsOrdered vs → slice_get vs n ≡ Some v → (o : Option Item) → standing vs n ≡ o → is_higher (key_in o) (Some v.sort_key) ≡ false
back_prev vs n v so e None f = refl
back_prev vs zero v so e (Some w) f = absurd cc
back_prev vs (suc n) v so e (Some w) f = next_upto vs n w v so f e

pub own_upto : (vs : List Item) (n : ℕ) → IsOrdered vs → (o : Option Item) → standing vs n ≡ o → is_upto (key_in o) (key_in (slice_get vs n)) ≡ true
own_upto vs n so None e = refl
own_upto vs zero so (Some w) e = absurd cc
own_upto vs (suc n) so (Some w) e = least_upto (key_in (slice_get vs (suc n))) w.sort_key (front_next vs n w (slice_get vs (suc n)) so e refl)

abbrev pub moved : Side → ℕ → Side
moved s n = record { versions = s.versions; passed = n }

module _ (ss : List Side) (a : ℕ) (s : Side) (v : Item)
    (sorted : AreOrdered ss) (cut : AreSidesCut ss) (inside : a < length ss) (is : s ≡ get_or ss a s)
  where
    sorted_s : IsOrdered s.versions
    sorted_s = subst (λ (x : Side). IsOrdered x.versions) (sym is) (sorted a s inside)

    other : (n k : ℕ) (d : Side) → k ≢ a → get_or (set ss a (moved s n)) k d ≡ get_or ss k d
    other n k d ne = get_or-set_other ss a k (moved s n) d ne

    same : (n k : ℕ) (d : Side) → k ≡ a → get_or (set ss a (moved s n)) k d ≡ moved s n
    same n k d e = ap (λ (i : ℕ). get_or (set ss a (moved s n)) i d) e ∙ get_or-set_same ss a (moved s n) d inside

    was : (k : ℕ) (d : Side) → k ≡ a → get_or ss k d ≡ s
    was k d e = ap (λ (i : ℕ). get_or ss i d) e ∙ any_d ss a s d inside is
      where
        any_d : (xs : List Side) (a : ℕ) (s d : Side) → a < length xs → s ≡ get_or xs a s → get_or xs a d ≡ s
        any_d [] a s d l is = absurd (omega arith)
        any_d (x ∷ xs) zero s d l is = sym is
        any_d (x ∷ xs) (suc a) s d l is = any_d xs a s d (omega arith) is

    by : (P : Side → Type 0) (n k : ℕ) (d : Side) → ((k ≡ a) → P (moved s n)) → ((k ≢ a) → P (get_or ss k d)) → P (get_or (set ss a (moved s n)) k d)
    by P n k d here else =
        elim (cases_eq k a) [
          | inl e ↦ subst P (sym (same n k d e)) (here e)
          | inr ne ↦ subst P (sym (other n k d ne)) (else ne)
        ]

    -- two sides, of which one may have moved
    by_two : (P : Side → Side → Type 0) (n i j : ℕ) (d e : Side) → ((i ≡ a) → (j ≡ a) → P (moved s n) (moved s n)) → ((i ≡ a) → (j ≢ a) → P (moved s n) (get_or ss j e)) → ((i ≢ a) → (j ≡ a) → P (get_or ss i d) (moved s n)) → ((i ≢ a) → (j ≢ a) → P (get_or ss i d) (get_or ss j e))
        → P (get_or (set ss a (moved s n)) i d) (get_or (set ss a (moved s n)) j e)
    by_two P n i j d e both left right none =
        elim (cases_eq i a) [
          | inl x ↦ subst (λ y. P y (get_or (set ss a (moved s n)) j e)) (sym (same n i d x)) (elim (cases_eq j a) [
            | inl y ↦ subst (λ z. P (moved s n) z) (sym (same n j e y)) (both x y)
            | inr y ↦ subst (λ z. P (moved s n) z) (sym (other n j e y)) (left x y)
          ])
          | inr x ↦ subst (λ y. P y (get_or (set ss a (moved s n)) j e)) (sym (other n i d x)) (elim (cases_eq j a) [
            | inl y ↦ subst (λ z. P (get_or ss i d) z) (sym (same n j e y)) (right x y)
            | inr y ↦ subst (λ z. P (get_or ss i d) z) (sym (other n j e y)) (none x y)
          ])
        ]

    old_len : (n k : ℕ) → k < length (set ss a (moved s n)) → k < length ss
    old_len n k l = let q = length-set ss a (moved s n) in omega arith

    -- ---- one version on: v stands in front, lowest and first

    module _ (e : slice_get s.versions s.passed ≡ Some v)
        (least : (k : ℕ) (d : Side) → k < length ss → is_lower (front (get_or ss k d)) (Some v.sort_key) ≡ false)
        (first : (k : ℕ) (d : Side) → k < a → k < length ss → is_lower (Some v.sort_key) (front (get_or ss k d)) ≡ true)
      where
        abbrev on : ℕ
        on = suc s.passed

        front_v : front s ≡ Some v.sort_key
        front_v = ap key_in e

        back_v : back (moved s on) ≡ Some v.sort_key
        back_v = ap key_in e

        after : is_lower (front (moved s on)) (Some v.sort_key) ≡ false
        after = front_next s.versions s.passed v (slice_get s.versions on) sorted_s e refl

        pub next_cut : AreSidesCut (set ss a (moved s on))
        next_cut = record {
          inside = λ k d l. by (λ x. x.passed ≤ length x.versions) on k d (λ u. let r = get_inside s.versions s.passed v e in omega (arith, r)) (λ ne. cut.inside k d (old_len on k l));
          upto = λ i j d f x y o. let x' = old_len on i x in let y' = old_len on j y in
              by_two (λ p q. is_upto (back p) (front q) ≡ true) on i j d f
              (λ u w. subst (λ b. is_upto b (front (moved s on)) ≡ true) (sym back_v) (least_upto (front (moved s on)) v.sort_key after))
              (λ u w. subst (λ b. is_upto b (front (get_or ss j f)) ≡ true) (sym back_v) (least_upto (front (get_or ss j f)) v.sort_key (least j f y')))
              (λ u w. upto_on (back (get_or ss i d)) (front (moved s on)) v.sort_key (subst (λ b. is_upto (back (get_or ss i d)) b ≡ true) (ap front (was j f w) ∙ front_v) (cut.upto i j d f x' y' o)) after)
              (λ u w. cut.upto i j d f x' y' o);
          apart = λ i j d f x y o. let x' = old_len on i x in let y' = old_len on j y in
              by_two (λ p q. is_apart (back p) (front q) ≡ true) on i j d f
              (λ u w. absurd (omega (arith, u, w, o)))
              (λ u w. subst (λ b. is_apart b (front (get_or ss j f)) ≡ true) (sym back_v) (first_apart (front (get_or ss j f)) v.sort_key (first j f (omega (arith, u, o)) y')))
              (λ u w. apart_on (back (get_or ss i d)) (front (moved s on)) v.sort_key (subst (λ b. is_apart (back (get_or ss i d)) b ≡ true) (ap front (was j f w) ∙ front_v) (cut.apart i j d f x' y' o)) after)
              (λ u w. cut.apart i j d f x' y' o);
        }

    -- ---- one version back: v is the last that was passed, highest and last

    module _ (n : ℕ) (p : s.passed ≡ suc n) (e : slice_get s.versions n ≡ Some v)
        (most : (k : ℕ) (d : Side) → k < length ss → is_higher (back (get_or ss k d)) (Some v.sort_key) ≡ false)
        (last : (k : ℕ) (d : Side) → a < k → k < length ss → is_higher (Some v.sort_key) (back (get_or ss k d)) ≡ true)
      where
        was_back : back s ≡ Some v.sort_key
        was_back = ap (λ (m : ℕ). key_in (standing s.versions m)) p ∙ ap key_in e

        pub now_front : front (moved s n) ≡ Some v.sort_key
        now_front = ap key_in e

        before : is_higher (back (moved s n)) (Some v.sort_key) ≡ false
        before = back_prev s.versions n v sorted_s e (standing s.versions n) refl

        -- the one that moved against another one
        v_upto : (i j : ℕ) (d f : Side) → i < length ss → j < length ss → i ≡ a → i ≤ j → is_upto (Some v.sort_key) (front (get_or ss j f)) ≡ true
        v_upto i j d f x y u o = subst (λ b. is_upto b (front (get_or ss j f)) ≡ true) (ap back (was i d u) ∙ was_back) (cut.upto i j d f x y o)

        v_apart : (i j : ℕ) (d f : Side) → i < length ss → j < length ss → i ≡ a → j < i → is_apart (Some v.sort_key) (front (get_or ss j f)) ≡ true
        v_apart i j d f x y u o = subst (λ b. is_apart b (front (get_or ss j f)) ≡ true) (ap back (was i d u) ∙ was_back) (cut.apart i j d f x y o)

        pub prev_cut : AreSidesCut (set ss a (moved s n))
        prev_cut = record {
          inside = λ k d l. by (λ x. x.passed ≤ length x.versions) n k d (λ u. let r = get_inside s.versions n v e in omega (arith, r)) (λ ne. cut.inside k d (old_len n k l));
          upto = λ i j d f x y o. let x' = old_len n i x in let y' = old_len n j y in
              by_two (λ p q. is_upto (back p) (front q) ≡ true) n i j d f
              (λ u w. subst (λ b. is_upto (back (moved s n)) b ≡ true) (sym now_front) (top_upto (back (moved s n)) v.sort_key before))
              (λ u w. upto_back (back (moved s n)) (front (get_or ss j f)) v.sort_key (v_upto i j d f x' y' u o) before)
              (λ u w. subst (λ b. is_upto (back (get_or ss i d)) b ≡ true) (sym now_front) (top_upto (back (get_or ss i d)) v.sort_key (most i d x')))
              (λ u w. cut.upto i j d f x' y' o);
          apart = λ i j d f x y o. let x' = old_len n i x in let y' = old_len n j y in
              by_two (λ p q. is_apart (back p) (front q) ≡ true) n i j d f
              (λ u w. absurd (omega (arith, u, w, o)))
              (λ u w. apart_back (back (moved s n)) (front (get_or ss j f)) v.sort_key (v_apart i j d f x' y' u o) before)
              (λ u w. subst (λ b. is_apart (back (get_or ss i d)) b ≡ true) (sym now_front) (last_apart (back (get_or ss i d)) v.sort_key (last i d (omega (arith, w, o)) x')))
              (λ u w. cut.apart i j d f x' y' o);
        }

        low_front : front_of (slice_get (set ss a (moved s n)) a) ≡ Some v.sort_key
        low_front = ap front_of (slice_get-get_or (set ss a (moved s n)) a (moved s n) (let q = length-set ss a (moved s n) in omega arith) ∙ ap Some (get_or-set_same ss a (moved s n) (moved s n) inside)) ∙ now_front

        none_some : (q : Option SortKey) → q ≡ Some v.sort_key → q ≡ None → ⊥
        none_some q x y = cc

        -- it is the lowest then
        pub prev_low : IsLow (set ss a (moved s n)) a
        prev_low = record {
          least = λ k d l. subst (λ b. is_lower (front (get_or (set ss a (moved s n)) k d)) b ≡ false) (sym low_front)
              (by (λ x. is_lower (front x) (Some v.sort_key) ≡ false) n k d
              (λ u. subst (λ b. is_lower b (Some v.sort_key) ≡ false) (sym now_front) (lower_itself v.sort_key))
              (λ ne. lows k d (old_len n k l)));
          first = λ q w k d o l. subst (λ b. is_lower b (front (get_or (set ss a (moved s n)) k d)) ≡ true) (sym low_front ∙ w)
              (by (λ x. is_lower (Some v.sort_key) (front x) ≡ true) n k d
              (λ u. absurd (omega (arith, u, o)))
              (λ ne. apart_first (front (get_or ss k d)) v.sort_key (v_apart a k s d inside (old_len n k l) refl o)));
          none = λ q. absurd (none_some (front_of (slice_get (set ss a (moved s n)) a)) low_front q);
        }
          where
            lows : (k : ℕ) (d : Side) → k < length ss → is_lower (front (get_or ss k d)) (Some v.sort_key) ≡ false
            lows k d l = elim (cases_lt k a) [
              | inr o ↦ upto_least (front (get_or ss k d)) v.sort_key (v_upto a k s d inside l refl o)
              | inl o ↦ apart_least (front (get_or ss k d)) v.sort_key (v_apart a k s d inside l refl o)
            ]

-- ---- sides that stand at a place

back_before : (b f : Option Item) (to : SortKey) → ((w : Item) → b ≡ Some w → is_before w.sort_key to ≡ true) → ((w : Item) → f ≡ Some w → is_before w.sort_key to ≡ false) → is_apart (key_in b) (key_in f) ≡ true
back_before None f to x y = refl
back_before (Some u) None to x y = refl
back_before (Some u) (Some w) to x y = before_upto u.sort_key to w.sort_key (x u refl) (y w refl)

pub apart_upto : (b f : Option SortKey) → is_apart b f ≡ true → is_upto b f ≡ true
apart_upto None f h = refl
apart_upto (Some x) None h = refl
apart_upto (Some x) (Some y) h = not_true (is_before y x) (before_back x y h)

pub seek_cut : (ss : List Side) (to : SortKey) → AreOrdered ss → All (λ s. s.passed ≡ below to s.versions) ss → AreSidesCut ss
seek_cut ss to sorted at = record {
  inside = λ k d l. let w = count_of_within (λ u. is_before u.sort_key to) (get_or ss k d).versions in let h = at k d l in omega (arith, w, h);
  upto = λ i j d f x y o. apart_upto (back (get_or ss i d)) (front (get_or ss j f)) (both i j d f x y);
  apart = λ i j d f x y o. both i j d f x y;
}
  where
    both : (i j : ℕ) (d f : Side) → i < length ss → j < length ss → is_apart (back (get_or ss i d)) (front (get_or ss j f)) ≡ true
    both i j d f x y =
        let s = get_or ss i d in
        let r = get_or ss j f in
        back_before (standing s.versions s.passed) (slice_get r.versions r.passed) to
        (λ w e. below_back to s.versions w (sorted i d x) (ap (standing s.versions) (sym (at i d x)) ∙ e))
        (λ w e. below_front to r.versions w (sorted j f y) (ap (slice_get r.versions) (sym (at j f y)) ∙ e))

-- none is passed
pub first_cut : (ss : List Side) → All (λ s. s.passed ≡ 0) ss → AreSidesCut ss
first_cut ss at = record {
  inside = λ k d l. let h = at k d l in omega (arith, h);
  upto = λ i j d f x y o. apart_upto (back (get_or ss i d)) (front (get_or ss j f)) (none (get_or ss i d) (front (get_or ss j f)) (at i d x));
  apart = λ i j d f x y o. none (get_or ss i d) (front (get_or ss j f)) (at i d x);
}
  where
    none : (s : Side) (f : Option SortKey) → s.passed ≡ 0 → is_apart (back s) f ≡ true
    none s f e = ap (λ (n : ℕ). is_apart (key_in (standing s.versions n)) f) e

-- all are passed
pub end_cut : (ss : List Side) → All (λ s. s.passed ≡ length s.versions) ss → AreSidesCut ss
end_cut ss at = record {
  inside = λ k d l. let h = at k d l in omega (arith, h);
  upto = λ i j d f x y o. apart_upto (back (get_or ss i d)) (front (get_or ss j f)) (none (back (get_or ss i d)) (get_or ss j f) (at j f y));
  apart = λ i j d f x y o. none (back (get_or ss i d)) (get_or ss j f) (at j f y);
}
  where
    apart_none : (b : Option SortKey) → is_apart b None ≡ true
    apart_none None = refl
    apart_none (Some x) = refl

    none : (b : Option SortKey) (s : Side) → s.passed ≡ length s.versions → is_apart b (front s) ≡ true
    none b s e = ap (λ (o : Option Item). is_apart b (key_in o)) (slice_get_past s.versions s.passed (omega (arith, e))) ∙ apart_none b
