-- The rows of a list in the stored order are those of its range.
use Rattle.std.proofs.Common.{◌≡◌, ℕ, zero, suc, Bool, true, false, cond, not, ◌&&◌, List, [], ◌∷◌, ◌++◌, drop, Option, Some, None, refl, sym, ap, subst, ◌∙◌, ◌⊎◌, inl, inr, arith}
use Rattle.std.specs.Prelude.{filter, nat_le}
use Rattle.std.specs.List.{flat_map, AllByRecursion}
use Rattle.std.specs.Str.{bytes_eq}
use Rattle.std.specs.Ordering.{is_lt, nat_cmp, ordering_then}
use Rattle.std.specs.Cmp.{ranked}
use Rattle.std.specs.Cmp.Lexicographic.{slice_cmp}
use Rattle.std.specs.declared.cmp.Ordering.{Ordering}
use Rattle.std.specs.declared.cmp.Ordering.TheVariants.{Less, Equal, Greater}
use Rattle.std.proofs.lemmas.Bool.{cases_Bool, lt-leb}
use Rattle.std.proofs.lemmas.Slice.Eq.{bytes_eq-Decides}
use Rattle.ts_key.specs.declared.numbers.Ts.{Ts}
use Rattle.ts_key.specs.Order.{SortKey, sort_cmp, is_before}
use Rattle.ts_key.specs.Items.{Item}
use Rattle.ts_key.specs.Lists.{IsOrdered, below}
use Rattle.ts_key.specs.Ordered.{none_low}
use Rattle.ts_key.specs.Orders.{is_Less}
use Rattle.ts_key.specs.Firsts.{bytes_apart, key_upto, lower, visible_is_first}
use Rattle.ts_key.specs.Visible.{first_of, is_item_seen, is_item_within, visible_item}
use Rattle.udt_model.specs.declared.reply.Row.{Row}
use Rattle.udt_model.specs.Orders.{is_below}
use Rattle.ts_iterator.specs.Rows.{emit, emit_of, is_key_between, is_decided, is_past, keys, range_rows, rows_up}
use Rattle.ts_iterator.proofs.Keys.{Heads, heads, keys_less, keys_same, key_less, key_trans, key_apart, not_after, past_on, filter_insert, flat_agree, filter_none, filter_alike, all_more}

clash : (b : Bool) → b ≡ true → b ≡ false → ⊥
clash b x y = cc

and_none : (b : Bool) → (b && false) ≡ false
and_none true = refl
and_none false = refl

module _ (floor : Ts) (t s : ℕ) where
  -- what a key gives in a list in stored order
  abbrev at : List Item → List ℕ → List Row
  at vs k = emit_of floor (first_of (is_item_seen k t s) vs)

  -- ---- a version that no wanted key sees

  at_other : (v : Item) (vs : List Item) (k : List ℕ) → bytes_eq v.sort_key.key k ≡ false → at (v ∷ vs) k ≡ at vs k
  at_other v vs k e = let y : is_item_seen k t s v ≡ false = rw e refl in ap (emit_of floor) (rw y refl)

  at_unseen : (v : Item) (vs : List Item) (k : List ℕ) → is_item_within t s v ≡ false → at (v ∷ vs) k ≡ at vs k
  at_unseen v vs k e = let y : is_item_seen k t s v ≡ false = ap (λ b. bytes_eq v.sort_key.key k && b) e ∙ and_none (bytes_eq v.sort_key.key k) in ap (emit_of floor) (rw y refl)

  key_next : (k : List ℕ) (w x : Item) → is_below k w.sort_key.key ≡ true → is_before x.sort_key w.sort_key ≡ false → is_below k x.sort_key.key ≡ true
  key_next k w x l h = elim (key_upto w.sort_key x.sort_key h) [ inl r ↦ key_trans k w.sort_key.key x.sort_key.key l (ap is_lt r) | inr e ↦ subst (λ a. is_below k a ≡ true) e l ]

  not_seen : (k : List ℕ) (w : Item) → is_below k w.sort_key.key ≡ true → is_item_seen k t s w ≡ false
  not_seen k w l = let e : bytes_eq w.sort_key.key k ≡ false = bytes_apart w.sort_key.key k (λ q. key_apart k w.sort_key.key l (sym q)) in rw e refl

  first_none : (k : List ℕ) (w : Item) (ws : List Item) → IsOrdered (w ∷ ws) → is_below k w.sort_key.key ≡ true → first_of (is_item_seen k t s) (w ∷ ws) ≡ None
  first_none k w [] so l = let y = not_seen k w l in rw y refl
  first_none k w (x ∷ xs) so l = let y = not_seen k w l in rw y (first_none k x xs so.1 (key_next k w x l so.0.0))

  same_without : (p : List ℕ → Bool) (k : List ℕ) (f : List ℕ → List Row) (ks : List (List ℕ)) → f k ≡ [] → flat_map f (filter p (k ∷ ks)) ≡ flat_map f (filter p ks)
  same_without p k f ks e =
      elim (cases_Bool (p k)) [
        | inl y ↦ rw y (ap (λ r. r ++ flat_map f (filter p ks)) e)
        | inr y ↦ rw y refl
      ]

  keys_skip : (p : List ℕ → Bool) (v : Item) (vs : List Item) → IsOrdered (v ∷ vs) → flat_map (at vs) (filter p (keys (v ∷ vs))) ≡ flat_map (at vs) (filter p (keys vs))
  keys_skip p v [] so = same_without p v.sort_key.key (at []) [] refl
  keys_skip p v (w ∷ ws) so =
      elim (key_upto v.sort_key w.sort_key so.0.0) [
        | inl l ↦ ap (λ ks. flat_map (at (w ∷ ws)) (filter p ks)) (keys_less v w ws l (heads w ws so.1)) ∙ same_without p v.sort_key.key (at (w ∷ ws)) (keys (w ∷ ws)) (ap (emit_of floor) (first_none v.sort_key.key w ws so.1 (ap is_lt l)))
        | inr e ↦ ap (λ ks. flat_map (at (w ∷ ws)) (filter p ks)) (keys_same v w ws e (heads w ws so.1))
      ]

  pub skip : (p : List ℕ → Bool) (v : Item) (vs : List Item) → IsOrdered (v ∷ vs) → (p v.sort_key.key ≡ false) ⊎ (is_item_within t s v ≡ false) → flat_map (at (v ∷ vs)) (filter p (keys (v ∷ vs))) ≡ flat_map (at vs) (filter p (keys vs))
  skip p v vs so (inl e) =
      flat_agree (at (v ∷ vs)) (at vs) p (keys (v ∷ vs)) (λ k y. at_other v vs k (bytes_apart v.sort_key.key k (λ q. clash (p k) y (subst (λ a. p a ≡ false) q e))))
      ∙ ap (flat_map (at vs)) (filter_insert p v.sort_key.key (keys vs) e)
  skip p v vs so (inr e) =
      flat_agree (at (v ∷ vs)) (at vs) p (keys (v ∷ vs)) (λ k y. at_unseen v vs k e)
      ∙ keys_skip p v vs so

  -- ---- from the first wanted version on

  module _ (high : Option (List ℕ)) where
    abbrev open_at : Option (List ℕ) → List ℕ → Bool
    open_at decided k = not (is_past high k) && not (is_decided decided k)

    abbrev Upto : Option (List ℕ) → List ℕ → Type 0
    Upto None k = Unit {0}
    Upto (Some d) k = is_below k d ≡ false

    abbrev AllUpto : Option (List ℕ) → List Item → Type 0
    AllUpto d vs = AllByRecursion (λ (v : Item). Upto d v.sort_key.key) vs

    from_first : (v : Item) (vs : List Item) → AllByRecursion (λ w. is_before w.sort_key v.sort_key ≡ false) vs → AllUpto (Some v.sort_key.key) vs
    from_first v [] h = tt
    from_first v (w ∷ ws) h = (not_after v.sort_key w.sort_key h.0, from_first v ws h.1)

    -- a decided key that isn't above v's, and isn't v's, is no later key
    not_decided : (d : Option (List ℕ)) (k m : List ℕ) → Upto d k → is_decided d k ≡ false → is_below k m ≡ true → is_decided d m ≡ false
    not_decided None k m u e l = refl
    not_decided (Some d) k m u e l =
        bytes_apart d m (λ q. clash (is_below k d) (subst (λ a. is_below k a ≡ true) (sym q) l) u)

    open_more : (d : Option (List ℕ)) (v : List ℕ) (ks : List (List ℕ)) → Upto d v → is_decided d v ≡ false → AllByRecursion (λ k. is_below v k ≡ true) ks → AllByRecursion (λ k. open_at d k ≡ open_at (Some v) k) ks
    open_more d v ks u e a = all_more (λ k. is_below v k ≡ true) (λ k. open_at d k ≡ open_at (Some v) k) ks (λ k l.
        let x : is_decided d k ≡ false = not_decided d v k u e l in
        let y : is_decided (Some v) k ≡ false = bytes_apart v k (λ q. key_apart v k l q) in
        ap (λ b. not (is_past high k) && not b) (x ∙ sym y)) a

    closed : (b : Bool) → b ≡ true → (c : Bool) → (not b && c) ≡ false
    closed true e c = refl
    closed false e c = absurd cc

    closed_past : (d : Option (List ℕ)) (k : List ℕ) → is_past high k ≡ true → open_at d k ≡ false
    closed_past d k e = closed (is_past high k) e (not (is_decided d k))

    closed_decided : (d : Option (List ℕ)) (k : List ℕ) → is_decided d k ≡ true → open_at d k ≡ false
    closed_decided d k e = ap (λ b. not (is_past high k) && not b) e ∙ and_none (not (is_past high k))

    seen_here : (v : Item) → is_item_within t s v ≡ true → is_item_seen v.sort_key.key t s v ≡ true
    seen_here v w = let e : bytes_eq v.sort_key.key v.sort_key.key ≡ true = (bytes_eq-Decides v.sort_key.key v.sort_key.key).1 refl in rw (e, w) refl

    rows_at : (d : Option (List ℕ)) (v : Item) (vs : List Item) → IsOrdered (v ∷ vs) → AllUpto d (v ∷ vs) → Heads v vs → ((e : Option (List ℕ)) → AllUpto e vs → rows_up floor high t s e vs ≡ flat_map (at vs) (filter (open_at e) (keys vs))) → (a b c : Bool) → is_past high v.sort_key.key ≡ a → is_decided d v.sort_key.key ≡ b → is_item_within t s v ≡ c → rows_up floor high t s d (v ∷ vs) ≡ flat_map (at (v ∷ vs)) (filter (open_at d) (keys (v ∷ vs)))
    rows_at d v vs so u h ih true b c x y z =
        let e : filter (open_at d) (keys (v ∷ vs)) ≡ [] = ap (filter (open_at d)) h.is ∙ filter_none (open_at d) (v.sort_key.key ∷ h.more) (closed_past d v.sort_key.key x, all_more (λ m. is_below v.sort_key.key m ≡ true) (λ m. open_at d m ≡ false) h.more (λ m l. closed_past d m (past_on high v.sort_key.key m l x)) h.after) in
        let r : rows_up floor high t s d (v ∷ vs) ≡ [] = rw x refl in
        r ∙ sym (ap (flat_map (at (v ∷ vs))) e)
    rows_at d v vs so u h ih false true c x y z =
        let r : rows_up floor high t s d (v ∷ vs) ≡ rows_up floor high t s d vs = rw (x, y) refl in
        r ∙ ih d u.1 ∙ sym (skip (open_at d) v vs so (inl (closed_decided d v.sort_key.key y)))
    rows_at d v vs so u h ih false false false x y z =
        let r : rows_up floor high t s d (v ∷ vs) ≡ rows_up floor high t s d vs = rw (x, y, z) refl in
        r ∙ ih d u.1 ∙ sym (skip (open_at d) v vs so (inr z))
    rows_at d v vs so u h ih false false true x y z =
        let r : rows_up floor high t s d (v ∷ vs) ≡ emit floor v ++ rows_up floor high t s (Some v.sort_key.key) vs = rw (x, y, z) refl in
        let q = open_at (Some v.sort_key.key) in
        let own : is_decided (Some v.sort_key.key) v.sort_key.key ≡ true = (bytes_eq-Decides v.sort_key.key v.sort_key.key).1 refl in
        let shut : q v.sort_key.key ≡ false = closed_decided (Some v.sort_key.key) v.sort_key.key own in
        let left : filter q (keys vs) ≡ filter q h.more = sym (filter_insert q v.sort_key.key (keys vs) shut) ∙ ap (filter q) h.is ∙ ap (λ b. cond b (v.sort_key.key ∷ filter q h.more) (filter q h.more)) shut in
        let more : rows_up floor high t s (Some v.sort_key.key) vs ≡ flat_map (at vs) (filter q h.more) = ih (Some v.sort_key.key) (from_first v vs so.0) ∙ ap (flat_map (at vs)) left in
        let same : flat_map (at (v ∷ vs)) (filter q h.more) ≡ flat_map (at vs) (filter q h.more) = flat_agree (at (v ∷ vs)) (at vs) q h.more (λ m w. at_other v vs m (bytes_apart v.sort_key.key m (λ e. clash (q m) w (subst (λ a. q a ≡ false) e shut)))) in
        let alike : filter (open_at d) h.more ≡ filter q h.more = filter_alike (open_at d) q h.more (open_more d v.sort_key.key h.more u.0 y h.after) in
        let here : open_at d v.sort_key.key ≡ true = rw (x, y) refl in
        let front : filter (open_at d) (keys (v ∷ vs)) ≡ v.sort_key.key ∷ filter q h.more = ap (filter (open_at d)) h.is ∙ ap (λ b. cond b (v.sort_key.key ∷ filter (open_at d) h.more) (filter (open_at d) h.more)) here ∙ ap (λ ks. v.sort_key.key ∷ ks) alike in
        let sees : is_item_seen v.sort_key.key t s v ≡ true = seen_here v z in
        let found : first_of (is_item_seen v.sort_key.key t s) (v ∷ vs) ≡ Some v = rw sees refl in
        let first : at (v ∷ vs) v.sort_key.key ≡ emit floor v = ap (emit_of floor) found in
        r ∙ ap (λ ls. emit floor v ++ ls) (more ∙ sym same) ∙ ap (λ ls. ls ++ flat_map (at (v ∷ vs)) (filter q h.more)) (sym first) ∙ sym (ap (flat_map (at (v ∷ vs))) front)

    pub rows_are : (d : Option (List ℕ)) (vs : List Item) → IsOrdered vs → AllUpto d vs → rows_up floor high t s d vs ≡ flat_map (at vs) (filter (open_at d) (keys vs))
    rows_are d [] so u = refl
    rows_are d (v ∷ vs) so u = rows_at d v vs so u (heads v vs so) (λ e a. rows_are e vs so.1 a) (is_past high v.sort_key.key) (is_decided d v.sort_key.key) (is_item_within t s v) refl refl refl

    -- ---- before the first wanted version

    module _ (low : List ℕ) where
      abbrev pub start : SortKey
      start = record { key = low; ts = t; seq = s }

      unwanted_on : (o : Ordering) (v : Item) → slice_cmp nat_cmp v.sort_key.key low ≡ o → ordering_then o (ordering_then (nat_cmp t v.sort_key.ts) (nat_cmp s v.sort_key.seq)) ≡ Less → (is_key_between low high v.sort_key.key ≡ false) ⊎ (is_item_within t s v ≡ false)
      unwanted_on Less v e l = inl (let y : is_below v.sort_key.key low ≡ true = ap is_lt e in rw y refl)
      unwanted_on Equal v e l =
          inr (elim (lower (nat_cmp t v.sort_key.ts) (nat_cmp s v.sort_key.seq) t v.sort_key.ts s v.sort_key.seq (ranked t v.sort_key.ts (nat_cmp t v.sort_key.ts) refl) (ranked s v.sort_key.seq (nat_cmp s v.sort_key.seq) refl) l) [
            | inl a ↦ let y : nat_le v.sort_key.ts t ≡ false = lt-leb v.sort_key.ts t a in rw y refl
            | inr b ↦ let y : nat_le v.sort_key.seq s ≡ false = lt-leb v.sort_key.seq s b.1 in ap (λ c. nat_le v.sort_key.ts t && c) y ∙ and_none (nat_le v.sort_key.ts t)
          ])
      unwanted_on Greater v e l = absurd cc

      pub unwanted : (v : Item) → is_before v.sort_key start ≡ true → (is_key_between low high v.sort_key.key ≡ false) ⊎ (is_item_within t s v ≡ false)
      unwanted v h = unwanted_on (slice_cmp nat_cmp v.sort_key.key low) v refl (is_Less (sort_cmp v.sort_key start) h)

      pub wanted : (v : Item) → is_before v.sort_key start ≡ false → is_below v.sort_key.key low ≡ false
      wanted v h =
          elim (cases_Bool (is_below v.sort_key.key low)) [
            | inl y ↦ absurd (clash (is_before v.sort_key start) (ap (λ o. is_lt (ordering_then o (ordering_then (nat_cmp t v.sort_key.ts) (nat_cmp s v.sort_key.seq)))) (key_less v.sort_key.key low y)) h)
            | inr y ↦ y
          ]

      not_low : (k m : List ℕ) → is_below k low ≡ false → is_below k m ≡ true → is_below m low ≡ false
      not_low k m e l =
          elim (cases_Bool (is_below m low)) [
            | inl y ↦ absurd (clash (is_below k low) (key_trans k m low l y) e)
            | inr y ↦ y
          ]

      range_open : (k : List ℕ) → is_below k low ≡ false → is_key_between low high k ≡ open_at None k
      range_open k e = rw e (tail (is_past high k))
        where
          tail : (b : Bool) → not b ≡ (not b && true)
          tail true = refl
          tail false = refl

      front_of : (v : Item) (vs : List Item) → IsOrdered (v ∷ vs) → is_below v.sort_key.key low ≡ false → filter (is_key_between low high) (keys (v ∷ vs)) ≡ filter (open_at None) (keys (v ∷ vs))
      front_of v vs so e =
          let h = heads v vs so in
          ap (filter (is_key_between low high)) h.is
          ∙ filter_alike (is_key_between low high) (open_at None) (v.sort_key.key ∷ h.more) (range_open v.sort_key.key e, all_more (λ m. is_below v.sort_key.key m ≡ true) (λ m. is_key_between low high m ≡ open_at None m) h.more (λ m l. range_open m (not_low v.sort_key.key m e l)) h.after)
          ∙ sym (ap (filter (open_at None)) h.is)

      pub from_start : (vs : List Item) → IsOrdered vs → flat_map (at vs) (filter (is_key_between low high) (keys vs)) ≡ flat_map (at (drop (below start vs) vs)) (filter (open_at None) (keys (drop (below start vs) vs)))
      from_start [] so = refl
      from_start (v ∷ vs) so =
          elim (cases_Bool (is_before v.sort_key start)) [
            | inl y ↦
                let n : below start (v ∷ vs) ≡ suc (below start vs) = rw y (omega arith) in
                skip (is_key_between low high) v vs so (unwanted v y) ∙ from_start vs so.1 ∙ sym (ap (λ m. flat_map (at (drop m (v ∷ vs))) (filter (open_at None) (keys (drop m (v ∷ vs))))) n)
            | inr y ↦
                let z = none_low start v vs so.0 y in
                let n : below start (v ∷ vs) ≡ zero = rw y (omega (arith, z)) in
                ap (flat_map (at (v ∷ vs))) (front_of v vs so (wanted v y)) ∙ sym (ap (λ m. flat_map (at (drop m (v ∷ vs))) (filter (open_at None) (keys (drop m (v ∷ vs))))) n)
          ]

      pub drop_sorted : (n : ℕ) (vs : List Item) → IsOrdered vs → IsOrdered (drop n vs)
      drop_sorted zero vs so = so
      drop_sorted (suc n) [] so = so
      drop_sorted (suc n) (v ∷ vs) so = drop_sorted n vs so.1

      free : (vs : List Item) → AllUpto None vs
      free [] = tt
      free (v ∷ vs) = (tt, free vs)

      pub scan_is : (vs : List Item) → IsOrdered vs → rows_up floor high t s None (drop (below start vs) vs) ≡ range_rows vs floor low high t s
      scan_is vs so =
          rows_are None (drop (below start vs) vs) (drop_sorted (below start vs) vs so) (free (drop (below start vs) vs))
          ∙ sym (from_start vs so)
          ∙ sym (flat_agree (λ k. emit_of floor (visible_item vs k t s)) (at vs) (is_key_between low high) (keys vs) (λ k y. ap (emit_of floor) (visible_is_first vs k t s so)))
