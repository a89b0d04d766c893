-- A scan downwards gives the rows of its range backwards.
use Rattle.std.proofs.Common.{◌≡◌, ℕ, zero, suc, Bool, true, false, cond, not, ◌&&◌, ◌||◌, List, [], ◌∷◌, ◌++◌, drop, reverse, Option, Some, None, refl, sym, ap, subst, ◌∙◌, ◌⊎◌, inl, inr, arith}
use Rattle.std.specs.Prelude.{filter}
use Rattle.std.specs.List.{AllByRecursion}
use Rattle.std.specs.Str.{bytes_eq}
use Rattle.std.specs.Ordering.{is_lt}
use Rattle.std.proofs.lemmas.Bool.{cases_Bool}
use Rattle.std.proofs.lemmas.List.{reverse-append, append-nil}
use Rattle.std.proofs.lemmas.List.Elements.{filter-append}
use Rattle.std.proofs.lemmas.Slice.Eq.{bytes_eq-Decides}
use Rattle.ts_key.specs.declared.numbers.Ts.{Ts}
use Rattle.ts_key.specs.Order.{SortKey, is_before}
use Rattle.ts_key.specs.Items.{Item}
use Rattle.ts_key.specs.Lists.{IsOrdered, below}
use Rattle.ts_key.specs.Ordered.{none_low}
use Rattle.ts_key.specs.Firsts.{key_upto}
use Rattle.ts_key.specs.Visible.{is_item_within}
use Rattle.udt_model.specs.Orders.{is_below}
use Rattle.ts_iterator.specs.Rows.{are_of_one_key, emit, emit_of, given_before, is_key_between, is_decided, is_past, range_rows, rows_down, rows_up}
use Rattle.ts_iterator.proofs.Lasts.{down_is, first_at, firsts, lasts}
use Rattle.ts_iterator.proofs.Ranges.{start, scan_is, unwanted, wanted as wanted_key, drop_sorted}
use Rattle.ts_iterator.proofs.Keys.{key_trans, past_on}

clash : (b : Bool) → b ≡ true → b ≡ false → ⊥
clash b x y = cc

module _ (floor : Ts) (low : List ℕ) (high : Option (List ℕ)) (t s : ℕ) where
  abbrev out : Item → Bool
  out v = is_past high v.sort_key.key || not (is_item_within t s v)

  abbrev pub wanted : Item → Bool
  wanted v = not (is_below v.sort_key.key low) && not (out v)

  abbrev AllLow : List Item → Type 0
  AllLow vs = AllByRecursion (λ (v : Item). is_below v.sort_key.key low ≡ true) vs

  -- behind a version below the bound all are below it
  abbrev Falls : List Item → Type 0
  Falls [] = Unit {0}
  Falls (v ∷ vs) = (is_below v.sort_key.key low ≡ true → AllLow vs) × Falls vs

  none_wanted : (vs : List Item) → AllLow vs → filter wanted vs ≡ []
  none_wanted [] h = refl
  none_wanted (v ∷ vs) h = let y = h.0 in rw y (none_wanted vs h.1)

  pub down_filtered : (best : Option Item) (vs : List Item) → Falls vs → rows_down floor low high t s best vs ≡ lasts floor best (filter wanted vs)
  down_filtered best [] h = refl
  down_filtered best (v ∷ vs) h =
      elim (cases_Bool (is_below v.sort_key.key low)) [
        | inl x ↦
            let n = none_wanted vs (h.0 x) in
            let w : filter wanted (v ∷ vs) ≡ [] = rw x n in
            let r : rows_down floor low high t s best (v ∷ vs) ≡ emit_of floor best = rw x refl in
            r ∙ sym (ap (lasts floor best) w)
        | inr x ↦ elim (cases_Bool (out v)) [
          | inl y ↦
              let w : filter wanted (v ∷ vs) ≡ filter wanted vs = rw (x, y) refl in
              let r : rows_down floor low high t s best (v ∷ vs) ≡ rows_down floor low high t s best vs = rw (x, y) refl in
              r ∙ down_filtered best vs h.1 ∙ sym (ap (lasts floor best) w)
          | inr y ↦
              let w : filter wanted (v ∷ vs) ≡ v ∷ filter wanted vs = rw (x, y) refl in
              let r : rows_down floor low high t s best (v ∷ vs) ≡ given_before floor best v ++ rows_down floor low high t s (Some v) vs = rw (x, y) refl in
              r ∙ ap (λ ls. given_before floor best v ++ ls) (down_filtered (Some v) vs h.1) ∙ sym (ap (lasts floor best) w)
        ]
      ]

  all_snoc : (xs : List Item) (v : Item) → AllLow xs → is_below v.sort_key.key low ≡ true → AllLow (xs ++ v ∷ [])
  all_snoc [] v h y = (y, tt)
  all_snoc (x ∷ xs) v h y = (h.0, all_snoc xs v h.1 y)

  falls_snoc : (xs : List Item) (v : Item) → Falls xs → AllByRecursion (λ (x : Item). is_below x.sort_key.key low ≡ true → is_below v.sort_key.key low ≡ true) xs → Falls (xs ++ v ∷ [])
  falls_snoc [] v h a = ((λ y. tt), tt)
  falls_snoc (x ∷ xs) v h a = ((λ y. all_snoc xs v (h.0 y) (a.0 y)), falls_snoc xs v h.1 a.1)

  all_reverse : (P : Item → Type 0) (vs : List Item) → AllByRecursion P vs → AllByRecursion P (reverse vs)
  all_reverse P [] h = tt
  all_reverse P (v ∷ vs) h = subst (AllByRecursion P) (sym (reverse-append (v ∷ []) vs)) (snoc (reverse vs) (all_reverse P vs h.1) h.0)
    where
      snoc : (xs : List Item) → AllByRecursion P xs → P v → AllByRecursion P (xs ++ v ∷ [])
      snoc [] h p = (p, tt)
      snoc (x ∷ xs) h p = (h.0, snoc xs h.1 p)

  below_too : (v : Item) (vs : List Item) → AllByRecursion (λ w. is_before w.sort_key v.sort_key ≡ false) vs → AllByRecursion (λ (w : Item). is_below w.sort_key.key low ≡ true → is_below v.sort_key.key low ≡ true) vs
  below_too v [] h = tt
  below_too v (w ∷ ws) h = ((λ y. elim (key_upto v.sort_key w.sort_key h.0) [ inl l ↦ key_trans v.sort_key.key w.sort_key.key low (ap is_lt l) y | inr e ↦ subst (λ k. is_below k low ≡ true) (sym e) y ]), below_too v ws h.1)

  falls_reverse : (vs : List Item) → IsOrdered vs → Falls (reverse vs)
  falls_reverse [] so = tt
  falls_reverse (v ∷ vs) so = subst Falls (sym (reverse-append (v ∷ []) vs)) (falls_snoc (reverse vs) v (falls_reverse vs so.1) (all_reverse (λ (w : Item). is_below w.sort_key.key low ≡ true → is_below v.sort_key.key low ≡ true) vs (below_too v vs so.0)))

  filter_reverse : (vs : List Item) → filter wanted (reverse vs) ≡ reverse (filter wanted vs)
  filter_reverse [] = refl
  filter_reverse (v ∷ vs) =
      ap (filter wanted) (reverse-append (v ∷ []) vs) ∙ filter-append wanted (reverse vs) (v ∷ []) ∙ ap (λ r. r ++ filter wanted (v ∷ [])) (filter_reverse vs) ∙ last (wanted v)
    where
      last : (b : Bool) → reverse (filter wanted vs) ++ cond b (v ∷ []) [] ≡ reverse (cond b (v ∷ filter wanted vs) (filter wanted vs))
      last true = sym (reverse-append (v ∷ []) (filter wanted vs))
      last false = append-nil (reverse (filter wanted vs))

  -- the versions of a sorted list from the greatest on: the first of each key among the wanted ones, backwards
  pub rows_backwards : (vs : List Item) → IsOrdered vs → rows_down floor low high t s None (reverse vs) ≡ reverse (firsts floor None (filter wanted vs))
  rows_backwards vs so =
      down_filtered None (reverse vs) (falls_reverse vs so)
      ∙ ap (lasts floor None) (filter_reverse vs)
      ∙ down_is floor (filter wanted vs)

  -- ---- against the ascending rows_up

  abbrev KeyOf : Option (List ℕ) → Option Item → Type 0
  KeyOf None None = Unit {0}
  KeyOf None (Some l) = ⊥
  KeyOf (Some k) None = ⊥
  KeyOf (Some k) (Some l) = k ≡ l.sort_key.key

  abbrev open_one : Item → Bool
  open_one v = not (out v)

  past_all : (v : Item) (vs : List Item) → is_past high v.sort_key.key ≡ true → AllByRecursion (λ w. is_before w.sort_key v.sort_key ≡ false) vs → filter open_one vs ≡ []
  past_all v [] y h = refl
  past_all v (w ∷ ws) y h =
      let z : is_past high w.sort_key.key ≡ true = elim (key_upto v.sort_key w.sort_key h.0) [ inl l ↦ past_on high v.sort_key.key w.sort_key.key (ap is_lt l) y | inr e ↦ subst (λ k. is_past high k ≡ true) e y ] in
      rw z (past_all v ws y h.1)

  decided_first : (d : Option (List ℕ)) (o : Option Item) (v : Item) → KeyOf d o → is_decided d v.sort_key.key ≡ true → (first_at floor o v ≡ []) × KeyOf d (Some v)
  decided_first None o v k e = absurd cc
  decided_first (Some d) None v k e = absurd k
  decided_first (Some d) (Some l) v k e =
      let q : d ≡ v.sort_key.key = (bytes_eq-Decides d v.sort_key.key).0 e in
      let y : are_of_one_key l v ≡ true = (bytes_eq-Decides l.sort_key.key v.sort_key.key).1 (sym k ∙ q) in
      (rw y refl, q)

  new_first : (d : Option (List ℕ)) (o : Option Item) (v : Item) → KeyOf d o → is_decided d v.sort_key.key ≡ false → first_at floor o v ≡ emit floor v
  new_first None None v k e = refl
  new_first None (Some l) v k e = absurd k
  new_first (Some d) None v k e = absurd k
  new_first (Some d) (Some l) v k e = let y : are_of_one_key l v ≡ false = ap (λ a. bytes_eq a v.sort_key.key) (sym k) ∙ e in rw y refl

  or_true : (b : Bool) → (b || true) ≡ true
  or_true true = refl
  or_true false = refl

  pub rows_firsts : (d : Option (List ℕ)) (o : Option Item) (vs : List Item) → KeyOf d o → IsOrdered vs → rows_up floor high t s d vs ≡ firsts floor o (filter open_one vs)
  rows_firsts d o [] k so = refl
  rows_firsts d o (v ∷ vs) k so =
      elim (cases_Bool (is_past high v.sort_key.key)) [
        | inl x ↦
            let w : filter open_one (v ∷ vs) ≡ [] = rw x (past_all v vs x so.0) in
            let r : rows_up floor high t s d (v ∷ vs) ≡ [] = rw x refl in
            r ∙ sym (ap (firsts floor o) w)
        | inr x ↦ elim (cases_Bool (is_item_within t s v)) [
          | inr y ↦
              let h : (is_decided d v.sort_key.key || not (is_item_within t s v)) ≡ true = ap (λ b. is_decided d v.sort_key.key || not b) y ∙ or_true (is_decided d v.sort_key.key) in
              let w : filter open_one (v ∷ vs) ≡ filter open_one vs = rw (x, y) refl in
              let r : rows_up floor high t s d (v ∷ vs) ≡ rows_up floor high t s d vs = rw (x, h) refl in
              r ∙ rows_firsts d o vs k so.1 ∙ sym (ap (firsts floor o) w)
          | inl y ↦
              let w : filter open_one (v ∷ vs) ≡ v ∷ filter open_one vs = rw (x, y) refl in
              elim (cases_Bool (is_decided d v.sort_key.key)) [
                | inl z ↦
                    let h : (is_decided d v.sort_key.key || not (is_item_within t s v)) ≡ true = ap (λ b. b || not (is_item_within t s v)) z in
                    let r : rows_up floor high t s d (v ∷ vs) ≡ rows_up floor high t s d vs = rw (x, h) refl in
                    let q = decided_first d o v k z in
                    r ∙ rows_firsts d (Some v) vs q.1 so.1 ∙ sym (ap (λ ls. ls ++ firsts floor (Some v) (filter open_one vs)) q.0) ∙ sym (ap (firsts floor o) w)
                | inr z ↦
                    let h : (is_decided d v.sort_key.key || not (is_item_within t s v)) ≡ false = ap (λ b. b || not (is_item_within t s v)) z ∙ ap not y in
                    let r : rows_up floor high t s d (v ∷ vs) ≡ emit floor v ++ rows_up floor high t s (Some v.sort_key.key) vs = rw (x, h) refl in
                    r ∙ ap (λ ls. emit floor v ++ ls) (rows_firsts (Some v.sort_key.key) (Some v) vs refl so.1) ∙ sym (ap (λ ls. ls ++ firsts floor (Some v) (filter open_one vs)) (new_first d o v k z)) ∙ sym (ap (firsts floor o) w)
              ]
        ]
      ]

  abbrev first_place : SortKey
  first_place = start floor t s high low

  not_wanted : (v : Item) → (is_key_between low high v.sort_key.key ≡ false) ⊎ (is_item_within t s v ≡ false) → wanted v ≡ false
  not_wanted v (inl e) = tests (is_below v.sort_key.key low) (is_past high v.sort_key.key) (is_item_within t s v) e
    where
      tests : (a b c : Bool) → (not a && not b) ≡ false → (not a && not (b || not c)) ≡ false
      tests true b c e = refl
      tests false true c e = refl
      tests false false c e = absurd cc
  not_wanted v (inr e) = tests (is_below v.sort_key.key low) (is_past high v.sort_key.key) (is_item_within t s v) e
    where
      tests : (a b c : Bool) → c ≡ false → (not a && not (b || not c)) ≡ false
      tests true b c e = refl
      tests false true c e = refl
      tests false false true e = absurd cc
      tests false false false e = refl

  open_from : (v : Item) (vs : List Item) → is_below v.sort_key.key low ≡ false → AllByRecursion (λ w. is_before w.sort_key v.sort_key ≡ false) vs → filter wanted vs ≡ filter open_one vs
  open_from v [] e h = refl
  open_from v (w ∷ ws) e h =
      let n : is_below w.sort_key.key low ≡ false = elim (cases_Bool (is_below w.sort_key.key low)) [
        | inl y ↦ absurd (clash (is_below v.sort_key.key low) (elim (key_upto v.sort_key w.sort_key h.0) [ inl l ↦ key_trans v.sort_key.key w.sort_key.key low (ap is_lt l) y | inr q ↦ subst (λ k. is_below k low ≡ true) (sym q) y ]) e)
        | inr y ↦ y
      ] in
      let q : wanted w ≡ open_one w = ap (λ b. not b && open_one w) n in
      (λ i. cond (q i) (w ∷ open_from v ws e h.1 i) (open_from v ws e h.1 i))

  wanted_from : (vs : List Item) → IsOrdered vs → filter wanted vs ≡ filter open_one (drop (below first_place vs) vs)
  wanted_from [] so = refl
  wanted_from (v ∷ vs) so =
      elim (cases_Bool (is_before v.sort_key first_place)) [
        | inl y ↦
            let n : below first_place (v ∷ vs) ≡ suc (below first_place vs) = rw y (omega arith) in
            let w : wanted v ≡ false = not_wanted v (unwanted floor t s high low v y) in
            let f : filter wanted (v ∷ vs) ≡ filter wanted vs = rw w refl in
            f ∙ wanted_from vs so.1 ∙ sym (ap (λ m. filter open_one (drop m (v ∷ vs))) n)
        | inr y ↦
            let z = none_low first_place v vs so.0 y in
            let n : below first_place (v ∷ vs) ≡ zero = rw y (omega (arith, z)) in
            let k = wanted_key floor t s high low v y in
            let q : wanted v ≡ open_one v = ap (λ b. not b && open_one v) k in
            (λ i. cond (q i) (v ∷ open_from v vs k so.0 i) (open_from v vs k so.0 i)) ∙ sym (ap (λ m. filter open_one (drop m (v ∷ vs))) n)
      ]

  -- a walk down shows the rows of a walk up, turned about
  pub scan_backwards : (vs : List Item) → IsOrdered vs → rows_down floor low high t s None (reverse vs) ≡ reverse (range_rows vs floor low high t s)
  scan_backwards vs so =
      rows_backwards vs so
      ∙ ap (λ fs. reverse (firsts floor None fs)) (wanted_from vs so)
      ∙ sym (ap reverse (rows_firsts None None (drop (below first_place vs) vs) tt (drop_sorted floor t s high low (below first_place vs) vs so)))
      ∙ ap reverse (scan_is floor t s high low vs so)
