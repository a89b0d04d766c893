-- Seeks downwards past versions of one key.
use Rattle.std.proofs.Common.{◌≡◌, ℕ, zero, suc, ◌+◌, ◌-◌, ◌^◌, ◌<◌, ◌≤◌, Bool, true, false, not, ◌&&◌, ◌||◌, List, [], ◌∷◌, ◌++◌, length, take, reverse, Option, Some, None, refl, sym, ap, subst, ◌∙◌, inl, inr, arith, append_assoc}
use Rattle.std.specs.Prelude.{slice_get, nat_le}
use Rattle.std.specs.List.{AllByRecursion}
use Rattle.std.specs.Cmp.{ranked}
use Rattle.std.specs.Cmp.Lexicographic.{slice_cmp}
use Rattle.std.specs.Ordering.{MatchOrdering, is_lt, nat_cmp, ordering_then}
use Rattle.std.specs.Str.{bytes_eq}
use Rattle.std.specs.declared.cmp.Ordering.{Ordering}
use Rattle.std.specs.declared.cmp.Ordering.TheVariants.{Less, Equal, Greater}
use Rattle.std.proofs.lemmas.Bool.{cases_Bool, cases_lt, lt-leb}
use Rattle.std.proofs.lemmas.List.{append-nil, reverse-append}
use Rattle.std.proofs.lemmas.Slice.Eq.{bytes_eq-Decides}
use Rattle.ts_key.specs.declared.numbers.Ts.{Ts}
use Rattle.ts_key.specs.Order.{SortKey, is_before, sort_cmp}
use Rattle.ts_key.specs.Orders.{is_Less, upto_upto}
use Rattle.ts_key.specs.Items.{Item}
use Rattle.ts_key.specs.Lists.{IsOrdered, below, onward, standing}
use Rattle.ts_key.specs.Ordered.{none_low}
use Rattle.ts_key.specs.Counts.{count_of_within, get_In, get_inside, In_after}
use Rattle.ts_key.specs.Firsts.{key_upto, lower, seen_of_key, slice_self, unseen}
use Rattle.ts_key.specs.Visible.{is_item_seen, is_item_within}
use Rattle.udt_model.specs.declared.reply.Row.{Row}
use Rattle.udt_model.specs.Orders.{is_below}
use Rattle.ts_iterator.specs.Rows.{is_past, rows_down}
use Rattle.ts_iterator.specs.Walks.{IsUptoSeen, back_from, top_of}
use Rattle.ts_iterator.proofs.Keys.{key_back}
use Rattle.ts_iterator.proofs.Steps.{goes_on}
use Rattle.ts_iterator.proofs.StepsDown.{behind_upto, past_at}

clash : (b : Bool) → b ≡ true → b ≡ false → ⊥
clash b x y = cc

no_less : (o : Ordering) → o ≡ Less → is_lt o ≡ false → ⊥
no_less o x y = cc

or_true : (b : Bool) → (b || true) ≡ true
or_true true = refl
or_true false = refl

or_none : (a b : Bool) → (a || not b) ≡ false → b ≡ true
or_none true b e = absurd cc
or_none false true e = refl
or_none false false e = absurd cc

first_none : (a b : Bool) → (a || b) ≡ false → a ≡ false
first_none true b e = absurd cc
first_none false b e = refl

second_true : (a b : Bool) → (a && b) ≡ true → b ≡ true
second_true true b e = e
second_true false b e = absurd cc

-- ---- places of keys

-- between two versions of one key all are of it
one_key : (from p v : SortKey) → from.key ≡ v.key → is_before p from ≡ false → is_before v p ≡ false → p.key ≡ v.key
one_key from p v e a b =
    elim (key_upto p v b) [
      | inr q ↦ q
      | inl l ↦ elim (key_upto from p a) [
        | inr q ↦ sym q ∙ e
        | inl m ↦
            let up : is_below v.key p.key ≡ true = subst (λ (k : List ℕ). is_below k p.key ≡ true) e (ap is_lt m) in
            absurd (clash (is_below v.key p.key) up (key_back p.key v.key (ap is_lt l)))
      ]
    ]

less_of : (a b : ℕ) (o : Ordering) → MatchOrdering o (a < b) (a ≡ b) (b < a) → a < b → o ≡ Less
less_of a b Less m l = refl
less_of a b Equal m l = absurd (omega (arith, m))
less_of a b Greater m l = absurd (omega (arith, m))

-- of two versions of one key the later has no greater timestamp
ts_upto : (p q : SortKey) → p.key ≡ q.key → is_before q p ≡ false → q.ts ≤ p.ts
ts_upto p q e h =
    elim (cases_lt p.ts q.ts) [
      | inr g ↦ omega (arith, g)
      | inl l ↦
          let keys : slice_cmp nat_cmp q.key p.key ≡ Equal = ap (λ (k : List ℕ). slice_cmp nat_cmp q.key k) e ∙ slice_self q.key in
          let times : nat_cmp p.ts q.ts ≡ Less = less_of p.ts q.ts (nat_cmp p.ts q.ts) (ranked p.ts q.ts (nat_cmp p.ts q.ts) refl) l in
          let less : sort_cmp q p ≡ Less = ap (λ (o : Ordering). ordering_then o (ordering_then (nat_cmp p.ts q.ts) (nat_cmp p.seq q.seq))) keys ∙ ap (λ (o : Ordering). ordering_then o (nat_cmp p.seq q.seq)) times in
          absurd (no_less (sort_cmp q p) less h)
    ]

-- none of a key stands before its top
pub not_before_top : (p : SortKey) → p.ts < 2 ^ 64 → p.seq < 2 ^ 64 → is_before p (top_of p.key) ≡ false
not_before_top p x y =
    elim (cases_Bool (is_before p (top_of p.key))) [
      | inr n ↦ n
      | inl h ↦
          let top = 2 ^ 64 - 1 in
          let keys : slice_cmp nat_cmp p.key p.key ≡ Equal = slice_self p.key in
          let less : ordering_then (nat_cmp top p.ts) (nat_cmp top p.seq) ≡ Less = sym (ap (λ (o : Ordering). ordering_then o (ordering_then (nat_cmp top p.ts) (nat_cmp top p.seq))) keys) ∙ is_Less (sort_cmp p (top_of p.key)) h in
          absurd (elim (lower (nat_cmp top p.ts) (nat_cmp top p.seq) top p.ts top p.seq (ranked top p.ts (nat_cmp top p.ts) refl) (ranked top p.seq (nat_cmp top p.seq) refl) less) [
            | inl a ↦ omega (arith, a)
            | inr b ↦ let m = b.1 in omega (arith, m)
          ])
    ]

-- no more stand before a sort key than before a version that doesn't
below_upto : (to : SortKey) (vs : List Item) (n : ℕ) (v : Item) → IsOrdered vs → slice_get vs n ≡ Some v → is_before v.sort_key to ≡ false → below to vs ≤ n
below_upto to [] n v so e h = absurd cc
below_upto to (x ∷ xs) zero v so e h =
    let q : v ≡ x = cc in
    let y : is_before x.sort_key to ≡ false = subst (λ (w : Item). is_before w.sort_key to ≡ false) q h in
    let z = none_low to x xs so.0 y in
    rw y (omega (arith, z))
below_upto to (x ∷ xs) (suc n) v so e h =
    let r = below_upto to xs n v so.1 e h in
    elim (cases_Bool (is_before x.sort_key to)) [
      | inl y ↦ rw y (omega (arith, r))
      | inr y ↦ let z = none_low to x xs so.0 y in rw y (omega (arith, z))
    ]

rest_from : (to : SortKey) (x : Item) (xs : List Item) → is_before x.sort_key to ≡ false → AllByRecursion (λ (w : Item). is_before w.sort_key x.sort_key ≡ false) xs → AllByRecursion (λ (w : Item). is_before w.sort_key to ≡ false) xs
rest_from to x [] l h = tt
rest_from to x (w ∷ ws) l h = (upto_upto to x.sort_key w.sort_key l h.0, rest_from to x ws l h.1)

-- ---- a run of versions, from its end on

turned : (y : Item) (ys rest : List Item) → reverse (y ∷ ys) ++ rest ≡ reverse ys ++ y ∷ rest
turned y ys rest = ap (λ (r : List Item). r ++ rest) (reverse-append (y ∷ []) ys) ∙ append_assoc (reverse ys) (y ∷ []) rest

run : (P : List Item → Type 0) (Q : Item → Type 0) → ((y : Item) (rest : List Item) → Q y → P rest → P (y ∷ rest)) → (n : ℕ) (xs rest : List Item) → AllByRecursion Q (take n xs) → P rest → P (reverse (take n xs) ++ rest)
run P Q on zero [] rest a p = p
run P Q on zero (x ∷ xs) rest a p = p
run P Q on (suc n) [] rest a p = p
run P Q on (suc n) (x ∷ xs) rest a p = subst P (sym (turned x (take n xs) rest)) (run P Q on n xs (x ∷ rest) a.1 (on x rest a.0 p))

upto_all : (Q : Item → Type 0) (from : SortKey) (v : Item) → ((y : Item) → is_before y.sort_key from ≡ false → is_before v.sort_key y.sort_key ≡ false → Q y) → (n : ℕ) (xs : List Item) → IsOrdered xs → AllByRecursion (λ (y : Item). is_before y.sort_key from ≡ false) xs → slice_get xs n ≡ Some v → AllByRecursion Q (take n xs)
upto_all Q from v q n [] so a e = absurd cc
upto_all Q from v q zero (x ∷ xs) so a e = tt
upto_all Q from v q (suc n) (x ∷ xs) so a e = (q x a.0 (In_after (λ (w : Item). is_before w.sort_key x.sort_key ≡ false) v xs so.0 (get_In xs n v e)), upto_all Q from v q n xs so.1 a.1 e)

module _ (floor : Ts) (low : List ℕ) (high : Option (List ℕ)) (t s : ℕ) where
  abbrev out : Item → Bool
  out v = is_past high v.sort_key.key || not (is_item_within t s v)

  abbrev rows : Option Item → List Item → List Row
  rows best vs = rows_down floor low high t s best vs

  -- ---- versions above the timestamp

  module _ (best : Option Item) (v : Item) (inside : is_below v.sort_key.key low ≡ false) (above : t < v.sort_key.ts) (from : is_before v.sort_key (top_of v.sort_key.key) ≡ false) where
    abbrev Out : Item → Type 0
    Out y = (is_below y.sort_key.key low ≡ false) × (out y ≡ true)

    is_out : (y : Item) → is_before y.sort_key (top_of v.sort_key.key) ≡ false → is_before v.sort_key y.sort_key ≡ false → Out y
    is_out y a b =
        let k = one_key (top_of v.sort_key.key) y.sort_key v.sort_key refl a b in
        let later = ts_upto y.sort_key v.sort_key k b in
        let late : nat_le y.sort_key.ts t ≡ false = lt-leb y.sort_key.ts t (omega (arith, later, above)) in
        let within : is_item_within t s y ≡ false = ap (λ c. c && nat_le y.sort_key.seq s) late in
        (subst (λ (a : List ℕ). is_below a low ≡ false) (sym k) inside, ap (λ b. is_past high y.sort_key.key || not b) within ∙ or_true (is_past high y.sort_key.key))

    nothing_at : (rest : List Item) (y : Item) (more : List Item) → Out y → rows best more ≡ rows best rest → rows best (y ∷ more) ≡ rows best rest
    nothing_at rest y more q p =
        let i = q.0 in
        let o = q.1 in
        let e : rows best (y ∷ more) ≡ rows best more = rw (i, o) refl in
        e ∙ p

    front_is : (vs : List Item) (n : ℕ) (rest : List Item) → IsOrdered vs → slice_get vs n ≡ Some v → rows best (reverse (take (below (top_of v.sort_key.key) vs) vs) ++ rest) ≡ rows best (reverse (take n vs) ++ rest)
    front_is [] n rest so e = absurd cc
    front_is (x ∷ xs) zero rest so e =
        let to = top_of v.sort_key.key in
        let q : v ≡ x = cc in
        let y : is_before x.sort_key to ≡ false = subst (λ (w : Item). is_before w.sort_key to ≡ false) q from in
        let z = none_low to x xs so.0 y in
        let m : below to (x ∷ xs) ≡ zero = rw y (omega (arith, z)) in
        ap (λ (k : ℕ). rows best (reverse (take k (x ∷ xs)) ++ rest)) m
    front_is (x ∷ xs) (suc n) rest so e =
        let to = top_of v.sort_key.key in
        elim (cases_Bool (is_before x.sort_key to)) [
          | inl y ↦
              let m : below to (x ∷ xs) ≡ suc (below to xs) = rw y (omega arith) in
              ap (λ (k : ℕ). rows best (reverse (take k (x ∷ xs)) ++ rest)) m
              ∙ ap (rows best) (turned x (take (below to xs) xs) rest)
              ∙ front_is xs n (x ∷ rest) so.1 e
              ∙ sym (ap (rows best) (turned x (take n xs) rest))
          | inr y ↦
              let z = none_low to x xs so.0 y in
              let m : below to (x ∷ xs) ≡ zero = rw y (omega (arith, z)) in
              let all = upto_all Out to v is_out (suc n) (x ∷ xs) so (y, rest_from to x xs y so.0) e in
              ap (λ (k : ℕ). rows best (reverse (take k (x ∷ xs)) ++ rest)) m
              ∙ sym (run (λ (r : List Item). rows best r ≡ rows best rest) Out (nothing_at rest) (suc n) (x ∷ xs) rest all refl)
        ]

    pub over_front : (vs : List Item) (p q : ℕ) → IsOrdered vs → Some v ≡ standing vs p → q ≡ below (top_of v.sort_key.key) vs → rows best (back_from q vs) ≡ rows best (back_from (p - 1) vs)
    over_front vs zero q so e is = absurd cc
    over_front vs (suc n) q so e is =
        let to = top_of v.sort_key.key in
        let m = below to vs in
        let back : suc n - 1 ≡ n = omega arith in
        let l = get_inside vs n v (sym e) in
        ap (λ (k : ℕ). rows best (back_from k vs)) is
        ∙ ap (rows best) (behind_upto vs m (count_of_within (λ (w : Item). is_before w.sort_key to) vs) ∙ sym (append-nil (reverse (take m vs))))
        ∙ front_is vs n [] so (sym e)
        ∙ ap (rows best) (append-nil (reverse (take n vs)) ∙ sym (behind_upto vs n (omega (arith, l))) ∙ ap (λ (k : ℕ). back_from k vs) (sym back))

    pub lower_front : (vs : List Item) (p q : ℕ) → IsOrdered vs → Some v ≡ standing vs p → q ≡ below (top_of v.sort_key.key) vs → q < p
    lower_front vs zero q so e is = absurd cc
    lower_front vs (suc n) q so e is = let l = below_upto (top_of v.sort_key.key) vs n v so (sym e) from in omega (arith, l, is)

  -- ---- versions of a key whose newest is found

  module _ (f v : Item) (same : f.sort_key.key ≡ v.sort_key.key) (inside : is_below v.sort_key.key low ≡ false) (counts : out f ≡ false) where
    abbrev Own : Item → Type 0
    Own y = y.sort_key.key ≡ v.sort_key.key

    at_own : (b y : Item) (more : List Item) → Own b → Own y → out y ≡ false → rows (Some b) (y ∷ more) ≡ rows (Some y) more
    at_own b y more p q o =
        let i : is_below y.sort_key.key low ≡ false = subst (λ (a : List ℕ). is_below a low ≡ false) (sym q) inside in
        let one : bytes_eq b.sort_key.key y.sort_key.key ≡ true = (bytes_eq-Decides b.sort_key.key y.sort_key.key).1 (p ∙ sym q) in
        rw (i, o, one) refl

    at_out : (b y : Item) (more : List Item) → Own y → out y ≡ true → rows (Some b) (y ∷ more) ≡ rows (Some b) more
    at_out b y more q o =
        let i : is_below y.sort_key.key low ≡ false = subst (λ (a : List ℕ). is_below a low ≡ false) (sym q) inside in
        rw (i, o) refl

    abbrev Gives : List Item → List Item → Type 0
    Gives rest more = (b : Item) → Own b → rows (Some b) more ≡ rows (Some f) rest

    still : (rest : List Item) (y : Item) (more : List Item) → Own y → Gives rest more → Gives rest (y ∷ more)
    still rest y more q p = λ b e.
        elim (cases_Bool (out y)) [
          | inl o ↦ at_out b y more q o ∙ p b e
          | inr o ↦ at_own b y more e q o ∙ p y q
        ]

    found_is : (vs : List Item) (m n : ℕ) (rest : List Item) → IsOrdered vs → slice_get vs m ≡ Some f → slice_get vs n ≡ Some v → m ≤ n → rows (Some f) (reverse (take m vs) ++ rest) ≡ rows (Some v) (reverse (take n vs) ++ rest)
    found_is [] m n rest so d e l = absurd cc
    found_is (x ∷ xs) zero zero rest so d e l = let q : f ≡ v = cc in ap (λ (w : Item). rows (Some w) rest) q
    found_is (x ∷ xs) zero (suc n) rest so d e l =
        let q : x ≡ f = cc in
        let own : Own x = ap (λ (w : Item). w.sort_key.key) q ∙ same in
        let o : out x ≡ false = ap out q ∙ counts in
        let all = upto_all Own x.sort_key v (λ y a b. one_key x.sort_key y.sort_key v.sort_key own a b) n xs so.1 so.0 e in
        let first : Gives rest (x ∷ rest) = λ b h. at_own b x rest h own o ∙ ap (λ (w : Item). rows (Some w) rest) q in
        sym (ap (rows (Some v)) (turned x (take n xs) rest) ∙ run (Gives rest) Own (still rest) n xs (x ∷ rest) all first v refl)
    found_is (x ∷ xs) (suc m) zero rest so d e l = absurd (omega (arith, l))
    found_is (x ∷ xs) (suc m) (suc n) rest so d e l =
        ap (rows (Some f)) (turned x (take m xs) rest)
        ∙ found_is xs m n (x ∷ rest) so.1 d e (omega (arith, l))
        ∙ sym (ap (rows (Some v)) (turned x (take n xs) rest))

    pub from_newest : (vs : List Item) (p q : ℕ) → IsOrdered vs → Some v ≡ standing vs p → Some f ≡ standing vs q → q ≤ p → rows (Some f) (back_from (q - 1) vs) ≡ rows (Some v) (back_from (p - 1) vs)
    from_newest vs zero q so e d l = absurd cc
    from_newest vs (suc n) zero so e d l = absurd cc
    from_newest vs (suc n) (suc m) so e d l =
        let back : suc n - 1 ≡ n = omega arith in
        let back' : suc m - 1 ≡ m = omega arith in
        let x = get_inside vs n v (sym e) in
        let y = get_inside vs m f (sym d) in
        ap (λ (k : ℕ). rows (Some f) (back_from k vs)) back'
        ∙ ap (rows (Some f)) (behind_upto vs m (omega (arith, y)) ∙ sym (append-nil (reverse (take m vs))))
        ∙ found_is vs m n [] so (sym d) (sym e) (omega (arith, l))
        ∙ ap (rows (Some v)) (append-nil (reverse (take n vs)) ∙ sym (behind_upto vs n (omega (arith, x))) ∙ ap (λ (k : ℕ). back_from k vs) (sym back))

  -- ---- what the read sees

  -- a version that counts is seen by its key
  pub counts_seen : (key : List ℕ) (v : Item) → v.sort_key.key ≡ key → out v ≡ false → is_item_seen key t s v ≡ true
  counts_seen key v e o =
      let own : bytes_eq v.sort_key.key key ≡ true = (bytes_eq-Decides v.sort_key.key key).1 e in
      let within = or_none (is_past high v.sort_key.key) (is_item_within t s v) o in
      rw (own, within) refl

  -- one of the key that is seen counts, where another of the key does
  pub seen_counts : (key : List ℕ) (f v : Item) → is_item_seen key t s f ≡ true → v.sort_key.key ≡ key → out v ≡ false → out f ≡ false
  seen_counts key f v h e o =
      let same : f.sort_key.key ≡ v.sort_key.key = seen_of_key key t s f h ∙ sym e in
      let within = second_true (bytes_eq f.sort_key.key key) (is_item_within t s f) h in
      let under : is_past high f.sort_key.key ≡ false = ap (is_past high) same ∙ first_none (is_past high v.sort_key.key) (not (is_item_within t s v)) o in
      rw (under, within) refl

-- ---- the walk to the newest

module _ (key : List ℕ) (t s : ℕ) (vs : List Item) where
  pub walk_begins : (place : ℕ) → IsOrdered vs → place ≡ below (record { key = key; ts = t; seq = s }) vs + 1 → IsUptoSeen key t s vs place
  walk_begins place so is = upto
    where
      upto : (p : ℕ) (v : Item) → Some v ≡ standing vs p → is_item_seen key t s v ≡ true → place ≤ p
      upto zero v e h = absurd cc
      upto (suc n) v e h =
          let to : SortKey = record { key = key; ts = t; seq = s } in
          let behind : is_before v.sort_key to ≡ false = elim (cases_Bool (is_before v.sort_key to)) [ inl y ↦ absurd (clash (is_item_seen key t s v) h (unseen key t s v y)) | inr y ↦ y ] in
          let l = below_upto to vs n v so (sym e) behind in
          omega (arith, l, is)

  pub walk_goes_on : (place next : ℕ) (w : Item) → Some w ≡ standing vs place → is_item_seen key t s w ≡ false → next ≡ onward (length vs) place → IsUptoSeen key t s vs place → IsUptoSeen key t s vs next
  walk_goes_on place next w at unseen_here is h = λ p v e seen.
      let o = goes_on vs place next w at is in
      let l = h p v e seen in
      elim (cases_lt place p) [
        | inl m ↦ omega (arith, m, o.0)
        | inr g ↦
            let q : place ≡ p = omega (arith, g, l) in
            let same : Some w ≡ Some v = at ∙ ap (standing vs) q ∙ sym e in
            let same_item : w ≡ v = cc in
            absurd (clash (is_item_seen key t s v) seen (ap (is_item_seen key t s) (sym same_item) ∙ unseen_here))
      ]

  pub walk_stays_in : (place : ℕ) → 1 ≤ place → None ≡ standing vs place → IsUptoSeen key t s vs place → (p : ℕ) (v : Item) → Some v ≡ standing vs p → is_item_seen key t s v ≡ true → ⊥
  walk_stays_in zero some none h p v e seen = absurd (omega (arith, some))
  walk_stays_in (suc m) some none h zero v e seen = absurd cc
  walk_stays_in (suc m) some none h (suc n) v e seen =
      let l = h (suc n) v e seen in
      let x = get_inside vs n v (sym e) in
      let y = past_at vs m (sym none) in
      omega (arith, l, x, y)
