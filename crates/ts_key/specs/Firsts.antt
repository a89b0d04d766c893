-- In the stored order the newest version that a read sees is the first one.
use Rattle.std.proofs.Common.{◌≡◌, ℕ, zero, suc, ◌<◌, ◌≤◌, ◌⊎◌, inl, inr, Bool, true, false, cond, List, [], ◌∷◌, drop, refl, sym, ap, subst, ◌∙◌, arith}
use Rattle.std.specs.Prelude.{Option, Some, None, IfSome, filter, nat_lt, nat_le, ◌==◌, ◌&&◌, ◌||◌}
use Rattle.std.specs.List.{AllByRecursion}
use Rattle.std.specs.Str.{bytes_eq}
use Rattle.std.specs.Ordering.{nat_cmp, ordering_then, is_lt, MatchOrdering}
use Rattle.std.specs.Cmp.{ranked}
use Rattle.std.specs.Cmp.Lexicographic.{slice_cmp}
use Rattle.std.specs.declared.cmp.Ordering.{Ordering}
use Rattle.std.specs.declared.cmp.Ordering.TheVariants.{Less, Equal, Greater}
use Rattle.std.proofs.lemmas.Bool.{cases_Bool, lt-leb}
use Rattle.std.proofs.lemmas.Bool.Decides.{nat_tests}
use Rattle.std.proofs.lemmas.Cmp.{nat_list_cmp_total}
use Rattle.std.proofs.lemmas.Map.Lookups.{exact_bytes}
use Rattle.std.proofs.lemmas.Map.Text.{is_eq-slice_cmp}
use Rattle.std.proofs.lemmas.Slice.Eq.{bytes_eq-Decides}
use Rattle.ts_key.specs.Order.{SortKey, sort_cmp, is_before}
use Rattle.ts_key.specs.Items.{Item}
use Rattle.ts_key.specs.Lists.{IsOrdered, below}
use Rattle.ts_key.specs.Visible.{is_item_newer, newer_item, newest_item, is_item_of, is_item_within, is_item_seen, visible_item, newest, first_of}
use Rattle.ts_key.specs.Orders.{is_Equal, cases_before, less_from}
use Rattle.ts_key.specs.Ordered.{none_low}

-- ---- keys

pub slice_self : (k : List ℕ) → slice_cmp nat_cmp k k ≡ Equal
slice_self k = is_Equal (slice_cmp nat_cmp k k) (is_eq-slice_cmp k k ∙ (bytes_eq-Decides k k).1 refl)

pub bytes_apart : (a b : List ℕ) → (a ≡ b → ⊥) → bytes_eq a b ≡ false
bytes_apart a b n =
    elim (cases_Bool (bytes_eq a b)) [
      | inl y ↦ absurd (n ((bytes_eq-Decides a b).0 y))
      | inr y ↦ y
    ]

both_tests : (b : Bool) → b ≡ true → b ≡ false → ⊥
both_tests b x y = cc

-- what stands before it has no larger key
upto_on : (o : Ordering) (a b : List ℕ) (r : Ordering) → slice_cmp nat_cmp a b ≡ o → ordering_then o r ≡ Less → (slice_cmp nat_cmp a b ≡ Less) ⊎ (a ≡ b)
upto_on Less a b r e h = inl e
upto_on Equal a b r e h = inr (exact_bytes a b e)
upto_on Greater a b r e h = absurd cc

pub key_before : (p q : SortKey) → sort_cmp p q ≡ Less → (slice_cmp nat_cmp p.key q.key ≡ Less) ⊎ (p.key ≡ q.key)
key_before p q h = upto_on (slice_cmp nat_cmp p.key q.key) p.key q.key (ordering_then (nat_cmp q.ts p.ts) (nat_cmp q.seq p.seq)) refl h

pub key_upto : (p q : SortKey) → is_before q p ≡ false → (slice_cmp nat_cmp p.key q.key ≡ Less) ⊎ (p.key ≡ q.key)
key_upto p q h =
    elim (cases_before p q) [
      | inl l ↦ key_before p q (less_from p q l)
      | inr r ↦ elim r [ inl e ↦ inr (ap (λ (x : SortKey). x.key) e) | inr l ↦ absurd (both_tests (is_before q p) l h) ]
    ]

-- ---- versions of one key

pub lower : (o p : Ordering) (a b c d : ℕ) → MatchOrdering o (a < b) (a ≡ b) (b < a) → MatchOrdering p (c < d) (c ≡ d) (d < c) → ordering_then o p ≡ Less → (a < b) ⊎ ((a ≡ b) × (c < d))
lower Less p a b c d h g e = inl h
lower Equal Less a b c d h g e = inr (h, g)
lower Equal Equal a b c d h g e = absurd cc
lower Equal Greater a b c d h g e = absurd cc
lower Greater p a b c d h g e = absurd cc

upper : (o p : Ordering) (a b c d : ℕ) → MatchOrdering o (a < b) (a ≡ b) (b < a) → MatchOrdering p (c < d) (c ≡ d) (d < c) → is_lt (ordering_then o p) ≡ false → (b < a) ⊎ ((a ≡ b) × (d ≤ c))
upper Less p a b c d h g e = absurd cc
upper Equal Less a b c d h g e = absurd cc
upper Equal Equal a b c d h g e = inr (h, omega (arith, g))
upper Equal Greater a b c d h g e = inr (h, omega (arith, g))
upper Greater p a b c d h g e = inl h

not_above : (a b c d : ℕ) → (b < a) ⊎ ((a ≡ b) × (d ≤ c)) → (nat_lt a b || (b == a && nat_lt c d)) ≡ false
not_above a b c d h = grind (arith, nat_tests)

-- the rest of a comparison of one key
rest_of : SortKey → SortKey → Ordering
rest_of p q = ordering_then (nat_cmp q.ts p.ts) (nat_cmp q.seq p.seq)

same_key : (p q : SortKey) → p.key ≡ q.key → slice_cmp nat_cmp p.key q.key ≡ Equal
same_key p q e = ap (λ k. slice_cmp nat_cmp k q.key) e ∙ slice_self q.key

-- of two versions of one key the later in the stored order isn't newer
pub later_not_newer : (v w : Item) → v.sort_key.key ≡ w.sort_key.key → is_before w.sort_key v.sort_key ≡ false → is_item_newer w v ≡ false
later_not_newer v w same upto =
    let p = w.sort_key in
    let q = v.sort_key in
    let keys : slice_cmp nat_cmp p.key q.key ≡ Equal = same_key p q (sym same) in
    let rest : is_lt (ordering_then (nat_cmp q.ts p.ts) (nat_cmp q.seq p.seq)) ≡ false = sym (ap (λ (o : Ordering). is_lt (ordering_then o (ordering_then (nat_cmp q.ts p.ts) (nat_cmp q.seq p.seq)))) keys) ∙ upto in
    not_above q.ts p.ts q.seq p.seq (upper (nat_cmp q.ts p.ts) (nat_cmp q.seq p.seq) q.ts p.ts q.seq p.seq (ranked q.ts p.ts (nat_cmp q.ts p.ts) refl) (ranked q.seq p.seq (nat_cmp q.seq p.seq) refl) rest)

-- ---- the newest of those that pass a test

chosen : (P : Item → Type 0) (b : Bool) (w x : Item) → P w → P x → IfSome (cond b (Some x) (Some w)) P
chosen P true w x h g = g
chosen P false w x h g = h

newer_has : (P : Item → Type 0) (w : Item) (o : Option Item) → P w → IfSome o P → IfSome (newer_item (Some w) o) P
newer_has P w None h g = h
newer_has P w (Some x) h g = chosen P (is_item_newer x w) w x h g

newest_has : (P : Item → Type 0) (ws : List Item) → AllByRecursion P ws → IfSome (newest_item ws) P
newest_has P [] h = tt
newest_has P (w ∷ ws) h = newer_has P w (newest_item ws) h.0 (newest_has P ws h.1)

stays : (v : Item) (o : Option Item) → IfSome o (λ x. is_item_newer x v ≡ false) → newer_item (Some v) o ≡ Some v
stays v None h = refl
stays v (Some x) h = rw h refl

-- a test that only versions of one key pass
module _ (key : List ℕ) (test : Item → Bool) (own : (v : Item) → test v ≡ true → v.sort_key.key ≡ key) where
  -- none of the later ones that pass is newer
  none_newer_at : (b : Bool) (v w : Item) (ws : List Item) → test w ≡ b → v.sort_key.key ≡ key → is_before w.sort_key v.sort_key ≡ false → AllByRecursion (λ x. is_item_newer x v ≡ false) ws → AllByRecursion (λ x. is_item_newer x v ≡ false) (cond b (w ∷ ws) ws)
  none_newer_at true v w ws e k upto rest = (later_not_newer v w (k ∙ sym (own w e)) upto, rest)
  none_newer_at false v w ws e k upto rest = rest

  none_newer : (v : Item) (ws : List Item) → v.sort_key.key ≡ key → AllByRecursion (λ w. is_before w.sort_key v.sort_key ≡ false) ws → AllByRecursion (λ x. is_item_newer x v ≡ false) (filter test ws)
  none_newer v [] k h = tt
  none_newer v (w ∷ ws) k h = none_newer_at (test w) v w (filter test ws) refl k h.0 (none_newer v ws k h.1)

  first_at : (b : Bool) (v : Item) (ws : List Item) → test v ≡ b → AllByRecursion (λ w. is_before w.sort_key v.sort_key ≡ false) ws → newest_item (filter test ws) ≡ first_of test ws
      → newest_item (cond b (v ∷ filter test ws) (filter test ws)) ≡ cond b (Some v) (first_of test ws)
  first_at true v ws e h g = stays v (newest_item (filter test ws)) (newest_has (λ x. is_item_newer x v ≡ false) (filter test ws) (none_newer v ws (own v e) h))
  first_at false v ws e h g = g

  pub newest_first : (vs : List Item) → IsOrdered vs → newest_item (filter test vs) ≡ first_of test vs
  newest_first [] h = refl
  newest_first (v ∷ vs) h = first_at (test v) v vs refl h.0 (newest_first vs h.1)

-- a test that nothing before a sort key passes
module _ (to : SortKey) (test : Item → Bool) (fails : (v : Item) → is_before v.sort_key to ≡ true → test v ≡ false) where
  pub first_from : (vs : List Item) → IsOrdered vs → first_of test (drop (below to vs) vs) ≡ first_of test vs
  first_from [] so = refl
  first_from (v ∷ vs) so =
      elim (cases_Bool (is_before v.sort_key to)) [
        | inl y ↦
            let n : below to (v ∷ vs) ≡ suc (below to vs) = rw y (omega arith) in
            let u = fails v y in
            let r : first_of test (v ∷ vs) ≡ first_of test vs = rw u refl in
            ap (λ m. first_of test (drop m (v ∷ vs))) n ∙ first_from vs so.1 ∙ sym r
        | inr y ↦
            let z = none_low to v vs so.0 y in
            let n : below to (v ∷ vs) ≡ zero = rw y (omega (arith, z)) in
            ap (λ m. first_of test (drop m (v ∷ vs))) n
      ]

-- ---- what a read sees

pub front_true : (a b : Bool) → (a && b) ≡ true → a ≡ true
front_true true b e = refl
front_true false b e = e

and_none : (b : Bool) → (b && false) ≡ false
and_none true = refl
and_none false = refl

pub of_its_key : (key : List ℕ) (v : Item) → is_item_of key v ≡ true → v.sort_key.key ≡ key
of_its_key key v h = (bytes_eq-Decides v.sort_key.key key).0 h

pub seen_of_key : (key : List ℕ) (t s : ℕ) (v : Item) → is_item_seen key t s v ≡ true → v.sort_key.key ≡ key
seen_of_key key t s v h = of_its_key key v (front_true (is_item_of key v) (is_item_within t s v) h)

-- where it stands before the sort key of a read, the read doesn't see it
unseen_on : (key : List ℕ) (t s : ℕ) (v : Item) (o : Ordering) → slice_cmp nat_cmp v.sort_key.key key ≡ o → ordering_then o (ordering_then (nat_cmp t v.sort_key.ts) (nat_cmp s v.sort_key.seq)) ≡ Less → is_item_seen key t s v ≡ false
unseen_on key t s v Less e l =
    let apart : v.sort_key.key ≡ key → ⊥ = λ q. less_equal (slice_cmp nat_cmp v.sort_key.key key) e (ap (λ k. slice_cmp nat_cmp k key) q ∙ slice_self key) in
    let y : is_item_of key v ≡ false = bytes_apart v.sort_key.key key apart in
    rw y refl
  where
    less_equal : (o : Ordering) → o ≡ Less → o ≡ Equal → ⊥
    less_equal o x y = cc
unseen_on key t s v Equal e l =
    let y : is_item_within t s v ≡ false = elim (lower (nat_cmp t v.sort_key.ts) (nat_cmp s v.sort_key.seq) t v.sort_key.ts s v.sort_key.seq (ranked t v.sort_key.ts (nat_cmp t v.sort_key.ts) refl) (ranked s v.sort_key.seq (nat_cmp s v.sort_key.seq) refl) l) [
      | inl a ↦ let z : nat_le v.sort_key.ts t ≡ false = lt-leb v.sort_key.ts t a in rw z refl
      | inr b ↦ let z : nat_le v.sort_key.seq s ≡ false = lt-leb v.sort_key.seq s b.1 in ap (λ c. nat_le v.sort_key.ts t && c) z ∙ and_none (nat_le v.sort_key.ts t)
    ] in
    ap (λ c. is_item_of key v && c) y ∙ and_none (is_item_of key v)
unseen_on key t s v Greater e l = absurd cc

pub unseen : (key : List ℕ) (t s : ℕ) (v : Item) → is_before v.sort_key (record { key = key; ts = t; seq = s }) ≡ true → is_item_seen key t s v ≡ false
unseen key t s v h = unseen_on key t s v (slice_cmp nat_cmp v.sort_key.key key) refl (less_from v.sort_key (record { key = key; ts = t; seq = s }) h)

pub visible_is_first : (vs : List Item) (key : List ℕ) (t s : ℕ) → IsOrdered vs → visible_item vs key t s ≡ first_of (is_item_seen key t s) vs
visible_is_first vs key t s h = newest_first key (is_item_seen key t s) (seen_of_key key t s) vs h

-- it is the first one from the sort key of the read on
pub visible_from : (vs : List Item) (key : List ℕ) (t s : ℕ) → IsOrdered vs → visible_item vs key t s ≡ first_of (is_item_seen key t s) (drop (below (record { key = key; ts = t; seq = s }) vs) vs)
visible_from vs key t s h = visible_is_first vs key t s h ∙ sym (first_from (record { key = key; ts = t; seq = s }) (is_item_seen key t s) (unseen key t s) vs h)

pub newest_is_first : (vs : List Item) (key : List ℕ) → IsOrdered vs → newest vs key ≡ first_of (is_item_of key) vs
newest_is_first vs key h = newest_first key (is_item_of key) (of_its_key key) vs h

-- where no version is above the read, the newest is the visible one
pub newest_is_visible : (vs : List Item) (key : List ℕ) (t s : ℕ) → AllByRecursion (λ v. is_item_within t s v ≡ true) vs → visible_item vs key t s ≡ newest vs key
newest_is_visible vs key t s h = ap newest_item (same vs h)
  where
    all_kept : (b : Bool) → (b && true) ≡ b
    all_kept true = refl
    all_kept false = refl

    same : (vs : List Item) → AllByRecursion (λ v. is_item_within t s v ≡ true) vs → filter (is_item_seen key t s) vs ≡ filter (is_item_of key) vs
    same [] h = refl
    same (v ∷ vs) h =
        let e : is_item_seen key t s v ≡ is_item_of key v = ap (λ c. is_item_of key v && c) h.0 ∙ all_kept (is_item_of key v) in
        λ i. cond (e i) (v ∷ same vs h.1 i) (same vs h.1 i)

-- ---- an early end: behind the key there is none

later_key : (key : List ℕ) (v w : Item) → slice_cmp nat_cmp key v.sort_key.key ≡ Less → is_before w.sort_key v.sort_key ≡ false → slice_cmp nat_cmp key w.sort_key.key ≡ Less
later_key key v w l h =
    elim (key_upto v.sort_key w.sort_key h) [
      | inl r ↦ nat_list_cmp_total.trans key v.sort_key.key w.sort_key.key l r
      | inr e ↦ subst (λ k. slice_cmp nat_cmp key k ≡ Less) e l
    ]

none_past : (key : List ℕ) (t s : ℕ) (v : Item) (vs : List Item) → slice_cmp nat_cmp key v.sort_key.key ≡ Less → AllByRecursion (λ w. is_before w.sort_key v.sort_key ≡ false) vs → first_of (is_item_seen key t s) vs ≡ None
none_past key t s v [] l h = refl
none_past key t s v (w ∷ ws) l h =
    let m = later_key key v w l h.0 in
    let apart : w.sort_key.key ≡ key → ⊥ = λ q. less_equal (slice_cmp nat_cmp key w.sort_key.key) m (ap (slice_cmp nat_cmp key) q ∙ slice_self key) in
    let y : is_item_of key w ≡ false = bytes_apart w.sort_key.key key apart in
    rw y (none_past key t s v ws l h.1)
  where
    less_equal : (o : Ordering) → o ≡ Less → o ≡ Equal → ⊥
    less_equal o x y = cc

-- a version of another key that doesn't stand before the read's sort key ends the search
pub stops_past : (key : List ℕ) (t s : ℕ) (v : Item) (vs : List Item) → IsOrdered (v ∷ vs) → is_before v.sort_key (record { key = key; ts = t; seq = s }) ≡ false → is_item_of key v ≡ false → first_of (is_item_seen key t s) (v ∷ vs) ≡ None
stops_past key t s v vs so h e =
    elim (key_upto (record { key = key; ts = t; seq = s }) v.sort_key h) [
      | inl l ↦ rw e (none_past key t s v vs l so.0)
      | inr q ↦ absurd (both_tests (is_item_of key v) ((bytes_eq-Decides v.sort_key.key key).1 (sym q)) e)
    ]
