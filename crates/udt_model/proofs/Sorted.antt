-- The stored order of versions is that of their sort keys, and in it the first that fits is the newest.
use Rattle.std.proofs.Common.{◌≡◌, ℕ, ◌<◌, Bool, true, false, cond, List, [], ◌∷◌, Option, Some, None, refl, sym, ap, ◌∙◌, inl, inr, arith}
use Rattle.std.specs.Prelude.{◌==◌, ◌&&◌, ◌||◌, nat_lt, filter, IfSome}
use Rattle.std.specs.List.{AllByRecursion}
use Rattle.std.specs.Option.{option_map}
use Rattle.std.specs.Str.{bytes_eq}
use Rattle.std.specs.Ordering.{nat_cmp, ordering_then, is_lt, is_eq, MatchOrdering}
use Rattle.std.specs.Cmp.{ranked}
use Rattle.std.specs.Cmp.Lexicographic.{slice_cmp}
use Rattle.std.specs.declared.cmp.Ordering.{Ordering}
use Rattle.std.specs.declared.cmp.Ordering.TheVariants.{Less, Equal, Greater}
use Rattle.std.proofs.lemmas.Bool.{cases_Bool}
use Rattle.std.proofs.lemmas.Bool.Decides.{nat_tests}
use Rattle.std.proofs.lemmas.Map.Text.{is_eq-slice_cmp}
use Rattle.std.proofs.lemmas.Slice.Eq.{bytes_eq-Decides}
use Rattle.ts_key.specs.declared.numbers.Family.{Family}
use Rattle.ts_key.specs.declared.numbers.Ts.{Ts}
use Rattle.ts_key.specs.declared.numbers.Seq.{Seq}
use Rattle.ts_key.specs.declared.version.Version.{Version}
use Rattle.ts_key.specs.Order as keys
use Rattle.ts_key.specs.Items.{Item, item_of, items_of}
use Rattle.ts_key.specs.Lists as lists
use Rattle.ts_key.specs.Visible as seen
use Rattle.ts_key.specs.Firsts.{later_not_newer}
use Rattle.udt_model.specs.Versions.{is_newer, newer, newest_of, is_of, is_within}
use Rattle.udt_model.specs.Greatest.{is_seen}
use Rattle.udt_model.specs.Orders.{is_version_before, with_version, stored}
use Rattle.udt_model.specs.SortedLaws.{OrdersAgree, SortingAgrees, VisibleAgrees, FirstIsVisible, FirstIsNewest}

-- ---- the order

newer_on : (o p : Ordering) (a b c d : ℕ) → MatchOrdering o (a < b) (a ≡ b) (b < a) → MatchOrdering p (c < d) (c ≡ d) (d < c) → (nat_lt a b || (b == a && nat_lt c d)) ≡ is_lt (ordering_then o p)
newer_on Less p a b c d h g = grind (arith, nat_tests)
newer_on Equal Less a b c d h g = grind (arith, nat_tests)
newer_on Equal Equal a b c d h g = grind (arith, nat_tests)
newer_on Equal Greater a b c d h g = grind (arith, nat_tests)
newer_on Greater p a b c d h g = grind (arith, nat_tests)

before_on : (o : Ordering) (e m : Bool) (r : Ordering) → is_eq o ≡ e → m ≡ is_lt r → (is_lt o || (e && m)) ≡ is_lt (ordering_then o r)
before_on Less e m r h g = refl
before_on Equal true m r h g = g
before_on Equal false m r h g = absurd cc
before_on Greater true m r h g = absurd cc
before_on Greater false m r h g = refl

pub orders_agree : OrdersAgree
orders_agree a b =
    let rest = ordering_then (nat_cmp b.ts.0 a.ts.0) (nat_cmp b.seq.0 a.seq.0) in
    before_on (slice_cmp nat_cmp a.key b.key) (bytes_eq a.key b.key) (is_newer a b) rest (is_eq-slice_cmp a.key b.key)
    (newer_on (nat_cmp b.ts.0 a.ts.0) (nat_cmp b.seq.0 a.seq.0) b.ts.0 a.ts.0 b.seq.0 a.seq.0 (ranked b.ts.0 a.ts.0 (nat_cmp b.ts.0 a.ts.0) refl) (ranked b.seq.0 a.seq.0 (nat_cmp b.seq.0 a.seq.0) refl))

-- ---- sorting

with_agrees : (v : Version) (os : List Version) → items_of (with_version v os) ≡ lists.with_item (item_of v) (items_of os)
with_agrees v [] = refl
with_agrees v (o ∷ os) =
    elim (cases_Bool (is_version_before o v)) [
      | inl y ↦ let z : keys.is_before (item_of o).sort_key (item_of v).sort_key ≡ true = sym (orders_agree o v) ∙ y in rw (y, z) (ap (λ (xs : List Item). item_of o ∷ xs) (with_agrees v os))
      | inr y ↦ let z : keys.is_before (item_of o).sort_key (item_of v).sort_key ≡ false = sym (orders_agree o v) ∙ y in rw (y, z) refl
    ]

pub sorting_agrees : SortingAgrees
sorting_agrees [] = refl
sorting_agrees (v ∷ vs) = with_agrees v (stored vs) ∙ ap (lists.with_item (item_of v)) (sorting_agrees vs)

-- ---- tests one after the other

twice_on : (a b : Bool) (p : Version → Bool) (v : Version) (vs : List Version) → p v ≡ b → filter p (cond a (v ∷ vs) vs) ≡ cond (a && b) (v ∷ filter p vs) (filter p vs)
twice_on true b p v vs e = ap (λ c. cond c (v ∷ filter p vs) (filter p vs)) e
twice_on false b p v vs e = refl

pub filter_twice : (p q : Version → Bool) (vs : List Version) → filter p (filter q vs) ≡ filter (λ v. q v && p v) vs
filter_twice p q [] = refl
filter_twice p q (v ∷ vs) = twice_on (q v) (p v) p v (filter q vs) refl ∙ ap (λ (xs : List Version). cond (q v && p v) (v ∷ xs) xs) (filter_twice p q vs)

-- ---- the newest of those that pass a test

newest_on : (b : Bool) (v w : Version) → is_newer w v ≡ b → option_map item_of (newer (Some v) (Some w)) ≡ seen.newer_item (Some (item_of v)) (Some (item_of w))
newest_on true v w e = rw e refl
newest_on false v w e = rw e refl

newer_agrees : (v : Version) (o : Option Version) → option_map item_of (newer (Some v) o) ≡ seen.newer_item (Some (item_of v)) (option_map item_of o)
newer_agrees v None = refl
newer_agrees v (Some w) = newest_on (is_newer w v) v w refl

newest_agrees : (vs : List Version) → option_map item_of (newest_of vs) ≡ seen.newest_item (items_of vs)
newest_agrees [] = refl
newest_agrees (v ∷ vs) = newer_agrees v (newest_of vs) ∙ ap (seen.newer_item (Some (item_of v))) (newest_agrees vs)

pass_on : (a b : Bool) (v : Version) (vs : List Version) (xs : List Item) → a ≡ b → items_of vs ≡ xs → items_of (cond a (v ∷ vs) vs) ≡ cond b (item_of v ∷ xs) xs
pass_on true true v vs xs e h = ap (λ (ys : List Item). item_of v ∷ ys) h
pass_on true false v vs xs e h = absurd cc
pass_on false true v vs xs e h = absurd cc
pass_on false false v vs xs e h = h

own_family : (a b : ℕ) (x y : Bool) → a ≡ b → ((a == b && x) && y) ≡ (x && y)
own_family a b x y e = let z : (a == b) ≡ true = grind (arith, nat_tests) in rw z refl

pass_agrees : (family : Family) (key : List ℕ) (t : Ts) (s : Seq) (vs : List Version) → AllByRecursion (λ v. v.family.0 ≡ family.0) vs → items_of (filter (is_seen family key t s) vs) ≡ filter (seen.is_item_seen key t.0 s.0) (items_of vs)
pass_agrees family key t s [] h = refl
pass_agrees family key t s (v ∷ vs) h =
    pass_on (is_seen family key t s v) (seen.is_item_seen key t.0 s.0 (item_of v)) v (filter (is_seen family key t s) vs) (filter (seen.is_item_seen key t.0 s.0) (items_of vs))
    (own_family v.family.0 family.0 (bytes_eq v.key key) (is_within t s v) h.0) (pass_agrees family key t s vs h.1)

pub visible_agrees : VisibleAgrees
visible_agrees w family key t s h =
    ap (λ (xs : List Version). option_map item_of (newest_of xs)) (filter_twice (is_within t s) (is_of family key) w)
    ∙ newest_agrees (filter (is_seen family key t s) w) ∙ ap seen.newest_item (pass_agrees family key t s w h)

-- ---- the first is the newest

chosen : (P : Version → Type 0) (b : Bool) (w x : Version) → P w → P x → IfSome (cond b (Some x) (Some w)) P
chosen P true w x h g = g
chosen P false w x h g = h

newer_has : (P : Version → Type 0) (w : Version) (o : Option Version) → P w → IfSome o P → IfSome (newer (Some w) o) P
newer_has P w None h g = h
newer_has P w (Some x) h g = chosen P (is_newer x w) w x h g

newest_has : (P : Version → Type 0) (ws : List Version) → AllByRecursion P ws → IfSome (newest_of ws) P
newest_has P [] h = tt
newest_has P (w ∷ ws) h = newer_has P w (newest_of ws) h.0 (newest_has P ws h.1)

stays : (v : Version) (o : Option Version) → IfSome o (λ x. is_newer x v ≡ false) → newer (Some v) o ≡ Some v
stays v None h = refl
stays v (Some x) h = rw h refl

-- a test that only versions of one key pass
module _ (key : List ℕ) (test : Version → Bool) (own : (v : Version) → test v ≡ true → v.key ≡ key) where
  none_newer_at : (b : Bool) (v w : Version) (ws : List Version) → test w ≡ b → v.key ≡ key → keys.is_before (item_of w).sort_key (item_of v).sort_key ≡ false → AllByRecursion (λ x. is_newer x v ≡ false) ws → AllByRecursion (λ x. is_newer x v ≡ false) (cond b (w ∷ ws) ws)
  none_newer_at true v w ws e k upto rest = (later_not_newer (item_of v) (item_of w) (k ∙ sym (own w e)) upto, rest)
  none_newer_at false v w ws e k upto rest = rest

  none_newer : (v : Version) (ws : List Version) → v.key ≡ key → AllByRecursion (λ w. keys.is_before w.sort_key (item_of v).sort_key ≡ false) (items_of ws) → AllByRecursion (λ x. is_newer x v ≡ false) (filter test ws)
  none_newer v [] k h = tt
  none_newer v (w ∷ ws) k h = none_newer_at (test w) v w (filter test ws) refl k h.0 (none_newer v ws k h.1)

  first_at : (b : Bool) (v : Version) (ws : List Version) → test v ≡ b → AllByRecursion (λ w. keys.is_before w.sort_key (item_of v).sort_key ≡ false) (items_of ws) → newest_of (filter test ws) ≡ seen.first_of test ws
      → newest_of (cond b (v ∷ filter test ws) (filter test ws)) ≡ cond b (Some v) (seen.first_of test ws)
  first_at true v ws e h g = stays v (newest_of (filter test ws)) (newest_has (λ x. is_newer x v ≡ false) (filter test ws) (none_newer v ws (own v e) h))
  first_at false v ws e h g = g

  newest_first : (vs : List Version) → lists.IsOrdered (items_of vs) → newest_of (filter test vs) ≡ seen.first_of test vs
  newest_first [] h = refl
  newest_first (v ∷ vs) h = first_at (test v) v vs refl h.0 (newest_first vs h.1)

front_true : (a b : Bool) → (a && b) ≡ true → a ≡ true
front_true true b e = refl
front_true false b e = e

back_true : (a b : Bool) → (a && b) ≡ true → b ≡ true
back_true true b e = e
back_true false b e = absurd cc

own_key : (family : Family) (key : List ℕ) (v : Version) → is_of family key v ≡ true → v.key ≡ key
own_key family key v h = (bytes_eq-Decides v.key key).0 (back_true (v.family.0 == family.0) (bytes_eq v.key key) h)

pub first_is_visible : FirstIsVisible
first_is_visible w family key t s h =
    ap newest_of (filter_twice (is_within t s) (is_of family key) w)
    ∙ newest_first key (is_seen family key t s) (λ v e. own_key family key v (front_true (is_of family key v) (is_within t s v) e)) w h

pub first_is_newest : FirstIsNewest
first_is_newest w family key h = newest_first key (is_of family key) (own_key family key) w h
