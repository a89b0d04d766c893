-- The newest of several lists is the newest of the newest of each, in whatever order they are sorted.
use Rattle.std.proofs.Common.{◌≡◌, ℕ, zero, suc, ◌+◌, ◌<◌, ◌≤◌, Bool, true, false, cond, max, List, [], ◌∷◌, ◌++◌, length, get_or, take, map, Option, Some, None, refl, sym, ap, subst, ◌∙◌, inl, inr, arith, append_assoc}
use Rattle.std.specs.Prelude.{filter, nat_lt, nat_le, ◌==◌, ◌&&◌, ◌||◌, option_map, slice_get, if◌then◌else◌, IfSome, Contains}
use Rattle.std.specs.Borrow.{Bor}
use Rattle.std.specs.Option.{option_copied}
use Rattle.std.proofs.lemmas.Bool.{cases_Bool}
use Rattle.std.proofs.lemmas.Bool.Decides.{nat_tests}
use Rattle.std.proofs.lemmas.List.{append-nil}
use Rattle.std.proofs.lemmas.List.Elements.{Contains-append_left, Contains-append_right}
use Rattle.ts_key.specs.declared.version.Version.{Version}
use Rattle.ts_key.specs.Order.{SortKey}
use Rattle.ts_key.specs.Order as order
use Rattle.ts_key.specs.Orders as orders
use Rattle.ts_key.specs.Items.{Item, item_of, items_of}
use Rattle.ts_key.specs.Visible.{is_item_newer, newer_item, newest_item, is_item_of, is_item_seen, visible_item, newest, newest_ts}
use Rattle.ts_key.specs.Firsts.{later_not_newer, of_its_key, seen_of_key}
use Rattle.sorted_run.specs.Runs.{latest_of}
use Rattle.sorted_run.specs.Sorts.{is_sorted_before, with_sorted, sorted}
use Rattle.memtable.specs.Memtables.{joined, newer_of, is_version_above, greater, reaches}

-- ---- which of two is newer, by numbers

both_newer : (a b c d e f : ℕ) → (nat_lt c e || (e == c && nat_lt d f)) ≡ true → (nat_lt a c || (c == a && nat_lt b d)) ≡ true → (nat_lt a e || (e == a && nat_lt b f)) ≡ true
both_newer a b c d e f h g = grind (arith, nat_tests)

none_newer : (a b c d e f : ℕ) → (nat_lt c e || (e == c && nat_lt d f)) ≡ false → (nat_lt a c || (c == a && nat_lt b d)) ≡ false → (nat_lt a e || (e == a && nat_lt b f)) ≡ false
none_newer a b c d e f h g = grind (arith, nat_tests)

newer_back : (a b c d : ℕ) → (nat_lt a c || (c == a && nat_lt b d)) ≡ true → (nat_lt c a || (a == c && nat_lt d b)) ≡ false
newer_back a b c d h = grind (arith, nat_tests)

-- neither is newer: they are alike
first_alike : (a b c d : ℕ) → (nat_lt a c || (c == a && nat_lt b d)) ≡ false → (nat_lt c a || (a == c && nat_lt d b)) ≡ false → a ≡ c
first_alike a b c d h g = grind (arith, nat_tests)

second_alike : (a b c d : ℕ) → (nat_lt a c || (c == a && nat_lt b d)) ≡ false → (nat_lt c a || (a == c && nat_lt d b)) ≡ false → b ≡ d
second_alike a b c d h g = grind (arith, nat_tests)

newer_max : (a b c d : ℕ) → (nat_lt a c || (c == a && nat_lt b d)) ≡ true → c ≡ max a c
newer_max a b c d h = grind (arith, nat_tests)

other_max : (a b c d : ℕ) → (nat_lt a c || (c == a && nat_lt b d)) ≡ false → a ≡ max a c
other_max a b c d h = grind (arith, nat_tests)

below_not_newer : (a b c d : ℕ) → c < a → (nat_lt a c || (c == a && nat_lt b d)) ≡ false
below_not_newer a b c d h = grind (arith, nat_tests)

module _ (a b c : Item) where
  newer_trans : is_item_newer c b ≡ true → is_item_newer b a ≡ true → is_item_newer c a ≡ true
  newer_trans h g = both_newer a.sort_key.ts a.sort_key.seq b.sort_key.ts b.sort_key.seq c.sort_key.ts c.sort_key.seq h g

  upto_trans : is_item_newer c b ≡ false → is_item_newer b a ≡ false → is_item_newer c a ≡ false
  upto_trans h g = none_newer a.sort_key.ts a.sort_key.seq b.sort_key.ts b.sort_key.seq c.sort_key.ts c.sort_key.seq h g

clash : (b : Bool) → b ≡ true → b ≡ false → ⊥
clash b x y = cc

-- what comes first of one key in the stored order is newer
before_newer : (x v : Item) → order.is_before x.sort_key v.sort_key ≡ true → x.sort_key.key ≡ v.sort_key.key → is_item_newer x v ≡ true
before_newer x v h same =
    elim (cases_Bool (is_item_newer x v)) [
      | inl y ↦ y
      | inr y ↦
          let p = x.sort_key in
          let q = v.sort_key in
          let back : is_item_newer v x ≡ false = later_not_newer x v same (orders.before_back p q h) in
          let t : q.ts ≡ p.ts = first_alike q.ts q.seq p.ts p.seq y back in
          let s : q.seq ≡ p.seq = second_alike q.ts q.seq p.ts p.seq y back in
          let alike : p ≡ q = λ i. record { key = same i; ts = sym t i; seq = sym s i } in
          absurd (clash (order.is_before q q) (subst (λ (k : SortKey). order.is_before k q ≡ true) alike h) (orders.before_itself q))
    ]

-- ---- the newer of several

choose : {X : Type 0} (b : Bool) (x y : X) → b ≡ true → cond b x y ≡ x
choose b x y e = rw e refl

leave : {X : Type 0} (b : Bool) (x y : X) → b ≡ false → cond b x y ≡ y
leave b x y e = rw e refl

pub newer-assoc : (x y z : Option Item) → newer_item x (newer_item y z) ≡ newer_item (newer_item x y) z
newer-assoc None y z = refl
newer-assoc (Some a) None z = refl
newer-assoc (Some a) (Some b) None =
    elim (cases_Bool (is_item_newer b a)) [
      | inl y ↦ rw y refl
      | inr y ↦ rw y refl
    ]
newer-assoc (Some a) (Some b) (Some c) =
    elim (cases_Bool (is_item_newer c b)) [
      | inl y ↦ elim (cases_Bool (is_item_newer b a)) [
        | inl z ↦ ap (newer_item (Some a)) (choose (is_item_newer c b) (Some c) (Some b) y) ∙ choose (is_item_newer c a) (Some c) (Some a) (newer_trans a b c y z) ∙ sym (ap (λ o. newer_item o (Some c)) (choose (is_item_newer b a) (Some b) (Some a) z) ∙ choose (is_item_newer c b) (Some c) (Some b) y)
        | inr z ↦ ap (newer_item (Some a)) (choose (is_item_newer c b) (Some c) (Some b) y) ∙ sym (ap (λ o. newer_item o (Some c)) (leave (is_item_newer b a) (Some b) (Some a) z))
      ]
      | inr y ↦ elim (cases_Bool (is_item_newer b a)) [
        | inl z ↦ ap (newer_item (Some a)) (leave (is_item_newer c b) (Some c) (Some b) y) ∙ choose (is_item_newer b a) (Some b) (Some a) z ∙ sym (ap (λ o. newer_item o (Some c)) (choose (is_item_newer b a) (Some b) (Some a) z) ∙ leave (is_item_newer c b) (Some c) (Some b) y)
        | inr z ↦ ap (newer_item (Some a)) (leave (is_item_newer c b) (Some c) (Some b) y) ∙ leave (is_item_newer b a) (Some b) (Some a) z ∙ sym (ap (λ o. newer_item o (Some c)) (leave (is_item_newer b a) (Some b) (Some a) z) ∙ leave (is_item_newer c a) (Some c) (Some a) (upto_trans a b c y z))
      ]
    ]

-- ---- lists one after the other

pub tested-append : (p : Item → Bool) (vs ws : List Version) → newest_item (filter p (items_of (vs ++ ws))) ≡ newer_item (newest_item (filter p (items_of vs))) (newest_item (filter p (items_of ws)))
tested-append p [] ws = refl
tested-append p (v ∷ vs) ws =
    elim (cases_Bool (p (item_of v))) [
      | inl y ↦ rw y (ap (newer_item (Some (item_of v))) (tested-append p vs ws) ∙ newer-assoc (Some (item_of v)) (newest_item (filter p (items_of vs))) (newest_item (filter p (items_of ws))))
      | inr y ↦ rw y (tested-append p vs ws)
    ]

-- ---- lists sorted

module _ (key : List ℕ) (test : Item → Bool) (own : (v : Item) → test v ≡ true → v.sort_key.key ≡ key) where
  swap : (x v : Item) → is_item_newer x v ≡ true → newer_item (Some x) (Some v) ≡ newer_item (Some v) (Some x)
  swap x v h =
      let back : is_item_newer v x ≡ false = newer_back v.sort_key.ts v.sort_key.seq x.sort_key.ts x.sort_key.seq h in
      leave (is_item_newer v x) (Some v) (Some x) back ∙ sym (choose (is_item_newer x v) (Some x) (Some v) h)

  over : (a b : Bool) (x v : Item) (F G : List Item) → (a ≡ true → b ≡ true → is_item_newer x v ≡ true) → newest_item G ≡ newest_item (cond b (v ∷ F) F) → newest_item (cond a (x ∷ G) G) ≡ newest_item (cond b (v ∷ cond a (x ∷ F) F) (cond a (x ∷ F) F))
  over false b x v F G h ih = ih
  over true false x v F G h ih = ap (newer_item (Some x)) ih
  over true true x v F G h ih =
      ap (newer_item (Some x)) ih
      ∙ newer-assoc (Some x) (Some v) (newest_item F)
      ∙ ap (λ o. newer_item o (newest_item F)) (swap x v (h refl refl))
      ∙ sym (newer-assoc (Some v) (Some x) (newest_item F))

  tested-with : (v : Version) (vs : List Version) → newest_item (filter test (items_of (with_sorted v vs))) ≡ newest_item (filter test (items_of (v ∷ vs)))
  tested-with v [] = refl
  tested-with v (x ∷ xs) =
      elim (cases_Bool (is_sorted_before x v)) [
        | inl y ↦ rw y (over (test (item_of x)) (test (item_of v)) (item_of x) (item_of v) (filter test (items_of xs)) (filter test (items_of (with_sorted v xs)))
            (λ a b. before_newer (item_of x) (item_of v) y (own (item_of x) a ∙ sym (own (item_of v) b))) (tested-with v xs))
        | inr y ↦ rw y refl
      ]

  on_front : (b : Bool) (x : Item) (F G : List Item) → newest_item F ≡ newest_item G → newest_item (cond b (x ∷ F) F) ≡ newest_item (cond b (x ∷ G) G)
  on_front true x F G h = ap (newer_item (Some x)) h
  on_front false x F G h = h

  tested-sorted : (vs : List Version) → newest_item (filter test (items_of (sorted vs))) ≡ newest_item (filter test (items_of vs))
  tested-sorted [] = refl
  tested-sorted (v ∷ vs) = tested-with v (sorted vs) ∙ on_front (test (item_of v)) (item_of v) (filter test (items_of (sorted vs))) (filter test (items_of vs)) (tested-sorted vs)

pub visible-sorted : (vs : List Version) (key : List ℕ) (t s : ℕ) → visible_item (items_of (sorted vs)) key t s ≡ visible_item (items_of vs) key t s
visible-sorted vs key t s = tested-sorted key (is_item_seen key t s) (seen_of_key key t s) vs

pub newest_ts-sorted : (vs : List Version) (key : List ℕ) → newest_ts (items_of (sorted vs)) key ≡ newest_ts (items_of vs) key
newest_ts-sorted vs key = ap (option_map (λ v. v.sort_key.ts)) (tested-sorted key (is_item_of key) (of_its_key key) vs)

-- ---- timestamps alone

abbrev ts_of : Option Item → Option ℕ
ts_of o = option_map (λ v. v.sort_key.ts) o

ts_of-newer : (a b : Option Item) → ts_of (newer_item a b) ≡ greater (ts_of a) (ts_of b)
ts_of-newer None b = refl
ts_of-newer (Some a) None = refl
ts_of-newer (Some a) (Some b) =
    elim (cases_Bool (is_item_newer b a)) [
      | inl y ↦ ap ts_of (choose (is_item_newer b a) (Some b) (Some a) y) ∙ ap Some (newer_max a.sort_key.ts a.sort_key.seq b.sort_key.ts b.sort_key.seq y)
      | inr y ↦ ap ts_of (leave (is_item_newer b a) (Some b) (Some a) y) ∙ ap Some (other_max a.sort_key.ts a.sort_key.seq b.sort_key.ts b.sort_key.seq y)
    ]

pub newest_ts-append : (vs ws : List Version) (key : List ℕ) → newest_ts (items_of (vs ++ ws)) key ≡ greater (newest_ts (items_of vs) key) (newest_ts (items_of ws) key)
newest_ts-append vs ws key = ap ts_of (tested-append (is_item_of key) vs ws) ∙ ts_of-newer (newest (items_of vs) key) (newest (items_of ws) key)

-- ---- none is above the latest

newer_if : (P : Item → Type 0) (a : Item) (o : Option Item) → P a → IfSome o P → IfSome (newer_item (Some a) o) P
newer_if P a None h g = h
newer_if P a (Some b) h g =
    elim (cases_Bool (is_item_newer b a)) [
      | inl y ↦ subst (λ (o : Option Item). IfSome o P) (sym (choose (is_item_newer b a) (Some b) (Some a) y)) g
      | inr y ↦ subst (λ (o : Option Item). IfSome o P) (sym (leave (is_item_newer b a) (Some b) (Some a) y)) h
    ]

some_more : (P Q : Item → Type 0) (o : Option Item) → ((v : Item) → P v → Q v) → IfSome o P → IfSome o Q
some_more P Q None f h = tt
some_more P Q (Some v) f h = f v h

abbrev Upto : ℕ → Item → Type 0
Upto n v = v.sort_key.ts ≤ n

front_upto : (b : Bool) (v : Item) (F : List Item) (n : ℕ) → Upto n v → IfSome (newest_item F) (Upto n) → IfSome (newest_item (cond b (v ∷ F) F)) (Upto n)
front_upto true v F n h g = newer_if (Upto n) v (newest_item F) h g
front_upto false v F n h g = g

tested_upto : (p : Item → Bool) (vs : List Version) → IfSome (newest_item (filter p (items_of vs))) (Upto (latest_of vs))
tested_upto p [] = tt
tested_upto p (v ∷ vs) =
    front_upto (p (item_of v)) (item_of v) (filter p (items_of vs)) (max v.ts.0 (latest_of vs)) (omega arith)
    (some_more (Upto (latest_of vs)) (Upto (max v.ts.0 (latest_of vs))) (newest_item (filter p (items_of vs))) (λ w h. omega arith) (tested_upto p vs))

-- what is above the latest of a list stays the newest
stays : (v : Item) (o : Option Item) (n : ℕ) → n < v.sort_key.ts → IfSome o (Upto n) → newer_item (Some v) o ≡ Some v
stays v None n l h = refl
stays v (Some w) n l h = leave (is_item_newer w v) (Some w) (Some v) (below_not_newer v.sort_key.ts v.sort_key.seq w.sort_key.ts w.sort_key.seq (omega (arith, l, h)))

lt_from : (a b : ℕ) → nat_lt a b ≡ true → a < b
lt_from a b e = grind (arith, nat_tests)

le_from : (a b : ℕ) → nat_le a b ≡ true → a ≤ b
le_from a b e = grind (arith, nat_tests)

pub passes_over : (best : Option Version) (vs : List Version) (key : List ℕ) (t s : ℕ) → is_version_above best (latest_of vs) ≡ true → option_map item_of best ≡ newer_item (option_map item_of best) (visible_item (items_of vs) key t s)
passes_over None vs key t s e = absurd cc
passes_over (Some v) vs key t s e = sym (stays (item_of v) (visible_item (items_of vs) key t s) (latest_of vs) (lt_from (latest_of vs) v.ts.0 e) (tested_upto (is_item_seen key t s) vs))

no_greater : (m : ℕ) (o : Option Item) (n : ℕ) → n ≤ m → IfSome o (Upto n) → Some m ≡ greater (Some m) (ts_of o)
no_greater m None n l h = refl
no_greater m (Some v) n l h = ap Some (omega (arith, l, h))

pub passes_by : (best : Option ℕ) (vs : List Version) (key : List ℕ) → reaches best (latest_of vs) ≡ true → best ≡ greater best (newest_ts (items_of vs) key)
passes_by None vs key e = absurd cc
passes_by (Some m) vs key e = no_greater m (newest (items_of vs) key) (latest_of vs) (le_from (latest_of vs) m e) (tested_upto (is_item_of key) vs)

-- ---- the best of what is lent

pub item-newer_of : (a b : Option Version) → option_map item_of (newer_of a b) ≡ newer_item (option_map item_of a) (option_map item_of b)
item-newer_of None b = refl
item-newer_of (Some a) None = refl
item-newer_of (Some a) (Some b) =
    elim (cases_Bool (is_item_newer (item_of b) (item_of a))) [
      | inl y ↦ rw y refl
      | inr y ↦ rw y refl
    ]

newer_of_has : (P : Version → Type 0) (a b : Option Version) → IfSome a P → IfSome b P → IfSome (newer_of a b) P
newer_of_has P None b h g = g
newer_of_has P (Some a) None h g = h
newer_of_has P (Some a) (Some b) h g =
    elim (cases_Bool (is_item_newer (item_of b) (item_of a))) [
      | inl y ↦ rw y g
      | inr y ↦ rw y h
    ]

into_copied : (P : Version → Type 0) (lent : Option (Bor Version)) → IfSome lent (λ v. P v.now) → IfSome (option_copied lent) P
into_copied P None h = tt
into_copied P (Some v) h = h

from_copied : (P : Version → Type 0) (lent : Option (Bor Version)) (o : Option Version) → option_copied lent ≡ o → IfSome o P → IfSome lent (λ v. P v.now)
from_copied P None o e h = tt
from_copied P (Some v) o e h = subst (λ (q : Option Version). IfSome q P) (sym e) h

lent_more : (P Q : Version → Type 0) (lent : Option (Bor Version)) → ((v : Version) → P v → Q v) → IfSome lent (λ v. P v.now) → IfSome lent (λ v. Q v.now)
lent_more P Q None f h = tt
lent_more P Q (Some v) f h = f v.now h

-- the newer of two that are lent is in what has both
pub newer_among : (best found result : Option (Bor Version)) (run vs : List Version) → option_copied result ≡ newer_of (option_copied best) (option_copied found) → IfSome found (λ v. Contains run v.now) → IfSome best (λ v. Contains vs v.now) → ((v : Version) → Contains run v → Contains vs v) → IfSome result (λ v. Contains vs v.now)
newer_among best found result run vs e f b more =
    from_copied (Contains vs) result (newer_of (option_copied best) (option_copied found)) e
    (newer_of_has (Contains vs) (option_copied best) (option_copied found) (into_copied (Contains vs) best b) (into_copied (Contains vs) found (lent_more (Contains run) (Contains vs) found more f)))

pub kept_among : (xs ys : List Version) (best : Option (Bor Version)) → IfSome best (λ v. Contains xs v.now) → IfSome best (λ v. Contains (xs ++ ys) v.now)
kept_among xs ys best h = lent_more (Contains xs) (Contains (xs ++ ys)) best (λ v c. Contains-append_left xs ys v c) h

-- ---- one run more

pub joined_more : {A : Type 0} (f : A → List Version) (rs : List A) (i : ℕ) (r : A) → i < length rs → r ≡ get_or rs i r → joined (map f (take (i + 1) rs)) ≡ joined (map f (take i rs)) ++ f r
joined_more f [] i r l e = absurd (omega arith)
joined_more f (x ∷ xs) zero r l e = append-nil (f x) ∙ ap f (sym e)
joined_more f (x ∷ xs) (suc i) r l e = let n : suc i + 1 ≡ suc (i + 1) = omega arith in rw n (ap (λ vs. f x ++ vs) (joined_more f xs i r (omega arith) e) ∙ sym (append_assoc (f x) (joined (map f (take i xs))) (f r)))

pub joined_all : {A : Type 0} (f : A → List Version) (rs : List A) (n : ℕ) → length rs ≤ n → joined (map f (take n rs)) ≡ joined (map f rs)
joined_all f [] zero l = refl
joined_all f [] (suc n) l = refl
joined_all f (x ∷ xs) zero l = absurd (omega arith)
joined_all f (x ∷ xs) (suc n) l = ap (λ vs. f x ++ vs) (joined_all f xs n (omega arith))

pub latest-append : (vs ws : List Version) → latest_of (vs ++ ws) ≡ max (latest_of vs) (latest_of ws)
latest-append [] ws = omega arith
latest-append (v ∷ vs) ws = omega (arith, latest-append vs ws)

latest-with : (v : Version) (vs : List Version) → latest_of (with_sorted v vs) ≡ max v.ts.0 (latest_of vs)
latest-with v [] = refl
latest-with v (x ∷ xs) =
    elim (cases_Bool (is_sorted_before x v)) [
      | inl y ↦ rw y (omega (arith, latest-with v xs))
      | inr y ↦ rw y refl
    ]

pub latest-sorted : (vs : List Version) → latest_of (sorted vs) ≡ latest_of vs
latest-sorted [] = refl
latest-sorted (v ∷ vs) = latest-with v (sorted vs) ∙ ap (max v.ts.0) (latest-sorted vs)
