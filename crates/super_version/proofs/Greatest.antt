-- The newest of several lists is the newest of the newest of each.
use Rattle.std.proofs.Common.{◌≡◌, ℕ, ◌+◌, ◌<◌, ◌≤◌, Bool, true, false, cond, max, List, [], ◌∷◌, ◌++◌, length, get_or, map, take, Option, Some, None, refl, sym, ap, ◌∙◌, inl, inr, arith}
use Rattle.std.specs.Prelude.{filter, nat_lt, nat_le, ◌==◌, ◌&&◌, ◌||◌, option_map, IfSome}
use Rattle.std.specs.List.{flat_map}
use Rattle.std.proofs.lemmas.Bool.{cases_Bool}
use Rattle.std.proofs.lemmas.Bool.Decides.{nat_tests}
use Rattle.ts_key.specs.Items.{Item}
use Rattle.ts_key.specs.Visible.{is_item_newer, newer_item, newest_item, is_item_of, newest, newest_ts}
use Rattle.memtable.specs.Memtables.{greater, reaches}
use Rattle.memtable.proofs.Bests.{newer-assoc}
use Rattle.block_table.specs.Contents.{greatest_of}
use Rattle.super_version.proofs.Lists.{flat_more}

pub tested-append : (p : Item → Bool) (xs ys : List Item) → newest_item (filter p (xs ++ ys)) ≡ newer_item (newest_item (filter p xs)) (newest_item (filter p ys))
tested-append p [] ys = refl
tested-append p (x ∷ xs) ys =
    elim (cases_Bool (p x)) [
      | inl y ↦ rw y (ap (newer_item (Some x)) (tested-append p xs ys) ∙ newer-assoc (Some x) (newest_item (filter p xs)) (newest_item (filter p ys)))
      | inr y ↦ rw y (tested-append p xs ys)
    ]

-- ---- timestamps alone

newer_max : (a b c d : ℕ) → (nat_lt a c || (c == a && nat_lt b d)) ≡ true → c ≡ max a c
newer_max a b c d h = grind (arith, nat_tests)

other_max : (a b c d : ℕ) → (nat_lt a c || (c == a && nat_lt b d)) ≡ false → a ≡ max a c
other_max a b c d h = grind (arith, nat_tests)

abbrev ts_of : Option Item → Option ℕ
ts_of o = option_map (λ v. v.sort_key.ts) o

ts_of-newer : (a b : Option Item) → ts_of (newer_item a b) ≡ greater (ts_of a) (ts_of b)
ts_of-newer None b = refl
ts_of-newer (Some a) None = refl
ts_of-newer (Some a) (Some b) =
    elim (cases_Bool (is_item_newer b a)) [
      | inl y ↦ rw y (ap Some (newer_max a.sort_key.ts a.sort_key.seq b.sort_key.ts b.sort_key.seq y))
      | inr y ↦ rw y (ap Some (other_max a.sort_key.ts a.sort_key.seq b.sort_key.ts b.sort_key.seq y))
    ]

pub newest_ts-append : (xs ys : List Item) (key : List ℕ) → newest_ts (xs ++ ys) key ≡ greater (newest_ts xs key) (newest_ts ys key)
newest_ts-append xs ys key = ap ts_of (tested-append (is_item_of key) xs ys) ∙ ts_of-newer (newest xs key) (newest ys key)

pub greater-assoc : (a b c : Option ℕ) → greater (greater a b) c ≡ greater a (greater b c)
greater-assoc None b c = refl
greater-assoc (Some a) None c = refl
greater-assoc (Some a) (Some b) None = refl
greater-assoc (Some a) (Some b) (Some c) = ap Some (omega arith)

-- ---- one list more

pub one_more : {A B : Type 0} (f : A → B) (F : B → List Item) (key : List ℕ) (start : Option ℕ) (rs : List A) (i : ℕ) (r : A) (best next : Option ℕ) → i < length rs → r ≡ get_or rs i r → best ≡ greater start (newest_ts (flat_map F (map f (take i rs))) key) → next ≡ greater best (newest_ts (F (f r)) key) → next ≡ greater start (newest_ts (flat_map F (map f (take (i + 1) rs))) key)
one_more f F key start rs i r best next l is so_far found =
    let old = flat_map F (map f (take i rs)) in
    found
    ∙ ap (λ (o : Option ℕ). greater o (newest_ts (F (f r)) key)) so_far
    ∙ greater-assoc start (newest_ts old key) (newest_ts (F (f r)) key)
    ∙ ap (greater start) (sym (newest_ts-append old (F (f r)) key) ∙ ap (λ (vs : List Item). newest_ts vs key) (sym (flat_more f F rs i r l is)))

pub all_three : (a b c : List Item) (key : List ℕ) (first second last : Option ℕ) → first ≡ greater None (newest_ts a key) → second ≡ greater first (newest_ts b key) → last ≡ greater second (newest_ts c key) → last ≡ newest_ts (a ++ (b ++ c)) key
all_three a b c key first second last x y z =
    z
    ∙ ap (λ (o : Option ℕ). greater o (newest_ts c key)) (y ∙ ap (λ (o : Option ℕ). greater o (newest_ts b key)) x)
    ∙ greater-assoc (newest_ts a key) (newest_ts b key) (newest_ts c key)
    ∙ ap (greater (newest_ts a key)) (sym (newest_ts-append b c key))
    ∙ sym (newest_ts-append a (b ++ c) key)

-- ---- none is above the greatest

abbrev Upto : ℕ → Item → Type 0
Upto n v = v.sort_key.ts ≤ n

newer_if : (P : Item → Type 0) (a : Item) (o : Option Item) → P a → IfSome o P → IfSome (newer_item (Some a) o) P
newer_if P a None h g = h
newer_if P a (Some b) h g =
    elim (cases_Bool (is_item_newer b a)) [
      | inl y ↦ rw y g
      | inr y ↦ rw y h
    ]

some_more : (P Q : Item → Type 0) (o : Option Item) → ((v : Item) → P v → Q v) → IfSome o P → IfSome o Q
some_more P Q None f h = tt
some_more P Q (Some v) f h = f v h

front_upto : (b : Bool) (v : Item) (F : List Item) (n : ℕ) → Upto n v → IfSome (newest_item F) (Upto n) → IfSome (newest_item (cond b (v ∷ F) F)) (Upto n)
front_upto true v F n h g = newer_if (Upto n) v (newest_item F) h g
front_upto false v F n h g = g

abbrev greatest_ts : List Item → ℕ
greatest_ts vs = greatest_of (λ v. v.sort_key.ts) vs

pub tested_upto : (p : Item → Bool) (vs : List Item) → IfSome (newest_item (filter p vs)) (λ v. v.sort_key.ts ≤ greatest_of (λ w. w.sort_key.ts) vs)
tested_upto p [] = tt
tested_upto p (v ∷ vs) =
    let n = max v.sort_key.ts (greatest_ts vs) in
    front_upto (p v) v (filter p vs) n (omega arith)
    (some_more (Upto (greatest_ts vs)) (Upto n) (newest_item (filter p vs)) (λ w h. omega arith) (tested_upto p vs))

le_from : (a b : ℕ) → nat_le a b ≡ true → a ≤ b
le_from a b e = grind (arith, nat_tests)

no_greater : (m : ℕ) (o : Option Item) (n : ℕ) → n ≤ m → IfSome o (Upto n) → Some m ≡ greater (Some m) (ts_of o)
no_greater m None n l h = refl
no_greater m (Some v) n l h = ap Some (omega (arith, l, h))

pub passes_by : (best : Option ℕ) (vs : List Item) (key : List ℕ) → reaches best (greatest_of (λ w. w.sort_key.ts) vs) ≡ true → best ≡ greater best (newest_ts vs key)
passes_by None vs key e = absurd cc
passes_by (Some m) vs key e = no_greater m (newest vs key) (greatest_ts vs) (le_from (greatest_ts vs) m e) (tested_upto (is_item_of key) vs)
