-- What a read sees in several lists is the newest of what it sees in each.
use Rattle.std.proofs.Common.{◌≡◌, ℕ, ◌+◌, ◌<◌, ◌≤◌, Bool, true, false, max, List, [], ◌∷◌, ◌++◌, length, get_or, map, take, Option, Some, None, refl, sym, ap, subst, ◌∙◌, inl, inr, arith}
use Rattle.std.specs.Prelude.{filter, nat_lt, ◌==◌, ◌&&◌, ◌||◌, IfSome}
use Rattle.std.specs.List.{flat_map}
use Rattle.std.proofs.lemmas.Bool.{cases_Bool}
use Rattle.std.proofs.lemmas.Bool.Decides.{nat_tests}
use Rattle.ts_key.specs.declared.version.Version.{Version}
use Rattle.ts_key.specs.declared.lent.Hit.{Hit}
use Rattle.ts_key.specs.Items.{Item, found, hit_at, items_of}
use Rattle.ts_key.specs.Visible.{is_item_newer, newer_item, newest_item, is_item_seen, visible_item}
use Rattle.ts_key.specs.Firsts.{seen_of_key}
use Rattle.sorted_run.specs.Runs.{latest_of}
use Rattle.memtable.proofs.Bests.{newer-assoc}
use Rattle.block_table.specs.Contents.{greatest_of}
use Rattle.super_version.proofs.Lists.{flat_more}
use Rattle.super_version.proofs.Greatest.{tested-append, tested_upto}
use Rattle.point_read.specs.Tells.{is_item_above}

pub visible-append : (xs ys : List Item) (key : List ℕ) (t s : ℕ) → visible_item (xs ++ ys) key t s ≡ newer_item (visible_item xs key t s) (visible_item ys key t s)
visible-append xs ys key t s = tested-append (is_item_seen key t s) xs ys

-- one list more
pub one_more : {A B : Type 0} (f : A → B) (F : B → List Item) (key : List ℕ) (t s : ℕ) (start : Option Item) (rs : List A) (i : ℕ) (r : A) (best next : Option Item) → i < length rs → r ≡ get_or rs i r → best ≡ newer_item start (visible_item (flat_map F (map f (take i rs))) key t s) → next ≡ newer_item best (visible_item (F (f r)) key t s) → next ≡ newer_item start (visible_item (flat_map F (map f (take (i + 1) rs))) key t s)
one_more f F key t s start rs i r best next l is so_far more =
    let old = flat_map F (map f (take i rs)) in
    more
    ∙ ap (λ (o : Option Item). newer_item o (visible_item (F (f r)) key t s)) so_far
    ∙ sym (newer-assoc start (visible_item old key t s) (visible_item (F (f r)) key t s))
    ∙ ap (newer_item start) (sym (visible-append old (F (f r)) key t s) ∙ ap (λ (vs : List Item). visible_item vs key t s) (sym (flat_more f F rs i r l is)))

pub all_three : (a b c : List Item) (key : List ℕ) (t s : ℕ) (first second last : Option Item) → first ≡ newer_item None (visible_item a key t s) → second ≡ newer_item first (visible_item b key t s) → last ≡ newer_item second (visible_item c key t s) → last ≡ visible_item (a ++ (b ++ c)) key t s
all_three a b c key t s first second last x y z =
    z
    ∙ ap (λ (o : Option Item). newer_item o (visible_item c key t s)) (y ∙ ap (λ (o : Option Item). newer_item o (visible_item b key t s)) x)
    ∙ sym (newer-assoc (visible_item a key t s) (visible_item b key t s) (visible_item c key t s))
    ∙ ap (newer_item (visible_item a key t s)) (sym (visible-append b c key t s))
    ∙ sym (visible-append a (b ++ c) key t s)

-- ---- none is above the greatest

lt_from : (a b : ℕ) → nat_lt a b ≡ true → a < b
lt_from a b e = grind (arith, nat_tests)

below_not_newer : (a b c d : ℕ) → c < a → (nat_lt a c || (c == a && nat_lt b d)) ≡ false
below_not_newer a b c d h = grind (arith, nat_tests)

stays : (v : Item) (o : Option Item) (n : ℕ) → n < v.sort_key.ts → IfSome o (λ w. w.sort_key.ts ≤ n) → newer_item (Some v) o ≡ Some v
stays v None n l h = refl
stays v (Some w) n l h = let y : is_item_newer w v ≡ false = below_not_newer v.sort_key.ts v.sort_key.seq w.sort_key.ts w.sort_key.seq (omega (arith, l, h)) in rw y refl

pub passes_over : (best : Option Item) (vs : List Item) (key : List ℕ) (t s : ℕ) → is_item_above best (greatest_of (λ w. w.sort_key.ts) vs) ≡ true → best ≡ newer_item best (visible_item vs key t s)
passes_over None vs key t s e = absurd cc
passes_over (Some v) vs key t s e = sym (stays v (visible_item vs key t s) (greatest_of (λ w. w.sort_key.ts) vs) (lt_from (greatest_of (λ w. w.sort_key.ts) vs) v.sort_key.ts e) (tested_upto (is_item_seen key t s) vs))

pub latest_is : (vs : List Version) → latest_of vs ≡ greatest_of (λ w. w.sort_key.ts) (items_of vs)
latest_is [] = refl
latest_is (v ∷ vs) = ap (max v.ts.0) (latest_is vs)

-- ---- what a read sees is of its key

newer_if : (P : Item → Type 0) (a : Item) (o : Option Item) → P a → IfSome o P → IfSome (newer_item (Some a) o) P
newer_if P a None h g = h
newer_if P a (Some b) h g =
    elim (cases_Bool (is_item_newer b a)) [
      | inl y ↦ rw y g
      | inr y ↦ rw y h
    ]

passes : (p : Item → Bool) (vs : List Item) → IfSome (newest_item (filter p vs)) (λ v. p v ≡ true)
passes p [] = tt
passes p (v ∷ vs) =
    elim (cases_Bool (p v)) [
      | inl y ↦ rw y (newer_if (λ w. p w ≡ true) v (newest_item (filter p vs)) y (passes p vs))
      | inr y ↦ rw y (passes p vs)
    ]

some_at : (P : Item → Type 0) (o : Option Item) (v : Item) → o ≡ Some v → IfSome o P → P v
some_at P o v e h = subst (λ (x : Option Item). IfSome x P) e h

pub of_its_key : (vs : List Item) (key : List ℕ) (t s : ℕ) (v : Item) → visible_item vs key t s ≡ Some v → v.sort_key.key ≡ key
of_its_key vs key t s v e = seen_of_key key t s v (some_at (λ w. is_item_seen key t s w ≡ true) (visible_item vs key t s) v e (passes (is_item_seen key t s) vs))

-- ---- which of two hits

pub takes_other : (key : List ℕ) (best other : Option Hit) (a b : Hit) → best ≡ Some a → other ≡ Some b → is_item_newer (hit_at key b) (hit_at key a) ≡ true → found key other ≡ newer_item (found key best) (found key other)
takes_other key best other a b x y z = rw (x, y, z) refl

pub keeps_best : (key : List ℕ) (best other : Option Hit) (a b : Hit) → best ≡ Some a → other ≡ Some b → is_item_newer (hit_at key b) (hit_at key a) ≡ false → found key best ≡ newer_item (found key best) (found key other)
keeps_best key best other a b x y z = rw (x, y, z) refl
