-- In whatever order lists stand one after the other, and merged or not, a scan has the same rows.
use Rattle.std.proofs.Common.{◌≡◌, ℕ, ◌<◌, ◌⊎◌, inl, inr, Bool, true, false, cond, List, [], ◌∷◌, ◌++◌, Option, Some, refl, sym, ap, subst, ◌∙◌, arith}
use Rattle.std.specs.Prelude.{filter, nat_lt, ◌==◌, ◌&&◌, ◌||◌}
use Rattle.std.specs.List.{flat_map}
use Rattle.std.specs.Ordering.{is_lt, nat_cmp, ordering_reverse, ordering_then}
use Rattle.std.specs.Cmp.{ranked}
use Rattle.std.specs.Cmp.Lexicographic.{slice_cmp}
use Rattle.std.specs.declared.cmp.Ordering.{Ordering}
use Rattle.std.specs.declared.cmp.Ordering.TheVariants.{Less, Equal, Greater}
use Rattle.std.proofs.lemmas.Bool.{cases_Bool}
use Rattle.std.proofs.lemmas.Bool.Decides.{nat_tests}
use Rattle.std.proofs.lemmas.Cmp.{nat_list_cmp_total}
use Rattle.std.proofs.lemmas.Map.Lookups.{exact_bytes}
use Rattle.ts_key.specs.declared.numbers.Ts.{Ts}
use Rattle.ts_key.specs.Order.{is_before}
use Rattle.ts_key.specs.Orders.{is_Less}
use Rattle.ts_key.specs.Items.{Item}
use Rattle.ts_key.specs.Lists.{stored_items, with_item}
use Rattle.ts_key.specs.Visible.{is_item_newer, is_item_seen, newer_item, newest_item, visible_item}
use Rattle.ts_key.specs.Firsts.{lower, seen_of_key, slice_self}
use Rattle.sorted_run.proofs.Sorting.{items-sorted}
use Rattle.memtable.specs.Memtables as memtables
use Rattle.memtable.specs.Memtables.{Memtable}
use Rattle.memtable.proofs.Bests.{newer-assoc}
use Rattle.super_version.specs.declared.family.FamilyState.{FamilyState}
use Rattle.super_version.specs.Contents.{items_of_family, items_of_level, items_of_memtable}
use Rattle.super_version.proofs.Greatest.{tested-append}
use Rattle.udt_model.specs.Scans.{with_key}
use Rattle.ts_iterator.specs.Rows.{emit_of, is_key_between, keys, range_rows}
use Rattle.ts_iterator.specs.Sources.{items_of_runs, runs_and_tables}
use Rattle.ts_iterator.proofs.Keys.{flat_agree, with_key_at, insert_at}

-- ---- keys come in any order

goes_first : (k x : List ℕ) (xs : List (List ℕ)) → slice_cmp nat_cmp k x ≡ Less → with_key k (x ∷ xs) ≡ k ∷ x ∷ xs
goes_first k x xs e = with_key_at k x xs ∙ ap (λ o. insert_at o k x xs (with_key k xs)) e

is_there : (k x : List ℕ) (xs : List (List ℕ)) → slice_cmp nat_cmp k x ≡ Equal → with_key k (x ∷ xs) ≡ x ∷ xs
is_there k x xs e = with_key_at k x xs ∙ ap (λ o. insert_at o k x xs (with_key k xs)) e

goes_later : (k x : List ℕ) (xs : List (List ℕ)) → slice_cmp nat_cmp k x ≡ Greater → with_key k (x ∷ xs) ≡ x ∷ with_key k xs
goes_later k x xs e = with_key_at k x xs ∙ ap (λ o. insert_at o k x xs (with_key k xs)) e

turned : (a b : List ℕ) → slice_cmp nat_cmp a b ≡ Less → slice_cmp nat_cmp b a ≡ Greater
turned a b e = nat_list_cmp_total.antisymm b a ∙ ap ordering_reverse e

turned_back : (a b : List ℕ) → slice_cmp nat_cmp a b ≡ Greater → slice_cmp nat_cmp b a ≡ Less
turned_back a b e = nat_list_cmp_total.antisymm b a ∙ ap ordering_reverse e

-- the lower of two goes before both the other and the first
put_front : (a b x : List ℕ) (xs : List (List ℕ)) (o : Ordering) → slice_cmp nat_cmp a b ≡ Less → slice_cmp nat_cmp a x ≡ Less → slice_cmp nat_cmp b x ≡ o → with_key a (with_key b (x ∷ xs)) ≡ a ∷ with_key b (x ∷ xs)
put_front a b x xs Less l m e = ap (with_key a) (goes_first b x xs e) ∙ goes_first a b (x ∷ xs) l ∙ ap (λ r. a ∷ r) (sym (goes_first b x xs e))
put_front a b x xs Equal l m e = ap (with_key a) (is_there b x xs e) ∙ goes_first a x xs m ∙ ap (λ r. a ∷ r) (sym (is_there b x xs e))
put_front a b x xs Greater l m e = ap (with_key a) (goes_later b x xs e) ∙ goes_first a x (with_key b xs) m ∙ ap (λ r. a ∷ r) (sym (goes_later b x xs e))

swap_on : (a b x : List ℕ) (xs : List (List ℕ)) (o : Ordering) → slice_cmp nat_cmp a b ≡ Less → slice_cmp nat_cmp a x ≡ o → with_key a (with_key b xs) ≡ with_key b (with_key a xs) → with_key a (with_key b (x ∷ xs)) ≡ with_key b (with_key a (x ∷ xs))
swap_on a b x xs Less l e h =
    put_front a b x xs (slice_cmp nat_cmp b x) l e refl
    ∙ sym (ap (with_key b) (goes_first a x xs e) ∙ goes_later b a (x ∷ xs) (turned a b l))
swap_on a b x xs Equal l e h =
    let m : slice_cmp nat_cmp b x ≡ Greater = ap (slice_cmp nat_cmp b) (sym (exact_bytes a x e)) ∙ turned a b l in
    ap (with_key a) (goes_later b x xs m) ∙ is_there a x (with_key b xs) e
    ∙ sym (ap (with_key b) (is_there a x xs e) ∙ goes_later b x xs m)
swap_on a b x xs Greater l e h =
    let m : slice_cmp nat_cmp b x ≡ Greater = turned x b (nat_list_cmp_total.trans x a b (turned_back a x e) l) in
    ap (with_key a) (goes_later b x xs m) ∙ goes_later a x (with_key b xs) e ∙ ap (λ r. x ∷ r) h
    ∙ sym (ap (with_key b) (goes_later a x xs e) ∙ goes_later b x (with_key a xs) m)

swap_lower : (a b : List ℕ) (ks : List (List ℕ)) → slice_cmp nat_cmp a b ≡ Less → with_key a (with_key b ks) ≡ with_key b (with_key a ks)
swap_lower a b [] l = goes_first a b [] l ∙ sym (goes_later b a [] (turned a b l))
swap_lower a b (x ∷ xs) l = swap_on a b x xs (slice_cmp nat_cmp a x) l refl (swap_lower a b xs l)

swap_keys_on : (o : Ordering) (a b : List ℕ) (ks : List (List ℕ)) → slice_cmp nat_cmp a b ≡ o → with_key a (with_key b ks) ≡ with_key b (with_key a ks)
swap_keys_on Less a b ks e = swap_lower a b ks e
swap_keys_on Equal a b ks e = subst (λ c. with_key a (with_key c ks) ≡ with_key c (with_key a ks)) (exact_bytes a b e) refl
swap_keys_on Greater a b ks e = sym (swap_lower b a ks (turned_back a b e))

swap_keys : (a b : List ℕ) (ks : List (List ℕ)) → with_key a (with_key b ks) ≡ with_key b (with_key a ks)
swap_keys a b ks = swap_keys_on (slice_cmp nat_cmp a b) a b ks refl

-- the keys of versions put among others
abbrev keys_onto : List (List ℕ) → List Item → List (List ℕ)
keys_onto ks [] = ks
keys_onto ks (v ∷ vs) = with_key v.sort_key.key (keys_onto ks vs)

keys_are : (vs : List Item) → keys vs ≡ keys_onto [] vs
keys_are [] = refl
keys_are (v ∷ vs) = ap (with_key v.sort_key.key) (keys_are vs)

onto-append : (ks : List (List ℕ)) (xs ys : List Item) → keys_onto ks (xs ++ ys) ≡ keys_onto (keys_onto ks ys) xs
onto-append ks [] ys = refl
onto-append ks (x ∷ xs) ys = ap (with_key x.sort_key.key) (onto-append ks xs ys)

onto-with : (ks : List (List ℕ)) (v : Item) (xs : List Item) → keys_onto ks (with_item v xs) ≡ keys_onto ks (v ∷ xs)
onto-with ks v [] = refl
onto-with ks v (x ∷ xs) =
    elim (cases_Bool (is_before x.sort_key v.sort_key)) [
      | inl y ↦ rw y (ap (with_key x.sort_key.key) (onto-with ks v xs) ∙ swap_keys x.sort_key.key v.sort_key.key (keys_onto ks xs))
      | inr y ↦ rw y refl
    ]

onto-stored : (ks : List (List ℕ)) (vs : List Item) → keys_onto ks (stored_items vs) ≡ keys_onto ks vs
onto-stored ks [] = refl
onto-stored ks (v ∷ vs) = onto-with ks v (stored_items vs) ∙ ap (with_key v.sort_key.key) (onto-stored ks vs)

-- ---- the newest of those that pass a test

above : (a b c d : ℕ) → (a < b) ⊎ ((a ≡ b) × (c < d)) → (nat_lt a b || (b == a && nat_lt c d)) ≡ true
above a b c d h = grind (arith, nat_tests)

newer_back : (a b c d : ℕ) → (nat_lt a c || (c == a && nat_lt b d)) ≡ true → (nat_lt c a || (a == c && nat_lt d b)) ≡ false
newer_back a b c d h = grind (arith, nat_tests)

choose : {X : Type 0} (b : Bool) (x y : X) → b ≡ true → cond b x y ≡ x
choose b x y e = rw e refl

leave : {X : Type 0} (b : Bool) (x y : X) → b ≡ false → cond b x y ≡ y
leave b x y e = rw e refl

-- what comes first of one key in the stored order is newer
before_newer : (x v : Item) → is_before x.sort_key v.sort_key ≡ true → x.sort_key.key ≡ v.sort_key.key → is_item_newer x v ≡ true
before_newer x v h same =
    let p = x.sort_key in
    let q = v.sort_key in
    let own : slice_cmp nat_cmp p.key q.key ≡ Equal = ap (λ k. slice_cmp nat_cmp k q.key) same ∙ slice_self q.key in
    let rest : is_lt (ordering_then (nat_cmp q.ts p.ts) (nat_cmp q.seq p.seq)) ≡ true = sym (ap (λ (o : Ordering). is_lt (ordering_then o (ordering_then (nat_cmp q.ts p.ts) (nat_cmp q.seq p.seq)))) own) ∙ h in
    above q.ts p.ts q.seq p.seq (lower (nat_cmp q.ts p.ts) (nat_cmp q.seq p.seq) q.ts p.ts q.seq p.seq (ranked q.ts p.ts (nat_cmp q.ts p.ts) refl) (ranked q.seq p.seq (nat_cmp q.seq p.seq) refl) (is_Less (ordering_then (nat_cmp q.ts p.ts) (nat_cmp q.seq p.seq)) rest))

module _ (key : List ℕ) (test : Item → Bool) (own : (v : Item) → test v ≡ true → v.sort_key.key ≡ key) where
  swap : (x v : Item) → is_item_newer x v ≡ true → newer_item (Some x) (Some v) ≡ newer_item (Some v) (Some x)
  swap x v h =
      let back : is_item_newer v x ≡ false = newer_back v.sort_key.ts v.sort_key.seq x.sort_key.ts x.sort_key.seq h in
      leave (is_item_newer v x) (Some v) (Some x) back ∙ sym (choose (is_item_newer x v) (Some x) (Some v) h)

  over : (a b : Bool) (x v : Item) (F G : List Item) → (a ≡ true → b ≡ true → is_item_newer x v ≡ true) → newest_item G ≡ newest_item (cond b (v ∷ F) F) → newest_item (cond a (x ∷ G) G) ≡ newest_item (cond b (v ∷ cond a (x ∷ F) F) (cond a (x ∷ F) F))
  over false b x v F G h ih = ih
  over true false x v F G h ih = ap (newer_item (Some x)) ih
  over true true x v F G h ih =
      ap (newer_item (Some x)) ih
      ∙ newer-assoc (Some x) (Some v) (newest_item F)
      ∙ ap (λ o. newer_item o (newest_item F)) (swap x v (h refl refl))
      ∙ sym (newer-assoc (Some v) (Some x) (newest_item F))

  tested-with : (v : Item) (vs : List Item) → newest_item (filter test (with_item v vs)) ≡ newest_item (filter test (v ∷ vs))
  tested-with v [] = refl
  tested-with v (x ∷ xs) =
      elim (cases_Bool (is_before x.sort_key v.sort_key)) [
        | inl y ↦ rw y (over (test x) (test v) x v (filter test xs) (filter test (with_item v xs))
            (λ a b. before_newer x v y (own x a ∙ sym (own v b))) (tested-with v xs))
        | inr y ↦ rw y refl
      ]

  on_front : (b : Bool) (x : Item) (F G : List Item) → newest_item F ≡ newest_item G → newest_item (cond b (x ∷ F) F) ≡ newest_item (cond b (x ∷ G) G)
  on_front true x F G h = ap (newer_item (Some x)) h
  on_front false x F G h = h

  tested-stored : (vs : List Item) → newest_item (filter test (stored_items vs)) ≡ newest_item (filter test vs)
  tested-stored [] = refl
  tested-stored (v ∷ vs) = tested-with v (stored_items vs) ∙ on_front (test v) v (filter test (stored_items vs)) (filter test vs) (tested-stored vs)

-- ---- lists that are alike to a scan

pub record AreAlike (xs ys : List Item) : Type 0 where
  pub seen : (key : List ℕ) (t s : ℕ) → visible_item xs key t s ≡ visible_item ys key t s
  pub keyed : (ks : List (List ℕ)) → keys_onto ks xs ≡ keys_onto ks ys

same_alike : (xs : List Item) → AreAlike xs xs
same_alike xs = record { seen = λ key t s. refl; keyed = λ ks. refl }

stored_alike : (vs : List Item) → AreAlike (stored_items vs) vs
stored_alike vs = record { seen = λ key t s. tested-stored key (is_item_seen key t s) (seen_of_key key t s) vs; keyed = λ ks. onto-stored ks vs }

alike-append : (ws xs ys zs : List Item) → AreAlike ws xs → AreAlike ys zs → AreAlike (ws ++ ys) (xs ++ zs)
alike-append ws xs ys zs g h = record {
  seen = λ key t s.
      tested-append (is_item_seen key t s) ws ys
      ∙ ap (λ (o : Option Item). newer_item o (visible_item ys key t s)) (g.seen key t s)
      ∙ ap (newer_item (visible_item xs key t s)) (h.seen key t s)
      ∙ sym (tested-append (is_item_seen key t s) xs zs);
  keyed = λ ks. onto-append ks ws ys ∙ ap (λ ls. keys_onto ls ws) (h.keyed ks) ∙ g.keyed (keys_onto ks zs) ∙ sym (onto-append ks xs zs);
}

memtable_alike : (m : Memtable) → AreAlike (items_of_memtable m) (items_of_runs m)
memtable_alike m = subst (λ (xs : List Item). AreAlike xs (items_of_runs m)) (sym (items-sorted (memtables.joined m.runs))) (stored_alike (items_of_runs m))

memtables_alike : (ms : List Memtable) → AreAlike (flat_map items_of_memtable ms) (flat_map items_of_runs ms)
memtables_alike [] = same_alike []
memtables_alike (m ∷ ms) = alike-append (items_of_memtable m) (items_of_runs m) (flat_map items_of_memtable ms) (flat_map items_of_runs ms) (memtable_alike m) (memtables_alike ms)

lists_alike : (f : FamilyState) → AreAlike (items_of_family f) (runs_and_tables f)
lists_alike f =
    let tables = flat_map items_of_level f.levels in
    alike-append (items_of_memtable f.active) (items_of_runs f.active) (flat_map items_of_memtable f.sealed ++ tables) (flat_map items_of_runs f.sealed ++ tables) (memtable_alike f.active)
    (alike-append (flat_map items_of_memtable f.sealed) (flat_map items_of_runs f.sealed) tables tables (memtables_alike f.sealed) (same_alike tables))

rows_alike : (floor : Ts) (low : List ℕ) (high : Option (List ℕ)) (t s : ℕ) (xs ys : List Item) → AreAlike xs ys → range_rows xs floor low high t s ≡ range_rows ys floor low high t s
rows_alike floor low high t s xs ys h =
    ap (λ ks. flat_map (λ key. emit_of floor (visible_item xs key t s)) (filter (is_key_between low high) ks)) (keys_are xs ∙ h.keyed [] ∙ sym (keys_are ys))
    ∙ flat_agree (λ key. emit_of floor (visible_item xs key t s)) (λ key. emit_of floor (visible_item ys key t s)) (is_key_between low high) (keys ys) (λ key y. ap (emit_of floor) (h.seen key t s))

-- a scan of the merged runs and tables has the rows of the family's lists
pub merged_rows : (floor : Ts) (low : List ℕ) (high : Option (List ℕ)) (t s : ℕ) (f : FamilyState) → range_rows (stored_items (runs_and_tables f)) floor low high t s ≡ range_rows (items_of_family f) floor low high t s
merged_rows floor low high t s f =
    rows_alike floor low high t s (stored_items (runs_and_tables f)) (runs_and_tables f) (stored_alike (runs_and_tables f))
    ∙ sym (rows_alike floor low high t s (items_of_family f) (runs_and_tables f) (lists_alike f))
