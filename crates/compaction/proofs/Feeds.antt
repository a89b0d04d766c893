-- A feed of tables: what it takes next, and what its versions are.
use Rattle.std.proofs.Common.{◌≡◌, ℕ, zero, suc, ◌+◌, true, ◌&&◌, ◌||◌, List, [], ◌∷◌, ◌++◌, map, take, drop, refl, sym, ap, subst, ◌∙◌, arith, inl, inr}
use Rattle.std.specs.Prelude.{◌==◌, nat_lt, All, Option, Some, None, slice_get}
use Rattle.std.specs.List.{AllByRecursion}
use Rattle.std.specs.List.Sorted.{IsPermutation}
use Rattle.std.specs.Str.{bytes_eq}
use Rattle.std.specs.Ordering.{is_eq}
use Rattle.std.proofs.lemmas.Bool.{cases_Bool, false≢true}
use Rattle.std.proofs.lemmas.List.{map-append}
use Rattle.std.proofs.lemmas.List.Elements.{All-nil, All-cons, All-head, All-tail}
use Rattle.std.proofs.lemmas.List.Kept.{AllPairs-cons}
use Rattle.std.proofs.lemmas.List.Sorted.{All-permutation, IsPermutation-cons, IsPermutation-map, IsPermutation-middle, IsPermutation-refl, IsPermutation-sym, IsPermutation-trans}
use Rattle.ts_key.specs.declared.numbers.Family.{Family}
use Rattle.ts_key.specs.declared.numbers.Seq.{Seq}
use Rattle.ts_key.specs.declared.numbers.Ts.{Ts}
use Rattle.ts_key.specs.declared.version.Form.{Form}
use Rattle.ts_key.specs.declared.version.Version.{Version}
use Rattle.ts_key.specs.Items.{Item, item_of}
use Rattle.ts_key.specs.Lists.{joined_lists, merged, with_item, stored_items}
use Rattle.ts_key.specs.Order as order
use Rattle.ts_key.specs.Order.{SortKey, sort_cmp}
use Rattle.ts_key.specs.Orders as orders
use Rattle.ts_key.specs.StoredKeys.{IsItem, IsSequence, IsStamp}
use Rattle.data_block.specs.Grammar.{IsBlock}
use Rattle.udt_model.specs.declared.reply.KeySpan.{KeySpan}
use Rattle.udt_model.specs.Collecting.{collect}
use Rattle.udt_model.specs.Orders.{is_version_before, is_below}
use Rattle.udt_model.proofs.Sorted.{orders_agree}
use Rattle.collection_laws.specs.Places.{AreApart, AreStored, HaveOnePlace}
use Rattle.collection_laws.proofs.Storing.{apart_moved, before_itself, before_trans, collect_by_order, same_from}
use Rattle.merge_cursor.specs.Sides.{is_apart}
use Rattle.history_gc.specs.Pushed.{AreInOrder, MayFollow, StandsBefore}
use Rattle.history_gc.proofs.Steps.{collect_is, in_order_stored, order_snoc}
use Rattle.block_table.specs.Contents.{Contents}
use Rattle.block_table.specs.Tables.{IsTable}
use Rattle.super_version.specs.Live.{Live}
use Rattle.super_version.specs.Contents.{items_of_table, version_of_item}
use Rattle.compaction.specs.Feeding.{ends_at, versions_from, versions_in_tables}
use Rattle.compaction.specs.Made.{IsInput}

-- ---- places in a list

got_on : (ys : List Item) (n : ℕ) (v : Item) → slice_get ys n ≡ Some v → (drop n ys ≡ v ∷ drop (suc n) ys) × (take (suc n) ys ≡ take n ys ++ v ∷ [])
got_on [] zero v e = absurd cc
got_on [] (suc n) v e = absurd cc
got_on (x ∷ xs) zero v e = let q : x ≡ v = cc in (ap (λ (y : Item). y ∷ xs) q, ap (λ (y : Item). y ∷ []) q)
got_on (x ∷ xs) (suc n) v e = let r = got_on xs n v e in (r.0, ap (λ (ys : List Item). x ∷ ys) r.1)

-- the version at a place is the first that isn't passed, and one place on it is passed
pub walk_on : (ys : List Item) (n q : ℕ) (v : Item) → slice_get ys n ≡ Some v → q ≡ n + 1 → (drop n ys ≡ v ∷ drop q ys) × (take q ys ≡ take n ys ++ v ∷ [])
walk_on ys n q v e on =
    let r = got_on ys n v e in
    let b : q ≡ suc n = omega (arith, on) in (
      r.0 ∙ ap (λ k. v ∷ drop k ys) (sym b),
      ap (λ k. take k ys) b ∙ r.1,
    )

pub walk_ends : (ys : List Item) (n : ℕ) → None ≡ slice_get ys n → drop n ys ≡ []
walk_ends [] zero e = refl
walk_ends [] (suc n) e = refl
walk_ends (x ∷ xs) zero e = absurd cc
walk_ends (x ∷ xs) (suc n) e = walk_ends xs n e

-- ---- the next version

sort_key : Family → Item → SortKey
sort_key family v = (item_of (version_of_item family v)).sort_key

before_is : (family : Family) (u v : Item) → order.is_before u.sort_key v.sort_key ≡ true → StandsBefore (version_of_item family u) (version_of_item family v)
before_is family u v h = (refl, orders_agree (version_of_item family u) (version_of_item family v) ∙ h)

before_on : (u v w : Version) → StandsBefore u v → StandsBefore v w → StandsBefore u w
before_on u v w h k = (h.0 ∙ k.0, before_trans u v w h.1 k.1)

same_end : (v : Item) (k : SortKey) → is_eq (sort_cmp v.sort_key k) ≡ true → v.sort_key ≡ k
same_end v k h = orders.sort_cmp_equal v.sort_key k (orders.is_Equal (sort_cmp v.sort_key k) h)

pub may_follow : (family : Family) (vs : List Item) (k : Option SortKey) (v : Item) → AreInOrder (versions_from family vs) → ends_at k vs ≡ true → is_apart k (Some v.sort_key) ≡ true → MayFollow (versions_from family vs) (version_of_item family v)
may_follow family [] k v o e a = tt
may_follow family (x ∷ xs) None v o e a = absurd (false≢true e)
may_follow family (x ∷ []) (Some k) v o e a =
    let s : x.sort_key ≡ k = same_end x k e in
    (before_is family x v (subst (λ (z : SortKey). order.is_before z v.sort_key ≡ true) (sym s) a), tt)
may_follow family (x ∷ y ∷ ys) (Some k) v o e a =
    let ih = may_follow family (y ∷ ys) (Some k) v o.1 e a in
    (before_on (version_of_item family x) (version_of_item family y) (version_of_item family v) o.0.0 ih.0, ih)

pub ends_snoc : (vs : List Item) (v : Item) (k : SortKey) → k ≡ v.sort_key → ends_at (Some k) (vs ++ v ∷ []) ≡ true
ends_snoc [] v k e = subst (λ (z : SortKey). is_eq (sort_cmp v.sort_key z) ≡ true) (sym e) (ap is_eq (orders.cmp_itself v.sort_key))
ends_snoc (x ∷ []) v k e = ends_snoc [] v k e
ends_snoc (x ∷ y ∷ ys) v k e = ends_snoc (y ∷ ys) v k e

pub versions_snoc : (family : Family) (vs : List Item) (v : Item) → versions_from family (vs ++ v ∷ []) ≡ versions_from family vs ++ version_of_item family v ∷ []
versions_snoc family vs v = map-append (version_of_item family) vs (v ∷ [])

pub in_order_more : (family : Family) (vs : List Item) (k : Option SortKey) (v : Item) → AreInOrder (versions_from family vs) → ends_at k vs ≡ true → is_apart k (Some v.sort_key) ≡ true → AreInOrder (versions_from family (vs ++ v ∷ []))
in_order_more family vs k v o e a = subst AreInOrder (sym (versions_snoc family vs v)) (order_snoc (versions_from family vs) (version_of_item family v) o (may_follow family vs k v o e a))

-- ---- all versions of the tables

pub joined_is : (family : Family) (tables : List Live) → versions_in_tables family tables ≡ versions_from family (joined_lists (map items_of_table tables))
joined_is family [] = refl
joined_is family (t ∷ ts) = ap (λ l. versions_from family (items_of_table t) ++ l) (joined_is family ts) ∙ sym (map-append (version_of_item family) (items_of_table t) (joined_lists (map items_of_table ts)))

swapped : (v x : Item) (xs : List Item) → IsPermutation (v ∷ x ∷ xs) (x ∷ v ∷ xs)
swapped v x xs = IsPermutation-middle (v ∷ []) x xs

with_moved : (v : Item) (xs : List Item) → IsPermutation (v ∷ xs) (with_item v xs)
with_moved v [] = IsPermutation-refl (v ∷ [])
with_moved v (x ∷ xs) =
    elim (cases_Bool (order.is_before x.sort_key v.sort_key)) [
      | inl y ↦ rw y (IsPermutation-trans (v ∷ x ∷ xs) (x ∷ v ∷ xs) (x ∷ with_item v xs) (swapped v x xs) (IsPermutation-cons x (v ∷ xs) (with_item v xs) (with_moved v xs)))
      | inr y ↦ rw y (IsPermutation-refl (v ∷ x ∷ xs))
    ]

stored_moved : (xs : List Item) → IsPermutation xs (stored_items xs)
stored_moved [] = IsPermutation-refl []
stored_moved (x ∷ xs) = IsPermutation-trans (x ∷ xs) (x ∷ stored_items xs) (with_item x (stored_items xs)) (IsPermutation-cons x xs (stored_items xs) (stored_moved xs)) (with_moved x (stored_items xs))

pub versions_moved : (family : Family) (items : List Item) → IsPermutation (versions_from family items) (versions_from family (stored_items items))
versions_moved family items = IsPermutation-map (version_of_item family) items (stored_items items) (stored_moved items)

-- ---- what is in order is apart

one_place : (a b : Version) → HaveOnePlace a b → is_version_before a b ≡ is_version_before b b
one_place a b p = λ i. is_below (p.0 i) b.key || (bytes_eq (p.0 i) b.key && (nat_lt b.ts.0 (p.1 i) || (p.1 i == b.ts.0 && nat_lt b.seq.0 (p.2 i))))

before_apart : (a b : Version) → is_version_before a b ≡ true → HaveOnePlace a b → ⊥
before_apart a b h p = false≢true (sym (before_itself b) ∙ sym (one_place a b p) ∙ h)

all_apart : (a : Version) (vs : List Version) → AllByRecursion (λ b. is_version_before a b ≡ true) vs → All (λ b. HaveOnePlace a b → ⊥) vs
all_apart a [] h = All-nil (λ b. HaveOnePlace a b → ⊥)
all_apart a (b ∷ bs) h = All-cons (λ b. HaveOnePlace a b → ⊥) b bs (before_apart a b h.0) (all_apart a bs h.1)

stored_apart : (vs : List Version) → AreStored vs → AreApart vs
stored_apart [] h = λ i j d a b. absurd (omega (arith, b))
stored_apart (v ∷ vs) h = AllPairs-cons (λ a b. HaveOnePlace a b → ⊥) v vs (all_apart v vs h.0) (stored_apart vs h.1)

pub apart_from : (family : Family) (items : List Item) → AreInOrder (versions_from family (stored_items items)) → AreApart (versions_from family items)
apart_from family items o =
    apart_moved (versions_from family (stored_items items)) (versions_from family items) (IsPermutation-sym (versions_from family items) (versions_from family (stored_items items)) (versions_moved family items))
    (stored_apart (versions_from family (stored_items items)) (in_order_stored (versions_from family (stored_items items)) o))

-- what is kept of the merged versions is what is kept of all
pub collected_same : (family : Family) (items : List Item) (floor : Ts) (seqs : List Seq) (deeper : List KeySpan) → AreInOrder (versions_from family (stored_items items))
    → collect (versions_from family (stored_items items)) floor seqs deeper ≡ collect (versions_from family items) floor seqs deeper
collected_same family items floor seqs deeper o =
    let xs = versions_from family items in
    let ys = versions_from family (stored_items items) in
    collect_is floor seqs deeper ys o
    ∙ sym (collect_by_order floor seqs deeper xs ys (apart_from family items o) (in_order_stored ys o) (same_from xs ys (versions_moved family items)))

-- ---- versions that a table may have

abbrev Fits : Form → List Item → Type 0
Fits form vs = AllByRecursion (IsItem form) vs

fits_append : (form : Form) (xs ys : List Item) → Fits form xs → Fits form ys → Fits form (xs ++ ys)
fits_append form [] ys h k = k
fits_append form (x ∷ xs) ys h k = (h.0, fits_append form xs ys h.1 k)

fits_joined : (form : Form) (cuts : List (List Item)) → AllByRecursion (IsBlock form) cuts → Fits form (joined_lists cuts)
fits_joined form [] h = tt
fits_joined form (c ∷ cs) h = fits_append form c (joined_lists cs) h.0.items (fits_joined form cs h.1)

table_fits : (t : Contents) (image : List ℕ) → IsTable t image → Fits t.form t.items
table_fits t image h = subst (Fits t.form) (sym h.blocks.joins) (fits_joined t.form h.cuts h.blocks.each)

tables_fit : (family : Family) (form : Form) (tables : List Live) → AllByRecursion (IsInput family form) tables → Fits form (joined_lists (map items_of_table tables))
tables_fit family form [] h = tt
tables_fit family form (t ∷ ts) h =
    fits_append form t.table.contents.items (joined_lists (map items_of_table ts)) (subst (λ z. Fits z t.table.contents.items) h.0.form_is (table_fits t.table.contents t.table.image h.0.table)) (tables_fit family form ts h.1)

all_stamps : (family : Family) (form : Form) (vs : List Item) → Fits form vs → All (λ (v : Version). IsStamp form v.ts.0) (versions_from family vs)
all_stamps family form [] h = All-nil (λ (v : Version). IsStamp form v.ts.0)
all_stamps family form (v ∷ vs) h = All-cons (λ (v : Version). IsStamp form v.ts.0) (version_of_item family v) (versions_from family vs) h.0.spelled.stamp (all_stamps family form vs h.1)

all_sequences : (family : Family) (form : Form) (vs : List Item) → Fits form vs → All (λ (v : Version). IsSequence v.seq.0) (versions_from family vs)
all_sequences family form [] h = All-nil (λ (v : Version). IsSequence v.seq.0)
all_sequences family form (v ∷ vs) h = All-cons (λ (v : Version). IsSequence v.seq.0) (version_of_item family v) (versions_from family vs) h.0.spelled.sequence (all_sequences family form vs h.1)

recursion_from : {X : Type 0} (P : X → Type 0) (xs : List X) → All P xs → AllByRecursion P xs
recursion_from P [] h = tt
recursion_from P (x ∷ xs) h = (All-head P x xs h, recursion_from P xs (All-tail P x xs h))

pub stamps_fit : (family : Family) (form : Form) (tables : List Live) → All (IsInput family form) tables → All (λ (v : Version). IsStamp form v.ts.0) (versions_from family (merged (map items_of_table tables)))
stamps_fit family form tables h =
    let items = joined_lists (map items_of_table tables) in
    All-permutation (λ (v : Version). IsStamp form v.ts.0) (versions_from family items) (versions_from family (stored_items items)) (versions_moved family items) (all_stamps family form items (tables_fit family form tables (recursion_from (IsInput family form) tables h)))

pub sequences_fit : (family : Family) (form : Form) (tables : List Live) → All (IsInput family form) tables → All (λ (v : Version). IsSequence v.seq.0) (versions_from family (merged (map items_of_table tables)))
sequences_fit family form tables h =
    let items = joined_lists (map items_of_table tables) in
    All-permutation (λ (v : Version). IsSequence v.seq.0) (versions_from family items) (versions_from family (stored_items items)) (versions_moved family items) (all_sequences family form items (tables_fit family form tables (recursion_from (IsInput family form) tables h)))

-- ---- a feed of which nothing was taken

module _ (family : Family) (tables : List Live) (all coming : List Version) (same : all ≡ coming) (are : coming ≡ versions_from family (merged (map items_of_table tables))) where
  pub feed_stamps : (form : Form) → All (IsInput family form) tables → All (λ (v : Version). IsStamp form v.ts.0) all
  feed_stamps form h = subst (λ vs. All (λ (v : Version). IsStamp form v.ts.0) vs) (sym (same ∙ are)) (stamps_fit family form tables h)

  pub feed_sequences : (form : Form) → All (IsInput family form) tables → All (λ (v : Version). IsSequence v.seq.0) all
  feed_sequences form h = subst (λ vs. All (λ (v : Version). IsSequence v.seq.0) vs) (sym (same ∙ are)) (sequences_fit family form tables h)

  pub feed_apart : AreInOrder all → AreApart (versions_in_tables family tables)
  feed_apart o = subst AreApart (sym (joined_is family tables)) (apart_from family (joined_lists (map items_of_table tables)) (subst AreInOrder (same ∙ are) o))

  pub feed_kept : (floor : Ts) (seqs : List Seq) (spans deeper : List KeySpan) (kept : List Version) → kept ≡ collect coming floor seqs spans → spans ≡ deeper → AreInOrder all → kept ≡ collect (versions_in_tables family tables) floor seqs deeper
  feed_kept floor seqs spans deeper kept k d o =
      k
      ∙ (λ i. collect (are i) floor seqs (d i))
      ∙ collected_same family (joined_lists (map items_of_table tables)) floor seqs deeper (subst AreInOrder (same ∙ are) o)
      ∙ ap (λ vs. collect vs floor seqs deeper) (sym (joined_is family tables))
