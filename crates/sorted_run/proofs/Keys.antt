-- The versions of a key stand together in the stored order, the larger timestamps first.
use Rattle.std.proofs.Common.{◌≡◌, ℕ, zero, suc, ◌-◌, ◌<◌, ◌≤◌, Bool, true, false, ◌&&◌, List, [], ◌∷◌, length, get_or, take, drop, Some, refl, sym, ap, subst, ◌∙◌, inl, inr, arith}
use Rattle.std.specs.Prelude.{slice_get, nat_le, nat_lt, ◌==◌, ◌||◌}
use Rattle.std.specs.List.{AllByRecursion, AllWithin}
use Rattle.std.specs.List.Sorted.{IsPartitionedBy}
use Rattle.std.specs.Str.{bytes_eq}
use Rattle.std.specs.Ordering.{is_ge, is_lt, nat_cmp}
use Rattle.std.specs.Cmp.Lexicographic.{slice_cmp, nat_list_cmp_total}
use Rattle.std.specs.declared.cmp.Ordering.{Ordering}
use Rattle.std.specs.declared.cmp.Ordering.TheVariants.{Less, Equal, Greater}
use Rattle.std.proofs.lemmas.Bool.{cases_eq}
use Rattle.std.proofs.lemmas.Bool.Decides.{nat_tests}
use Rattle.std.proofs.lemmas.Slice.Eq.{bytes_eq-Decides}
use Rattle.ts_key.specs.declared.version.Version.{Version}
use Rattle.ts_key.specs.Order.{SortKey, is_before}
use Rattle.ts_key.specs.Orders.{is_Less}
use Rattle.ts_key.specs.Items.{item_of, items_of}
use Rattle.ts_key.specs.Lists.{IsOrdered}
use Rattle.ts_key.specs.Firsts.{slice_self, key_upto, later_not_newer}
use Rattle.sorted_run.proofs.Finds.{at_index}
use Rattle.sorted_run.specs.Runs.{has_key_below, has_key, sees}

abbrev sort_key : Version → SortKey
sort_key v = (item_of v).sort_key

both : (b : Bool) → b ≡ true → b ≡ false → ⊥
both b x y = cc

not_so : (b : Bool) → (b ≡ true → ⊥) → b ≡ false
not_so true h = absurd (h refl)
not_so false h = refl

all_at : (P : _ → Type 0) (vs : List Version) → AllByRecursion P (items_of vs) → (j : ℕ) (d : Version) → j < length vs → P (item_of (get_or vs j d))
all_at P [] h j d l = absurd (omega arith)
all_at P (v ∷ vs) h zero d l = h.0
all_at P (v ∷ vs) h (suc j) d l = all_at P vs h.1 j d (omega arith)

-- of two versions the later doesn't stand before the earlier
pub later_upto : (vs : List Version) → IsOrdered (items_of vs) → (i j : ℕ) (d : Version) → i < j → j < length vs → is_before (sort_key (get_or vs j d)) (sort_key (get_or vs i d)) ≡ false
later_upto [] so i j d l m = absurd (omega arith)
later_upto (v ∷ vs) so i zero d l m = absurd (omega arith)
later_upto (v ∷ vs) so zero (suc j) d l m = all_at (λ w. is_before w.sort_key (sort_key v) ≡ false) vs so.0 j d (omega arith)
later_upto (v ∷ vs) so (suc i) (suc j) d l m = later_upto vs so.1 i j d (omega arith) (omega arith)

pub ordered-drop : (vs : List Version) (n : ℕ) → IsOrdered (items_of vs) → IsOrdered (items_of (drop n vs))
ordered-drop vs zero so = so
ordered-drop [] (suc n) so = tt
ordered-drop (v ∷ vs) (suc n) so = ordered-drop vs n so.1

-- ---- tests of one key

is_below_Less : (key : List ℕ) (v : Version) → has_key_below key v ≡ true → slice_cmp nat_cmp v.key key ≡ Less
is_below_Less key v e = is_Less (slice_cmp nat_cmp v.key key) e

pub below_other : (key : List ℕ) (v : Version) → has_key_below key v ≡ true → has_key key v ≡ false
below_other key v e = not_so (has_key key v) (λ y. both (has_key_below key v) e (ap (λ k. is_lt (slice_cmp nat_cmp k key)) ((bytes_eq-Decides v.key key).0 y) ∙ ap is_lt (slice_self key)))

-- no key that is below comes after one that isn't
below_back : (key : List ℕ) (v w : Version) → is_before (sort_key w) (sort_key v) ≡ false → has_key_below key w ≡ true → has_key_below key v ≡ true
below_back key v w upto e =
    elim (key_upto (sort_key v) (sort_key w) upto) [
      | inl l ↦ ap is_lt (nat_list_cmp_total.trans v.key w.key key l (is_below_Less key w e))
      | inr q ↦ ap (λ k. is_lt (slice_cmp nat_cmp k key)) q ∙ e
    ]

pub below_parts : (key : List ℕ) (vs : List Version) → IsOrdered (items_of vs) → IsPartitionedBy (has_key_below key) vs
below_parts key vs so i j d o l e =
    elim (cases_eq i j) [
      | inl q ↦ subst (λ k. has_key_below key (get_or vs k d) ≡ true) (sym q) e
      | inr n ↦ below_back key (get_or vs i d) (get_or vs j d) (later_upto vs so i j d (omega (arith, n, o)) l) e
    ]

-- where none is below, the versions of the key come first
key_back : (key : List ℕ) (v w : Version) → is_before (sort_key w) (sort_key v) ≡ false → has_key_below key v ≡ false → has_key key w ≡ true → has_key key v ≡ true
key_back key v w upto n e =
    let q : w.key ≡ key = (bytes_eq-Decides w.key key).0 e in
    elim (key_upto (sort_key v) (sort_key w) upto) [
      | inl l ↦ absurd (both (has_key_below key v) (ap (λ k. is_lt (slice_cmp nat_cmp v.key k)) (sym q) ∙ ap is_lt l) n)
      | inr r ↦ ap (λ k. bytes_eq k key) r ∙ e
    ]

pub key_parts : (key : List ℕ) (vs : List Version) → IsOrdered (items_of vs) → AllWithin (λ v. has_key_below key v ≡ false) vs 0 (length vs) → IsPartitionedBy (has_key key) vs
key_parts key vs so from i j d o l e =
    elim (cases_eq i j) [
      | inl q ↦ subst (λ k. has_key key (get_or vs k d) ≡ true) (sym q) e
      | inr n ↦ key_back key (get_or vs i d) (get_or vs j d) (later_upto vs so i j d (omega (arith, n, o)) l) (from i d (omega arith) (omega (arith, o, l))) e
    ]

-- ---- what a read sees

pub other_unseen : (key : List ℕ) (t s : ℕ) (v : Version) → has_key key v ≡ false → sees key t s v ≡ false
other_unseen key t s v e = rw e refl

pub above_unseen : (key : List ℕ) (t s : ℕ) (v : Version) → nat_le v.ts.0 t ≡ false → sees key t s v ≡ false
above_unseen key t s v e = rw e (none (has_key key v))
  where
    none : (b : Bool) → (b && false) ≡ false
    none true = refl
    none false = refl

pub upto_seen : (key : List ℕ) (t s : ℕ) (v : Version) → has_key key v ≡ true → nat_le v.ts.0 t ≡ true → sees key t s v ≡ nat_le v.seq.0 s
upto_seen key t s v e f = rw (e, f) refl

-- of one key the timestamps don't rise
not_newer_upto : (a b c d : ℕ) → (nat_lt a b || (b == a && nat_lt c d)) ≡ false → b ≤ a
not_newer_upto a b c d h = grind (arith, nat_tests)

falls : (key : List ℕ) (v w : Version) → is_before (sort_key w) (sort_key v) ≡ false → has_key key v ≡ true → has_key key w ≡ true → w.ts.0 ≤ v.ts.0
falls key v w upto e f =
    let q : v.key ≡ w.key = (bytes_eq-Decides v.key key).0 e ∙ sym ((bytes_eq-Decides w.key key).0 f) in
    not_newer_upto v.ts.0 w.ts.0 v.seq.0 w.seq.0 (later_not_newer (item_of v) (item_of w) q upto)

pub stamps_fall : (key : List ℕ) (vs : List Version) → IsOrdered (items_of vs) → AllWithin (λ v. has_key key v ≡ true) vs 0 (length vs) → (i j : ℕ) (d : Version) → i ≤ j → j < length vs → (get_or vs j d).ts.0 ≤ (get_or vs i d).ts.0
stamps_fall key vs so own i j d o l =
    elim (cases_eq i j) [
      | inl q ↦ subst (λ k. (get_or vs j d).ts.0 ≤ (get_or vs k d).ts.0) (sym q) (omega arith)
      | inr n ↦ falls key (get_or vs i d) (get_or vs j d) (later_upto vs so i j d (omega (arith, n, o)) l) (own i d (omega arith) (omega (arith, o, l))) (own j d (omega arith) l)
    ]

pub ordered-take : (vs : List Version) (n : ℕ) → IsOrdered (items_of vs) → IsOrdered (items_of (take n vs))
ordered-take vs zero so = tt
ordered-take [] (suc n) so = tt
ordered-take (v ∷ vs) (suc n) so = (all-take (λ w. is_before w.sort_key (sort_key v) ≡ false) vs n so.0, ordered-take vs n so.1)
  where
    all-take : (P : _ → Type 0) (vs : List Version) (n : ℕ) → AllByRecursion P (items_of vs) → AllByRecursion P (items_of (take n vs))
    all-take P vs zero h = tt
    all-take P [] (suc n) h = tt
    all-take P (v ∷ vs) (suc n) h = (h.0, all-take P vs n h.1)

-- ---- what the ends tell

not_ge : (o : Ordering) → is_ge o ≡ true → is_lt o ≡ false
not_ge Less e = absurd cc
not_ge Equal e = refl
not_ge Greater e = refl

pub all_below : (key : List ℕ) (vs : List Version) (v : Version) → IsOrdered (items_of vs) → Some v ≡ slice_get vs (length vs - 1) → is_lt (slice_cmp nat_cmp v.key key) ≡ true → AllWithin (λ w. has_key_below key w ≡ true) vs 0 (length vs)
all_below key vs v so e h k d l m = below_parts key vs so k (length vs - 1) d (omega (arith, m)) (omega (arith, m)) (ap (has_key_below key) (at_index vs (length vs - 1) v d e) ∙ h)

pub none_below : (key : List ℕ) (vs : List Version) (v : Version) → IsOrdered (items_of vs) → Some v ≡ slice_get vs 0 → is_ge (slice_cmp nat_cmp v.key key) ≡ true → AllWithin (λ w. has_key_below key w ≡ false) vs 0 (length vs)
none_below key vs v so e h k d l m =
    not_so (has_key_below key (get_or vs k d)) (λ y. both (has_key_below key v) (ap (has_key_below key) (sym (at_index vs 0 v d e)) ∙ below_parts key vs so 0 k d (omega arith) m y) (not_ge (slice_cmp nat_cmp v.key key) h))

pub none_of_key : (key : List ℕ) (vs : List Version) (v : Version) → IsOrdered (items_of vs) → AllWithin (λ w. has_key_below key w ≡ false) vs 0 (length vs) → Some v ≡ slice_get vs 0 → has_key key v ≡ false → AllWithin (λ w. has_key key w ≡ false) vs 0 (length vs)
none_of_key key vs v so from e h k d l m =
    not_so (has_key key (get_or vs k d)) (λ y. both (has_key key v) (ap (has_key key) (sym (at_index vs 0 v d e)) ∙ key_parts key vs so from 0 k d (omega arith) m y) h)
