-- The rows of whole versions are those of versions without their family.
use Rattle.std.proofs.Common.{◌≡◌, ℕ, Bool, true, false, cond, not, ◌&&◌, List, [], ◌∷◌, ◌++◌, map, Option, Some, None, refl, sym, ap, ◌∙◌, arith}
use Rattle.std.specs.Prelude.{filter, filter_map, option_map, ◌==◌}
use Rattle.std.specs.List.{cons_option, flat_map}
use Rattle.std.specs.Ordering.{is_le, is_lt, nat_cmp, ordering_reverse}
use Rattle.std.specs.Cmp.Lexicographic.{slice_cmp}
use Rattle.std.specs.declared.cmp.Ordering.{Ordering}
use Rattle.std.specs.declared.cmp.Ordering.TheVariants.{Less, Equal, Greater}
use Rattle.std.proofs.lemmas.Bool.Decides.{nat_tests}
use Rattle.std.proofs.lemmas.Cmp.{nat_list_cmp_total}
use Rattle.ts_key.specs.declared.numbers.Family.{Family}
use Rattle.ts_key.specs.declared.numbers.Seq.{Seq}
use Rattle.ts_key.specs.declared.numbers.Ts.{Ts}
use Rattle.ts_key.specs.declared.version.Kind.{Kind}
use Rattle.ts_key.specs.declared.version.Kind.TheVariants as kinds
use Rattle.ts_key.specs.declared.version.Version.{Version}
use Rattle.ts_key.specs.Items.{Item}
use Rattle.ts_key.specs.Visible.{visible_item}
use Rattle.udt_model.specs.declared.reply.Row.{Row}
use Rattle.udt_model.specs.declared.reply.Stamp.{Stamp}
use Rattle.udt_model.specs.Versions as model
use Rattle.udt_model.specs.Orders.{is_below}
use Rattle.udt_model.specs.Reads.{answer_of, answer_of_op, stamp_of}
use Rattle.udt_model.specs.Scans.{Range, is_from, is_in_range, is_under, keys_of, row_of, rows_of, with_key}
use Rattle.super_version.specs.Contents.{op_of_kind, version_of_item}
use Rattle.point_read.proofs.Newer.{of_its_key}
use Rattle.point_read.proofs.Whole.{whole-visible}
use Rattle.ts_iterator.specs.Rows.{emit_of, given_by, is_key_between, is_past, keys, least_key, range_rows}

same_number : (n : ℕ) → (n == n) ≡ true
same_number n = grind (arith, nat_tests)

-- ---- bounds

pub none_below_empty : (k : List ℕ) → is_below k [] ≡ false
none_below_empty [] = refl
none_below_empty (x ∷ xs) = refl

twice : (b : Bool) → b ≡ not (not b)
twice true = refl
twice false = refl

reversed : (o : Ordering) → is_le (ordering_reverse o) ≡ not (is_lt o)
reversed Less = refl
reversed Equal = refl
reversed Greater = refl

from_is : (low : Option (List ℕ)) (k : List ℕ) → is_from low k ≡ not (is_below k (least_key low))
from_is None k = ap not (sym (none_below_empty k))
from_is (Some low) k = ap is_le (nat_list_cmp_total.antisymm low k) ∙ reversed (slice_cmp nat_cmp k low)

under_is : (high : Option (List ℕ)) (k : List ℕ) → is_under high k ≡ not (is_past high k)
under_is None k = refl
under_is (Some high) k = twice (is_below k high)

range_is : (range : Range) (k : List ℕ) → is_in_range range k ≡ is_key_between (least_key range.low) range.high k
range_is range k = λ i. from_is range.low k i && under_is range.high k i

filter_same : (p q : List ℕ → Bool) (ks : List (List ℕ)) → ((k : List ℕ) → p k ≡ q k) → filter p ks ≡ filter q ks
filter_same p q [] h = refl
filter_same p q (k ∷ ks) h = λ i. cond (h k i) (k ∷ filter_same p q ks h i) (filter_same p q ks h i)

-- ---- rows

by_kind : (kind : Kind) (k key value : List ℕ) (stamp : Stamp) (rest : List Row) → key ≡ k → cons_option (row_of k (answer_of_op stamp (op_of_kind kind value))) rest ≡ given_by kind (record { key = key; value = value; stamp = stamp }) ++ rest
by_kind kinds.Del k key value stamp rest e = refl
by_kind kinds.Put k key value stamp rest e = λ i. record { key = sym e i; value = value; stamp = stamp } ∷ rest

module _ (family : Family) (floor : Ts) where
  abbrev whole : Item → Version
  whole v = version_of_item family v

  keys_whole : (vs : List Item) → keys_of (map whole vs) family ≡ keys vs
  keys_whole [] = refl
  keys_whole (v ∷ vs) = let same : (family.0 == family.0) ≡ true = same_number family.0 in rw same (ap (with_key v.sort_key.key) (keys_whole vs))

  told : (k : List ℕ) (o : Option Item) (rest : List Row) → ((v : Item) → o ≡ Some v → v.sort_key.key ≡ k) → cons_option (row_of k (answer_of floor (option_map whole o))) rest ≡ emit_of floor o ++ rest
  told k None rest own = refl
  told k (Some v) rest own = by_kind v.kind k v.sort_key.key v.value (stamp_of floor (record { 0 = v.sort_key.ts })) rest (own v refl)

  module _ (vs : List Item) (t : Ts) (s : Seq) where
    each : (ks : List (List ℕ)) → filter_map (λ k. row_of k (answer_of floor (model.visible (map whole vs) family k t s))) ks ≡ flat_map (λ k. emit_of floor (visible_item vs k t.0 s.0)) ks
    each [] = refl
    each (k ∷ ks) =
        let rest = filter_map (λ k. row_of k (answer_of floor (model.visible (map whole vs) family k t s))) ks in
        ap (λ (o : Option Version). cons_option (row_of k (answer_of floor o)) rest) (whole-visible family vs k t s)
        ∙ told k (visible_item vs k t.0 s.0) rest (λ v e. of_its_key vs k t.0 s.0 v e)
        ∙ ap (λ r. emit_of floor (visible_item vs k t.0 s.0) ++ r) (each ks)

    pub whole_rows : (range : Range) → rows_of (map whole vs) floor family range t s ≡ range_rows vs floor (least_key range.low) range.high t.0 s.0
    whole_rows range =
        let row = λ (k : List ℕ). row_of k (answer_of floor (model.visible (map whole vs) family k t s)) in
        ap (λ ks. filter_map row (filter (is_in_range range) ks)) (keys_whole vs)
        ∙ ap (filter_map row) (filter_same (is_in_range range) (is_key_between (least_key range.low) range.high) (keys vs) (range_is range))
        ∙ each (filter (is_key_between (least_key range.low) range.high) (keys vs))
