use Rattle.std.proofs.Common.{◌≡◌, sym, ap, subst, ◌∙◌, map, rules}
use Rattle.std.specs.Ordering.{is_lt}
use Rattle.std.specs.List.Sorted.{IsPermutation}
use Rattle.std.proofs.lemmas.List.Sorted.{answers_always}
use Rattle.udt_model.specs.Collecting.{without_ts}
use Rattle.udt_model.specs.Orders.{is_version_before}
use Rattle.collection_laws.specs.Places.{AreSortedByPlace}
use Rattle.collection_laws.proofs.Storing.{version_cmp, before_is, before_ranks, sorted_is_stored}
use Rattle.strip.proofs.strip_versions.Goals as goal

sorted : (c : goal.After-sort_unstable_by) → AreSortedByPlace c.sort_unstable_by.new.self.items
sorted c =
    c.sort_unstable_by.ensures.sorted is_version_before before_ranks
    (answers_always _ _ _ (λ f a r g k. let q : (r ≡ version_cmp a.0.now a.1.0.now) × (g ≡ f) = search rules in ap is_lt q.0 ∙ sym (before_is a.0.now a.1.0.now)))

moved : (c : goal.After-sort_unstable_by) → IsPermutation (map without_ts c.args.versions.now.items) c.sort_unstable_by.new.self.items
moved c = subst (λ l. IsPermutation l c.sort_unstable_by.new.self.items) c.clear_timestamps.ensures c.sort_unstable_by.ensures.permutation

pub returns-clause-stripped : goal.returns-clause-stripped
returns-clause-stripped c = λ a. sorted_is_stored (map without_ts c.args.versions.now.items) c.sort_unstable_by.new.self.items a (moved c) (sorted c)

pub returns-clause-ordered : goal.returns-clause-ordered
returns-clause-ordered c = sorted c

pub returns-clause-same : goal.returns-clause-same
returns-clause-same c = moved c
