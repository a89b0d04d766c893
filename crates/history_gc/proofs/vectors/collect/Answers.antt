use Rattle.std.proofs.Common.{◌≡◌, [], sym, ap, subst, ◌∙◌, rules}
use Rattle.std.specs.Ordering.{is_lt}
use Rattle.std.specs.List.Sorted.{IsPermutation}
use Rattle.std.proofs.lemmas.List.Sorted.{All-permutation, answers_always}
use Rattle.ts_key.specs.declared.version.Version.{Version}
use Rattle.udt_model.specs.Orders.{is_version_before}
use Rattle.collection_laws.specs.Places.{AreSortedByPlace, AreStored}
use Rattle.udt_model.specs.Collecting as collecting
use Rattle.collection_laws.proofs.Storing.{version_cmp, before_is, before_ranks, apart_moved, stored_from, same_from, all_from, collect_by_order}
use Rattle.history_gc.specs.Pushed.{AreInOrder}
use Rattle.history_gc.specs.Collecting.{HasFinished, collection, collection_floor, collection_snapshots, collection_spans}
use Rattle.history_gc.proofs.Steps.{collect_is}
use Rattle.history_gc.proofs.Queues.{order_from}
use Rattle.history_gc.proofs.vectors.collect.Goals as goal

pub returns-clause-collected : goal.returns-clause-collected
returns-clause-collected c = λ family of_family apart.
    let xs = c.args.versions.now.items in
    let ys = c.sort_unstable_by.new.self.items in
    let moved : IsPermutation xs ys = subst (λ l. IsPermutation l ys) (ap (λ w. w.items) c.replace-given.ensures.value) c.sort_unstable_by.ensures.permutation in
    let ordered : AreSortedByPlace ys = c.sort_unstable_by.ensures.sorted is_version_before before_ranks
    (answers_always _ _ _ (λ f a r g k. let q : (r ≡ version_cmp a.0.now a.1.0.now) × (g ≡ f) = search rules in ap is_lt q.0 ∙ sym (before_is a.0.now a.1.0.now))) in
    let stored : AreStored ys = stored_from ys ordered (apart_moved xs ys moved apart) in
    let order : AreInOrder ys = order_from family.0 ys stored (all_from (λ v. v.family.0 ≡ family.0) ys (All-permutation (λ (v : Version). v.family.0 ≡ family.0) xs ys moved of_family)) in
    let col = c.in_ok-collector.collector in
    let end = c.finish.new.self in
    let pushed = c.push_all.ensures.pushed c.in_ok-collector.ensures.collected order in
    let none : c.replace-given.new.dest.items ≡ [] = ap (λ w. w.items) c.replace-given.ensures.after ∙ c.in_ok-kept.ensures.items in
    let finished : HasFinished end ys c.replace-given.new.dest.items = subst (λ l. HasFinished end ys l) (sym none) (c.finish.ensures.finished ys [] pushed) in
    let floor : collection_floor end ≡ collection_floor col = c.finish.ensures.alike.floor ∙ c.push_all.ensures.alike.floor in
    let snapshots : collection_snapshots end ≡ collection_snapshots col = c.finish.ensures.alike.snapshots ∙ c.push_all.ensures.alike.snapshots in
    let spans : collection_spans end ≡ collection_spans col = c.finish.ensures.alike.spans ∙ c.push_all.ensures.alike.spans in
    c.pop_all.ensures ys finished
    ∙ (λ i. collecting.collect ys (floor i) (snapshots i) (spans i))
    ∙ c.in_ok-collector.ensures.collects ys
    ∙ collect_is c.args.floor c.args.seqs.now c.args.deeper.now ys order
    ∙ sym (collect_by_order c.args.floor c.args.seqs.now c.args.deeper.now xs ys apart stored (same_from xs ys moved))
