use Rattle.std.proofs.Common.{◌≡◌, List, map, ap, subst, ◌∙◌}
use Rattle.ts_key.specs.declared.version.Version.{Version}
use Rattle.ts_key.specs.Lists.{merged}
use Rattle.history_gc.specs.Pushed.{AreInOrder}
use Rattle.collection_laws.specs.Places.{AreApart}
use Rattle.super_version.specs.Live.{Live}
use Rattle.super_version.specs.Contents.{items_of_table}
use Rattle.flush_job.specs.Keeping.{all_of, kept_of}
use Rattle.compaction.specs.Feeding.{left_items, versions_from}
use Rattle.compaction.specs.Made.{AreTablesOf, held_by, kept_by}
use Rattle.compaction.specs.contracts.feed.TableFeedFeed.TheImpl.{ghosts}
use Rattle.compaction.proofs.Feeds.{feed_apart, feed_kept, feed_sequences, feed_stamps}
use Rattle.compaction.proofs.Outputs.{if_ok_on, on_ok_on}
use Rattle.compaction.proofs.run.run_compaction.Goals as goal

pub make_outputs-requires-clause-stamps : goal.make_outputs-requires-clause-stamps
make_outputs-requires-clause-stamps g c = λ x y.
    let family = c.args.plan.now.family in
    let tables = c.args.plan.now.inputs in
    let f = c.in-Ok.feed in
    let coming = versions_from f.family (left_items f.merge.cursors.items) in
    let are : coming ≡ versions_from family (merged (map items_of_table tables)) =
    (λ i. versions_from (c.in-Ok.ensures.family i) (c.in-Ok.ensures.coming i)) ∙ ap (λ (ts : List Live). versions_from family (merged (map items_of_table ts))) c.as_slice.ensures in
    feed_stamps family tables (all_of ghosts c.in-Ok-keep.kept) coming c.in-Ok-keep.ensures.all are c.args.form c.requires

pub make_outputs-requires-clause-sequences : goal.make_outputs-requires-clause-sequences
make_outputs-requires-clause-sequences g c = λ x y.
    let family = c.args.plan.now.family in
    let tables = c.args.plan.now.inputs in
    let f = c.in-Ok.feed in
    let coming = versions_from f.family (left_items f.merge.cursors.items) in
    let are : coming ≡ versions_from family (merged (map items_of_table tables)) =
    (λ i. versions_from (c.in-Ok.ensures.family i) (c.in-Ok.ensures.coming i)) ∙ ap (λ (ts : List Live). versions_from family (merged (map items_of_table ts))) c.as_slice.ensures in
    feed_sequences family tables (all_of ghosts c.in-Ok-keep.kept) coming c.in-Ok-keep.ensures.all are c.args.form c.requires

pub returns-clause-made : goal.returns-clause-made
returns-clause-made g c =
    let plan = c.args.plan.now in
    let f = c.in-Ok.feed in
    let k = c.in-Ok-keep.kept in
    let G = g.J.JobFiles in
    let D = g.J.File.DiskFile in
    let start = c.args.files.now in
    let coming = versions_from f.family (left_items f.merge.cursors.items) in
    let are : coming ≡ versions_from plan.family (merged (map items_of_table plan.inputs)) =
    (λ i. versions_from (c.in-Ok.ensures.family i) (c.in-Ok.ensures.coming i)) ∙ ap (λ (ts : List Live). versions_from plan.family (merged (map items_of_table ts))) c.as_slice.ensures in
    if_ok_on c.make_outputs.result (AreInOrder (all_of ghosts k))
    (λ outs. AreTablesOf D plan.family c.args.form c.args.floor (G.is_told start) (G.keeps_model start) (kept_of ghosts k) outs.items)
    (λ outs. AreTablesOf D plan.family c.args.form c.args.floor (G.is_told start) (G.keeps_model start) (kept_by plan c.args.floor c.args.seqs.now) outs.items)
    (λ o outs h. subst (λ (vs : List Version). AreTablesOf D plan.family c.args.form c.args.floor (G.is_told start) (G.keeps_model start) vs outs.items)
    (feed_kept plan.family plan.inputs (all_of ghosts k) coming c.in-Ok-keep.ensures.all are c.args.floor c.args.seqs.now c.as_slice-deeper.result.now plan.deeper (kept_of ghosts k) c.in-Ok-keep.ensures.collected c.as_slice-deeper.ensures o) h)
    c.make_outputs.ensures.in_order c.make_outputs.ensures.made

pub returns-clause-apart : goal.returns-clause-apart
returns-clause-apart g c =
    let plan = c.args.plan.now in
    let f = c.in-Ok.feed in
    let k = c.in-Ok-keep.kept in
    let coming = versions_from f.family (left_items f.merge.cursors.items) in
    let are : coming ≡ versions_from plan.family (merged (map items_of_table plan.inputs)) =
    (λ i. versions_from (c.in-Ok.ensures.family i) (c.in-Ok.ensures.coming i)) ∙ ap (λ (ts : List Live). versions_from plan.family (merged (map items_of_table ts))) c.as_slice.ensures in
    on_ok_on c.make_outputs.result (AreInOrder (all_of ghosts k)) (AreApart (held_by plan)) (feed_apart plan.family plan.inputs (all_of ghosts k) coming c.in-Ok-keep.ensures.all are) c.make_outputs.ensures.in_order
