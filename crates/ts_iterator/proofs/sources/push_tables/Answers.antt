use Rattle.std.proofs.Common.{◌≡◌, ◌+◌, ◌++◌, List, [], ◌∷◌, map, take, ap, ◌∙◌, arith}
use Rattle.std.specs.Arc.{arc_value}
use Rattle.ts_key.specs.Items.{Item}
use Rattle.block_table.specs.Held.{Held}
use Rattle.super_version.specs.Contents.{items_of_level, items_of_table}
use Rattle.super_version.specs.Live.{Live}
use Rattle.super_version.proofs.Lists.{flat_more}
use Rattle.ts_iterator.specs.declared.source.Source.TheVariants.{Table}
use Rattle.ts_iterator.specs.Sources.{items_of_all}
use Rattle.ts_iterator.proofs.Gathering.{after_more, all_more}
use Rattle.ts_iterator.proofs.sources.push_tables.Goals as goal

pub loop-table-preserved : goal.loop-table-preserved
loop-table-preserved c =
    let xs = c.loop-table.sources.items in
    let ts = c.args.tables.now in
    let i = c.loop-table.table-index in
    let table = arc_value c.table-item.result in
    let cursor = c.in_ok-cursor.cursor in
    let pushed : c.push.new.self.items ≡ xs ++ Table cursor ∷ [] = c.in_ok-push.ensures.items in
    after_more (items_of_all c.args.sources.now.items) (items_of_level (map arc_value (take i ts))) (items_of_table table) (items_of_level (map arc_value (take (i + 1) ts))) (items_of_all c.push.new.self.items)
    (ap items_of_all pushed ∙ all_more xs (Table cursor)
    ∙ ap (λ (r : List Item). items_of_all xs ++ r) (c.in_ok-cursor.ensures.versions ∙ ap (λ (h : Held). h.contents.items) (c.table.ensures ∙ ap (λ (t : Live). t.table) c.as_ref.ensures))
    ∙ ap (λ (r : List Item). r ++ items_of_table table) c.loop-table.invariant)
    (flat_more arc_value items_of_table ts i c.table-item.result (omega arith) c.table-item.is)
