use Rattle.std.proofs.Common.{◌+◌, ◌++◌, List, map, take, ap, ◌∙◌, arith}
use Rattle.std.specs.Arc.{arc_value}
use Rattle.std.specs.List.{flat_map}
use Rattle.ts_key.specs.Items.{Item}
use Rattle.super_version.specs.Contents.{items_of_level}
use Rattle.super_version.specs.Live.{Live}
use Rattle.super_version.proofs.Lists.{flat_more}
use Rattle.ts_iterator.specs.Sources.{items_of_all}
use Rattle.ts_iterator.proofs.Gathering.{after_more}
use Rattle.ts_iterator.proofs.sources.push_levels.Goals as goal

pub loop-tables-preserved : goal.loop-tables-preserved
loop-tables-preserved c =
    let xs = c.loop-tables.sources.items in
    let ls = c.args.levels.now in
    let i = c.loop-tables.tables-index in
    let level = arc_value c.tables-item.result in
    after_more (items_of_all c.args.sources.now.items) (flat_map items_of_level (map arc_value (take i ls))) (items_of_level level) (flat_map items_of_level (map arc_value (take (i + 1) ls))) (items_of_all c.push_tables.new.sources.items)
    (c.in_ok-push_tables.ensures ∙ ap (λ (ts : List Live). items_of_all xs ++ items_of_level ts) (c.as_slice.ensures ∙ c.as_ref.ensures)
    ∙ ap (λ (r : List Item). r ++ items_of_level level) c.loop-tables.invariant)
    (flat_more arc_value items_of_level ls i c.tables-item.result (omega arith) c.tables-item.is)
