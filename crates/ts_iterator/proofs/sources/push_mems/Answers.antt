use Rattle.std.proofs.Common.{◌+◌, ◌++◌, List, map, take, ap, ◌∙◌, arith}
use Rattle.std.specs.Arc.{arc_value}
use Rattle.std.specs.List.{flat_map}
use Rattle.ts_key.specs.Items.{Item}
use Rattle.memtable.specs.Memtables.{Memtable}
use Rattle.super_version.proofs.Lists.{flat_more}
use Rattle.ts_iterator.specs.Sources.{items_of_all, items_of_runs}
use Rattle.ts_iterator.proofs.Gathering.{after_more}
use Rattle.ts_iterator.proofs.sources.push_mems.Goals as goal

pub loop-mem-preserved : goal.loop-mem-preserved
loop-mem-preserved c =
    let xs = c.loop-mem.sources.items in
    let ms = c.args.mems.now in
    let i = c.loop-mem.mem-index in
    let mem = arc_value c.mem-item.result in
    after_more (items_of_all c.args.sources.now.items) (flat_map items_of_runs (map arc_value (take i ms))) (items_of_runs mem) (flat_map items_of_runs (map arc_value (take (i + 1) ms))) (items_of_all c.push_runs.new.sources.items)
    (c.in_ok-push_runs.ensures ∙ ap (λ (m : Memtable). items_of_all xs ++ items_of_runs m) c.as_ref.ensures
    ∙ ap (λ (r : List Item). r ++ items_of_runs mem) c.loop-mem.invariant)
    (flat_more arc_value items_of_runs ms i c.mem-item.result (omega arith) c.mem-item.is)
