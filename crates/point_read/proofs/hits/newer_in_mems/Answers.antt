use Rattle.std.proofs.Common.{ap, ◌∙◌, arith}
use Rattle.std.specs.Prelude.{Option}
use Rattle.std.specs.Arc.{arc_value}
use Rattle.ts_key.specs.Items.{Item, found}
use Rattle.ts_key.specs.Visible.{newer_item, visible_item}
use Rattle.memtable.specs.Memtables.{Memtable}
use Rattle.super_version.specs.Contents.{items_of_memtable}
use Rattle.point_read.proofs.Newer.{one_more}
use Rattle.point_read.proofs.hits.newer_in_mems.Goals as goal

pub loop-mem-preserved : goal.loop-mem-preserved
loop-mem-preserved c =
    let key = c.args.key.now in
    let best : Option Item = found key c.loop-mem.newest in
    one_more arc_value items_of_memtable key c.args.t.0 c.args.s.0 (found key c.args.best) c.args.mems.now c.loop-mem.mem-index c.mem-item.result best (found key c.newer_in_mem-newest.result) (omega arith) c.mem-item.is c.loop-mem.invariant
    (c.newer_in_mem-newest.ensures ∙ ap (λ (m : Memtable). newer_item best (visible_item (items_of_memtable m) key c.args.t.0 c.args.s.0)) (c.as_ref.ensures))
