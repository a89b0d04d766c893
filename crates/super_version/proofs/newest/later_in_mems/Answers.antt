use Rattle.std.proofs.Common.{ℕ, ap, ◌∙◌, arith}
use Rattle.std.specs.Prelude.{Option, option_map}
use Rattle.std.specs.Arc.{arc_value}
use Rattle.ts_key.specs.Visible.{newest_ts}
use Rattle.memtable.specs.Memtables.{Memtable, greater}
use Rattle.super_version.specs.Contents.{items_of_memtable}
use Rattle.super_version.proofs.Greatest.{one_more}
use Rattle.super_version.proofs.newest.later_in_mems.Goals as goal

pub loop-mem-preserved : goal.loop-mem-preserved
loop-mem-preserved c =
    let key = c.args.key.now in
    let best : Option ℕ = option_map (λ ts. ts.0) c.loop-mem.later in
    one_more arc_value items_of_memtable key (option_map (λ ts. ts.0) c.args.best) c.args.mems.now c.loop-mem.mem-index c.mem-item.result best (option_map (λ ts. ts.0) c.later_in_mem-later.result) (omega arith) c.mem-item.is c.loop-mem.invariant
    (c.later_in_mem-later.ensures ∙ ap (λ (m : Memtable). greater best (newest_ts (items_of_memtable m) key)) (c.as_ref.ensures))
