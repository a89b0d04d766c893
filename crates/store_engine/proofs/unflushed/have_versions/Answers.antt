use Rattle.std.proofs.Common.{◌≡◌, Some, map, sym, ap, ◌∙◌, arith}
use Rattle.std.specs.Prelude.{slice_get}
use Rattle.std.specs.Arc.{arc_value}
use Rattle.memtable.specs.Memtables.{Memtable}
use Rattle.store_engine.proofs.Loops.{get-mapped, some_among}
use Rattle.store_engine.proofs.unflushed.have_versions.Goals as goal

pub returns-then-has_versions : goal.returns-then-has_versions
returns-then-has_versions c =
    let mems = c.args.mems.now in
    let i = c.loop-mem.mem-index in
    let m : Memtable = c.as_ref.result.now in
    let there : slice_get (map arc_value mems) i ≡ Some m = get-mapped arc_value mems i c.mem-item.result (omega arith) c.mem-item.is ∙ ap Some (sym c.as_ref.ensures) in
    sym (some_among (map arc_value mems) i m there (sym c.has_versions.ensures ∙ c.if-has_versions.true))
