use Rattle.std.proofs.Common.{None, sym, map, subst}
use Rattle.std.specs.Arc.{arc_value}
use Rattle.super_version.specs.Live.{Live}
use Rattle.recovery.proofs.Meetings.{Walked, walked_end, walked_first, walked_next}
use Rattle.recovery.proofs.meeting.first_along.Goals as goal

pub loop-table-init : goal.loop-table-init
loop-table-init c files =
    let xs = c.args.tables.now in
    subst (λ (t : Live). Walked (map arc_value xs) 0 t None) (sym c.as_ref-last.ensures) (walked_first arc_value xs c.requires c.in_ok-first.field-0.now c.in_ok-first.ensures.value)

pub loop-table-preserved : goal.loop-table-preserved
loop-table-preserved c files =
    let xs = c.args.tables.now in
    let i = c.loop-table.table-index in
    let last = c.loop-table.last.now in
    let first = c.loop-table.first in
    let x = c.table-item.result in
    rw (c.kept-last.ensures, c.as_ref-in-loop-table.ensures, c.least-first.ensures, c.number_met.ensures, c.as_ref.ensures)
    (walked_next arc_value xs c.requires files i x last first c.loop-table-test.true c.table-item.is (c.loop-table.invariant files))

pub returns : goal.returns
returns c files = walked_end arc_value c.args.tables.now c.requires c.loop-table.table-index c.loop-table.last.now c.loop-table.first c.loop-table-test.false (c.loop-table.invariant files)
