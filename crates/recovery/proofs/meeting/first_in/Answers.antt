use Rattle.recovery.proofs.Meetings.{first_more, first_of_family}
use Rattle.recovery.proofs.meeting.first_in.Goals as goal

pub loop-level-preserved : goal.loop-level-preserved
loop-level-preserved c on =
    rw c.least-first.ensures (first_more c.args.opened.now c.args.family c.loop-level.level c.loop-level.first c.in_ok-first_on.field-0 (c.loop-level.invariant on) (c.in_ok-first_on.ensures on.files))

pub returns : goal.returns
returns c on = first_of_family c.args.opened.now c.args.family c.loop-level.level c.loop-level.first c.loop-level-test.false on (c.loop-level.invariant on)
