use Rattle.recovery.proofs.Meetings.{first_among_more}
use Rattle.recovery.proofs.meeting.first_meeting.Goals as goal

pub loop-index-preserved : goal.loop-index-preserved
loop-index-preserved c on =
    rw c.least-first.ensures (first_among_more c.args.opened.now c.loop-index.index c.loop-index.first c.in_ok-first_in.field-0 (c.loop-index.invariant on) (c.in_ok-first_in.ensures on))
