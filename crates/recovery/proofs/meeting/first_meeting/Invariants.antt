use Rattle.recovery.specs.Meeting.{AreOnLevels, ClashesAmong, IsFirst, opened_number}
use Rattle.recovery.proofs.meeting.first_meeting.Given as goal

abbrev pub invariant-loop-index : goal.invariant-loop-index
invariant-loop-index l = AreOnLevels l.opened → IsFirst opened_number (ClashesAmong l.index) l.opened l.first
