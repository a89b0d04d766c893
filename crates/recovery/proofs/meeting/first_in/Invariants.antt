use Rattle.recovery.specs.Meeting.{AreOnLevels, ClashesBelow, IsFirst, opened_number}
use Rattle.recovery.proofs.meeting.first_in.Given as goal

abbrev pub invariant-loop-level : goal.invariant-loop-level
invariant-loop-level l = AreOnLevels l.opened → IsFirst opened_number (ClashesBelow l.family l.level) l.opened l.first
