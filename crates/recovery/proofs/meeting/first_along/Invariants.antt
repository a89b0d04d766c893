use Rattle.std.proofs.Common.{map}
use Rattle.std.specs.Arc.{arc_value}
use Rattle.recovery.specs.Meeting.{AreOfFiles}
use Rattle.recovery.proofs.Meetings.{Walked}
use Rattle.recovery.proofs.meeting.first_along.Given as goal

abbrev pub invariant-loop-table : goal.invariant-loop-table
invariant-loop-table l = AreOfFiles (map arc_value l.tables) → Walked (map arc_value l.tables) l.table-index l.last l.first
