use Rattle.floor_core.proofs.Plans.{Parting}
use Rattle.floor_core.proofs.compacting.parts.Given as goal

abbrev pub invariant-loop-piece : goal.invariant-loop-piece
invariant-loop-piece l = Parting l.level l.versions l.pieces l.piece-index l.start l.tables.items
