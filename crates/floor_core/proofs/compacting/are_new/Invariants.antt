use Rattle.std.proofs.Common.{◌≡◌, drop}
use Rattle.udt_model.specs.Jobs.{are_new, numbers_of_pieces}
use Rattle.floor_core.proofs.compacting.are_new.Given as goal

abbrev pub invariant-loop-piece : goal.invariant-loop-piece
invariant-loop-piece l = are_new l.used.items (numbers_of_pieces (drop l.piece-index l.pieces)) ≡ are_new l.fn.used.items (numbers_of_pieces l.pieces)
