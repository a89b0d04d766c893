use Rattle.std.proofs.Common.{length}
use Rattle.udt_disk.proofs.outcome.+undo_unsynced.Given as goal

abbrev pub decreases-undo_unsynced : goal.decreases-undo_unsynced
decreases-undo_unsynced l = length l.calls.now
