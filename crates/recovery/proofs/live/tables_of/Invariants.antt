use Rattle.std.proofs.Common.{◌≡◌, take}
use Rattle.recovery.specs.Places.{places_from}
use Rattle.recovery.proofs.live.tables_of.Given as goal

abbrev pub invariant-loop-index : goal.invariant-loop-index
invariant-loop-index l = l.places.items ≡ places_from 0 (take l.index l.families)
