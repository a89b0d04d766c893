use Rattle.std.proofs.Common.{◌≡◌, drop}
use Rattle.udt_model.specs.State.{place_from}
use Rattle.udt_model.proofs.place.plain_place.Given as goal

abbrev pub invariant-loop-i : goal.invariant-loop-i
invariant-loop-i l = place_from l.i (drop l.i l.heads) l.name ≡ place_from 0 l.heads l.name
