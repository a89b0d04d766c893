use Rattle.std.proofs.Common.{◌≡◌, drop}
use Rattle.solo_store.specs.Names.{place_by_name}
use Rattle.solo_store.proofs.names.family_named.Given as goal

abbrev pub invariant-loop-i : goal.invariant-loop-i
invariant-loop-i l = place_by_name l.i (drop l.i l.names) l.name ≡ place_by_name 0 l.names l.name
