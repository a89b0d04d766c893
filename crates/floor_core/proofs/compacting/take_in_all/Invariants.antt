use Rattle.std.proofs.Common.{◌≡◌, drop}
use Rattle.std.specs.List.{list_all}
use Rattle.floor_core.proofs.Plans.{is_settled_in}
use Rattle.floor_core.proofs.compacting.take_in_all.Given as goal

abbrev pub invariant-loop-t : goal.invariant-loop-t
invariant-loop-t l = list_all (is_settled_in l.tables l.inputs l.level) (drop l.t-index l.tables) ≡ list_all (is_settled_in l.tables l.inputs l.level) l.tables
