use Rattle.std.proofs.Common.{map, take}
use Rattle.std.specs.Arc.{arc_value}
use Rattle.udt_model.specs.Versions.{logged}
use Rattle.super_version.specs.Writes.{AreWrittenTo}
use Rattle.super_version.proofs.version.SuperVersion.with_write.Given as goal

abbrev pub invariant-loop-state : goal.invariant-loop-state
invariant-loop-state l = AreWrittenTo (logged l.first l.ops) (map arc_value (take l.state-index l.state-items)) (map arc_value l.families.items)
