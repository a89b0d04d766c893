use Rattle.std.proofs.Common.{take}
use Rattle.std.specs.Prelude.{Contains}
use Rattle.udt_disk.specs.Touches.{Touches}
use Rattle.store_engine.specs.Asides.{IsRemoval}
use Rattle.store_engine.proofs.install.remove_files.Given as goal

abbrev pub invariant-loop-name : goal.invariant-loop-name
invariant-loop-name g l = record {
  touches : Touches g.D.Disk (Contains l.names) l.initial.disk l.disk;
  gone : IsRemoval g.D.Disk (take l.name-index l.names) l.initial.disk l.disk;
}
