use Rattle.std.proofs.Common.{◌≡◌, map, take}
use Rattle.std.specs.Prelude.{IsTrue}
use Rattle.recovery.specs.Looks.{Looks}
use Rattle.recovery.specs.Places.{IsTableName, table_place_of}
use Rattle.recovery.proofs.Placed.{EachOpened}
use Rattle.recovery.proofs.tables.open_tables.Given as goal

abbrev pub invariant-loop-place : goal.invariant-loop-place
invariant-loop-place g l = record {
  places : map table_place_of l.opened.items ≡ take l.place-index l.place-items;
  each : IsTrue (g.D.Disk.is_told l.initial.disk) → EachOpened (g.D.Disk.stands l.initial.disk) l.fold l.opened.items;
  looks : Looks g.D.Disk g.D.File.DiskFile IsTableName l.initial.disk l.disk;
  faults : g.D.Disk.faults l.disk ≡ g.D.Disk.faults l.initial.disk;
}
