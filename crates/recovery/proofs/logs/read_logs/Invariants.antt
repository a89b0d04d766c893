use Rattle.std.proofs.Common.{◌≡◌, take}
use Rattle.std.specs.Prelude.{IsTrue}
use Rattle.recovery.specs.Looks.{Looks}
use Rattle.recovery.specs.Replayed.{IsGathered, IsLogName, IsNextWithin}
use Rattle.recovery.proofs.logs.read_logs.Given as goal

abbrev pub invariant-loop-number : goal.invariant-loop-number
invariant-loop-number g l = record {
  gathered : IsTrue (g.D.Disk.is_told l.initial.disk) → IsGathered l.fold (g.D.Disk.stands l.initial.disk) (take l.number-index l.oldest) l.gathered;
  looks : Looks g.D.Disk g.D.File.DiskFile IsLogName l.initial.disk l.disk;
  within : IsNextWithin l.gathered.next;
  faults : g.D.Disk.faults l.disk ≡ g.D.Disk.faults l.initial.disk;
}
