use Rattle.std.proofs.Common.{subst, sym}
use Rattle.udt_disk.specs.Crash.{Image}
use Rattle.udt_disk.specs.Directory.{NameLeaves}
use Rattle.udt_disk.proofs.AfterCrashes.{name_left}
use Rattle.udt_disk.proofs.mem_disk.MemDisk.after_crash.Goals as goal

pub returns-clause-image : goal.returns-clause-image
returns-clause-image c n =
    let directory = c.args.self.directory in
    subst (λ (image : Image). NameLeaves directory n image) (sym (c.in_ok-after_crash.ensures.stands n)) (name_left c.args.outcome directory n)
