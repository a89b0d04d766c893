use Rattle.std.proofs.Common.{sym, ◌∙◌}
use Rattle.udt_disk.specs.declared.name.FileName.TheVariants.{Table}
use Rattle.recovery.proofs.Faulting.{bad_reading}
use Rattle.recovery.proofs.tables.read_table.Goals as goal

pub returns-in-Err-Bad-clause-refused : goal.returns-in-Err-Bad-clause-refused
returns-in-Err-Bad-clause-refused g c told =
    let none = rw c.in-Err-Bad.field-0-is at c.in-Err-Bad.ensures in
    bad_reading (g.D.Disk.stands c.args.disk.now (Table c.args.number)) c.in-Some.image c.args.number (sym c.in-Some.is ∙ c.in_ok-image.ensures.read told) none
