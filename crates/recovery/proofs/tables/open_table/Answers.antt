use Rattle.std.proofs.Common.{◌≡◌, refl}
use Rattle.udt_disk.specs.declared.name.FileName.TheVariants.{Table}
use Rattle.recovery.specs.Places.{IsTableName}
use Rattle.recovery.proofs.Faulting.{refused_here, there_from}
use Rattle.recovery.proofs.Looking.{looks_more}
use Rattle.recovery.proofs.tables.open_table.Goals as goal

pub returns-in_err-table-clause-looks : goal.returns-in_err-table-clause-looks
returns-in_err-table-clause-looks g c =
    looks_more g.D.Disk g.D.File.DiskFile (λ n. n ≡ Table c.args.place.table.number) IsTableName c.args.disk.now c.read_table.new.disk (λ n is. (c.args.place.table.number, is)) c.in_err-table.ensures.looks

pub returns-then-not-fits-clause-looks : goal.returns-then-not-fits-clause-looks
returns-then-not-fits-clause-looks g c =
    looks_more g.D.Disk g.D.File.DiskFile (λ n. n ≡ Table c.args.place.table.number) IsTableName c.args.disk.now c.read_table.new.disk (λ n is. (c.args.place.table.number, is)) c.in_ok-table.ensures.looks

pub returns-in-Ok-clause-looks : goal.returns-in-Ok-clause-looks
returns-in-Ok-clause-looks g c =
    looks_more g.D.Disk g.D.File.DiskFile (λ n. n ≡ Table c.args.place.table.number) IsTableName c.args.disk.now c.read_table.new.disk (λ n is. (c.args.place.table.number, is)) c.in_ok-table.ensures.looks

pub returns-clause-looks : goal.returns-clause-looks
returns-clause-looks g c =
    looks_more g.D.Disk g.D.File.DiskFile (λ n. n ≡ Table c.args.place.table.number) IsTableName c.args.disk.now c.read_table.new.disk (λ n is. (c.args.place.table.number, is)) c.in_ok-table.ensures.looks

pub returns-then-not-fits-clause-refused : goal.returns-then-not-fits-clause-refused
returns-then-not-fits-clause-refused g c told =
    let image = g.D.Disk.stands c.args.disk.now (Table c.args.place.table.number) in
    let held = c.in_ok-table.table in
    let stood = c.in_ok-table.ensures.read told in (
      refl,
      there_from image held stood,
      refused_here image held c.args.family.now c.args.place stood (λ fitting. (let no_fit = rw c.if-not-fits.true at c.fits.ensures.no in no_fit fitting)),
    )
