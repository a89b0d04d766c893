use Rattle.std.proofs.Common.{ap, refl, arith}
use Rattle.recovery.specs.declared.opening.Parts.{Parts}
use Rattle.store_engine.proofs.Taken.{parts_go_on, parts_now, parts_one, parts_together}
use Rattle.store_engine.proofs.engine.Engine.from_parts.Goals as goal

pub returns-clause-running : goal.returns-clause-running
returns-clause-running g c =
    let d = g.D.Disk in
    let f = g.D.File.DiskFile in
    let parts : Parts g.row.D.Denot g.row.D-File.Denot f = record { disk = c.args.disk; manifest = c.args.manifest; wal = c.args.wal; version = c.args.version.now } in
    record { together = parts_together d f c.requires.0 parts c.requires.1 c.fold.result.now.next_file (ap (λ z. z.next_file) c.fold.ensures); runs = refl }

pub returns-clause-one : goal.returns-clause-one
returns-clause-one g c =
    let d = g.D.Disk in
    let f = g.D.File.DiskFile in
    let parts : Parts g.row.D.Denot g.row.D-File.Denot f = record { disk = c.args.disk; manifest = c.args.manifest; wal = c.args.wal; version = c.args.version.now } in
    parts_one d f c.requires.0 parts c.requires.1 _ refl refl refl

pub returns-clause-current : goal.returns-clause-current
returns-clause-current g c =
    let d = g.D.Disk in
    let f = g.D.File.DiskFile in
    let parts : Parts g.row.D.Denot g.row.D-File.Denot f = record { disk = c.args.disk; manifest = c.args.manifest; wal = c.args.wal; version = c.args.version.now } in
    let are = c.requires.1 in
    record { fits = are.fits; goes_on = parts_go_on d f c.requires.0 parts are; room = let e = are.pending in omega (arith, e) }

pub returns-clause-holds : goal.returns-clause-holds
returns-clause-holds g c old m are told clean stands =
    let d = g.D.Disk in
    let f = g.D.File.DiskFile in
    let parts : Parts g.row.D.Denot g.row.D-File.Denot f = record { disk = c.args.disk; manifest = c.args.manifest; wal = c.args.wal; version = c.args.version.now } in
    parts_now d f old parts are told clean _ refl refl refl (let e = ap (λ z. z.next_file) c.fold.ensures in omega (arith, e)) c.new.ensures.rolled c.new.ensures.opened m stands
