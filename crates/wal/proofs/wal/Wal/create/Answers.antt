use Rattle.std.proofs.Common.{◌≡◌, [], Some, refl, sym, ap, ◌∙◌, arith, subst}
use Rattle.std.specs.Prelude.{IsTrue}
use Rattle.udt_disk.specs.Crash.{Image}
use Rattle.udt_disk.specs.declared.name.FileName.{FileName}
use Rattle.udt_disk.specs.declared.name.FileName.TheVariants.{Log}
use Rattle.udt_disk.proofs.TouchLemmas.{touches_one, touches_more}
use Rattle.gate_log.specs.Faults.{IsUntouched}
use Rattle.gate_log.specs.GateLog as gate
use Rattle.gate_log.specs.declared.fault.LogFault.{LogFault}
use Rattle.wal.proofs.Making.{not_made, is_made, is_unmade}
use Rattle.wal.proofs.Showing.{shows_nothing}
use Rattle.wal.proofs.wal.Wal.create.Goals as goal

pub returns-in-Ok-create-clause-goes_on : goal.returns-in-Ok-create-clause-goes_on
returns-in-Ok-create-clause-goes_on g c first told =
    ([], [], shows_nothing g.F.DiskFile _ (c.in-Ok-create.ensures.at_rest (subst IsTrue c.in-Ok-create.ensures.same.told told)) refl c.new.ensures.items, tt)

pub returns-in_default-clause-moments : goal.returns-in_default-clause-moments
returns-in_default-clause-moments g c others free =
    let d = g.D.Disk in
    let f = g.F.DiskFile in
    let disk_now = λ (x : g.row.D.Denot) (n : FileName) (image : Image) (left : d.left_since x (d.moment x) n image). (g.met.D.Disk g.world.𝓛 g.world.𝓜 g.world.𝓡 ((λ s x. x), (λ x. x), (λ x. x), λ x. x)).only_now x n image left in
    let file_now = λ (x : g.row.F.Denot) (image : Image) (left : f.left_since x (f.moment x) image). (g.met.F.DiskFile g.world.𝓛 g.world.𝓜 g.world.𝓡 ((λ s x. x), (λ x. x), (λ x. x), λ x. x)).only_now x image left in
    let old = c.args.disk.now in
    let name = Log c.args.number in
    let told = c.in_default.ensures in
    not_made d f disk_now file_now old others name free c.create.new.self
    (touches_one d _ name old c.create.new.self (λ n other. tt) told.others told.time told.told told.model) told.failed_crash (λ image left. told.time.nothing_else (d.moment old) name image (omega arith) tt left)

pub returns-in-Ok-create-clause-moments : goal.returns-in-Ok-create-clause-moments
returns-in-Ok-create-clause-moments g c others free =
    let d = g.D.Disk in
    let f = g.F.DiskFile in
    let disk_now = λ (x : g.row.D.Denot) (n : FileName) (image : Image) (left : d.left_since x (d.moment x) n image). (g.met.D.Disk g.world.𝓛 g.world.𝓜 g.world.𝓡 ((λ s x. x), (λ x. x), (λ x. x), λ x. x)).only_now x n image left in
    let file_now = λ (x : g.row.F.Denot) (image : Image) (left : f.left_since x (f.moment x) image). (g.met.F.DiskFile g.world.𝓛 g.world.𝓜 g.world.𝓡 ((λ s x. x), (λ x. x), (λ x. x), λ x. x)).only_now x image left in
    let old = c.args.disk.now in
    let name = Log c.args.number in
    let told = c.in-Ok.ensures in
    is_made d f disk_now file_now old others name free c.create.new.self c.in-Ok.file (gate.log_file c.in-Ok-create.log)
    (touches_one d _ name old c.create.new.self (λ n other. other) told.others told.time told.told told.model) told.name c.in-Ok-create.ensures.same.name told.crash c.in-Ok-create.ensures.moments

pub returns-in-Err-clause-moments : goal.returns-in-Err-clause-moments
returns-in-Err-clause-moments g c others free =
    let d = g.D.Disk in
    let f = g.F.DiskFile in
    let disk_now = λ (x : g.row.D.Denot) (n : FileName) (image : Image) (left : d.left_since x (d.moment x) n image). (g.met.D.Disk g.world.𝓛 g.world.𝓜 g.world.𝓡 ((λ s x. x), (λ x. x), (λ x. x), λ x. x)).only_now x n image left in
    let file_now = λ (x : g.row.F.Denot) (image : Image) (left : f.left_since x (f.moment x) image). (g.met.F.DiskFile g.world.𝓛 g.world.𝓜 g.world.𝓡 ((λ s x. x), (λ x. x), (λ x. x), λ x. x)).only_now x image left in
    let old = c.args.disk.now in
    let name = Log c.args.number in
    let told = c.in-Ok.ensures in
    let file = c.in-Err.file in
    let back = touches_one d _ (f.name file) c.create.new.self c.retire.new.self (λ n other. other) c.retire.ensures.others c.retire.ensures.time c.retire.ensures.told c.retire.ensures.model in
    let named : f.name file ≡ name = c.in-Err.ensures.same.name ∙ told.name in
    is_unmade d f disk_now file_now old others name free c.create.new.self c.in-Ok.file file
    (touches_one d _ name old c.create.new.self (λ n other. other) told.others told.time told.told told.model) told.name c.in-Err.ensures.same.name told.crash c.in-Err.ensures.moments c.retire.new.self
    (touches_more d (λ n. n ≡ f.name file) (λ n. n ≡ name) c.create.new.self c.retire.new.self (λ n is. is ∙ named) back) c.retire.ensures.crash

pub returns-in-Err-clause-unmade : goal.returns-in-Err-clause-unmade
returns-in-Err-clause-unmade g c is told =
    let d = g.D.Disk in
    let f = g.F.DiskFile in
    let made = c.in-Ok.ensures in
    let same : c.in-Err.file ≡ c.in-Ok.file = subst (λ (x : LogFault). IsUntouched x c.in-Ok.file c.in-Err.file) is c.in-Err.ensures.untouched in
    let file_told : IsTrue (f.is_told c.in-Err.file) = subst IsTrue (sym (ap f.is_told same ∙ made.file_told)) told in
    let disk_told : IsTrue (d.is_told c.create.new.self) = subst IsTrue (sym c.create.ensures.told) told in
    let stands = c.retire.ensures.stands disk_told file_told in
    ap (d.stands c.retire.new.self) (sym (ap f.name same ∙ made.name)) ∙ stands ∙ ap Some (ap f.seen same ∙ made.empty told)
