use Rattle.std.proofs.Common.{◌≡◌, [], ◌∷◌, refl, sym, ap, ◌∙◌, arith, subst}
use Rattle.std.specs.Prelude.{IsTrue}
use Rattle.std.proofs.lemmas.List.{nil_from_length}
use Rattle.udt_disk.specs.Crash.{Image, NoMore}
use Rattle.udt_disk.specs.Joint.{Ran}
use Rattle.udt_disk.specs.Moments.{holding}
use Rattle.udt_disk.specs.declared.name.FileName.{FileName}
use Rattle.udt_disk.specs.declared.name.FileName.TheVariants.{Log}
use Rattle.udt_disk.proofs.TouchLemmas.{touches_one, touches_more}
use Rattle.gate_log.specs.GateLog as gate
use Rattle.gate_log.specs.declared.log.GateLog.{GateLog}
use Rattle.wal.specs.Making.{IsWhileMade}
use Rattle.wal.specs.Wals.{wal_file}
use Rattle.wal.proofs.Making.{not_made, is_unmade, is_rolled}
use Rattle.wal.proofs.Showing.{shows_nothing, same_wal}
use Rattle.wal.proofs.wal.Wal.roll.Goals as goal

pub returns-in_err-file-clause-moments : goal.returns-in_err-file-clause-moments
returns-in_err-file-clause-moments g c others free apart =
    let d = g.D.Disk in
    let f = g.F.DiskFile in
    let disk_now = λ (x : g.row.D.Denot) (n : FileName) (image : Image) (left : d.left_since x (d.moment x) n image). (g.met.D.Disk g.world.𝓛 g.world.𝓜 g.world.𝓡 ((λ s x. x), (λ x. x), (λ x. x), λ x. x)).only_now x n image left in
    let file_now = λ (x : g.row.F.Denot) (image : Image) (left : f.left_since x (f.moment x) image). (g.met.F.DiskFile g.world.𝓛 g.world.𝓜 g.world.𝓡 ((λ s x. x), (λ x. x), (λ x. x), λ x. x)).only_now x image left in
    let old = c.args.disk.now in
    let name = Log c.args.number in
    let held = wal_file c.args.self.now in
    let told = c.in_err-file.ensures in
    not_made d f disk_now file_now old (held ∷ others) name free c.create.new.self
    (touches_one d _ name old c.create.new.self (λ n other. tt) told.others told.time told.told told.model) told.failed_crash (λ image left. told.time.nothing_else (d.moment old) name image (omega arith) tt left)

pub returns-in-Ok-clause-goes_on : goal.returns-in-Ok-clause-goes_on
returns-in-Ok-clause-goes_on g c first told =
    ([], [], shows_nothing g.F.DiskFile _ (c.in-Ok.ensures.at_rest (subst IsTrue c.in-Ok.ensures.same.told told)) refl (nil_from_length c.args.self.now.waiting.items c.requires), tt)

pub returns-in-Ok-clause-moments : goal.returns-in-Ok-clause-moments
returns-in-Ok-clause-moments g c others free apart =
    let d = g.D.Disk in
    let f = g.F.DiskFile in
    let disk_now = λ (x : g.row.D.Denot) (n : FileName) (image : Image) (left : d.left_since x (d.moment x) n image). (g.met.D.Disk g.world.𝓛 g.world.𝓜 g.world.𝓡 ((λ s x. x), (λ x. x), (λ x. x), λ x. x)).only_now x n image left in
    let file_now = λ (x : g.row.F.Denot) (image : Image) (left : f.left_since x (f.moment x) image). (g.met.F.DiskFile g.world.𝓛 g.world.𝓜 g.world.𝓡 ((λ s x. x), (λ x. x), (λ x. x), λ x. x)).only_now x image left in
    let old = c.args.disk.now in
    let name = Log c.args.number in
    let held = wal_file c.args.self.now in
    let made = gate.log_file c.restart.new.self in
    let told = c.in_ok-file.ensures in
    let given : c.in-Ok.old ≡ held = c.in-Ok.ensures.old in
    let back = touches_one d _ (f.name c.in-Ok.old) c.create.new.self c.retire.new.self (λ n other. other) c.retire.ensures.others c.retire.ensures.time c.retire.ensures.told c.retire.ensures.model in
    is_rolled d f disk_now file_now old held others name free c.create.new.self c.in_ok-file.file made
    (touches_one d _ name old c.create.new.self (λ n other. other) told.others told.time told.told told.model) told.name c.in-Ok.ensures.same.name told.crash c.in-Ok.ensures.moments
    c.retire.new.self apart (touches_more d (λ n. n ≡ f.name c.in-Ok.old) (λ n. n ≡ f.name held) c.create.new.self c.retire.new.self (λ n is. is ∙ ap f.name given) back)
    (subst (λ (y : g.row.F.Denot). NoMore (f.may_leave y) (d.may_leave c.retire.new.self (f.name y))) given c.retire.ensures.crash)

pub returns-in-Err-clause-err : goal.returns-in-Err-clause-err
returns-in-Err-clause-err g c = same_wal g.F.DiskFile c.args.self.now c.restart.new.self c.in-Err.ensures.err _ _

pub returns-in-Err-clause-moments : goal.returns-in-Err-clause-moments
returns-in-Err-clause-moments g c others free apart =
    let d = g.D.Disk in
    let f = g.F.DiskFile in
    let disk_now = λ (x : g.row.D.Denot) (n : FileName) (image : Image) (left : d.left_since x (d.moment x) n image). (g.met.D.Disk g.world.𝓛 g.world.𝓜 g.world.𝓡 ((λ s x. x), (λ x. x), (λ x. x), λ x. x)).only_now x n image left in
    let file_now = λ (x : g.row.F.Denot) (image : Image) (left : f.left_since x (f.moment x) image). (g.met.F.DiskFile g.world.𝓛 g.world.𝓜 g.world.𝓡 ((λ s x. x), (λ x. x), (λ x. x), λ x. x)).only_now x image left in
    let old = c.args.disk.now in
    let name = Log c.args.number in
    let held = wal_file c.args.self.now in
    let told = c.in_ok-file.ensures in
    let file = c.in-Err.file in
    let back = touches_one d _ (f.name file) c.create.new.self c.retire-in-Err.new.self (λ n other. other) c.retire-in-Err.ensures.others c.retire-in-Err.ensures.time c.retire-in-Err.ensures.told c.retire-in-Err.ensures.model in
    let named : f.name file ≡ name = c.in-Err.ensures.err_same.name ∙ told.name in
    let ran = is_unmade d f disk_now file_now old (held ∷ others) name free c.create.new.self c.in_ok-file.file file
    (touches_one d _ name old c.create.new.self (λ n other. other) told.others told.time told.told told.model) told.name c.in-Err.ensures.err_same.name told.crash c.in-Err.ensures.err_moments c.retire-in-Err.new.self
    (touches_more d (λ n. n ≡ f.name file) (λ n. n ≡ name) c.create.new.self c.retire-in-Err.new.self (λ n is. is ∙ named) back) c.retire-in-Err.ensures.crash in
    subst (λ (l : GateLog g.row.F.Denot f). Ran d f (IsWhileMade d f (holding old (held ∷ others)) name) (holding old (held ∷ others)) (holding c.retire-in-Err.new.self (gate.log_file l ∷ others))) (sym c.in-Err.ensures.err) ran
