use Rattle.std.proofs.lemmas.Result.{IfOk-weaker, IfErr-weaker}
use Rattle.client_runner.specs.HostRuns.{IsRunAt, IsStoppedAt}
use Rattle.client_runner.specs.Left.{crashes}
use Rattle.client_runner.specs.Runs.{IsRunReady, IsRunRefused}
use Rattle.udt_disk.specs.declared.traits.Failed.{Failed}
use Rattle.client_runner.proofs.GivenBack.{given_back}
use Rattle.client_runner.proofs.GivenRuns.{given_back_ready, given_back_stopped}
use Rattle.client_runner.proofs.run.run_folder.Goals as goal

pub returns-clause-ready : goal.returns-clause-ready
returns-clause-ready g c =
    let d = g.H.Folder.Disk in
    let h = g.H.Host in
    let path = c.args.path.now in
    let first = c.in-Some.disk in
    let last = c.run_disk-disk.result.0 in
    let old = h.folder_at c.args.host.now path in
    let new = h.folder_at c.close_folder.new.self path in
    let leaves = h.leaves_at c.close_folder.new.self path in
    let before = h.faults c.args.host.now in
    let now = h.faults c.close_folder.new.self in
    let commands = c.args.commands.items in
    let given = given_back d Failed (h.folder_at c.args.host.now) (h.folder_at c.open_folder.new.self) new leaves path _ (h.has_place c.open_folder.new.self path) c.in-Ok.opened first last c.in-Some.is
    c.in-Ok.ensures.opens c.in-Ok.ensures.clean c.in-Ok.ensures.place c.run_disk-disk.ensures.told c.close_folder.ensures.stands c.close_folder.ensures.crash in
    IfOk-weaker c.run_disk-disk.result.1 (IsRunReady d first last commands) (IsRunAt old new leaves before now commands)
    (λ r ready. given_back_ready d new (crashes (h.leaves_at c.args.host.now path) leaves) first last old before (h.faults c.open_folder.new.self) now commands r given c.in-Ok.ensures.cause.kept c.close_folder.ensures.faults ready) c.run_disk-disk.ensures.ready

pub returns-clause-stopped : goal.returns-clause-stopped
returns-clause-stopped g c =
    let d = g.H.Folder.Disk in
    let h = g.H.Host in
    let path = c.args.path.now in
    let first = c.in-Some.disk in
    let last = c.run_disk-disk.result.0 in
    let old = h.folder_at c.args.host.now path in
    let new = h.folder_at c.close_folder.new.self path in
    let leaves = h.leaves_at c.close_folder.new.self path in
    let before = h.faults c.args.host.now in
    let now = h.faults c.close_folder.new.self in
    let commands = c.args.commands.items in
    let given = given_back d Failed (h.folder_at c.args.host.now) (h.folder_at c.open_folder.new.self) new leaves path _ (h.has_place c.open_folder.new.self path) c.in-Ok.opened first last c.in-Some.is
    c.in-Ok.ensures.opens c.in-Ok.ensures.clean c.in-Ok.ensures.place c.run_disk-disk.ensures.told c.close_folder.ensures.stands c.close_folder.ensures.crash in
    IfErr-weaker c.run_disk-disk.result.1 (IsRunRefused d first last commands) (IsStoppedAt old new (crashes (h.leaves_at c.args.host.now path) leaves) before now commands)
    (λ stop refused. given_back_stopped d new (crashes (h.leaves_at c.args.host.now path) leaves) first last old before (h.faults c.open_folder.new.self) now commands stop given c.in-Ok.ensures.cause.kept c.close_folder.ensures.faults refused) c.run_disk-disk.ensures.stopped
