use Rattle.std.proofs.lemmas.Result.{IfOk-weaker, IfErr-weaker}
use Rattle.client_runner.specs.HostRuns.{IsRunAt, IsRunFrom, IsStoppedAt, IsStoppedFrom}
use Rattle.client_runner.specs.Left.{crashes}
use Rattle.client_runner.proofs.HostLemmas.{run_from, stopped_from}
use Rattle.client_runner.proofs.run.run_path.Goals as goal

pub returns-in-Ok-clause-ready : goal.returns-in-Ok-clause-ready
returns-in-Ok-clause-ready g c =
    let h = g.H.Host in
    let path = c.args.folder.now in
    let standing = h.standing c.args.host.now c.args.file.now in
    let old = h.folder_at c.args.host.now path in
    let mid = h.folder_at c.read_commands.new.host path in
    let new = h.folder_at c.run_folder.new.host path in
    let leaves = h.leaves_at c.run_folder.new.host path in
    let first = h.faults c.args.host.now in
    let before = h.faults c.read_commands.new.host in
    let now = h.faults c.run_folder.new.host in
    let commands = c.in_ok-commands.commands.items in
    IfOk-weaker c.run_folder.result (IsRunAt mid new leaves before now commands) (IsRunFrom standing old new leaves first now)
    (λ r run. run_from standing old mid new leaves first before now commands r c.in_ok-commands.ensures.read (c.read_commands.ensures.uses.folders path) c.read_commands.ensures.uses.later run) c.run_folder.ensures.ready

pub returns-in-Ok-clause-stopped : goal.returns-in-Ok-clause-stopped
returns-in-Ok-clause-stopped g c =
    let h = g.H.Host in
    let path = c.args.folder.now in
    let standing = h.standing c.args.host.now c.args.file.now in
    let old = h.folder_at c.args.host.now path in
    let mid = h.folder_at c.read_commands.new.host path in
    let new = h.folder_at c.run_folder.new.host path in
    let leaves = h.leaves_at c.run_folder.new.host path in
    let first = h.faults c.args.host.now in
    let before = h.faults c.read_commands.new.host in
    let now = h.faults c.run_folder.new.host in
    let commands = c.in_ok-commands.commands.items in
    let was = h.leaves_at c.args.host.now path in
    let between = h.leaves_at c.read_commands.new.host path in
    IfErr-weaker c.run_folder.result (IsStoppedAt mid new (crashes between leaves) before now commands) (IsStoppedFrom standing old new (crashes was leaves) first now)
    (λ stop stopped. stopped_from standing old mid new was between leaves first before now commands stop c.in_ok-commands.ensures.read (c.read_commands.ensures.uses.folders path) (λ n image left. c.read_commands.ensures.uses.leaves path n image left) c.read_commands.ensures.uses.later stopped) c.run_folder.ensures.stopped
