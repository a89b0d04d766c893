use Rattle.std.proofs.Common.{◌+◌, refl, arith}
use Rattle.std.proofs.lemmas.List.Elements.{All-push}
use Rattle.client_lang.specs.Print.{IsBuiltLine}
use Rattle.solo_runner.specs.LoggedStores.{store_state}
use Rattle.solo_runner.proofs.SoloLemmas.{synced_last}
use Rattle.solo_runner.proofs.SessionLemmas.{one_event_more}
use Rattle.solo_runner.proofs.session.run_and_sync.Goals as goal

pub add_line-requires : goal.add_line-requires
add_line-requires g c =
    let count = c.run_logged-lines.ensures.run.counted in
    let room = c.run_logged-lines.ensures.room in
    let asked = c.requires.room in
    omega arith

pub returns-clause-session : goal.returns-clause-session
returns-clause-session g c =
    let line = c.perform-sync.ensures in
    let r = c.run_logged-lines.ensures.run in
    let last = c.run_logged-lines.result.last in
    rw c.add_line.ensures.items (record {
      run =
          synced_last (store_state c.args.store.now) c.args.commands.items c.run_logged-lines.result.lines.items (store_state c.run_logged-lines.new.store) (store_state c.perform-sync.new.store) last c.perform-sync.result r.run
          (record { event_is = line.event; who_is = line.who; mark = line.mark; reply = line.step.legal; after_is = line.step.after_is; printed = line.printed });
      log = one_event_more g.F.DiskFile c.args.store.now c.run_logged-lines.new.store c.perform-sync.new.store c.args.commands.items c.run_logged-lines.result.lines.items last (last.number + 1) c.perform-sync.result line.printed.event refl r.run r.log line.step;
    })

pub returns-clause-printed : goal.returns-clause-printed
returns-clause-printed g c = rw c.add_line.ensures.items (All-push IsBuiltLine c.run_logged-lines.result.lines.items c.perform-sync.result c.run_logged-lines.ensures.run.run.printed c.perform-sync.ensures.printed)
