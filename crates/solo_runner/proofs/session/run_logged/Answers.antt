use Rattle.std.proofs.Common.{◌+◌, length, ap, refl, arith}
use Rattle.solo_runner.specs.LoggedStores.{store_state}
use Rattle.solo_runner.proofs.SoloLemmas.{none_yet, ran_more, counted_more}
use Rattle.solo_runner.proofs.SessionLemmas.{goes_nowhere, one_event_more}
use Rattle.solo_runner.proofs.session.run_logged.Goals as goal

pub loop-command-init : goal.loop-command-init
loop-command-init g c = (
  record {
    run = none_yet (store_state c.args.store.now) c.args.lines.items c.requires.empty;
    log = goes_nowhere g.F.DiskFile c.args.store.now c.args.lines.items c.requires.empty c.requires.in_step;
    counted = ap length c.requires.empty;
  },
  omega arith,
)

pub loop-command-preserved : goal.loop-command-preserved
loop-command-preserved g c =
    let line = c.perform-line.ensures in
    let r = c.loop-command.invariant.0 in
    rw (c.add_line.ensures.items, c.event_of.ensures) (
      record {
        run =
            ran_more (store_state c.args.store.now) c.loop-command.yielded c.loop-command.lines.items (store_state c.loop-command.store) (store_state c.perform-line.new.store) c.loop-command.last c.event_of.result c.perform-line.result r.run
            (record { event_is = line.event; who_is = line.who; mark = line.mark; reply = line.step.legal; after_is = line.step.after_is; printed = line.printed });
        log = one_event_more g.F.DiskFile c.args.store.now c.loop-command.store c.perform-line.new.store c.loop-command.yielded c.loop-command.lines.items c.loop-command.last (c.loop-command.last.number + 1) c.perform-line.result line.printed.event refl r.run r.log line.step;
        counted = counted_more c.loop-command.yielded c.loop-command.lines.items c.event_of.result c.perform-line.result r.counted;
      },
      (let room = c.add_line.ensures.room in omega (arith, c.loop-command.invariant.1)),
    )
