use Rattle.std.proofs.Common.{◌+◌, arith}
use Rattle.solo_runner.proofs.SoloLemmas.{none_ran, ran_one_more}
use Rattle.solo_runner.proofs.run.Goals as goal

pub loop-command-init : goal.loop-command-init
loop-command-init c = (none_ran c.args.store.now c.args.lines.items c.requires.empty, omega arith)

pub loop-command-preserved : goal.loop-command-preserved
loop-command-preserved c =
    let line = c.line_of-line.ensures in
    let step = c.step-reply.ensures in
    rw (c.add_line.ensures.items, c.event_of-event.ensures) (
      ran_one_more c.args.store.now c.loop-command.store c.step-reply.new.self c.loop-command.yielded c.loop-command.lines.items c.loop-command.last c.event_of-event.result c.line_of-line.result c.loop-command.invariant.0
          (record { event_is = line.event; who_is = line.who; mark = rw (line.event, line.reply) line.mark; reply = rw (line.event, line.reply) step.legal; after_is = rw (line.event, line.reply) (step.after (c.loop-command.last.number + 1)); printed = line.printed })
          (rw line.reply step.sound),
      (let room = c.add_line.ensures.room in omega (arith, c.loop-command.invariant.1)),
    )
