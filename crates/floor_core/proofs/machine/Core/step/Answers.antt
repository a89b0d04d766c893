use Rattle.floor_core.proofs.Pins.{step_is_sound, step_reads}
use Rattle.floor_core.proofs.machine.Core.step.Goals as goal

pub returns-clause-sound : goal.returns-clause-sound
returns-clause-sound c = λ h. step_is_sound c.args.self.now c.count.new.self c.args.event.now c.in_ok-reply.ensures.left h

pub returns-clause-reads : goal.returns-clause-reads
returns-clause-reads c = λ h. step_reads c.args.self.now c.args.event.now c.in_ok-reply.reply c.in_ok-reply.ensures.told h
