use Rattle.std.proofs.Common.{refl}
use Rattle.sv_gate.proofs.Keeps.{locks_front}
use Rattle.sv_gate.proofs.steps.lock_front.Goals as goal

pub lock-requires-clause-may : goal.lock-requires-clause-may
lock-requires-clause-may g c = locks_front g.F.Shown.follows g.F.Shown.front_shows g.F.Shown.commit_shows g.F.Shown.is_light c.args.shared.now.key _ c.args.seat.now.id c.args.seat.now.me
    c.requires.table.0.same_origin c.requires.table.0.same_base c.requires.live

pub returns-clause-taken : goal.returns-clause-taken
returns-clause-taken g c = c.lock.ensures.locked.told.1 refl c.args.shared.now.key c.requires.table.0.same_origin
