use Rattle.std.proofs.Common.{ap, refl}
use Rattle.sv_gate.proofs.Keeps.{gives_front}
use Rattle.sv_gate.proofs.steps.give_front.Goals as goal

pub unlock-requires-clause-may : goal.unlock-requires-clause-may
unlock-requires-clause-may g c = let now = c.exchange-content.ensures in let seat = c.exchange-content.new.seat in let same = ap (λ m. m.0) now.3 in
    gives_front g.F.Shown.follows g.F.Shown.front_shows g.F.Shown.commit_shows g.F.Shown.is_light c.args.shared.now.key _ seat.id seat.me c.args.front
    (rw same c.requires.live) (rw same c.requires.has.0) (rw now.3 refl) (rw same c.requires.shown)
