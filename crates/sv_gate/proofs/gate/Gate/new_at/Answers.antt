use Rattle.std.proofs.Common.{refl}
use Rattle.sv_gate.specs.declared.shown.Origin.{Origin}
use Rattle.sv_gate.specs.Knowledge.{IsOrigin}
use Rattle.sv_gate.proofs.Weights.{begins}
use Rattle.sv_gate.proofs.gate.Gate.new_at.Goals as goal

pub new-requires : goal.new-requires
new-requires g c = let o : Origin g.row.F.Denot g.row.C.Denot = record { height = c.args.height; seats = c.args.seats; front = c.of.result; commit = c.of-2.result } in let is : IsOrigin c.args.height c.args.seats c.args.front c.args.commit o = record { height_is = refl; seats_are = refl; front_is = c.of.ensures; commit_is = c.of-2.ensures } in
    rw (c.push_reserved-2.ensures.items, c.push_reserved.ensures.items, c.in-Ok.ensures.items)
    (begins g.F.Shown.follows g.F.Shown.front_shows g.F.Shown.commit_shows g.F.Shown.is_light o c.args.height c.args.front c.args.commit refl c.requires.height c.requires.seats (c.requires.front o is) (c.requires.commit o is))
