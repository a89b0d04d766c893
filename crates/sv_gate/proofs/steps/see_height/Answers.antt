use Rattle.std.proofs.Common.{rules}
use Rattle.sv_gate.proofs.Keeps.{sees}
use Rattle.sv_gate.proofs.steps.see_height.Goals as goal

pub load-requires : goal.load-requires
load-requires g c = (
  search rules,
  search rules,
  sees g.F.Shown.follows g.F.Shown.front_shows g.F.Shown.commit_shows g.F.Shown.is_light c.args.shared.now.key _ c.args.seat.now.id c.args.seat.now.me c.requires.table.0.same_base c.requires.live c.requires.has,
)
