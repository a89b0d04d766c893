use Rattle.std.proofs.Common.{rules}
use Rattle.sv_gate.proofs.Keeps.{enters}
use Rattle.sv_gate.proofs.steps.enter.Goals as goal

pub fetch_add-requires : goal.fetch_add-requires
fetch_add-requires g c = (
  search rules,
  search rules,
  enters g.F.Shown.follows g.F.Shown.front_shows g.F.Shown.commit_shows g.F.Shown.is_light c.args.shared.now.key (g.F.Shown.stays c.args.shared.now.key) _ c.args.seat.now.id c.args.seat.now.me g.J.Entering.entries
      (g.E.Past.entry c.args.event.now) c.requires.pick c.requires.table.0.same_base c.requires.live c.requires.has c.requires.room c.requires.alone c.requires.legal,
)
