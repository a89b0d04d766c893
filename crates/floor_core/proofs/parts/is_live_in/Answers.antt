use Rattle.std.proofs.Common.{◌∙◌}
use Rattle.floor_core.proofs.Places.{live_is}
use Rattle.floor_core.proofs.parts.is_live_in.Goals as goal

pub returns : goal.returns
returns c = c.some_holds.ensures ∙ live_is c.args.families.now c.args.table
