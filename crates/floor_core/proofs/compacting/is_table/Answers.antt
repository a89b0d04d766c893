use Rattle.std.proofs.Common.{◌∙◌}
use Rattle.floor_core.proofs.Places.{has_mapped}
use Rattle.floor_core.proofs.compacting.is_table.Goals as goal

pub returns : goal.returns
returns c = c.has_table.ensures ∙ has_mapped c.args.number c.args.tables.now
