use Rattle.std.proofs.Common.{◌∙◌}
use Rattle.compaction.proofs.Counting.{whole_some}
use Rattle.compaction.proofs.plans.whole_from.Goals as goal

pub returns : goal.returns
returns c = whole_some c.args.family c.args.tables.now c.of.result c.of-2.result c.is_empty.result c.is_empty.ensures c.if-is_empty.false (c.of.ensures ∙ c.in_ok-all_tables.ensures) (c.of-2.ensures ∙ c.new.ensures.items)
