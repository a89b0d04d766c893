use Rattle.super_version.proofs.Orders.{compacted_order, front_order}
use Rattle.super_version.proofs.laws.levels_stay_in_order.Goals as goal

pub returns : goal.returns
returns c = record { front = front_order; compaction = compacted_order }
