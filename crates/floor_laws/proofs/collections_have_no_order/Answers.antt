use Rattle.floor_laws.proofs.ListLaws.{collect_by_versions, flush_by_versions, floor_by_versions}
use Rattle.floor_laws.proofs.collections_have_no_order.Goals as goal

pub returns : goal.returns
returns c = record { compaction = collect_by_versions; flush = flush_by_versions; floor = floor_by_versions }
