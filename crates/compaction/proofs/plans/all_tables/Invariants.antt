use Rattle.std.proofs.Common.{◌≡◌, map, take}
use Rattle.compaction.proofs.plans.all_tables.Given as goal

abbrev pub invariant-loop-t : goal.invariant-loop-t
invariant-loop-t l = l.all.items ≡ map (λ t. t.table) (take l.t-index l.tables)
