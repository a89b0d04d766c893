use Rattle.std.proofs.Common.{◌≡◌, ◌++◌, map, drop}
use Rattle.std.specs.Prelude.{filter}
use Rattle.compaction.specs.Plans.{is_picked}
use Rattle.compaction.proofs.plans.picked_tables.Given as goal

abbrev pub invariant-loop-t : goal.invariant-loop-t
invariant-loop-t l = l.all.items ++ map (λ t. t.table) (filter (is_picked l.choice) (drop l.t-index l.tables)) ≡ map (λ t. t.table) (filter (is_picked l.choice) l.tables)
