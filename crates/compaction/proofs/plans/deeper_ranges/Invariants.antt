use Rattle.std.proofs.Common.{◌≡◌, ◌+◌, ◌++◌, ◌&&◌, drop, not}
use Rattle.std.specs.Prelude.{filter, nat_lt}
use Rattle.compaction.specs.Plans.{is_picked, ranges_of}
use Rattle.compaction.proofs.plans.deeper_ranges.Given as goal

abbrev pub invariant-loop-t : goal.invariant-loop-t
invariant-loop-t l = l.spans.items ++ ranges_of (filter (λ t. nat_lt (l.choice.level + 1) t.level && not (is_picked l.choice t)) (drop l.t-index l.tables)) ≡ ranges_of (filter (λ t. nat_lt (l.choice.level + 1) t.level && not (is_picked l.choice t)) l.tables)
