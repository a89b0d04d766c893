use Rattle.std.proofs.Common.{◌≡◌, map, ◌++◌, take, drop}
use Rattle.udt_disk.specs.Troubles.{counted_by}
use Rattle.udt_disk.proofs.trouble.count_calls.Given as goal

abbrev pub invariant-loop-trouble : goal.invariant-loop-trouble
invariant-loop-trouble l = l.troubles ≡ map (counted_by l.name l.calls) (take l.trouble-index l.fn.troubles) ++ drop l.trouble-index l.fn.troubles
