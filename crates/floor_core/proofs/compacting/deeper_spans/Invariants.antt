use Rattle.std.proofs.Common.{◌≡◌, ◌++◌, ◌&&◌, drop, not}
use Rattle.std.specs.Prelude.{filter, nat_lt}
use Rattle.udt_model.specs.Jobs.{is_input, spans_of}
use Rattle.floor_core.proofs.compacting.deeper_spans.Given as goal

abbrev pub invariant-loop-t : goal.invariant-loop-t
invariant-loop-t l = l.spans.items ++ spans_of (filter (λ t. nat_lt l.level t.level && not (is_input l.inputs t)) (drop l.t-index l.tables)) ≡ spans_of (filter (λ t. nat_lt l.level t.level && not (is_input l.inputs t)) l.tables)
