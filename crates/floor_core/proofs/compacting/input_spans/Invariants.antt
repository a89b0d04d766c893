use Rattle.std.proofs.Common.{◌≡◌, ◌++◌, drop}
use Rattle.std.specs.Prelude.{filter}
use Rattle.udt_model.specs.Jobs.{is_input, spans_of}
use Rattle.floor_core.proofs.compacting.input_spans.Given as goal

abbrev pub invariant-loop-t : goal.invariant-loop-t
invariant-loop-t l = l.spans.items ++ spans_of (filter (is_input l.inputs) (drop l.t-index l.tables)) ≡ spans_of (filter (is_input l.inputs) l.tables)
