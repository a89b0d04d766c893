use Rattle.std.proofs.Common.{◌≡◌, ◌++◌, drop}
use Rattle.std.specs.Prelude.{filter, flat_map}
use Rattle.udt_model.specs.Jobs.{is_input}
use Rattle.floor_core.proofs.compacting.input_versions.Given as goal

abbrev pub invariant-loop-t : goal.invariant-loop-t
invariant-loop-t l = l.held.items ++ flat_map (λ t. t.versions) (filter (is_input l.inputs) (drop l.t-index l.tables)) ≡ flat_map (λ t. t.versions) (filter (is_input l.inputs) l.tables)
