use Rattle.std.proofs.Common.{◌≡◌, ◌++◌, drop, not}
use Rattle.std.specs.Prelude.{filter}
use Rattle.udt_model.specs.Jobs.{is_input}
use Rattle.floor_core.proofs.compacting.other_tables.Given as goal

abbrev pub invariant-loop-t : goal.invariant-loop-t
invariant-loop-t l = l.others.items ++ filter (λ t. not (is_input l.inputs t)) (drop l.t-index l.tables) ≡ filter (λ t. not (is_input l.inputs t)) l.tables
