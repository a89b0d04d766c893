use Rattle.std.proofs.Common.{◌≡◌, ◌++◌, drop}
use Rattle.std.specs.Prelude.{filter, nat_le}
use Rattle.udt_model.specs.Versions.{up_to}
use Rattle.floor_core.proofs.lists.first_of.Given as goal

abbrev pub invariant-loop-v : goal.invariant-loop-v
invariant-loop-v l = l.kept.items ++ filter (λ v. nat_le v.seq.0 l.s.0) (drop l.v-index l.versions) ≡ up_to l.s.0 l.versions
