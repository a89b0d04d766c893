use Rattle.std.proofs.Common.{◌≡◌, ◌++◌, ◌&&◌, drop}
use Rattle.std.specs.Prelude.{◌==◌, filter, nat_le, nat_lt}
use Rattle.udt_model.specs.Versions.{between}
use Rattle.floor_core.proofs.lists.between_of.Given as goal

abbrev pub invariant-loop-v : goal.invariant-loop-v
invariant-loop-v l = l.kept.items ++ filter (λ v. v.family.0 == l.family.0 && nat_lt l.low.0 v.seq.0 && nat_le v.seq.0 l.high.0) (drop l.v-index l.versions) ≡ between l.family l.low.0 l.high.0 l.versions
