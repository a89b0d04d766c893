use Rattle.std.proofs.Common.{◌≡◌, ◌++◌, drop, not}
use Rattle.std.specs.Prelude.{filter}
use Rattle.udt_model.specs.Collecting.{is_useless, without_useless}
use Rattle.collection_laws.proofs.collect.keep_useful.Given as goal

abbrev pub invariant-loop-v : goal.invariant-loop-v
invariant-loop-v l = l.useful.items ++ filter (λ v. not (is_useless l.kept l.floor l.deeper v)) (drop l.v-index l.kept) ≡ without_useless l.floor l.deeper l.kept
