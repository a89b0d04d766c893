use Rattle.std.proofs.Common.{◌≡◌, map, take}
use Rattle.udt_model.specs.Orders.{span_of_key}
use Rattle.floor_core.proofs.flushing.key_spans.Given as goal

abbrev pub invariant-loop-v : goal.invariant-loop-v
invariant-loop-v l = l.spans.items ≡ map (λ v. span_of_key v.key) (take l.v-index l.versions)
