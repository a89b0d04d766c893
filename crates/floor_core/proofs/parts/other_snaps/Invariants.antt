use Rattle.std.proofs.Common.{◌≡◌, ◌++◌, drop, not}
use Rattle.std.specs.Prelude.{filter, ◌==◌}
use Rattle.floor_core.proofs.parts.other_snaps.Given as goal

abbrev pub invariant-loop-s : goal.invariant-loop-s
invariant-loop-s l = l.kept.items ++ filter (λ s. not (s.event == l.id)) (drop l.s-index l.snaps) ≡ filter (λ s. not (s.event == l.id)) l.snaps
