use Rattle.std.proofs.Common.{◌≡◌, ◌-◌, ◌^◌, ◌≤◌, min, max, drop}
use Rattle.udt_model.specs.Collecting as collecting
use Rattle.strip.proofs.cutoff.Given as goal

-- what is left may raise the cutoff further
abbrev pub invariant-loop-version : goal.invariant-loop-version
invariant-loop-version l = record {
  within : l.cutoff ≤ 2 ^ 64 - 1;
  rest : min (max l.cutoff (collecting.cutoff (drop l.version-index l.versions))) (2 ^ 64 - 1) ≡ min (collecting.cutoff l.versions) (2 ^ 64 - 1);
}
