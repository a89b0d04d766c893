use Rattle.std.proofs.Common.{◌≡◌, ◌++◌, map, take, drop, length}
use Rattle.udt_model.specs.Collecting.{without_ts}
use Rattle.floor_core.proofs.flushing.clear_timestamps.Given as goal

abbrev pub invariant-loop-i : goal.invariant-loop-i
invariant-loop-i l = record {
  done : l.versions.items ≡ map without_ts (take l.i l.initial.versions.items) ++ drop l.i l.initial.versions.items;
  same : length l.versions.items ≡ length l.initial.versions.items;
}
