use Rattle.std.specs.Arc.{arc_value}
use Rattle.store_engine.specs.Engines.{IsCurrent, IsRunning}
use Rattle.engine_rows.proofs.script.run.Given as goal

abbrev pub invariant-loop-step : goal.invariant-loop-step
invariant-loop-step l = record {
  running : IsRunning l.engine;
  current : IsCurrent l.engine (arc_value l.now);
}
