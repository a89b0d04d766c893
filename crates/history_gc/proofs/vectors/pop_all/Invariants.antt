use Rattle.std.proofs.Common.{◌≡◌, ◌+◌, ◌≤◌, List, length}
use Rattle.std.specs.Prelude.{vec_capacity}
use Rattle.ts_key.specs.declared.version.Version.{Version}
use Rattle.history_gc.specs.Collecting.{CollectsAlike, HasFinished, held_of}
use Rattle.history_gc.proofs.vectors.pop_all.Given as goal

abbrev pub invariant-loop-version : goal.invariant-loop-version
invariant-loop-version l = record {
  finished : (ps : List Version) → HasFinished l.initial.collector ps l.initial.out.items → HasFinished l.collector ps l.out.items;
  room : length l.out.items + held_of l.collector ≤ vec_capacity l.out;
  alike : CollectsAlike l.initial.collector l.collector;
}

abbrev pub decreases-loop-version : goal.decreases-loop-version
decreases-loop-version l = held_of l.collector
