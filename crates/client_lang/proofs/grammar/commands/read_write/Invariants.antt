use Rattle.std.proofs.Common.{◌≤◌, ◌-◌, length, drop, map}
use Rattle.client_lang.proofs.ReadWrites.{Left}
use Rattle.client_lang.proofs.grammar.commands.read_write.Given as goal

abbrev pub invariant-loop-alloc : goal.invariant-loop-alloc
invariant-loop-alloc l = record {
  within : l.at ≤ length l.words;
  left : Left (map (λ w. w.now) l.words) l.ops.items (drop l.at (map (λ w. w.now) l.words));
}

abbrev pub decreases-loop-alloc : goal.decreases-loop-alloc
decreases-loop-alloc l = 64 - length l.ops.items
