use Rattle.std.proofs.Common.{take}
use Rattle.std.specs.List.{flat_map}
use Rattle.client_lang.proofs.Pushing.{Pushed}
use Rattle.client_lang.specs.Words.{next_op_text}
use Rattle.client_lang.proofs.print.push_next_ops.Given as goal

abbrev pub invariant-loop-op : goal.invariant-loop-op
invariant-loop-op l = Pushed l.initial.out l.out (flat_map next_op_text (take l.op-index l.ops))
