use Rattle.std.proofs.Common.{refl}
use Rattle.std.proofs.lemmas.List.{take_rest}
use Rattle.client_lang.proofs.ReadWrites.{step_none, step_no_tail, step_some}
use Rattle.client_lang.proofs.grammar.commands.read_step.Goals as goal

pub returns-in_default : goal.returns-in_default
returns-in_default c = step_none (λ w. w.now) c.args.words.now _ c.op_length-length.result c.op_length-length.ensures refl (rw c.in_default.is at c.in_ok-op.ensures)

pub returns-in-None : goal.returns-in-None
returns-in-None c =
    step_no_tail (λ w. w.now) c.args.words.now _ c.op_length-length.result c.op_length-length.ensures (take_rest c.args.words.now c.op_length-length.result) c.in-None.ensures

pub returns-in-Some-tail_of : goal.returns-in-Some-tail_of
returns-in-Some-tail_of c =
    step_some (λ w. w.now) c.args.words.now _ _ c.op_length-length.result c.in-Some.op c.in-Some-tail_of.tail c.op_length-length.ensures refl (take_rest c.args.words.now c.op_length-length.result)
    (rw c.in-Some.is at c.in_ok-op.ensures) c.in-Some-tail_of.ensures
