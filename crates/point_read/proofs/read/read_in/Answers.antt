use Rattle.std.proofs.Common.{◌∙◌, arith}
use Rattle.point_read.proofs.Whole.{answers, collapses}
use Rattle.point_read.proofs.read.read_in.Goals as goal

pub returns-then-t-state : goal.returns-then-t-state
returns-then-t-state c = λ family. collapses family c.args.state.now c.args.key.now c.args.t c.args.s (omega arith)

pub returns : goal.returns
returns c = λ family.
    c.answer.ensures family c.args.key.now
    ∙ answers family c.args.state.now c.args.key.now c.args.t c.args.s c.find.result (omega arith) c.find.ensures
