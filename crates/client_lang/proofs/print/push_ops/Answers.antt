use Rattle.client_lang.proofs.Pushing.{as_text, done, then}
use Rattle.client_lang.proofs.Texts.{ops_text}
use Rattle.client_lang.proofs.print.push_ops.Goals as goal

pub returns : goal.returns
returns c =
    let first = done c.push_op.ensures c.in_ok-push_op.was in
    as_text (then first c.push_next_ops.ensures) (ops_text c.args.ops.now c.first-item.result c.in-len1-up.len_at_least c.first-item.is)
