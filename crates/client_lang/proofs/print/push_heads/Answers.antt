use Rattle.client_lang.specs.Print.{print_head}
use Rattle.client_lang.proofs.Pushing.{failed, each_stops}
use Rattle.client_lang.proofs.print.push_heads.Goals as goal

pub returns-in_err-push_head : goal.returns-in_err-push_head
returns-in_err-push_head c =
    let err = c.from_residual.ensures.0 in
    let answered = failed c.push_head.ensures c.in_err-push_head.was err in
    each_stops print_head c.args.heads.now c.loop-head.head-index c.head-item.result c.loop-head-test.true err c.loop-head.invariant (rw (← c.head-item.is) answered)
