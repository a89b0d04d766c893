use Rattle.std.proofs.Common.{◌∙◌, sym, ap}
use Rattle.std.specs.Ordering.{ordering_then}
use Rattle.std.specs.declared.cmp.Ordering.{Ordering}
use Rattle.ts_key.specs.Order.{sort_key_of}
use Rattle.ts_key.specs.Orders.{sort_cmp_total, parts_equal}
use Rattle.ts_key.proofs.order.compare.Goals as goal

pub returns-clause-total : goal.returns-clause-total
returns-clause-total c = sort_cmp_total

pub returns-clause-same : goal.returns-clause-same
returns-clause-same c equal =
    let key = c.cmp.ensures in
    let ts = c.cmp-2.ensures in
    let seq = c.cmp-3.ensures in
    let whole = c.then-2.ensures ∙ ap (λ (o : Ordering). ordering_then o c.cmp-3.result) c.then.ensures ∙ (λ i. ordering_then (ordering_then (key i) (ts i)) (seq i)) in
    parts_equal (sort_key_of c.args.a.now) (sort_key_of c.args.b.now) (sym whole ∙ equal)
