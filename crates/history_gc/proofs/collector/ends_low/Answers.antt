use Rattle.std.proofs.Common.{◌≡◌, ◌-◌, ◌<◌, ◌&&◌, not, true, false, length, get_or, refl, sym, ap, subst, ◌∙◌, arith}
use Rattle.udt_model.specs.Orders.{is_in_some}
use Rattle.history_gc.specs.Streaming.{ends_so, is_low, is_old_delete}
use Rattle.history_gc.proofs.Queues.{ends_at}
use Rattle.history_gc.proofs.collector.ends_low.Goals as goal

pub returns-then-is_old : goal.returns-then-is_old
returns-then-is_old c =
    let q = c.args.queue.now.items in
    let x = c.in-Some.last.now in
    let len = c.args.queue.now.ok.0 in
    let some = c.in-Some.ensures.variant.0 refl in
    let at : x ≡ get_or q (length q - 1) x = subst (λ n. x ≡ get_or q (n - 1) x) len c.in-Some.ensures.lookup in
    let covered : c.is_covered.result ≡ is_in_some c.args.deeper.now x.key = c.is_covered.ensures ∙ ap (is_in_some c.args.deeper.now) c.bytes.ensures.bytes in
    ap not covered ∙ sym (ap (λ b. b && not (is_in_some c.args.deeper.now x.key)) (sym c.is_old.ensures ∙ c.if-is_old.true))
    ∙ ends_at (is_low c.args.floor c.args.deeper.now) q (length q - 1) x (omega (arith, some, len)) at

pub returns-else-is_old : goal.returns-else-is_old
returns-else-is_old c =
    let q = c.args.queue.now.items in
    let x = c.in-Some.last.now in
    let len = c.args.queue.now.ok.0 in
    let some = c.in-Some.ensures.variant.0 refl in
    let at : x ≡ get_or q (length q - 1) x = subst (λ n. x ≡ get_or q (n - 1) x) len c.in-Some.ensures.lookup in
    c.if-is_old.false ∙ sym (ap (λ b. b && not (is_in_some c.args.deeper.now x.key)) (sym c.is_old.ensures ∙ c.if-is_old.false))
    ∙ ends_at (is_low c.args.floor c.args.deeper.now) q (length q - 1) x (omega (arith, some, len)) at
