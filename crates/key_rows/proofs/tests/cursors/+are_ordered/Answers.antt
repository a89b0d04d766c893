use Rattle.std.proofs.Common.{◌≡◌, false, sym, ap, ◌∙◌}
use Rattle.std.specs.Ordering.{is_lt}
use Rattle.std.proofs.lemmas.Bool.{OnTrue_at, OnTrue_from}
use Rattle.ts_key.specs.Order.{sort_cmp, is_before}
use Rattle.ts_key.specs.Items.{item_of, items_of}
use Rattle.ts_key.specs.Lists.{IsOrdered}
use Rattle.key_rows.proofs.Ordered.{ordered_front}
use Rattle.key_rows.proofs.tests.cursors.+are_ordered.Goals as goal

pub returns-then-not-is_lt : goal.returns-then-not-is_lt
returns-then-not-is_lt t c =
    let next = c.key_ref.ensures in
    let first = c.key_ref-in-Some-first.ensures in
    let upto : is_before (item_of c.in-Some-first.next.now).sort_key (item_of c.in-Some.first.now).sort_key ≡ false = (λ i. is_lt (sort_cmp (sym next i) (sym first i))) ∙ ap is_lt (sym c.compare.ensures.order) ∙ sym c.if-not-is_lt.ensures in
    OnTrue_from c.are_ordered.result (IsOrdered (items_of c.args.versions.now))
    (λ yes. ordered_front c.args.versions.now c.in-Some.first.now c.in-Some-first.next.now c.in-Some.rest.now c.in-Some.ensures.cases.0 c.in-Some-first.ensures.value upto (OnTrue_at yes c.are_ordered.ensures))
