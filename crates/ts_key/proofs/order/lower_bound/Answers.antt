use Rattle.std.proofs.Common.{◌≡◌, ◌+◌, ◌-◌, ◌/◌, get_or, true, false, sym, ap, ◌∙◌, arith}
use Rattle.std.specs.Ordering.{is_lt}
use Rattle.ts_key.specs.Order.{SortKey, sort_key_of, is_before}
use Rattle.ts_key.specs.Items.{item_of}
use Rattle.ts_key.specs.Bounds.{before_on, from_on, below_is}
use Rattle.ts_key.proofs.order.lower_bound.Goals as goal

pub loop-low-preserved-then-is_lt : goal.loop-low-preserved-then-is_lt
loop-low-preserved-then-is_lt c =
    let to = sort_key_of c.args.to.now in
    let vs = c.args.versions.now in
    let mid = c.loop-low.low + (c.loop-low.high - c.loop-low.low) / 2 in
    let inv = c.loop-low.invariant in
    let v = c.index-versions-mid.result in
    let at_mid : v ≡ get_or vs mid v = c.index-versions-mid.is in
    let here : is_before (item_of (get_or vs mid v)).sort_key to ≡ true = ap (λ w. is_before (item_of w).sort_key to) (sym at_mid) ∙ ap (λ (p : SortKey). is_before p to) (sym c.key_ref.ensures) ∙ ap is_lt (sym c.compare.ensures.order) ∙ sym c.is_lt.ensures ∙ c.if-is_lt.true in
    record {
      order = omega arith;
      inside = inv.inside;
      before = λ k d l. before_on item_of to vs c.requires k mid d v (omega arith) (omega arith) here;
      from = inv.from;
    }

pub loop-low-preserved : goal.loop-low-preserved
loop-low-preserved c =
    let to = sort_key_of c.args.to.now in
    let vs = c.args.versions.now in
    let mid = c.loop-low.low + (c.loop-low.high - c.loop-low.low) / 2 in
    let inv = c.loop-low.invariant in
    let v = c.index-versions-mid.result in
    let at_mid : v ≡ get_or vs mid v = c.index-versions-mid.is in
    let here : is_before (item_of (get_or vs mid v)).sort_key to ≡ false = ap (λ w. is_before (item_of w).sort_key to) (sym at_mid) ∙ ap (λ (p : SortKey). is_before p to) (sym c.key_ref.ensures) ∙ ap is_lt (sym c.compare.ensures.order) ∙ sym c.is_lt.ensures ∙ c.if-is_lt.false in
    record {
      order = omega arith;
      inside = omega arith;
      before = inv.before;
      from = λ k d l m. from_on item_of to vs c.requires mid k v d l m here;
    }

pub returns-clause-count : goal.returns-clause-count
returns-clause-count c =
    let inv = c.loop-low.invariant in
    below_is item_of (sort_key_of c.args.to.now) c.args.versions.now c.loop-low.low (omega arith) inv.before (λ k d a b. inv.from k d (omega arith) b)
