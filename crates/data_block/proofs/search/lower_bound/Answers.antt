use Rattle.std.proofs.Common.{sym, ◌∙◌, ◌+◌, ◌-◌, ◌/◌, arith}
use Rattle.ts_key.specs.Order.{sort_key_of}
use Rattle.ts_key.specs.Ordered.{ordered_from}
use Rattle.ts_key.specs.Bounds.{before_on, from_on, below_is}
use Rattle.data_block.specs.Index.{item_at, items_at}
use Rattle.data_block.proofs.search.lower_bound.Goals as goal

pub loop-low-preserved-then-is_before : goal.loop-low-preserved-then-is_before
loop-low-preserved-then-is_before c =
    let keys = c.args.keys.now in
    let image = c.args.image.now in
    let es = c.args.entries.now in
    let to = sort_key_of c.args.to.now in
    let mid = c.loop-low.low + (c.loop-low.high - c.loop-low.low) / 2 in
    let ordered = ordered_from (items_at keys image es) c.requires.sorted in
    record {
      order = omega arith;
      within = c.loop-low.invariant.within;
      before = λ k d lt. before_on (item_at keys image) to es ordered k mid d _ (omega arith) (omega arith) (sym c.is_before.ensures ∙ c.if-is_before.true);
      from = c.loop-low.invariant.from;
    }

pub loop-low-preserved : goal.loop-low-preserved
loop-low-preserved c =
    let keys = c.args.keys.now in
    let image = c.args.image.now in
    let es = c.args.entries.now in
    let to = sort_key_of c.args.to.now in
    let mid = c.loop-low.low + (c.loop-low.high - c.loop-low.low) / 2 in
    let ordered = ordered_from (items_at keys image es) c.requires.sorted in
    record {
      order = omega arith;
      within = omega arith;
      before = c.loop-low.invariant.before;
      from = λ k d le lt. from_on (item_at keys image) to es ordered mid k _ d le lt (sym c.is_before.ensures ∙ c.if-is_before.false);
    }

pub returns-clause-value : goal.returns-clause-value
returns-clause-value c =
    let inv = c.loop-low.invariant in
    below_is (item_at c.args.keys.now c.args.image.now) (sort_key_of c.args.to.now) c.args.entries.now c.loop-low.low (omega arith) inv.before (λ k d a b. inv.from k d (omega arith) b)
