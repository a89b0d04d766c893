use Rattle.std.proofs.Common.{◌-◌, length, sym, ap, ◌∙◌, arith}
use Rattle.std.proofs.lemmas.List.{length-map}
use Rattle.merge_cursor.specs.Sides.{side, sides, front, front_of, key_lent}
use Rattle.merge_cursor.proofs.Loops.{first_some, low_end, low_on, low_off, is_low, front_end, side_at, side_or}
use Rattle.merge_cursor.proofs.children.lowest.Goals as goal

pub loop-i-init : goal.loop-i-init
loop-i-init g c = record {
  inside = omega arith;
  from = low_end (sides g.C.Placed.items g.C.Placed.place c.args.children.now) (length c.args.children.now) (length c.args.children.now) (let e = length-map c.args.children.now (side g.C.Placed.items g.C.Placed.place) in omega (arith, e));
  low = front_end g.C.Placed.items g.C.Placed.place c.args.children.now;
  none = λ q. omega arith;
}

pub loop-i-preserved-then-is_first_key : goal.loop-i-preserved-then-is_first_key
loop-i-preserved-then-is_first_key g c =
    let items = g.C.Placed.items in
    let place = g.C.Placed.place in
    let cs = c.args.children.now in
    let x = c.index-children-i.result in
    let key = key_lent c.front_key-key.result in
    record {
      inside = omega arith;
      from = low_on (sides items place cs) c.loop-i.i (key_lent c.loop-i.best) key (omega arith) c.loop-i.low c.loop-i.invariant.from (λ d. ap front (side_or items place cs (c.loop-i.i - 1) x d (omega arith) c.index-children-i.is) ∙ sym c.front_key-key.ensures) c.if-is_first_key.ensures;
      low = ap front_of (side_at items place cs (c.loop-i.i - 1) x (omega arith) c.index-children-i.is) ∙ sym c.front_key-key.ensures;
      none = λ q. absurd (first_some key (key_lent c.loop-i.best) c.if-is_first_key.ensures q);
    }

pub loop-i-preserved : goal.loop-i-preserved
loop-i-preserved g c =
    let items = g.C.Placed.items in
    let place = g.C.Placed.place in
    let cs = c.args.children.now in
    let x = c.index-children-i.result in
    let key = key_lent c.front_key-key.result in
    record {
      inside = omega arith;
      from = low_off (sides items place cs) c.loop-i.i (key_lent c.loop-i.best) key (omega arith) c.loop-i.low c.loop-i.invariant.from (λ d. ap front (side_or items place cs (c.loop-i.i - 1) x d (omega arith) c.index-children-i.is) ∙ sym c.front_key-key.ensures) c.if-is_first_key.ensures;
      low = c.loop-i.invariant.low;
      none = c.loop-i.invariant.none;
    }

pub returns : goal.returns
returns g c =
    let items = g.C.Placed.items in
    let place = g.C.Placed.place in
    let cs = c.args.children.now in
    is_low (sides items place cs) c.loop-i.i c.loop-i.low (key_lent c.loop-i.best) (omega arith) c.loop-i.invariant.from c.loop-i.invariant.low
    (λ q. let r = c.loop-i.invariant.none q in let e = length-map cs (side items place) in omega (arith, r, e))
