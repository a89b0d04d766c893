use Rattle.std.proofs.Common.{◌≡◌, ◌≤◌, ◌-◌, List, length, get_or, refl, sym, ap, ◌∙◌, arith}
use Rattle.std.specs.Prelude.{slice_get}
use Rattle.std.proofs.Math.ListN.{length-set}
use Rattle.std.proofs.Math.Seq.{map-set_same}
use Rattle.std.proofs.lemmas.List.Elements.{All-set}
use Rattle.merge_cursor.specs.Sides.{Side, sides, side, key_lent, back, back_of}
use Rattle.std.proofs.lemmas.List.{length-map}
use Rattle.merge_cursor.proofs.Loops.{higher_some, top_end, top_on, top_off, is_top, back_end, sides_same, side_at, side_or}
use Rattle.merge_cursor.proofs.children.highest.Goals as goal

pub loop-i-init : goal.loop-i-init
loop-i-init g c = record {
  inside = omega arith;
  over = refl;
  same = refl;
  started = c.requires;
  from = top_end (sides g.C.Placed.items g.C.Placed.place c.args.children.now) (length c.args.children.now) (let e = length-map c.args.children.now (side g.C.Placed.items g.C.Placed.place) in omega (arith, e));
  top = back_end g.C.Placed.items g.C.Placed.place c.args.children.now;
  none = λ q. omega arith;
}

pub loop-i-preserved-then-is_higher_key : goal.loop-i-preserved-then-is_higher_key
loop-i-preserved-then-is_higher_key g c =
    let items = g.C.Placed.items in
    let place = g.C.Placed.place in
    let old = c.index-children-i.result in
    let new = c.back_key-key.new.c in
    let at_old : old ≡ get_or c.loop-i.children (c.loop-i.i - 1) old = c.index-children-i.is in
    let e_items : items new ≡ items old = c.back_key-key.ensures.items ∙ ap items (sym at_old) in
    let e_place : place new ≡ place old = c.back_key-key.ensures.place ∙ ap place (sym at_old) in
    let e_key : key_lent c.back_key-key.result ≡ back (side items place old) = c.back_key-key.ensures.key ∙ ap (λ x. back (side items place x)) (sym at_old) in
    let now = c.loop-i.children in
    let same = c.loop-i.invariant.same in
    let first = c.args.children.now in
    let key = key_lent c.back_key-key.result in
    let at_key = λ (d : Side). ap (λ (ss : List Side). back (get_or ss (c.loop-i.i - 1) d)) (sym same) ∙ ap back (side_or items place now (c.loop-i.i - 1) old d (omega arith) c.index-children-i.is) ∙ sym e_key in
    let h = top_on (sides items place first) c.loop-i.i (key_lent c.loop-i.best) key (omega arith) c.loop-i.top c.loop-i.invariant.from at_key c.if-is_higher_key.ensures in
    record {
      inside = let q = length-set now (c.loop-i.i - 1) new in omega arith;
      over = map-set_same g.C.Placed.over now (c.loop-i.i - 1) new old (c.back_key-key.ensures.over) ∙ c.loop-i.invariant.over;
      same = sides_same items place now (c.loop-i.i - 1) old new c.index-children-i.is e_items e_place ∙ same;
      started = All-set (λ x. 1 ≤ place x) now (c.loop-i.i - 1) new (let b = c.loop-i.invariant.started (c.loop-i.i - 1) old (omega arith) in let d : place old ≡ place (get_or now (c.loop-i.i - 1) old) = ap place c.index-children-i.is in omega (arith, b, d, e_place)) c.loop-i.invariant.started;
      from = h;
      top = ap (λ (ss : List Side). back_of (slice_get ss (c.loop-i.i - 1))) (sym same) ∙ ap back_of (side_at items place now (c.loop-i.i - 1) old (omega arith) c.index-children-i.is) ∙ sym e_key;
      none = λ q. absurd (higher_some (key_lent c.back_key-key.result) (key_lent c.loop-i.best) c.if-is_higher_key.ensures q);
    }

pub loop-i-preserved : goal.loop-i-preserved
loop-i-preserved g c =
    let items = g.C.Placed.items in
    let place = g.C.Placed.place in
    let old = c.index-children-i.result in
    let new = c.back_key-key.new.c in
    let at_old : old ≡ get_or c.loop-i.children (c.loop-i.i - 1) old = c.index-children-i.is in
    let e_items : items new ≡ items old = c.back_key-key.ensures.items ∙ ap items (sym at_old) in
    let e_place : place new ≡ place old = c.back_key-key.ensures.place ∙ ap place (sym at_old) in
    let e_key : key_lent c.back_key-key.result ≡ back (side items place old) = c.back_key-key.ensures.key ∙ ap (λ x. back (side items place x)) (sym at_old) in
    let now = c.loop-i.children in
    let same = c.loop-i.invariant.same in
    let first = c.args.children.now in
    let key = key_lent c.back_key-key.result in
    let at_key = λ (d : Side). ap (λ (ss : List Side). back (get_or ss (c.loop-i.i - 1) d)) (sym same) ∙ ap back (side_or items place now (c.loop-i.i - 1) old d (omega arith) c.index-children-i.is) ∙ sym e_key in
    let h = top_off (sides items place first) c.loop-i.i (key_lent c.loop-i.best) key (omega arith) c.loop-i.top c.loop-i.invariant.from at_key c.if-is_higher_key.ensures in
    record {
      inside = let q = length-set now (c.loop-i.i - 1) new in omega arith;
      over = map-set_same g.C.Placed.over now (c.loop-i.i - 1) new old (c.back_key-key.ensures.over) ∙ c.loop-i.invariant.over;
      same = sides_same items place now (c.loop-i.i - 1) old new c.index-children-i.is e_items e_place ∙ same;
      started = All-set (λ x. 1 ≤ place x) now (c.loop-i.i - 1) new (let b = c.loop-i.invariant.started (c.loop-i.i - 1) old (omega arith) in let d : place old ≡ place (get_or now (c.loop-i.i - 1) old) = ap place c.index-children-i.is in omega (arith, b, d, e_place)) c.loop-i.invariant.started;
      from = h;
      top = c.loop-i.invariant.top;
      none = λ q. let r = c.loop-i.invariant.none q in let e = length-set now (c.loop-i.i - 1) new in omega (arith, r);
    }

pub returns-clause-top : goal.returns-clause-top
returns-clause-top g c =
    let items = g.C.Placed.items in
    let place = g.C.Placed.place in
    let first = c.args.children.now in
    is_top (sides items place first) c.loop-i.i c.loop-i.top (key_lent c.loop-i.best) (omega arith) c.loop-i.invariant.from c.loop-i.invariant.top
    (λ q. let r = c.loop-i.invariant.none q in
    let e = length-map first (side items place) in
    let n = length-map c.loop-i.children (side items place) in
    let m = ap length c.loop-i.invariant.same in
    omega (arith, r, e, n, m))
