use Rattle.std.proofs.Common.{◌+◌, List, length, refl, sym, ap, subst, ◌∙◌, arith}
use Rattle.ts_key.specs.Items.{Item}
use Rattle.ts_key.specs.Lists.{below, standing}
use Rattle.ts_iterator.specs.Helds.{held_item}
use Rattle.ts_iterator.specs.Walks.{IsUptoSeen}
use Rattle.ts_iterator.proofs.PassingDown.{walk_begins, walk_goes_on, walk_stays_in}
use Rattle.ts_iterator.proofs.Steps.{goes_on}
use Rattle.ts_iterator.proofs.down.go_to_newest.Goals as goal

pub loop-found-init : goal.loop-found-init
loop-found-init g c =
    let key = c.args.key.now in
    let t = c.args.t.0 in
    let s = c.args.s.0 in
    let vs = g.C.Placed.items c.seek.new.self in
    record {
      same = refl;
      inside = omega (arith, c.seek.ensures.place);
      upto = walk_begins key t s vs (g.C.Placed.place c.seek.new.self) (g.C.Placed.ordered c.seek.new.self)
          (c.seek.ensures.place ∙ ap (λ (ys : List Item). below (record { key = key; ts = t; seq = s }) ys + 1) (sym c.seek.ensures.same));
    }

pub loop-found-preserved : goal.loop-found-preserved
loop-found-preserved g c =
    let key = c.args.key.now in
    let t = c.args.t.0 in
    let s = c.args.s.0 in
    let x = c.loop-found.cursor in
    let y = c.next.new.self in
    let q = g.C.Placed.place y in
    let w = held_item c.in-Some.found in
    let o = goes_on (g.C.Placed.items x) (g.C.Placed.place x) q w c.in-Some.ensures c.next.ensures.place in
    let upto = walk_goes_on key t s (g.C.Placed.items x) (g.C.Placed.place x) q w c.in-Some.ensures (sym (c.is_seen.ensures w (sym c.key_ref.ensures)) ∙ c.if-is_seen.false) c.next.ensures.place c.loop-found.invariant.upto in
    record {
      same = c.next.ensures.same ∙ c.loop-found.invariant.same;
      inside = omega (arith, o.0);
      upto = subst (λ (ys : List Item). IsUptoSeen key t s ys q) (sym c.next.ensures.same) upto;
    }

pub loop-found-smaller : goal.loop-found-smaller
loop-found-smaller g c =
    let x = c.loop-found.cursor in
    let w = held_item c.in-Some.found in
    let o = goes_on (g.C.Placed.items x) (g.C.Placed.place x) (g.C.Placed.place c.next.new.self) w c.in-Some.ensures c.next.ensures.place in
    omega (arith, o.0, o.1, ap length c.next.ensures.same)

pub returns-in_default-clause-newest : goal.returns-in_default-clause-newest
returns-in_default-clause-newest g c = λ p v e seen.
    let x = c.loop-found.cursor in
    let i = c.loop-found.invariant in
    let same = i.same ∙ c.seek.ensures.same in
    absurd (walk_stays_in c.args.key.now c.args.t.0 c.args.s.0 (g.C.Placed.items x) (g.C.Placed.place x) i.inside c.in_default.ensures i.upto p v (e ∙ ap (λ (ys : List Item). standing ys p) (sym same)) seen)

pub returns-then-is_seen-clause-newest : goal.returns-then-is_seen-clause-newest
returns-then-is_seen-clause-newest g c = λ p v e seen.
    let x = c.loop-found.cursor in
    let i = c.loop-found.invariant in
    let w = held_item c.in-Some.found in
    let same = i.same ∙ c.seek.ensures.same in
    record {
      it = w;
      is = refl;
      stands = c.in-Some.ensures ∙ ap (λ (ys : List Item). standing ys (g.C.Placed.place x)) same;
      seen = sym (c.is_seen.ensures w (sym c.key_ref.ensures)) ∙ c.if-is_seen.true;
      upto = i.upto p v (e ∙ ap (λ (ys : List Item). standing ys p) (sym same)) seen;
    }
