use Rattle.std.proofs.Common.{ap, subst, arith}
use Rattle.merge_cursor.specs.Sides.{sides, IsLow}
use Rattle.ts_key.specs.Lists.{merged}
use Rattle.merge_cursor.specs.Shows.{lists_are}
use Rattle.merge_cursor.proofs.Steps.{new_merge, new_passed}
use Rattle.merge_cursor.proofs.merge.Merge.new.Goals as goal

pub invariant_of-result : goal.invariant_of-result
invariant_of-result g c =
    let items = g.C.Placed.items in
    let place = g.C.Placed.place in
    let value = c.deref.ensures.value in
    record {
      merge = new_merge items place c.args.children.items c.requires c.lowest-lowest.result (subst (λ cs. IsLow (sides items place cs) c.lowest-lowest.result) value c.lowest-lowest.ensures);
      started = λ k d l. let h = c.requires k d l in omega (arith, h);
      ahead = λ e. absurd cc;
    }

pub returns-clause-items : goal.returns-clause-items
returns-clause-items g c = ap merged (lists_are g.C.Placed.items g.C.Placed.place c.args.children.items)

pub returns-clause-none : goal.returns-clause-none
returns-clause-none g c = new_passed g.C.Placed.items g.C.Placed.place c.args.children.items c.requires
