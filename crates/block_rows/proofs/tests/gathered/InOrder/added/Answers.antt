use Rattle.std.proofs.Common.{length, refl, sym, ap, ◌∙◌, subst}
use Rattle.std.specs.Prelude.{IsTrue}
use Rattle.ts_key.specs.Lists.{IsSorted}
use Rattle.data_block.proofs.Joins.{sorted_join}
use Rattle.block_rows.proofs.tests.gathered.InOrder.added.Goals as goal

pub invariant_of-result : goal.invariant_of-result
invariant_of-result c =
    let read = c.in_ok-found.ensures.added in
    let behind = read.extent.follows.0 (subst IsTrue (sym c.if-not-found.false) refl) in
    record {
      len_is = c.args.self.len_is ∙ ap length (sym c.add.ensures.image);
      sorted = subst IsSorted (sym read.behind) (sorted_join c.args.self.gathering.items read.vs c.args.self.sorted read.is_block.sorted behind);
    }
