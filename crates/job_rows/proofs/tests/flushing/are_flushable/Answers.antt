use Rattle.std.proofs.Common.{arith}
use Rattle.std.proofs.lemmas.Bool.{OnTrue_at, OnTrue_from}
use Rattle.std.proofs.lemmas.Grind.{common_steps}
use Rattle.job_rows.proofs.tests.flushing.are_flushable.Goals as goal

pub returns : goal.returns
returns c = OnTrue_from c.are_sequences.result _ (λ fit. (
  _,
  record {
    some = grind (arith, common_steps);
    one_family = OnTrue_at c.if-not-are_of.false c.are_of.ensures;
    own = OnTrue_at c.if-not-have_own_sequences.false c.have_own_sequences.ensures;
    stamps = OnTrue_at c.if-not-are_stamps.false c.are_stamps.ensures;
    sequences = OnTrue_at fit c.are_sequences.ensures;
  },
))
