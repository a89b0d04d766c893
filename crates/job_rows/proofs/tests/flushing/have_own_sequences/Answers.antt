use Rattle.std.proofs.Common.{sym, subst}
use Rattle.std.specs.Prelude.{◌≢◌}
use Rattle.std.proofs.lemmas.Bool.{OnTrue_at}
use Rattle.std.proofs.lemmas.List.Kept.{AllPairs-cons}
use Rattle.ts_key.specs.declared.version.Version.{Version}
use Rattle.floor_laws.specs.Lists.{HaveOwnSequences}
use Rattle.job_rows.proofs.tests.flushing.have_own_sequences.Goals as goal

pub loop-first-preserved : goal.loop-first-preserved
loop-first-preserved c = λ own.
    let parts = c.in-Some.ensures.cases in
    let first = c.in-Some.first.now in
    c.loop-first.invariant (subst HaveOwnSequences (sym parts.0) (AllPairs-cons (λ (a b : Version). a.seq.0 ≢ b.seq.0) first c.in-Some.more.now (OnTrue_at c.if-not-have_others.false c.have_others.ensures) own))
