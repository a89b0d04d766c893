use Rattle.std.proofs.Common.{length}
use Rattle.floor_laws.specs.Lists.{HaveOwnSequences}
use Rattle.job_rows.proofs.tests.flushing.have_own_sequences.Given as goal

abbrev pub invariant-loop-first : goal.invariant-loop-first
invariant-loop-first l = HaveOwnSequences l.rest → HaveOwnSequences l.versions

abbrev pub decreases-loop-first : goal.decreases-loop-first
decreases-loop-first l = length l.rest
