use Rattle.std.proofs.Common.{vec_len, All}
use Rattle.sv_gate.specs.Gates.{IsReady}
use Rattle.gate_rows.specs.declared.tests.gate.Job.{Job}
use Rattle.gate_rows.proofs.tests.gate.collect.Given as goal

abbrev pub invariant-loop-one : goal.invariant-loop-one
invariant-loop-one g l = IsReady l.gate l.seat × All (λ (job : Job). IsReady l.gate job.seat) l.jobs.items

abbrev pub decreases-loop-one : goal.decreases-loop-one
decreases-loop-one g l = vec_len l.jobs
