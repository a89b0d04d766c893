use Rattle.sv_gate.specs.Gates.{IsReady}
use Rattle.gate_rows.proofs.tests.gate.run_job.Given as goal

abbrev pub invariant-loop-k : goal.invariant-loop-k
invariant-loop-k g l = IsReady l.gate l.job.seat
