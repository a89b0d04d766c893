use Rattle.edit_log.specs.Logs.{IsEditLogReady}
use Rattle.manifest_rows.proofs.tests.edits_on_disk.add_raises.Given as goal

abbrev pub invariant-loop-floor : goal.invariant-loop-floor
invariant-loop-floor l = IsEditLogReady _ l.edits
