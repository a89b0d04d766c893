use Rattle.engine_laws.proofs.Acting.{act_holds, fault_keeps, seal_holds, seal_synced}
use Rattle.engine_laws.proofs.Installing.{compact_may, flush_may, raise_may, roll_may}
use Rattle.engine_laws.proofs.installs.Goals as goal

pub returns : goal.returns
returns c = record {
  raised = raise_may;
  rolled = roll_may;
  flushed = λ m c s number start table kept next floor job old gone h e g. flush_may m c s number start table kept next floor job old h e.runs e.told e.there e.holds e.fits e.file e.below gone g.kept g.upto g.oldest g.some g.covers g.drops;
  compacted = λ m c s number start kept next pieces job old add h e. compact_may m c s number start kept next pieces job old add h e.runs e.told e.there e.holds e.fits e.ascending e.file e.below;
  held = act_holds;
  sealed = seal_holds;
  sealed_synced = λ m c s waiting number family log h r new most empty. seal_synced m c s waiting number family log h r new most empty;
  failed = fault_keeps;
}
