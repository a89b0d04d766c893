use Rattle.data_block.proofs.Faulting.{faults_single}
use Rattle.data_block.proofs.laws.faults_are_single.Goals as goal

pub returns : goal.returns
returns c = faults_single
