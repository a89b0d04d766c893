use Rattle.data_block.proofs.Faulting.{faults_right}
use Rattle.data_block.proofs.laws.faults_are_right.Goals as goal

pub returns : goal.returns
returns c = faults_right
