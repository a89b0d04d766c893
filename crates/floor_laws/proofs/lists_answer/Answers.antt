use Rattle.floor_laws.proofs.ListLaws.{read_same, fell_same}
use Rattle.floor_laws.proofs.lists_answer.Goals as goal

pub returns : goal.returns
returns c = record { reads = λ family form vs w floor seqs key t s h see. read_same family form vs w floor seqs key t s h see; falls = fell_same }
