use Rattle.engine_laws.proofs.Folding.{dropped_dead, removed_dead}
use Rattle.engine_laws.proofs.Opened.{manifest_well}
use Rattle.floor_laws.proofs.Members.{In-contains, contains_In}
use Rattle.engine_laws.proofs.folds.Goals as goal

pub returns : goal.returns
returns c = record {
  well = manifest_well;
  dropped = λ fold edit n a w i j. dropped_dead fold edit n a w (contains_In edit.drop_logs n i) (contains_In _ n j);
  removed = λ fold edit e n is a w r new. removed_dead fold edit e n is a w (contains_In e.remove n r) (λ t i. new t (In-contains e.add t i));
}
