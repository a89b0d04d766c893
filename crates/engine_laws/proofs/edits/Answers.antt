use Rattle.engine_laws.proofs.Calls.{stands_edit, under_act, under_none}
use Rattle.engine_laws.proofs.Editing.{edit_course, edit_holds_on}
use Rattle.engine_laws.proofs.Appending.{either_fold}
use Rattle.engine_laws.proofs.edits.Goals as goal

pub returns : goal.returns
returns g c = record {
  moments = stands_edit g.G.TableGrammar.spells;
  acts = under_act;
  nothing = under_none;
  held = λ m c d s edit next h e ends low sound. edit_holds_on m c s edit next h e d (edit_course m c s edit next h e d ends low sound);
  bytes = either_fold;
}
