use Rattle.udt_model.proofs.Sorted.{first_is_visible, first_is_newest}
use Rattle.udt_model.proofs.sorting.the_first_is_the_newest.Goals as goal

pub returns : goal.returns
returns c = record { visible = first_is_visible; newest = first_is_newest }
