use Rattle.udt_model.proofs.Laws.{images_rise}
use Rattle.udt_model.proofs.definitions.images_rise.Goals as goal

pub returns : goal.returns
returns c = images_rise
