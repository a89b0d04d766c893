use Rattle.std.proofs.Common.{◌∙◌}
use Rattle.manifest_fold.proofs.Ascending.{found_or_not}
use Rattle.manifest_fold.proofs.accept.has_word.Goals as goal

pub returns : goal.returns
returns c = c.is_ok.ensures.value ∙ found_or_not c.args.numbers.now c.args.number c.binary_search.result c.requires c.binary_search.ensures.position
