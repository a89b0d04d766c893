use Rattle.manifest.proofs.Edits.{shown, rested}
use Rattle.manifest.proofs.manifest.manifest_of.Goals as goal

pub returns-clause-shows : goal.returns-clause-shows
returns-clause-shows g c bodies logged means = shown g.F.DiskFile c.args.log _ c.args.fold bodies c.of.ensures.shows logged means

pub returns-clause-rests : goal.returns-clause-rests
returns-clause-rests g c bodies at_rest means = rested g.F.DiskFile c.args.log _ c.args.fold bodies c.of.ensures.rests at_rest means
