use Rattle.manifest.proofs.Edits.{shows_on, rests_on, ready_on}
use Rattle.manifest.proofs.manifest.Manifest.reserve.Goals as goal

pub returns-clause-shows : goal.returns-clause-shows
returns-clause-shows g c = shows_on g.F.DiskFile c.args.self.now _ c.reserve.ensures.shows

pub returns-clause-rests : goal.returns-clause-rests
returns-clause-rests g c = rests_on g.F.DiskFile c.args.self.now _ c.reserve.ensures.rests

pub returns-clause-ready : goal.returns-clause-ready
returns-clause-ready g c = ready_on g.F.DiskFile c.args.self.now _ c.reserve.ensures.file (shows_on g.F.DiskFile c.args.self.now _ c.reserve.ensures.shows)
