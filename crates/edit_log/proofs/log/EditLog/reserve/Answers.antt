use Rattle.std.proofs.Common.{refl}
use Rattle.edit_log.proofs.Changes.{shows_on, rests_on, ready_on}
use Rattle.edit_log.proofs.log.EditLog.reserve.Goals as goal

pub returns-in_err-reserve-clause-shows : goal.returns-in_err-reserve-clause-shows
returns-in_err-reserve-clause-shows g c = shows_on g.F.DiskFile c.args.self.now _ c.reserve.ensures.logged refl

pub returns-in_err-reserve-clause-rests : goal.returns-in_err-reserve-clause-rests
returns-in_err-reserve-clause-rests g c = rests_on g.F.DiskFile c.args.self.now _ c.reserve.ensures.at_rest refl

pub returns-in_err-reserve-clause-ready : goal.returns-in_err-reserve-clause-ready
returns-in_err-reserve-clause-ready g c = ready_on g.F.DiskFile c.args.self.now _ c.reserve.ensures.file c.reserve.ensures.logged refl

pub returns-clause-shows : goal.returns-clause-shows
returns-clause-shows g c = shows_on g.F.DiskFile c.args.self.now _ c.reserve.ensures.logged refl

pub returns-clause-rests : goal.returns-clause-rests
returns-clause-rests g c = rests_on g.F.DiskFile c.args.self.now _ c.reserve.ensures.at_rest refl

pub returns-clause-ready : goal.returns-clause-ready
returns-clause-ready g c = ready_on g.F.DiskFile c.args.self.now _ c.reserve.ensures.file c.reserve.ensures.logged refl
