use Rattle.std.proofs.Common.{map}
use Rattle.gate_log.specs.Reads.{body_of}
use Rattle.edit_log.proofs.log.EditLog.read.Goals as goal

pub returns-in-Ok-clause-shows : goal.returns-in-Ok-clause-shows
returns-in-Ok-clause-shows g c head logged = c.of.ensures.shows head c.args.start (map body_of c.args.frames.now) logged c.in-Ok.ensures

pub returns-in-Ok-clause-rests : goal.returns-in-Ok-clause-rests
returns-in-Ok-clause-rests g c head at_rest = c.of.ensures.rests head c.args.start (map body_of c.args.frames.now) at_rest c.in-Ok.ensures
