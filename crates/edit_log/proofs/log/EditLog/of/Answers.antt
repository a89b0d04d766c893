use Rattle.edit_log.proofs.log.EditLog.of.Goals as goal

pub returns-clause-shows : goal.returns-clause-shows
returns-clause-shows g c head start bodies logged leads = record { bodies = bodies; logged = logged; leads = leads }

pub returns-clause-rests : goal.returns-clause-rests
returns-clause-rests g c head start bodies at_rest leads = record { bodies = bodies; at_rest = at_rest; leads = leads }
