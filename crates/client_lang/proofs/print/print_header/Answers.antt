use Rattle.client_lang.proofs.Pushing.{cut, cut_keeps}
use Rattle.client_lang.proofs.Transcripts.{transcript_back}
use Rattle.client_lang.proofs.print.print_header.Goals as goal

pub returns-clause-text : goal.returns-clause-text
returns-clause-text c = cut c.len-before.ensures c.push_header-pushed.ensures c.cut_on_err.ensures.same c.cut_on_err.ensures.ok c.cut_on_err.ensures.err c.cut_on_err.ensures.capacity

pub returns-clause-kept : goal.returns-clause-kept
returns-clause-kept c = cut_keeps c.cut_on_err.new.out c.len-before.ensures c.push_header-pushed.ensures c.cut_on_err.ensures.same c.cut_on_err.ensures.err

pub returns-clause-one : goal.returns-clause-one
returns-clause-one c = transcript_back
