use Rattle.client_lang.proofs.Pushing.{extended}
use Rattle.client_lang.proofs.print.push_bytes.Goals as goal

pub returns : goal.returns
returns c = extended _ c.args.bytes.now c.extend_from_slice.ensures.items c.extend_from_slice.ensures.full c.extend_from_slice.ensures.capacity
