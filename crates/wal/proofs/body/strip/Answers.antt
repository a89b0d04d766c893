use Rattle.std.proofs.Common.{length, take, sym}
use Rattle.std.specs.Cmp.Lexicographic.{same_text, other_text}
use Rattle.wal.proofs.BodyReading.{stripped, begins_otherwise}
use Rattle.wal.proofs.body.strip.Goals as goal

pub returns-in-Some : goal.returns-in-Some
returns-in-Some c =
    let front = c.args.front.now in
    let bytes = c.args.bytes.now in
    stripped front bytes c.in-Some.rest.now (same_text (take (length front) bytes) front (sym c.in-Some.ensures.cases.0)) c.in-Some.ensures.cases.1

pub returns-in-None : goal.returns-in-None
returns-in-None c =
    let front = c.args.front.now in
    let bytes = c.args.bytes.now in
    begins_otherwise front bytes (other_text (take (length front) bytes) front (sym c.in-None.ensures.cases))
