use Rattle.std.proofs.Common.{◌+◌, [], take}
use Rattle.hex.specs.Hex.{encode_with}
use Rattle.client_lang.proofs.Pushing.{none, done, failed, each_more, each_stops}
use Rattle.client_lang.proofs.Texts.{digits, encode_lower-each}
use Rattle.client_lang.proofs.print.push_hex.Goals as goal

pub loop-b-init : goal.loop-b-init
loop-b-init c = rw (encode_lower-each []) (none c.args.out.now)

pub returns-in_err-push_bytes : goal.returns-in_err-push_bytes
unfolding encode_with
returns-in_err-push_bytes c =
    let err = c.from_residual.ensures.0 in
    let before = rw (encode_lower-each (take c.loop-b.b-index c.args.bytes.now)) at c.loop-b.invariant in
    let answered = rw (c.hex_digit.ensures, c.hex_digit-in-loop-b.ensures) at (failed c.push_bytes.ensures c.in_err-push_bytes.was err) in
    rw (encode_lower-each c.args.bytes.now) (each_stops digits c.args.bytes.now c.loop-b.b-index 0 c.loop-b-test.true err before answered)

pub loop-b-preserved : goal.loop-b-preserved
unfolding encode_with
loop-b-preserved c =
    let before = rw (encode_lower-each (take c.loop-b.b-index c.args.bytes.now)) at c.loop-b.invariant in
    let answered = rw (c.hex_digit.ensures, c.hex_digit-in-loop-b.ensures) at (done c.push_bytes.ensures c.in_ok-push_bytes.was) in
    rw (encode_lower-each (take (c.loop-b.b-index + 1) c.args.bytes.now)) (each_more digits c.args.bytes.now c.loop-b.b-index 0 c.loop-b-test.true before answered)
