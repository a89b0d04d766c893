use Rattle.std.proofs.Common.{take}
use Rattle.hex.specs.Hex.{encode_lower}
use Rattle.client_lang.proofs.Pushing.{Pushed}
use Rattle.client_lang.proofs.print.push_hex.Given as goal

abbrev pub invariant-loop-b : goal.invariant-loop-b
invariant-loop-b l = Pushed l.initial.out l.out (encode_lower (take l.b-index l.bytes))
