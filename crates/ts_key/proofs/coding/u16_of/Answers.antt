use Rattle.std.proofs.Common.{arith}
use Rattle.ts_key.proofs.NumberBytes.{number_bytes-read}
use Rattle.ts_key.proofs.coding.u16_of.Goals as goal

pub returns : goal.returns
returns c =
    number_bytes-read 2 c.args.bytes.now c.read_u16.result c.requires (λ i. omega (arith, c.type_inv.bytes i)) c.read_u16.ensures
