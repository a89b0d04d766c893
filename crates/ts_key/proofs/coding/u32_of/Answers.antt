use Rattle.std.proofs.Common.{arith}
use Rattle.ts_key.proofs.NumberBytes.{number_bytes-read}
use Rattle.ts_key.proofs.coding.u32_of.Goals as goal

pub returns : goal.returns
returns c =
    number_bytes-read 4 c.args.bytes.now c.read_u32.result c.requires (λ i. omega (arith, c.type_inv.bytes i)) c.read_u32.ensures
