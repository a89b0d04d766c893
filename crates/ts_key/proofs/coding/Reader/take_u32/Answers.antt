use Rattle.std.proofs.Common.{◌<◌, ◌^◌}
use Rattle.ts_key.specs.Numbers.{number_bytes}
use Rattle.ts_key.proofs.NumberBytes.{too_few}
use Rattle.ts_key.proofs.Reading.{hands_on}
use Rattle.ts_key.proofs.coding.Reader.take_u32.Goals as goal

pub returns-in_err-bytes-clause-read : goal.returns-in_err-bytes-clause-read
returns-in_err-bytes-clause-read c =
    hands_on (number_bytes 4) (λ n. n < 2 ^ 32) (λ n. n) c.args.self.now.left.now c.take.new.self.left.now c.from_residual.result c.in_err-bytes.field-0.0 c.from_residual.ensures.1 (too_few 4 (2 ^ 32) c.args.self.now.left.now c.in_err-bytes.ensures.taken)
