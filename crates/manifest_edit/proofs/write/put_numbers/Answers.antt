use Rattle.std.proofs.Common.{arith}
use Rattle.ts_key.specs.Numbers.{number_bytes}
use Rattle.manifest_edit.specs.Edits.{IsWord}
use Rattle.manifest_edit.proofs.Writing.{written_on}
use Rattle.manifest_edit.proofs.write.put_numbers.Goals as goal

pub loop-number-preserved : goal.loop-number-preserved
loop-number-preserved c =
    written_on (number_bytes 8) IsWord c.put_count.new.out.items c.loop-number.out.items c.put_u64.new.out.items c.args.numbers.now c.loop-number.number-index 0 c.loop-number-test.true c.loop-number.invariant c.in_ok-put_u64.ensures.written (omega (arith, c.type_inv.numbers c.loop-number.number-index))
