use Rattle.wal.proofs.Writing.{families_step}
use Rattle.wal.proofs.record.put_families.Goals as goal

pub loop-family-preserved : goal.loop-family-preserved
loop-family-preserved c =
    families_step c.loop-family.out.items c.put_u32.new.out.items c.put_bytes.new.out.items c.args.sizes.now c.args.out.now.items c.loop-family.family c.loop-family-test.true c.loop-family.invariant c.in_ok-put_u32.ensures.written c.in_ok-put_bytes.ensures.written
