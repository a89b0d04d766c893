use Rattle.manifest_edit.proofs.Lists.{none_out, removed_on}
use Rattle.manifest_edit.proofs.live_tables.LiveTables.remove_all.Goals as goal

pub loop-number-init : goal.loop-number-init
loop-number-init c = none_out c.args.self.now

pub loop-number-preserved : goal.loop-number-preserved
loop-number-preserved c =
    removed_on c.args.numbers.now c.args.self.now c.loop-number.self c.remove.new.self c.loop-number.number-index c.loop-number-test.true c.loop-number.invariant c.remove.ensures
