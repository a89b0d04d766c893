use Rattle.std.proofs.Common.{subst}
use Rattle.data_block.specs.Regions.{TakesNext}
use Rattle.data_block.proofs.Loops.{nothing_read, stopped}
use Rattle.data_block.proofs.region.read_region.Goals as goal

pub loop-at-init : goal.loop-at-init
loop-at-init c = nothing_read c.args.form c.args.region.now c.args.x.now c.new-last.result.items c.requires.keys c.requires.entries c.requires.restarts c.new-last.ensures.items

pub returns-in-None : goal.returns-in-None
returns-in-None c =
    stopped c.args.form c.args.region.now c.loop-at.at c.loop-at.x c.loop-at.last.items c.loop-at.invariant c.loop-at-test.true
    (subst (TakesNext c.args.form c.args.region.now c.loop-at.at c.loop-at.x c.loop-at.last.items c.take_next.new.x c.take_next.new.last.items) c.in-None.is c.in_ok-end.ensures)
