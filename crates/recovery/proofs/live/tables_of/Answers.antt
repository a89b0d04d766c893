use Rattle.std.proofs.Common.{◌∙◌}
use Rattle.recovery.proofs.Placed.{places_more}
use Rattle.recovery.proofs.live.tables_of.Goals as goal

pub loop-index-preserved : goal.loop-index-preserved
loop-index-preserved c =
    places_more c.args.families.now c.loop-index.index c.index-families-index.result c.loop-index.places.items c.push_tables.new.places.items c.deref.result.now c.loop-index-test.true c.index-families-index.is
    c.loop-index.invariant (c.deref.ensures.value ∙ c.in_ok-tables.ensures) c.in_ok-push_tables.ensures
