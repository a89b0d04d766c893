use Rattle.std.proofs.Common.{◌+◌, map, sym, subst}
use Rattle.std.specs.Arc.{arc_value}
use Rattle.recovery.specs.Versions.{AreLevels}
use Rattle.recovery.proofs.Stating.{level_more, shared_push}
use Rattle.recovery.proofs.version.levels_of.Goals as goal

pub loop-level-preserved : goal.loop-level-preserved
loop-level-preserved c =
    let family = c.args.family in
    let opened = c.args.opened.now in
    let level = c.loop-level.level in
    let xs = c.loop-level.levels.items in
    subst (AreLevels family opened (level + 1)) (sym (shared_push arc_value xs c.push.new.self.items c.in_ok-new.field-0 c.in_ok-tables.tables c.in_ok-push.ensures.items c.in_ok-new.ensures.ok))
    (level_more family opened level (map arc_value xs) c.in_ok-tables.tables c.loop-level.invariant c.in_ok-tables.ensures)
