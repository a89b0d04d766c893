use Rattle.std.proofs.Common.{◌≡◌, map, take}
use Rattle.std.specs.Arc.{arc_value}
use Rattle.std.specs.List.{flat_map}
use Rattle.ts_key.specs.Items.{found}
use Rattle.ts_key.specs.Visible.{newer_item, visible_item}
use Rattle.super_version.specs.Contents.{items_of_level}
use Rattle.point_read.proofs.hits.newer_in_levels.Given as goal

abbrev pub invariant-loop-tables : goal.invariant-loop-tables
invariant-loop-tables l = found l.key l.newest ≡ newer_item (found l.key l.fn.best) (visible_item (flat_map items_of_level (map arc_value (take l.tables-index l.levels))) l.key l.t.0 l.s.0)
