use Rattle.std.proofs.Common.{◌≡◌, map, take}
use Rattle.std.specs.Arc.{arc_value}
use Rattle.std.specs.List.{flat_map}
use Rattle.ts_key.specs.Items.{found}
use Rattle.ts_key.specs.Visible.{newer_item, visible_item}
use Rattle.super_version.specs.Contents.{items_of_memtable}
use Rattle.point_read.proofs.hits.newer_in_mems.Given as goal

abbrev pub invariant-loop-mem : goal.invariant-loop-mem
invariant-loop-mem l = found l.key l.newest ≡ newer_item (found l.key l.fn.best) (visible_item (flat_map items_of_memtable (map arc_value (take l.mem-index l.mems))) l.key l.t.0 l.s.0)
