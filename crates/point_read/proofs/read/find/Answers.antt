use Rattle.std.proofs.Common.{List, ap, ◌∙◌}
use Rattle.std.specs.List.{flat_map}
use Rattle.ts_key.specs.Items.{found}
use Rattle.ts_key.specs.Visible.{newer_item, visible_item}
use Rattle.memtable.specs.Memtables.{Memtable}
use Rattle.super_version.specs.Live.{Live}
use Rattle.super_version.specs.Contents.{items_of_level, items_of_memtable}
use Rattle.point_read.proofs.Newer.{all_three}
use Rattle.point_read.proofs.read.find.Goals as goal

pub returns : goal.returns
returns c =
    let f = c.args.state.now in
    let key = c.args.key.now in
    let t = c.args.t.0 in
    let s = c.args.s.0 in
    all_three (items_of_memtable f.active) (flat_map items_of_memtable f.sealed) (flat_map items_of_level f.levels) key t s
    (found key c.newer_in_mem-best.result) (found key c.newer_in_mems-best.result) (found key c.newer_in_levels.result)
    c.newer_in_mem-best.ensures
    (c.newer_in_mems-best.ensures ∙ ap (λ (ms : List Memtable). newer_item (found key c.newer_in_mem-best.result) (visible_item (flat_map items_of_memtable ms) key t s)) c.as_slice.ensures)
    (c.newer_in_levels.ensures ∙ ap (λ (ls : List (List Live)). newer_item (found key c.newer_in_mems-best.result) (visible_item (flat_map items_of_level ls) key t s)) c.as_slice-2.ensures)
