use Rattle.std.proofs.Common.{ℕ, List, ap, ◌∙◌}
use Rattle.std.specs.Prelude.{Option, option_map}
use Rattle.std.specs.List.{flat_map}
use Rattle.ts_key.specs.Visible.{newest_ts}
use Rattle.memtable.specs.Memtables.{Memtable, greater}
use Rattle.super_version.specs.Live.{Live}
use Rattle.super_version.specs.Contents.{items_of_level, items_of_memtable}
use Rattle.super_version.proofs.Greatest.{all_three}
use Rattle.super_version.proofs.family.FamilyState.newest.Goals as goal

pub returns : goal.returns
returns c =
    let f = c.args.self.now in
    let key = c.args.key.now in
    let first : Option ℕ = option_map (λ ts. ts.0) c.later_in_mem-best.result in
    let second : Option ℕ = option_map (λ ts. ts.0) c.later_in_mems-best.result in
    all_three (items_of_memtable f.active) (flat_map items_of_memtable f.sealed) (flat_map items_of_level f.levels) key
    first second (option_map (λ ts. ts.0) c.later_in_levels.result)
    c.later_in_mem-best.ensures
    (c.later_in_mems-best.ensures ∙ ap (λ (ms : List Memtable). greater first (newest_ts (flat_map items_of_memtable ms) key)) c.as_slice.ensures)
    (c.later_in_levels.ensures ∙ ap (λ (ls : List (List Live)). greater second (newest_ts (flat_map items_of_level ls) key)) c.as_slice-2.ensures)
