use Rattle.std.proofs.Common.{ℕ, List, max, ap, ◌∙◌}
use Rattle.std.specs.List.{flat_map}
use Rattle.memtable.specs.Memtables.{Memtable, versions_of_memtable}
use Rattle.super_version.specs.Contents.{items_of_level, items_of_memtable}
use Rattle.super_version.specs.Live.{Live}
use Rattle.store_engine.specs.Admission.{latest_stamp}
use Rattle.store_engine.proofs.Latests.{latest_is, latest_three}
use Rattle.store_engine.proofs.latest.latest_in.Goals as goal

pub returns : goal.returns
returns c =
    let f = c.args.state.now in
    let active = c.latest-active.result.0 in
    let sealed = c.latest_in_mems-sealed.result.0 in
    let tables = c.latest_in_levels-tables.result.0 in
    c.max-2.ensures ∙ ap (λ (n : ℕ). max n tables) c.max.ensures
    ∙ latest_three (items_of_memtable f.active) (flat_map items_of_memtable f.sealed) (flat_map items_of_level f.levels) active sealed tables
    (c.latest-active.ensures ∙ latest_is (versions_of_memtable f.active))
    (c.latest_in_mems-sealed.ensures ∙ ap (λ (l : List Memtable). latest_stamp (flat_map items_of_memtable l)) c.as_slice.ensures)
    (c.latest_in_levels-tables.ensures ∙ ap (λ (l : List (List Live)). latest_stamp (flat_map items_of_level l)) c.as_slice-2.ensures)
