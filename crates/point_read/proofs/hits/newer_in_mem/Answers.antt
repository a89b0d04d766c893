use Rattle.std.proofs.Common.{◌≡◌, true, sym, ap, ◌∙◌}
use Rattle.ts_key.specs.Items.{found}
use Rattle.block_table.specs.Contents.{greatest_of}
use Rattle.memtable.specs.Memtables.{versions_of_memtable}
use Rattle.super_version.specs.Contents.{items_of_memtable}
use Rattle.point_read.specs.Tells.{is_item_above}
use Rattle.point_read.proofs.Newer.{latest_is, passes_over}
use Rattle.point_read.proofs.hits.newer_in_mem.Goals as goal

pub returns-then-is_above : goal.returns-then-is_above
returns-then-is_above c =
    let key = c.args.key.now in
    let best = found key c.args.best in
    let vs = items_of_memtable c.args.mem.now in
    let above : is_item_above best (greatest_of (λ w. w.sort_key.ts) vs) ≡ true =
    ap (is_item_above best) (sym (c.latest.ensures ∙ latest_is (versions_of_memtable c.args.mem.now))) ∙ sym (c.is_above.ensures key) ∙ c.if-is_above.true in
    passes_over best vs key c.args.t.0 c.args.s.0 above
