use Rattle.std.proofs.Common.{◌≡◌, map, take}
use Rattle.std.specs.Prelude.{All}
use Rattle.data_block.specs.Cursors.{place_of, cursor_items}
use Rattle.super_version.specs.Contents.{items_of_table}
use Rattle.compaction.proofs.feed.cursors.Given as goal

abbrev pub invariant-loop-table : goal.invariant-loop-table
invariant-loop-table l = record {
  versions : map cursor_items l.all.items ≡ map items_of_table (take l.table-index l.tables);
  first : All (λ c. place_of c ≡ 1) l.all.items;
}
