use Rattle.std.proofs.Common.{◌≡◌, ◌*◌, length, take}
use Rattle.std.specs.List.{flat_map, AllByRecursion}
use Rattle.block_table.specs.Tables.{handle_bytes}
use Rattle.block_table.specs.Indexes.{IsHandle}
use Rattle.block_table.proofs.index.read_index.Given as goal

abbrev pub invariant-loop-i : goal.invariant-loop-i
invariant-loop-i l = record {
  count : length l.handles.items ≡ l.i;
  each : AllByRecursion IsHandle l.handles.items;
  spelled : flat_map handle_bytes l.handles.items ≡ take (l.i * 20) l.rest;
}
