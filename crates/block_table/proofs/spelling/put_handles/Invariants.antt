use Rattle.std.proofs.Common.{◌≡◌, ◌++◌, take}
use Rattle.std.specs.List.{flat_map}
use Rattle.ts_key.specs.Writing.{Extends}
use Rattle.block_table.specs.Tables.{handle_bytes}
use Rattle.block_table.proofs.spelling.put_handles.Given as goal

abbrev pub invariant-loop-h : goal.invariant-loop-h
invariant-loop-h l = (l.out.items ≡ l.initial.out.items ++ flat_map handle_bytes (take l.h-index l.hs)) × Extends l.initial.out.items l.out.items
