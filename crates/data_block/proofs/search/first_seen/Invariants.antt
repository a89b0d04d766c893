use Rattle.std.proofs.Common.{◌≡◌, drop}
use Rattle.ts_key.specs.Visible.{is_item_seen, first_of}
use Rattle.data_block.specs.Index.{items_at}
use Rattle.data_block.proofs.search.first_seen.Given as goal

abbrev pub invariant-loop-e : goal.invariant-loop-e
invariant-loop-e l = first_of (is_item_seen l.key l.t.0 l.s.0) (items_at l.keys l.image (drop l.e-index l.entries)) ≡ first_of (is_item_seen l.key l.t.0 l.s.0) (items_at l.keys l.image l.entries)
