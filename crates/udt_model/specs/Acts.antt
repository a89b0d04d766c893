-- What an event asks of the store, by numbers in place of names.
use Rattle.std.specs.Prelude.{ℕ, Bool, true, false, List, Option}
use Rattle.ts_key.specs.declared.batch.WriteOp.{WriteOp}
use Rattle.ts_key.specs.declared.numbers.Family.{Family}
use Rattle.ts_key.specs.declared.numbers.Ts.{Ts}
use Rattle.udt_model.specs.Scans.{Range}

-- A family is known by its place in the list, and one that isn't there by a number behind the last; a snapshot by the number of
-- its event, a job by that of its start.
pub data Act : Type 0 where
  write : (ops : List WriteOp) (sync : Bool) → Act
  get : (family : Family) (key : List ℕ) (t : Ts) (snap : Option ℕ) → Act
  scan : (family : Family) (range : Range) (t : Ts) (limit : ℕ) (forward : Bool) (snap : Option ℕ) → Act
  raise : (family : Family) (floor : Ts) → Act
  ask_floor : (family : Family) → Act
  make_snapshot : Act
  release : (event : ℕ) → Act
  pin : Act
  -- a view is given up, which makes no step
  unpin : Act
  sync_all : Act
  flush_start : (family : Family) → Act
  flush_end : (family : Family) (start : ℕ) → Act
  compact_start : (family : Family) (pick : Bool) → Act
  compact_end : (family : Family) (start : ℕ) → Act

-- it works on the disk
abbrev pub takes_commit : Act → Bool
takes_commit (write ops sync) = true
takes_commit (raise family floor) = true
takes_commit sync_all = true
takes_commit (flush_start family) = true
takes_commit (flush_end family start) = true
takes_commit (compact_start family pick) = true
takes_commit (compact_end family start) = true
takes_commit act = false
