use Rattle.std.proofs.Common.{◌≡◌, ◌≤◌, ◌<◌, ◌-◌, ℕ, length, get_or, false}
use Rattle.std.specs.Prelude.{nat_le}
use Rattle.ts_lanes.proofs.stamps.blocks_above.Given as goal

abbrev pub invariant-loop-at : goal.invariant-loop-at
invariant-loop-at l = record { within : l.at ≤ length l.ts; above : (k : ℕ) → k < l.at → nat_le (get_or l.ts k 0) l.t ≡ false }

abbrev pub decreases-loop-at : goal.decreases-loop-at
decreases-loop-at l = length l.ts - l.at
