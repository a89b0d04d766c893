-- Three of the images that a crash may leave of a file in memory: all that wasn't synced is lost, kept, or replaced.
use Rattle.std.specs.Prelude.{ℕ, if◌then◌else◌, nat_le, List, [], ◌∷◌, ◌++◌, length, replicate}
use Rattle.udt_disk.specs.History.{undone}
use Rattle.udt_disk.specs.declared.history.FileCall.{FileCall}
use Rattle.udt_disk.specs.declared.history.FileCall.TheVariants.{Wrote, Synced}

-- what a read gave at the last sync, or before the first call
abbrev pub synced_bytes : List ℕ → List FileCall → List ℕ
synced_bytes now [] = now
synced_bytes now (Wrote at count over ∷ earlier) = synced_bytes (undone now at count over.items) earlier
synced_bytes now (Synced ∷ earlier) = now

-- 0xA5 in each of so many bytes from an offset on, which is within them or at their end
abbrev pub spoiled_at : List ℕ → ℕ → ℕ → List ℕ
spoiled_at bytes at count = if nat_le at (length bytes) then undone bytes at count (replicate count 165) else bytes

-- what a read gives, with 0xA5 in place of what was written since the last sync, and of as many bytes as were emptied before
-- the first call
abbrev pub spoiled : ℕ → List ℕ → List FileCall → List ℕ
spoiled emptied now [] = now ++ replicate emptied 165
spoiled emptied now (Wrote at count over ∷ earlier) = spoiled_at (spoiled emptied (undone now at count over.items) earlier) at count
spoiled emptied now (Synced ∷ earlier) = now
