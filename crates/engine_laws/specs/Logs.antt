-- The batches of several live logs, and the versions that they make.
use Rattle.std.specs.Prelude.{ℕ, ◌+◌, ◌-◌, Bool, ◌==◌, ◌&&◌, nat_lt, max, List, [], ◌∷◌, ◌++◌, length, filter}
use Rattle.ts_key.specs.declared.numbers.Family.{Family}
use Rattle.ts_key.specs.declared.version.Version.{Version}
use Rattle.udt_model.specs.Versions.{logged}
use Rattle.wal.specs.declared.numbered.Numbered.{Numbered}

-- the versions that batches make
abbrev pub versions_of : List Numbered → List Version
versions_of [] = []
versions_of (b ∷ batches) = logged b.first.0 b.batch ++ versions_of batches

-- the last sequence of batches, or this one where there is none
abbrev pub last_of : ℕ → List Numbered → ℕ
last_of last [] = last
last_of last (b ∷ batches) = last_of (b.first.0 + length b.batch - 1) batches

-- the greater of this sequence and the last one of batches
abbrev pub last_over : ℕ → List Numbered → ℕ
last_over last batches = max last (last_of 0 batches)

-- the batches of logs, in the order of the logs
abbrev pub batches_of : (ℕ → List Numbered) → List ℕ → List Numbered
batches_of logs [] = []
batches_of logs (n ∷ ns) = logs n ++ batches_of logs ns

-- it is a version of the family, with a sequence above this one
abbrev pub is_above_through : Family → ℕ → Version → Bool
is_above_through family through v = v.family.0 == family.0 && nat_lt through v.seq.0

abbrev pub above : Family → ℕ → List Version → List Version
above family through w = filter (is_above_through family through) w
