-- Memtables: lists of runs of one family, the newest first.
use Rattle.std.specs.Prelude.{◌≡◌, ℕ, ◌+◌, ◌*◌, ◌<◌, ◌≤◌, Bool, false, nat_le, nat_lt, if◌then◌else◌, List, [], ◌∷◌, ◌++◌, length, take, drop, min, max, slice_get, Option, Some, None}
use Rattle.std.specs.List.{AllByRecursion}
use Rattle.ts_key.specs.declared.numbers.Family.{Family}
use Rattle.ts_key.specs.declared.version.Version.{Version}
use Rattle.ts_key.specs.Items.{item_of, value_of}
use Rattle.ts_key.specs.Visible.{is_item_newer}
use Rattle.sorted_run.specs.Sorts.{sorted}
use Rattle.memtable.specs.declared.limits.TheConstants.{BYTES_LIMIT}

-- what a memtable says: its family, and its runs, the newest first
pub record Memtable : Type 0 where
  pub family : Family
  pub runs : List (List Version)

-- the runs one after the other
abbrev pub joined : List (List Version) → List Version
joined [] = []
joined (vs ∷ rest) = vs ++ joined rest

-- all versions of a memtable, in the stored order
abbrev pub versions_of_memtable : Memtable → List Version
versions_of_memtable m = sorted (joined m.runs)

-- none is empty, and each has at least twice as many versions as the next newer one, which stands before it
abbrev pub AreDoubled : List (List Version) → Type 0
AreDoubled [] = Unit {0}
AreDoubled (xs ∷ []) = 1 ≤ length xs
AreDoubled (xs ∷ ys ∷ rest) = (1 ≤ length xs) × (2 * length xs ≤ length ys) × AreDoubled (ys ∷ rest)

-- ---- bytes

-- the bytes of the key and of the value, and 32 more
abbrev pub weight : Version → ℕ
weight v = length v.key + length (value_of v.op) + 32

abbrev pub weight_of : List Version → ℕ
weight_of [] = 0
weight_of (v ∷ vs) = weight v + weight_of vs

abbrev pub capped_weight : List Version → ℕ
capped_weight vs = min (weight_of vs) BYTES_LIMIT

-- ---- a memtable and its parts

pub record IsMemtable (family : Family) (runs : List (List Version)) (total : ℕ) : Type 0 where
  pub doubled : AreDoubled runs
  pub own : AllByRecursion (λ (v : Version). v.family ≡ family) (joined runs)
  pub bytes : total ≡ capped_weight (joined runs)

-- After a batch the new runs are the old ones, kept, with the batch's before them, where the newest has at least twice as
-- many versions as the batch, and where there was none.
abbrev pub KeepsRuns : List Version → List (List Version) → List (List Version) → Type 0
KeepsRuns batch [] new = new ≡ sorted batch ∷ []
KeepsRuns batch (first ∷ rest) new = 2 * length batch ≤ length first → new ≡ sorted batch ∷ first ∷ rest

-- the runs after a batch into which the newest n runs are merged: its run, and the other old ones as they were
abbrev pub with_batch : List Version → List (List Version) → ℕ → List (List Version)
with_batch batch old n = sorted (batch ++ joined (take n old)) ∷ drop n old

-- The new runs are the old ones after the batch. Of the counts of merged runs with which each run is at least twice as long
-- as the next newer one it is the least.
pub record MergesLeast (batch : List Version) (old new : List (List Version)) : Type 0 where
  pub count : ℕ
  pub within : count ≤ length old
  pub are : new ≡ with_batch batch old count
  pub doubled : AreDoubled (with_batch batch old count)
  pub least : (k : ℕ) → k < count → AreDoubled (with_batch batch old k) → ⊥

-- The run is the batch with the newest n runs merged in; with it and what is left each is twice as long, with fewer merged it isn't.
pub record IsAbsorbed (batch : List Version) (runs : List (List Version)) (run : List Version) (n : ℕ) : Type 0 where
  pub within : n ≤ length runs
  pub is : run ≡ sorted (batch ++ joined (take n runs))
  pub doubled : AreDoubled (run ∷ drop n runs)
  pub least : (k : ℕ) → k < n → AreDoubled (with_batch batch runs k) → ⊥
  pub keeps : (first : List Version) → slice_get runs 0 ≡ Some first → 2 * length batch ≤ length first → n ≡ 0

-- ---- the best so far

-- the newer of two, the first where neither is
abbrev pub newer_of : Option Version → Option Version → Option Version
newer_of None b = b
newer_of (Some a) None = Some a
newer_of (Some a) (Some b) = if is_item_newer (item_of b) (item_of a) then Some b else Some a

-- there is one, and its timestamp is above this one
abbrev pub is_version_above : Option Version → ℕ → Bool
is_version_above None ts = false
is_version_above (Some v) ts = nat_lt ts v.ts.0

-- the greater of two that may be missing
abbrev pub greater : Option ℕ → Option ℕ → Option ℕ
greater None b = b
greater (Some a) None = Some a
greater (Some a) (Some b) = Some (max a b)

-- there is one, at or above this one
abbrev pub reaches : Option ℕ → ℕ → Bool
reaches None ts = false
reaches (Some a) ts = nat_le ts a
