-- Registered snapshots, in the order of their sequences.
use Rattle.std.specs.Prelude.{◌≡◌, ℕ, ◌≤◌, Bool, false, not, ◌==◌, nat_le, if◌then◌else◌, List, [], ◌∷◌, length, map, filter}
use Rattle.ts_key.specs.declared.limits.TheConstants.{SNAPSHOT_LIMIT}
use Rattle.std.specs.List.{list_any}
use Rattle.ts_key.specs.Ascending.{AreAscending}
use Rattle.ts_key.specs.declared.numbers.Seq.{Seq}

-- a registered snapshot: its number, and the sequence up to which it sees
pub record Registered : Type 0 where
  pub id : ℕ
  pub seq : Seq

-- a snapshot with this number is registered
abbrev pub has_id : List Registered → ℕ → Bool
has_id rs id = list_any (λ r. r.id == id) rs

-- with one more, behind those with sequences up to its own
abbrev pub with_snapshot : Registered → List Registered → List Registered
with_snapshot s [] = s ∷ []
with_snapshot s (r ∷ rs) = if nat_le r.seq.0 s.seq.0 then r ∷ with_snapshot s rs else s ∷ r ∷ rs

-- without the one of this number
abbrev pub without_id : List Registered → ℕ → List Registered
without_id rs id = filter (λ r. not (r.id == id)) rs

-- their sequences
abbrev pub registered_seqs : List Registered → List Seq
registered_seqs rs = map (λ r. r.seq) rs

-- ---- the two lists that hold them

-- numbers and sequences, place by place
abbrev pub paired : List ℕ → List Seq → List Registered
paired [] seqs = []
paired (id ∷ ids) [] = []
paired (id ∷ ids) (s ∷ seqs) = record { id = id; seq = s } ∷ paired ids seqs

-- no number stands there twice
abbrev pub AreDistinct : List ℕ → Type 0
AreDistinct [] = Unit {0}
AreDistinct (id ∷ ids) = (list_any (λ i. i == id) ids ≡ false) × AreDistinct ids

-- each snapshot has its number and its sequence, ascending, and there is room for all that may be registered
pub record IsList (ids : List ℕ) (seqs : List Seq) : Type 0 where
  pub paired : length ids ≡ length seqs
  pub within : length seqs ≤ SNAPSHOT_LIMIT
  pub ascending : AreAscending seqs
  pub distinct : AreDistinct ids
