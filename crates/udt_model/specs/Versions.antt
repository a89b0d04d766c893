-- Versions of keys, which one a read sees, and which versions writes make.
use Rattle.std.specs.Prelude.{ℕ, ◌+◌, ◌<◌, ◌≤◌, Bool, true, false, ◌==◌, nat_lt, nat_le, ◌&&◌, ◌||◌, if◌then◌else◌, IsTrue, List, [], ◌∷◌, filter, All, AllPairs, Contains, Option, Some, None}
use Rattle.std.specs.Str.{bytes_eq}
use Rattle.ts_key.specs.declared.batch.WriteOp.{WriteOp}
use Rattle.ts_key.specs.declared.numbers.Family.{Family}
use Rattle.ts_key.specs.declared.numbers.Ts.{Ts}
use Rattle.ts_key.specs.declared.numbers.Seq.{Seq}
use Rattle.ts_key.specs.declared.version.Op.{Op}
use Rattle.ts_key.specs.declared.version.Op.TheVariants.{Put, Del}
use Rattle.ts_key.specs.declared.version.Version.{Version}

-- it has a larger timestamp, or the same and a larger sequence
abbrev pub is_newer : Version → Version → Bool
is_newer a b = nat_lt b.ts.0 a.ts.0 || (a.ts.0 == b.ts.0 && nat_lt b.seq.0 a.seq.0)

-- the newer of two, the first where neither is
abbrev pub newer : Option Version → Option Version → Option Version
newer None b = b
newer (Some a) None = Some a
newer (Some a) (Some b) = if is_newer b a then Some b else Some a

-- the newest of a list
abbrev pub newest_of : List Version → Option Version
newest_of [] = None
newest_of (v ∷ vs) = newer (Some v) (newest_of vs)

-- it is of this key of this family
abbrev pub is_of : Family → List ℕ → Version → Bool
is_of family key v = v.family.0 == family.0 && bytes_eq v.key key

-- the versions of a key
abbrev pub of_key : List Version → Family → List ℕ → List Version
of_key w family key = filter (is_of family key) w

-- it isn't above this timestamp and this sequence
abbrev pub is_within : Ts → Seq → Version → Bool
is_within t s v = nat_le v.ts.0 t.0 && nat_le v.seq.0 s.0

-- among the versions of the key with timestamps up to t and sequences up to s the newest
abbrev pub visible : List Version → Family → List ℕ → Ts → Seq → Option Version
visible w family key t s = newest_of (filter (is_within t s) (of_key w family key))

-- ---- parts of a list

-- the versions with sequences up to s
abbrev pub up_to : ℕ → List Version → List Version
up_to s w = filter (λ v. nat_le v.seq.0 s) w

-- the versions of a family with sequences above low, up to high
abbrev pub between : Family → ℕ → ℕ → List Version → List Version
between family low high w = filter (λ v. v.family.0 == family.0 && nat_lt low v.seq.0 && nat_le v.seq.0 high) w

abbrev pub is_put : Op → Bool
is_put (Put value) = true
is_put Del = false

-- ---- versions that writes make

-- the version that an operation makes
abbrev pub version_of : WriteOp → ℕ → Version
version_of o n = record { family = o.family; key = o.key; ts = o.ts; seq = record { 0 = n }; op = o.op }

-- the versions that operations make, the first with the sequence n
abbrev pub logged : ℕ → List WriteOp → List Version
logged n [] = []
logged n (o ∷ os) = version_of o n ∷ logged (n + 1) os

-- the same behind the last sequence n
abbrev pub made : ℕ → List WriteOp → List Version
made n os = logged (n + 1) os

-- of two versions of a key the one with the greater sequence hasn't the smaller timestamp
abbrev pub AreRising : List Version → Type 0
AreRising vs = (a b : Version) → Contains vs a → Contains vs b → IsTrue (is_of a.family a.key b) → a.seq.0 < b.seq.0 → a.ts.0 ≤ b.ts.0

-- What the writes of a store of so many families made, up to this last sequence: the sequences ascend, from 1 on, and the timestamps
-- of a key never fall.
pub record AreWritten (count last : ℕ) (w : List Version) : Type 0 where
  pub ascending : AllPairs (λ (a b : Version). a.seq.0 < b.seq.0) w
  pub positive : All (λ (v : Version). 1 ≤ v.seq.0) w
  pub bounded : All (λ (v : Version). v.seq.0 ≤ last) w
  pub families : All (λ (v : Version). v.family.0 < count) w
  pub rising : AreRising w
