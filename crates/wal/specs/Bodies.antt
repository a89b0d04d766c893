-- The bodies of a log's frames, and the batches that they hold.
use Rattle.std.specs.Prelude.{◌≡◌, ℕ, ◌<◌, Bool, true, false, if◌then◌else◌, List, [], ◌∷◌, ◌++◌, length, All, Vec, Result, Ok, Err, ⊤}
use Rattle.std.specs.List.{flat_map}
use Rattle.std.specs.declared.alloc.Global.{Global}
use Rattle.wal.specs.Records.{sizes_bytes, batch_bytes, IsLoggedBatch}
use Rattle.wal.specs.Sequences.{IsInSequence}
use Rattle.wal.specs.declared.numbered.Numbered.{Numbered}
use Rattle.wal.specs.declared.fault.BodyFault.{BodyFault}
use Rattle.wal.specs.declared.fault.BodyFault.TheVariants.{Bad, NoMemory}

-- the size record stands in the first frame, first, and nowhere else
abbrev pub front_bytes : List ℕ → Bool → List ℕ
front_bytes sizes is_first = if is_first then sizes_bytes sizes else []

-- the frame behind these bodies is the first
abbrev pub is_first_behind : List (List ℕ) → Bool
is_first_behind [] = true
is_first_behind (body ∷ bodies) = false

-- the bytes of the body of a frame
abbrev pub body_bytes : List ℕ → Bool → List Numbered → List ℕ
body_bytes sizes is_first batches = front_bytes sizes is_first ++ flat_map batch_bytes batches

-- the body of a frame spells these batches, of which there is at least one
pub record IsBodyOf (sizes : List ℕ) (is_first : Bool) (batches : List Numbered) (body : List ℕ) : Type 0 where
  pub some : 0 < length batches
  pub allowed : All (IsLoggedBatch (length sizes)) batches
  pub spelled : body ≡ body_bytes sizes is_first batches

-- what reading records to the end of the bytes gives
abbrev pub AreBatches : ℕ → List ℕ → Result (Vec Numbered Global) BodyFault → Type 0
AreBatches families bytes (Ok batches) = All (IsLoggedBatch families) batches.items × (bytes ≡ flat_map batch_bytes batches.items)
AreBatches families bytes (Err Bad) = (batches : List Numbered) → All (IsLoggedBatch families) batches → bytes ≡ flat_map batch_bytes batches → ⊥
AreBatches families bytes (Err NoMemory) = ⊤

-- what reading the body of a frame gives: its batches, and bad exactly where it spells none
abbrev pub ReadsBody : List ℕ → Bool → List ℕ → Result (Vec Numbered Global) BodyFault → Type 0
ReadsBody sizes is_first body (Ok batches) = IsBodyOf sizes is_first batches.items body
ReadsBody sizes is_first body (Err Bad) = (batches : List Numbered) → IsBodyOf sizes is_first batches body → ⊥
ReadsBody sizes is_first body (Err NoMemory) = ⊤

-- these bodies, one after the other, spell these batches
abbrev pub AreBodiesOf : List ℕ → Bool → List (List ℕ) → List Numbered → Type 0
AreBodiesOf sizes is_first [] batches = batches ≡ []
AreBodiesOf sizes is_first (body ∷ bodies) batches = (here : List Numbered) × (later : List Numbered) × (batches ≡ here ++ later) × IsBodyOf sizes is_first here body × AreBodiesOf sizes false bodies later

-- a log of these bodies holds these batches, their sequences without a gap
pub record HoldsBatches (sizes : List ℕ) (bodies : List (List ℕ)) (batches : List Numbered) : Type 0 where
  pub held : AreBodiesOf sizes true bodies batches
  pub sequence : IsInSequence batches

-- what adding the body of one frame more gives: its batches behind the others, and bad exactly where no log goes on so
abbrev pub AddsBody : List ℕ → List (List ℕ) → List ℕ → List Numbered → Result (Unit {0}) BodyFault → Type 0
AddsBody sizes bodies body batches (Ok done) = HoldsBatches sizes (bodies ++ body ∷ []) batches
AddsBody sizes bodies body batches (Err Bad) = (others : List Numbered) → HoldsBatches sizes (bodies ++ body ∷ []) others → ⊥
AddsBody sizes bodies body batches (Err NoMemory) = ⊤
