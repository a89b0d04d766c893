-- What the frames of a manifest mean.
use Rattle.std.specs.Prelude.{◌≡◌, ◌⊎◌, ℕ, ◌+◌, ◌<◌, ◌≤◌, List, [], ◌∷◌, ◌++◌, length, map}
use Rattle.ts_key.specs.declared.limits.TheConstants.{FAMILY_LIMIT, SEQUENCE_LIMIT}
use Rattle.gate_log.specs.Placed.{Placed}
use Rattle.gate_log.specs.Reads.{body_of}
use Rattle.udt_model.specs.declared.line.FamilyHead.{FamilyHead}
use Rattle.head_manifest.specs.Heads.{IsHead}
use Rattle.head_manifest.specs.declared.fold.FamilyFold.{FamilyFold}
use Rattle.head_manifest.specs.declared.fold.Folded.{Folded}

-- a family as a head has it: its floor is 0, nothing of it is in tables, and it has no table
abbrev pub family_fold : FamilyHead → FamilyFold
family_fold f = record { name = f.name; form = f.form; floor = record { 0 = 0 }; through = record { 0 = 0 }; tables = [] }

-- what a head stands for: log 1 is live, the next file has the number 2, and nothing was written
abbrev pub fold_of : List FamilyHead → Folded
fold_of families = record { families = map family_fold families; logs = 1 ∷ []; next_file = 2; last = record { 0 = 0 } }

-- The bodies of a manifest's frames mean this fold: the first is a head. Until there are edits nothing follows it.
abbrev pub IsManifest : List (List ℕ) → Folded → Type 0
IsManifest [] fold = ⊥
IsManifest (body ∷ []) fold = (families : List FamilyHead) × IsHead body families × (fold ≡ fold_of families)
IsManifest (body ∷ next ∷ bodies) fold = ⊥

-- A store can be opened of this fold: it has one live log, of this number, 1 to FAMILY_LIMIT families, and a last sequence that a version
-- may have.
pub record IsUsable (fold : Folded) (number : ℕ) : Type 0 where
  pub live : fold.logs ≡ number ∷ []
  pub some : 1 ≤ length fold.families
  pub few : length fold.families ≤ FAMILY_LIMIT
  pub last : fold.last.0 < SEQUENCE_LIMIT + 1

-- no frame, or frames that mean something
abbrev pub AreSoundFrames : List (List ℕ) → Type 0
AreSoundFrames bodies = (bodies ≡ []) ⊎ ((fold : Folded) × IsManifest bodies fold)

-- the first of these frames that is outside the grammar of a manifest stands at this offset
pub record IsOutside (frames : List Placed) (at : ℕ) : Type 0 where
  pub before : List Placed
  pub body : List ℕ
  pub after : List Placed
  pub is : frames ≡ before ++ record { at = at; bytes = body } ∷ after
  pub sound : AreSoundFrames (map body_of before)
  pub bad : (fold : Folded) → IsManifest (map body_of before ++ body ∷ []) fold → ⊥
