-- What the frames of a manifest mean.
use Rattle.std.specs.Prelude.{◌≡◌, ◌⊎◌, ℕ, List, [], ◌∷◌, ◌++◌, map}
use Rattle.ts_key.specs.declared.limits.TheConstants.{STAMP_SIZE}
use Rattle.gate_log.specs.Placed.{Placed}
use Rattle.gate_log.specs.Reads.{body_of}
use Rattle.udt_model.specs.declared.line.FamilyHead.{FamilyHead}
use Rattle.manifest_fold.specs.declared.fold.FamilyFold.{FamilyFold}
use Rattle.manifest_fold.specs.declared.fold.Folded.{Folded}
use Rattle.manifest_fold.specs.Bodies.{LeadAll}
use Rattle.manifest.specs.Heads.{IsHead}

-- a family as a head has it: its floor is 0, nothing of it is in tables, and it has no table
abbrev pub family_fold : FamilyHead → FamilyFold
family_fold f = record { name = f.name; form = f.form; floor = record { 0 = 0 }; through = record { 0 = 0 }; tables = [] }

-- what a head stands for: log 1 is live, the next file has the number 2, and nothing was written
abbrev pub fold_of : List FamilyHead → Folded
fold_of families = record { families = map family_fold families; logs = 1 ∷ []; next_file = 2; last = record { 0 = 0 } }

-- the size of the timestamps of each family
abbrev pub sizes_of : Folded → List ℕ
sizes_of fold = map {B = ℕ} (λ (f : FamilyFold). STAMP_SIZE) fold.families

-- the bodies of a manifest's frames mean this fold: a head, and then edits, each accepted by what stands before it
abbrev pub IsManifest : List (List ℕ) → Folded → Type 0
IsManifest [] fold = ⊥
IsManifest (body ∷ bodies) fold = (families : List FamilyHead) × IsHead body families × LeadAll (fold_of families) bodies fold

-- the frames of some manifest mean this fold
abbrev pub IsManifestFold : Folded → Type 0
IsManifestFold fold = (bodies : List (List ℕ)) × IsManifest bodies fold

-- no frame, or frames that mean something
abbrev pub AreSoundFrames : List (List ℕ) → Type 0
AreSoundFrames bodies = (bodies ≡ []) ⊎ ((fold : Folded) × IsManifest bodies fold)

-- the frames at the front of a manifest mean something too
abbrev pub FrontsAreManifests : Type 0
FrontsAreManifests = (front behind : List (List ℕ)) (fold : Folded) → IsManifest (front ++ behind) fold → AreSoundFrames front

-- the first of these frames that is outside the grammar of a manifest stands at this offset
pub record IsOutside (frames : List Placed) (at : ℕ) : Type 0 where
  pub before : List Placed
  pub body : List ℕ
  pub after : List Placed
  pub is : frames ≡ before ++ record { at = at; bytes = body } ∷ after
  pub sound : AreSoundFrames (map body_of before)
  pub bad : (fold : Folded) → IsManifest (map body_of before ++ body ∷ []) fold → ⊥
