-- What folding frames answers.
use Rattle.std.specs.Prelude.{◌≡◌, ℕ, List, ◌∷◌, ◌++◌, map, Result, Ok, Err, ⊤}
use Rattle.gate_log.specs.Placed.{Placed}
use Rattle.gate_log.specs.Reads.{body_of}
use Rattle.manifest_fold.specs.declared.fold.Folded.{Folded}
use Rattle.manifest_fold.specs.Bodies.{LeadsNowhere, LeadAll}
use Rattle.edit_log.specs.declared.fault.EditsFault.{EditsFault}
use Rattle.edit_log.specs.declared.fault.EditsFault.TheVariants.{BadEdit, NoMemory}

-- the first of these frames that leads nowhere stands at this offset
pub record IsRefusedAt (start : Folded) (frames : List Placed) (at : ℕ) : Type 0 where
  pub before : List Placed
  pub body : List ℕ
  pub after : List Placed
  pub is : frames ≡ before ++ record { at = at; bytes = body } ∷ after
  pub fold : Folded
  pub sound : LeadAll start (map body_of before) fold
  pub bad : LeadsNowhere fold body

-- these frames lead to a fold, or one of them is the first that leads nowhere
abbrev pub FoldsEdits : Folded → List Placed → Result Folded EditsFault → Type 0
FoldsEdits start frames (Ok end) = LeadAll start (map body_of frames) end
FoldsEdits start frames (Err (BadEdit at)) = IsRefusedAt start frames at
FoldsEdits start frames (Err NoMemory) = ⊤
