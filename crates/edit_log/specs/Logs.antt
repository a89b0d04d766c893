-- What a log of edits shows.
use Rattle.std.specs.Prelude.{◌≡◌, ℕ, ◌≤◌, List, ◌∷◌, length, IsTrue, IsSomeAnd, Some, None, Result, Ok, Err}
use Rattle.udt_disk.specs.Crash.{Image}
use Rattle.udt_disk.specs.declared.file.DiskFile.{Ghosts}
use Rattle.gate_log.specs.GateLog as gate
use Rattle.gate_log.specs.GateLog.{IsLogOf, IsAtRest}
use Rattle.gate_log.specs.Frames.{IsBody, IsLog}
use Rattle.manifest_edit.specs.Edits.{IsEdit}
use Rattle.manifest_edit.specs.declared.edit.Edit.{Edit}
use Rattle.manifest_fold.specs.Folds.{families_with, logs_with}
use Rattle.manifest_fold.specs.Bodies.{LeadAll}
use Rattle.manifest_fold.specs.declared.fold.Folded.{Folded}
use Rattle.edit_log.specs.declared.fault.EditsFault.{EditsFault}
use Rattle.edit_log.specs.declared.log.EditLog.{EditLog}
use Rattle.edit_log.specs.declared.log.Prepared.{Prepared}

module _ {F : Type 0} {g : Ghosts F} where
  -- the file that it holds
  abbrev pub edit_file : EditLog F g → F
  edit_file log = gate.log_file log.log

  -- the offset of the gate behind its last edit
  abbrev pub edit_end : EditLog F g → ℕ
  edit_end log = gate.log_end log.log

  -- what its edits add up to
  abbrev pub edit_fold : EditLog F g → Folded
  edit_fold log = log.fold

  -- the fold of the log that an answer holds
  abbrev pub fold_read : Result (EditLog F g) (F × EditsFault) → Result Folded EditsFault
  fold_read (Ok log) = Ok log.fold
  fold_read (Err refused) = Err refused.1

-- behind this head stand edits, which lead from the one fold to the other
abbrev pub HasEdits : List ℕ → Folded → Image → Folded → Type 0
HasEdits head start None end = ⊥
HasEdits head start (Some bytes) end = (bodies : List (List ℕ)) × IsLog (head ∷ bodies) bytes × LeadAll start bodies end

-- what reads of its file give are this head and edits, which lead from this fold to the log's
pub record ShowsEdits {F : Type 0} (g : Ghosts F) (log : EditLog F g) (head : List ℕ) (start : Folded) : Type 0 where
  pub bodies : List (List ℕ)
  pub logged : IsLogOf g log.log (head ∷ bodies)
  pub leads : LeadAll start bodies log.fold

-- where the file tells what it holds, it shows edits behind some head
abbrev pub IsEditLogReady : {F : Type 0} (g : Ghosts F) → EditLog F g → Type 0
IsEditLogReady g log = IsTrue (g.is_told (edit_file log)) → (head : List ℕ) × (start : Folded) × ShowsEdits g log head start

-- what its file shows, and a crash leaves nothing else
pub record EditsRest {F : Type 0} (g : Ghosts F) (log : EditLog F g) (head : List ℕ) (start : Folded) : Type 0 where
  pub bodies : List (List ℕ)
  pub at_rest : IsAtRest g log.log (head ∷ bodies)
  pub leads : LeadAll start bodies log.fold

-- the body of this edit and what changes by it are prepared, and so is the room for its frame
pub record IsPrepared {F : Type 0} (g : Ghosts F) (log : EditLog F g) (edit : Edit) (next : Prepared) : Type 0 where
  pub spelled : IsEdit next.body.items edit
  pub families : next.families ≡ families_with log.fold.families edit.family
  pub logs : next.logs ≡ logs_with log.fold.logs edit
  pub size : IsBody next.body.items
  pub room : length next.body.items ≤ gate.log_room log.log

-- this edit was reserved last
abbrev pub IsReserved : {F : Type 0} (g : Ghosts F) → EditLog F g → Edit → Type 0
IsReserved g log edit = IsSomeAnd log.next (IsPrepared g log edit)
