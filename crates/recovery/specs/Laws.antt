-- What an opened folder tells of the states that it stands for.
use Rattle.std.specs.Prelude.{◌≡◌, ℕ, ◌==◌, if◌then◌else◌, List, [], ◌∷◌}
use Rattle.ts_key.specs.declared.version.Form.TheVariants.{Persist}
use Rattle.udt_disk.specs.Joint.{Folder}
use Rattle.udt_model.specs.Crashes.{course_start}
use Rattle.udt_model.specs.State.{State}
use Rattle.manifest_fold.specs.declared.fold.Folded.{Folded}
use Rattle.manifest.specs.Folders.{Means}
use Rattle.manifest.specs.Folders.Meaning.{store}
use Rattle.super_version.specs.declared.version.SuperVersion.{SuperVersion}
use Rattle.engine_laws.specs.Engine.{HoldsState}
use Rattle.engine_laws.specs.Standing.{FolderStands, FolderSays, Says, TableSays}
use Rattle.recovery.specs.Fault.{IsStop}
use Rattle.recovery.specs.Opening.{IsShown, RefusesOpening}
use Rattle.recovery.specs.Tables.{ReadsAsTable, says_of}
use Rattle.recovery.specs.declared.fault.OpenFault.{OpenFault}
use Rattle.recovery.specs.declared.tables.Opened.{Opened}

abbrev pub nothing_said : TableSays
nothing_said = record { family = record { 0 = 0 }; form = Persist; collected_by = record { 0 = 0 }; versions = [] }

-- what the table of this number says, where it was read
abbrev pub said_in : List Opened → ℕ → TableSays
said_in [] n = nothing_said
said_in (o ∷ opened) n = if o.table.number == n then says_of o.table.table.contents else said_in opened n

-- what the files of an opened folder say
abbrev pub account_of : {folder : Folder} {version : SuperVersion} → (fold : Folded) → IsShown folder fold version → Says
account_of fold shown = record { fold = fold; logs = shown.logs; tables = said_in shown.opened }

-- the folder says it
abbrev pub OpenedReads : Type 0
OpenedReads = (folder : Folder) (fold : Folded) (version : SuperVersion) → Means folder (store fold) → (shown : IsShown folder fold version) → FolderSays ReadsAsTable folder (account_of fold shown)

-- each state that the folder stands for is held, with this account of the files and nothing that waits
abbrev pub OpenedHolds : Type 0
OpenedHolds = (folder : Folder) (fold : Folded) (version : SuperVersion) (m : State) → Means folder (store fold) → (shown : IsShown folder fold version) → FolderStands ReadsAsTable folder m → HoldsState m (course_start m) (account_of fold shown) []

-- a folder that stands for a state is refused by nothing: its opening stops at most
abbrev pub NoneRefused : Type 0
NoneRefused = (folder : Folder) (m : State) (e : OpenFault) → FolderStands ReadsAsTable folder m → RefusesOpening folder e → IsStop e

-- a folder is refused in one way at most
abbrev pub OneRefusal : Type 0
OneRefusal = (folder : Folder) (a b : OpenFault) → (IsStop a → ⊥) → (IsStop b → ⊥) → RefusesOpening folder a → RefusesOpening folder b → a ≡ b
