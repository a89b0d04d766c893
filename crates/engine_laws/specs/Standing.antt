-- What a folder stands for.
use Rattle.std.specs.Prelude.{◌≡◌, ℕ, ◌≤◌, List, [], map, Contains, Some, None}
use Rattle.ts_key.specs.declared.numbers.Family.{Family}
use Rattle.ts_key.specs.declared.numbers.Ts.{Ts}
use Rattle.ts_key.specs.declared.version.Form.{Form}
use Rattle.ts_key.specs.declared.version.Version.{Version}
use Rattle.udt_disk.specs.Crash.{Image}
use Rattle.udt_disk.specs.Joint.{Folder}
use Rattle.udt_disk.specs.declared.name.FileName.TheVariants.{Log, Table}
use Rattle.wal.specs.declared.numbered.Numbered.{Numbered}
use Rattle.wal.specs.Replays.{ReadsAs}
use Rattle.wal.specs.Sequences.{IsInSequence}
use Rattle.udt_model.specs.declared.line.FamilyHead.{FamilyHead}
use Rattle.udt_model.specs.State.{State, FamilyState, LiveTable, family_at, head_with_floor, unflushed}
use Rattle.udt_model.specs.Crashes.{settled}
use Rattle.manifest_edit.specs.declared.edit.TableAt.{TableAt}
use Rattle.manifest_fold.specs.declared.fold.FamilyFold.{FamilyFold}
use Rattle.manifest_fold.specs.declared.fold.Folded.{Folded}
use Rattle.manifest.specs.Folders.{Means}
use Rattle.manifest.specs.Folders.Meaning.{store}
use Rattle.manifest.specs.Folds.{fold_of, sizes_of}
use Rattle.floor_laws.specs.Sound.{IsSoundState}
use Rattle.engine_laws.specs.Logs.{above, batches_of, last_of, last_over, versions_of}
use Rattle.engine_laws.specs.Manifests.{IsLive}

-- what a table file says: its family and form, the floor by which it was collected, and its versions
pub record TableSays : Type 0 where
  pub family : Family
  pub form : Form
  pub collected_by : Ts
  pub versions : List Version

-- Which bytes say what as a table. The laws hold for whatever grammar is given.
abbrev pub Grammar : Type 1
Grammar = List ℕ → TableSays → Type 0

-- the file of a table says this
abbrev pub TableReads : Grammar → Image → TableSays → Type 0
TableReads g None says = ⊥
TableReads g (Some bytes) says = g bytes says

-- What the files of a store say, by their numbers: the manifest its fold, each log its batches, each table its contents. Under numbers
-- that aren't live it says what will be there, or anything.
pub record Says : Type 0 where
  pub fold : Folded
  pub logs : ℕ → List Numbered
  pub tables : ℕ → TableSays

-- the batches of the live logs
abbrev pub live_batches : Says → List Numbered
live_batches s = batches_of s.logs s.fold.logs

-- the folder says this
pub record FolderSays (g : Grammar) (folder : Folder) (s : Says) : Type 0 where
  pub means : Means folder (store s.fold)
  pub logs : (n : ℕ) → Contains s.fold.logs n → ReadsAs (sizes_of s.fold) (s.logs n) (folder (Log n))
  pub tables : (family : Family) (f : FamilyFold) (t : TableAt) → IsLive s.fold family f t → TableReads g (folder (Table t.number)) (s.tables t.number)

-- ---- families as a state has them

abbrev pub table_of : (ℕ → TableSays) → TableAt → LiveTable
table_of tables t = record { number = t.number; level = t.level; versions = (tables t.number).versions }

abbrev pub head_of : FamilyFold → FamilyHead
head_of f = record { name = f.name; form = f.form; floor = f.floor }

-- a family of a manifest, with what its table files hold
abbrev pub family_said : (ℕ → TableSays) → FamilyFold → FamilyState
family_said tables f = record { head = head_of f; through = f.through; tables = map (table_of tables) f.tables }

abbrev pub families_said : (ℕ → TableSays) → Folded → List FamilyState
families_said tables fold = map (family_said tables) fold.families

-- the table is of the family and its form, and was collected by no more than its floor
pub record Fits (i : Family) (f : FamilyFold) (says : TableSays) : Type 0 where
  pub family : says.family ≡ i
  pub form : says.form ≡ f.form
  pub collected : says.collected_by.0 ≤ f.floor.0

-- each live table fits its family
abbrev pub TablesFit : Says → Type 0
TablesFit s = (family : Family) (f : FamilyFold) (t : TableAt) → IsLive s.fold family f t → Fits family f (s.tables t.number)

-- of each family, versions and batches say the same above its `through`
abbrev pub SaySame : State → List Numbered → Type 0
SaySame m batches = (family : Family) (f : FamilyState) → family_at m family ≡ Some f → above family f.through.0 m.versions ≡ above family f.through.0 (versions_of batches)

-- ---- what files stand for

-- The state has no snapshot, no job and no halt, and its used numbers are those of its live tables.
abbrev pub IsSettled : State → Type 0
IsSettled m = settled m ≡ m

-- What files say stands for a state: the manifest and the tables say its families, the live logs its versions above each `through`; the
-- last sequence is the greater of the manifest's and the logs', and the manifest's isn't above that of the logs, where they have one.
-- The batches of the live logs have no gap. The tables stand for the other versions: the state is sound.
pub record StandsFor (s : Says) (m : State) : Type 0 where
  pub families : m.families ≡ families_said s.tables s.fold
  pub unflushed : SaySame m (live_batches s)
  pub last : m.last.0 ≡ last_over s.fold.last.0 (live_batches s)
  pub behind : s.fold.last.0 ≤ last_of s.fold.last.0 (live_batches s)
  pub sequence : IsInSequence (live_batches s)
  pub fits : TablesFit s
  pub sound : IsSoundState m
  pub settled : IsSettled m

-- the folder stands for the state
pub record FolderStands (g : Grammar) (folder : Folder) (m : State) : Type 0 where
  pub says : Says
  pub reads : FolderSays g folder says
  pub stands : StandsFor says m

-- bytes say one thing as a table
abbrev pub IsOneSaid : Grammar → Type 0
IsOneSaid g = (bytes : List ℕ) (a b : TableSays) → g bytes a → g bytes b → a ≡ b

-- the folder stands for a state of this kind
abbrev pub StandsForSome : Grammar → Folder → (State → Type 0) → Type 0
StandsForSome g folder Is = (left : State) × FolderStands g folder left × Is left

-- what the files of a new store say: nothing was written
abbrev pub fresh_says : List FamilyHead → (ℕ → TableSays) → Says
fresh_says heads tables = record { fold = fold_of heads; logs = λ n. []; tables = tables }

-- the state of a new store: nothing was written, and each floor is 0
abbrev pub new_state : List FamilyHead → State
new_state heads = unflushed (map (head_with_floor (record { 0 = 0 })) heads) [] (record { 0 = 0 }) None

-- two states differ at most in what lies up to each `through`
pub record Alike (m n : State) : Type 0 where
  pub families : n.families ≡ m.families
  pub last : n.last ≡ m.last
  pub unflushed : (family : Family) (f : FamilyState) → family_at m family ≡ Some f → above family f.through.0 n.versions ≡ above family f.through.0 m.versions
