-- What folder stands under the paths of a host, and what it means to open one.
use Rattle.std.specs.Prelude.{◌≡◌, ◌≢◌, ℕ, Bool, false, List, ⊤, IsTrue, Option, Some, None, Result, Ok, Err}
use Rattle.udt_disk.specs.Crash.{Image, NoMore}
use Rattle.udt_disk.specs.declared.name.FileName.{FileName}

-- what folder stands under a path: None where it isn't told, Some None where there is none, else what stands under its names
abbrev pub Holding : Type 0
Holding = Option (Option (FileName → Image))

-- no folder stands there
abbrev pub IsNoFolder : Holding → Type 0
IsNoFolder None = ⊤
IsNoFolder (Some folder) = folder ≡ None

-- a crash may leave what stands under the names of the folder that is told
abbrev pub MayStay : Holding → (FileName → Image → Type 0) → Type 0
MayStay None leaves = ⊤
MayStay (Some None) leaves = ⊤
MayStay (Some (Some folder)) leaves = (n : FileName) → leaves n (folder n)

-- what stands there once the folder is taken out
abbrev pub without_folder : Holding → Holding
without_folder None = None
without_folder (Some folder) = Some None

-- the folder that is given is the one that stood there, or a new empty one, which was asked for
abbrev pub GivesFolder : Holding → Bool → Bool → ℕ → (FileName → Image) → Type 0
GivesFolder None make told faults stands = ⊤
GivesFolder (Some None) make told faults stands = IsTrue make × IsTrue told × (faults ≡ 0) × ((n : FileName) → stands n ≡ None)
GivesFolder (Some (Some folder)) make told faults stands = IsTrue told × ((n : FileName) → stands n ≡ folder n)

-- under every path stands the folder that stood there
abbrev pub KeepsFolders : (List ℕ → Holding) → (List ℕ → Holding) → Type 0
KeepsFolders old new = (path : List ℕ) → new path ≡ old path

-- under every other path stands the folder that stood there
abbrev pub KeepsFoldersBut : List ℕ → (List ℕ → Holding) → (List ℕ → Holding) → Type 0
KeepsFoldersBut path old new = (other : List ℕ) → other ≢ path → new other ≡ old other

-- a crash leaves no more of the folders that stand under each path, or under every other path
abbrev pub LeavesNoMore : (List ℕ → FileName → Image → Type 0) → (List ℕ → FileName → Image → Type 0) → Type 0
LeavesNoMore old new = (path : List ℕ) (n : FileName) → NoMore (old path n) (new path n)

abbrev pub LeavesNoMoreBut : List ℕ → (List ℕ → FileName → Image → Type 0) → (List ℕ → FileName → Image → Type 0) → Type 0
LeavesNoMoreBut path old new = (other : List ℕ) (n : FileName) → other ≢ path → NoMore (old other n) (new other n)

-- None comes exactly where no folder stands there and none is to be made
abbrev pub OpensFolder : {D E : Type 0} → (D → Bool) → (D → ℕ) → (D → FileName → Image) → (List ℕ → Holding) → (List ℕ → Holding) → List ℕ → Bool → Result (Option D) E → Type 0
OpensFolder told faults stands old new path make (Ok None) = IsNoFolder (old path) × (make ≡ false) × KeepsFolders old new
OpensFolder told faults stands old new path make (Ok (Some d)) = GivesFolder (old path) make (told d) (faults d) (stands d) × (new path ≡ without_folder (old path)) × KeepsFoldersBut path old new
OpensFolder told faults stands old new path make (Err e) = KeepsFolders old new
