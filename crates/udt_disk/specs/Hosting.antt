-- What a host in memory tells.
use Rattle.std.specs.Prelude.{◌≡◌, ℕ, Bool, true, List, [], Option, Some, None, option_map, is_some, position}
use Rattle.udt_disk.specs.Crash.{Image}
use Rattle.udt_disk.specs.Causes.{plus_faults}
use Rattle.udt_disk.specs.Opens.{Standing}
use Rattle.udt_disk.specs.OpensFolder.{Holding, MayStay}
use Rattle.udt_disk.specs.Files.{place_stands}
use Rattle.udt_disk.specs.Directory.{NameLeaves, comes_back, name_stays, place_named}
use Rattle.udt_disk.specs.Memory.{Reading}
use Rattle.udt_disk.specs.Places.{has_path, stands_in, source_of, folder_of}
use Rattle.udt_disk.specs.declared.name.FileName.{FileName}
use Rattle.udt_disk.specs.declared.mem_disk.MemDisk.{MemDisk}
use Rattle.udt_disk.specs.declared.mem_host.MemHost.{MemHost}

-- what stands under the names of a folder
abbrev pub folder_contents : MemDisk → FileName → Image
folder_contents disk name = place_stands (place_named disk.directory name)

-- its count of faults
abbrev pub faults_of : MemDisk → ℕ
faults_of disk = plus_faults (plus_faults disk.troubled disk.starved) disk.given_back

-- a folder that was opened is clean, and has what stood there, with its count; nothing comes back in it
pub record IsOpening (opened stood : MemDisk) : Type 0 where
  pub stands : (n : FileName) → folder_contents opened n ≡ folder_contents stood n
  pub clean : (n : FileName) (c : Image) → NameLeaves opened.directory n c → c ≡ folder_contents opened n
  pub back : (n : FileName) → comes_back opened.directory n ≡ None
  pub faults : faults_of opened ≡ faults_of stood
  pub troubles : opened.troubles.items ≡ stood.troubles.items

-- a new folder is empty and clean, its count is 0, and nothing is to go wrong in it
pub record IsNewFolder (disk : MemDisk) : Type 0 where
  pub stands : (n : FileName) → folder_contents disk n ≡ None
  pub clean : (n : FileName) (c : Image) → NameLeaves disk.directory n c → c ≡ folder_contents disk n
  pub back : (n : FileName) → comes_back disk.directory n ≡ None
  pub faults : faults_of disk ≡ 0
  pub troubles : disk.troubles.items ≡ []

-- the source that stands under a path
abbrev pub source_at : MemHost → List ℕ → Option Reading
source_at host path = source_of (stands_in host.places.items path)

-- the folder that stands under a path
abbrev pub folder_in : MemHost → List ℕ → Option MemDisk
folder_in host path = folder_of (stands_in host.places.items path)

-- what the host tells of them
abbrev pub source_standing : MemHost → List ℕ → Standing
source_standing host path = Some (option_map (λ source. source.left) (source_at host path))

abbrev pub folder_standing : MemHost → List ℕ → Holding
folder_standing host path = Some (option_map folder_contents (folder_in host path))

-- what a crash may leave of a folder, if there is one
abbrev pub leaves_of : Option MemDisk → FileName → Image → Type 0
leaves_of None n c = ⊥
leaves_of (Some disk) n c = NameLeaves disk.directory n c

-- what stands there is one of the images
pub folder_stays : (folder : Option MemDisk) → MayStay (Some (option_map folder_contents folder)) (leaves_of folder)
folder_stays None = tt
folder_stays (Some disk) = λ n. name_stays disk.directory n

abbrev pub folder_leaves : MemHost → List ℕ → FileName → Image → Type 0
folder_leaves host path = leaves_of (folder_in host path)

-- the path has a place
abbrev pub has_place : MemHost → List ℕ → Bool
has_place host path = is_some (position (has_path path) host.places.items)

-- its folders keep the model of crashes
abbrev pub keeps_model : MemHost → Bool
keeps_model host = true

-- the sum of the counts that were given back to it, and how many calls found no memory
abbrev pub given_back_to : MemHost → ℕ
given_back_to host = host.given_back

abbrev pub starved_in : MemHost → ℕ
starved_in host = host.starved
