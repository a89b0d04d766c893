-- What stands under the paths of a host in memory.
use Rattle.std.specs.Prelude.{ℕ, Bool, if◌then◌else◌, List, [], ◌∷◌, Option, Some, None}
use Rattle.std.specs.Str.{bytes_eq}
use Rattle.udt_disk.specs.Memory.{Reading}
use Rattle.udt_disk.specs.declared.mem_disk.MemDisk.{MemDisk}
use Rattle.udt_disk.specs.declared.mem_host.Kind.{Kind}
use Rattle.udt_disk.specs.declared.mem_host.Kind.TheVariants as Kinds
use Rattle.udt_disk.specs.declared.mem_host.Place.{Place}
use Rattle.udt_disk.specs.declared.mem_host.Occupant.{Occupant}
use Rattle.udt_disk.specs.declared.mem_host.Occupant.TheVariants.{Nothing, Source, Folder}

-- the place is that of the path
abbrev pub has_path : List ℕ → Place → Bool
has_path path place = bytes_eq place.path path

-- what stands under a path
abbrev pub stands_in : List Place → List ℕ → Occupant
stands_in [] path = Nothing
stands_in (place ∷ places) path = if has_path path place then place.stands else stands_in places path

-- the place with something else
abbrev pub with_stands : Place → Occupant → Place
with_stands place stands = record place { stands = stands }

abbrev pub source_of : Occupant → Option Reading
source_of (Source source) = Some source
source_of Nothing = None
source_of (Folder folder) = None

abbrev pub folder_of : Occupant → Option MemDisk
folder_of (Folder folder) = Some folder
folder_of Nothing = None
folder_of (Source source) = None

abbrev pub kind_in : Occupant → Kind
kind_in Nothing = Kinds.Nothing
kind_in (Source source) = Kinds.Source
kind_in (Folder folder) = Kinds.Folder
