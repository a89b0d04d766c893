-- What stands at the place of a file in memory, and what a crash may leave of it.
use Rattle.std.specs.Prelude.{◌≡◌, ◌⊎◌, ℕ, Bool, false, ⊤, List, [], reverse, Option, Some, None, IsTrue}
use Rattle.std.specs.Borrow.{Bor}
use Rattle.std.proofs.Common.{refl, inl}
use Rattle.udt_disk.specs.Crash.{Image}
use Rattle.udt_disk.specs.History.{CallsLeave, stays_now}
use Rattle.udt_disk.specs.declared.name.FileName.{FileName}
use Rattle.udt_disk.specs.declared.mem_file.FileData.{FileData}
use Rattle.udt_disk.specs.declared.tree.Place.{Place}
use Rattle.udt_disk.specs.declared.tree.Place.TheVariants.{Home, Out, Gone, Missing}

-- the bytes that are lent, if they are
abbrev pub bytes_of : Option (Bor (List ℕ)) → Image
bytes_of None = None
bytes_of (Some bytes) = Some bytes.now

-- what stands at a place
abbrev pub place_stands : Option Place → Image
place_stands None = None
place_stands (Some (Home f)) = Some f.bytes.items
place_stands (Some Out) = None
place_stands (Some (Gone f)) = None
place_stands (Some Missing) = None

abbrev pub FileLeaves : FileData → Image → Type 0
FileLeaves f = CallsLeave f.may_miss f.may_differ f.bytes.items (reverse f.calls.items)

-- a name whose file is held may leave anything, and a removed file may come back
abbrev pub PlaceLeaves : Option Place → Image → Type 0
PlaceLeaves None c = c ≡ None
PlaceLeaves (Some (Home f)) c = FileLeaves f c
PlaceLeaves (Some Out) c = ⊤
PlaceLeaves (Some (Gone f)) c = (c ≡ None) ⊎ FileLeaves f c
PlaceLeaves (Some Missing) c = c ≡ None

-- the place of a file that somebody takes, and of one that is removed
abbrev pub without_home : Place → Place
without_home (Home f) = Out
without_home Out = Out
without_home (Gone f) = Gone f
without_home Missing = Missing

abbrev pub removed : Place → Place
removed (Home f) = Gone f
removed Out = Out
removed (Gone f) = Gone f
removed Missing = Missing

abbrev pub file_at : Place → Option FileData
file_at (Home f) = Some f
file_at Out = None
file_at (Gone f) = None
file_at Missing = None

-- what may be missing may have been missing, and where any bytes may be there may have been a file
pub record LeavesBirth (may_miss may_differ : Bool) (before : Image → Type 0) : Type 0 where
  pub missing : IsTrue may_miss → before None
  pub differing : IsTrue may_differ → (bytes : List ℕ) × before (Some bytes)

-- a file that was just made
pub record IsFresh (asked : FileName) (f : FileData) (may_miss may_differ : Bool) (emptied : ℕ) : Type 0 where
  pub name : f.name ≡ asked
  pub miss : f.may_miss ≡ may_miss
  pub differ : f.may_differ ≡ may_differ
  pub was_emptied : f.emptied ≡ emptied
  pub calls : f.calls.items ≡ []
  pub empty : f.bytes.items ≡ []
  pub unsynced : f.was_synced ≡ false
  pub unused : f.uses ≡ 0
  pub no_trouble : f.troubled ≡ 0
  pub no_want : f.starved ≡ 0

-- the file as it is given out under the name
pub record IsGiven (asked : FileName) (was f : FileData) : Type 0 where
  pub name : f.name ≡ asked
  pub bytes : f.bytes.items ≡ was.bytes.items
  pub calls : f.calls.items ≡ was.calls.items
  pub miss : f.may_miss ≡ was.may_miss
  pub differ : f.may_differ ≡ was.may_differ
  pub emptied : f.emptied ≡ was.emptied
  pub was_synced : f.was_synced ≡ was.was_synced
  pub unused : f.uses ≡ 0
  pub no_trouble : f.troubled ≡ 0
  pub no_want : f.starved ≡ 0

pub file_stays : (f : FileData) → FileLeaves f (Some f.bytes.items)
file_stays f = stays_now f.may_miss f.may_differ f.bytes.items (reverse f.calls.items)

pub place_stays : (p : Option Place) → PlaceLeaves p (place_stands p)
place_stays None = refl
place_stays (Some (Home f)) = file_stays f
place_stays (Some Out) = tt
place_stays (Some (Gone f)) = inl refl
place_stays (Some Missing) = refl
