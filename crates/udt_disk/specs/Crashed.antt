-- What each outcome of a crash leaves at the place of a file in memory.
use Rattle.std.specs.Prelude.{◌≡◌, ◌||◌, ℕ, Bool, not, max, cond, List, length, reverse, Option, Some, None}
use Rattle.udt_disk.specs.Crash.{Image}
use Rattle.udt_disk.specs.Outcomes.{synced_bytes, spoiled}
use Rattle.udt_disk.specs.Tree.{place_in_entry, early}
use Rattle.udt_disk.specs.Files.{PlaceLeaves, place_stands}
use Rattle.udt_disk.specs.declared.mem_file.FileData.{FileData}
use Rattle.udt_disk.specs.declared.outcome.Outcome.{Outcome}
use Rattle.udt_disk.specs.declared.outcome.Outcome.TheVariants.{Lost, Kept, Hostile}
use Rattle.udt_disk.specs.declared.tree.Entry.{Entry}
use Rattle.udt_disk.specs.declared.tree.Place.{Place}
use Rattle.udt_disk.specs.declared.tree.Place.TheVariants.{Home, Out, Gone, Missing}

-- what stood under a name before its file was made, if all that wasn't synced is lost
abbrev pub synced_before : Option FileData → Image
synced_before None = None
synced_before (Some f) = Some (synced_bytes f.bytes.items (reverse f.calls.items))

-- what stood under a name before its file was made, and stands there again where that file is lost
abbrev pub image_before : Option Entry → Image
image_before None = None
image_before (Some e) = synced_before e.before

-- a file that was created or emptied and not synced is lost, and what stood there before is back
abbrev pub lost_birth : Bool → Bool → Image → List ℕ → Image
lost_birth may_miss may_differ None now = cond may_miss None (Some now)
lost_birth may_miss may_differ (Some bytes) now = cond may_differ (Some bytes) (cond may_miss None (Some now))

-- how many bytes a file had before it was emptied
abbrev pub emptied_of : FileData → ℕ
emptied_of f = cond f.may_differ f.emptied 0

-- how many bytes it has after a hostile crash, and so how many it had where it is emptied now
abbrev pub spoilt_len : FileData → ℕ
spoilt_len f = cond (f.was_synced || not f.may_differ) (length f.bytes.items) (max (length f.bytes.items) f.emptied)

abbrev pub emptied_by : Option Place → ℕ
emptied_by (Some (Home f)) = spoilt_len f
emptied_by (Some (Gone f)) = spoilt_len f
emptied_by (Some Out) = 0
emptied_by (Some Missing) = 0
emptied_by None = 0

-- what the outcome leaves of a file, by what it leaves of what stood under its name before
abbrev pub file_crash : Outcome → FileData → Image → Image
file_crash Kept f before = Some f.bytes.items
file_crash Hostile f before = Some (spoiled (emptied_of f) f.bytes.items (reverse f.calls.items))
file_crash Lost f before = cond f.was_synced (Some (synced_bytes f.bytes.items (reverse f.calls.items))) (lost_birth f.may_miss f.may_differ before (synced_bytes f.bytes.items (reverse f.calls.items)))

-- a removed file stays removed where all is kept; nothing is promised of a file that is held
abbrev pub place_crash : Outcome → Place → Image → Image
place_crash outcome (Home f) before = file_crash outcome f before
place_crash Kept (Gone f) before = None
place_crash Lost (Gone f) before = file_crash Lost f before
place_crash Hostile (Gone f) before = file_crash Hostile f before
place_crash Lost Out before = before
place_crash Kept Out before = None
place_crash Hostile Out before = None
place_crash outcome Missing before = None

abbrev pub entry_crash : Outcome → Option Entry → Image
entry_crash outcome None = None
entry_crash outcome (Some e) = place_crash outcome e.place (synced_before e.before)

-- this image stands there, and a crash leaves no other
pub record IsCleanPlace (place : Option Place) (image : Image) : Type 0 where
  pub stands : place_stands place ≡ image
  pub only : (c : Image) → PlaceLeaves place c → c ≡ image

-- the new entry is clean and has what the outcome leaves of the old one; nothing comes back there
pub record IsCrashed (outcome : Outcome) (old new : Option Entry) : Type 0 where
  pub clean : IsCleanPlace (place_in_entry new) (entry_crash outcome old)
  pub first : early new ≡ 0
  pub back : image_before new ≡ None

-- the new entry is clean and has what stands at the old one; nothing comes back there
pub record IsCleaned (old new : Option Entry) : Type 0 where
  pub clean : IsCleanPlace (place_in_entry new) (place_stands (place_in_entry old))
  pub same : early new ≡ early old
  pub back : image_before new ≡ None
