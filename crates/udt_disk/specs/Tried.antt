-- When a call of a file or a folder in memory fails, and that it then changes nothing but counts.
use Rattle.std.specs.Prelude.{◌≡◌, ◌&&◌, ◌++◌, ◌∷◌, [], ℕ, Bool, true, List, Vec, length, take, drop, not, if◌then◌else◌, map, IsTrue, IsErr, is_err, OnErr, Result}
use Rattle.std.specs.List.{list_any}
use Rattle.udt_disk.specs.Causes.{plus_faults}
use Rattle.udt_disk.specs.Troubles.{is_due, counted_by}
use Rattle.udt_disk.specs.declared.name.FileName.{FileName}
use Rattle.std.specs.declared.alloc.Global.{Global}
use Rattle.udt_disk.specs.Bytes.{overwritten}
use Rattle.udt_disk.specs.declared.history.FileCall.TheVariants.{Wrote, Synced}
use Rattle.udt_disk.specs.declared.mem_file.FileData.{FileData}
use Rattle.udt_disk.specs.declared.mem_disk.MemDisk.{MemDisk}

-- a call fails where a trouble is due, else only for want of memory, and counts which
pub record FailsBy {T E : Type 0} (due : Bool) (troubled starved now_troubled now_starved : ℕ) (result : Result T E) : Type 0 where
  pub fails : IsTrue due → IsErr result
  pub by_trouble : now_troubled ≡ (if due then plus_faults troubled 1 else troubled)
  pub by_want : now_starved ≡ (if is_err result && not due then plus_faults starved 1 else starved)

-- what reads give and what a crash may leave is as it was
pub record SameFile (old new : FileData) : Type 0 where
  pub bytes : new.bytes.items ≡ old.bytes.items
  pub calls : new.calls.items ≡ old.calls.items
  pub miss : new.may_miss ≡ old.may_miss
  pub differ : new.may_differ ≡ old.may_differ
  pub emptied : new.emptied ≡ old.emptied
  pub was_synced : new.was_synced ≡ old.was_synced

-- a call of a file
pub record FileTried {T E : Type 0} (old new : FileData) (result : Result T E) : Type 0 where
  pub cause : FailsBy (list_any (is_due old.name) old.troubles.items) old.troubled old.starved new.troubled new.starved result
  pub counted : new.troubles.items ≡ map (counted_by old.name 1) old.troubles.items
  pub uses : new.uses ≡ plus_faults old.uses 1
  pub nothing : OnErr result (SameFile old new)

-- these bytes were written at the offset and noted
pub record IsWritten (at : ℕ) (bytes : List ℕ) (old new : FileData) : Type 0 where
  pub written : new.bytes.items ≡ overwritten old.bytes.items at bytes
  pub noted : (over : Vec ℕ Global) × (over.items ≡ take (length bytes) (drop at old.bytes.items)) × (new.calls.items ≡ old.calls.items ++ Wrote at (length bytes) over ∷ [])
  pub miss : new.may_miss ≡ old.may_miss
  pub differ : new.may_differ ≡ old.may_differ
  pub emptied : new.emptied ≡ old.emptied
  pub was_synced : new.was_synced ≡ old.was_synced

-- a sync was noted
pub record IsSynced (old new : FileData) : Type 0 where
  pub bytes : new.bytes.items ≡ old.bytes.items
  pub noted : new.calls.items ≡ old.calls.items ++ Synced ∷ []
  pub miss : new.may_miss ≡ old.may_miss
  pub differ : new.may_differ ≡ old.may_differ
  pub emptied : new.emptied ≡ old.emptied
  pub was_synced : new.was_synced ≡ true

-- a call of a folder on a name
pub record FolderTried {T E : Type 0} (name : FileName) (old new : MemDisk) (result : Result T E) : Type 0 where
  pub cause : FailsBy (list_any (is_due name) old.troubles.items) old.troubled old.starved new.troubled new.starved result
  pub counted : new.troubles.items ≡ map (counted_by name 1) old.troubles.items
  pub given_back : new.given_back ≡ old.given_back
  pub nothing : OnErr result (new.directory ≡ old.directory)
