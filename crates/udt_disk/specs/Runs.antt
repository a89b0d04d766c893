-- A run of calls on one file: what a crash leaves of it at each moment, and what runs of a few kinds do to it.
use Rattle.std.specs.Prelude.{◌≡◌, ◌⊎◌, ℕ, ◌+◌, ◌-◌, ◌^◌, ◌≤◌, List, length, IsTrue, Result, Ok, Err, OnOk}
use Rattle.udt_disk.specs.Bytes.{overwritten}
use Rattle.udt_disk.specs.Causes.{HasCause}
use Rattle.udt_disk.specs.Crash.{Image, Tears, NoMore, Only}
use Rattle.udt_disk.specs.declared.file.DiskFile.{Ghosts}

-- A crash at any moment of the run leaves an image that has P, and so does one now.
pub record Leaves {F : Type 0} (g : Ghosts F) (old new : F) (P : Image → Type 0) : Type 0 where
  pub later : g.moment old ≤ g.moment new
  pub each : (c : Image) → g.left_since new (g.moment old) c → P c
  pub now : (c : Image) → g.may_leave new c → P c
  -- for a run that began earlier
  pub before : (t : ℕ) (c : Image) → t ≤ g.moment old → g.left_since new t c → g.left_since old t c ⊎ P c

-- one of these images, or one of them after a write of n bytes at an offset that a crash cuts short
abbrev pub MayTear : ℕ → ℕ → (Image → Type 0) → Image → Type 0
MayTear at n images c = images c ⊎ ((d : Image) × images d × Tears at n d c)

-- it goes by the same name, and tells and keeps what it did
pub record IsSameFile {F : Type 0} (g : Ghosts F) (old new : F) : Type 0 where
  pub name : g.name new ≡ g.name old
  pub told : g.is_told new ≡ g.is_told old
  pub model : g.keeps_model new ≡ g.keeps_model old

-- The file was only read: it holds what it held, and a crash leaves no more, now and at each moment of the run.
pub record IsOnlyRead {F : Type 0} (g : Ghosts F) (old new : F) : Type 0 where
  pub seen : g.seen new ≡ g.seen old
  pub no_more : NoMore (g.may_leave old) (g.may_leave new)
  pub moments : Leaves g old new (g.may_leave old)
  pub name : g.name new ≡ g.name old
  pub told : g.is_told new ≡ g.is_told old
  pub model : g.keeps_model new ≡ g.keeps_model old

-- These bytes were written at an offset, and synced. At each moment a crash leaves what it might have left before, or that
-- with the write cut short; after Ok it leaves what reads give.
pub record WritesSynced {F E : Type 0} (g : Ghosts F) (at : ℕ) (bytes : List ℕ) (old new : F) (result : Result (Unit {0}) E) : Type 0 where
  pub fits : OnOk result (at + length bytes ≤ 2 ^ 64 - 1)
  pub written : OnOk result (IsTrue (g.is_told old) → g.seen new ≡ overwritten (g.seen old) at bytes)
  pub durable : OnOk result (Only (g.seen new) (g.may_leave new))
  pub moments : Leaves g old new (MayTear at (length bytes) (g.may_leave old))
  pub cause : HasCause (g.faults old) (g.faults new) result
  pub same : IsSameFile g old new

-- the file that an answer hands back, or that its value holds
abbrev pub file_after : {A E F : Type 0} → (A → F) → Result A (F × E) → F
file_after file_of (Ok value) = file_of value
file_after file_of (Err refused) = refused.0
