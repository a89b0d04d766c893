-- What reading an index answers.
use Rattle.std.specs.Prelude.{◌≡◌, ℕ, ◌^◌, ◌<◌, List, length, Option, Some, None}
use Rattle.std.specs.List.{AllByRecursion}
use Rattle.std.specs.declared.vec.Vec.{Vec}
use Rattle.std.specs.declared.alloc.Global.{Global}
use Rattle.block_table.specs.declared.handle.BlockHandle.{BlockHandle}
use Rattle.block_table.specs.Tables.{index}

-- its numbers have their sizes
pub record IsHandle (h : BlockHandle) : Type 0 where
  pub offset : h.offset < 2 ^ 64
  pub length : h.length < 2 ^ 64
  pub versions : h.versions < 2 ^ 32

-- as many as a number of 32 bits
pub record AreHandles (hs : List BlockHandle) : Type 0 where
  pub each : AllByRecursion IsHandle hs
  pub count : length hs < 2 ^ 32

-- these bytes are the index of the handles that were read; where none were, of none
abbrev pub ReadsIndex : List ℕ → Option (Vec BlockHandle Global) → Type 0
ReadsIndex bytes (Some hs) = AreHandles hs.items × (bytes ≡ index hs.items)
ReadsIndex bytes None = (hs : List BlockHandle) → AreHandles hs → bytes ≡ index hs → ⊥
