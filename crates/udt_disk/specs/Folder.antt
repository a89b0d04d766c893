-- What the calls of a folder do under a name, and what they leave alone.
use Rattle.std.specs.Prelude.{◌≡◌, ◌≢◌, ◌⊎◌, ℕ, ◌≤◌, ⊤, Option, None, Result, Ok, Err}
use Rattle.udt_disk.specs.Crash.{Image}
use Rattle.udt_disk.specs.declared.name.FileName.{FileName}

-- every other name stands as it did, and a crash leaves no more there
pub record OthersStay (touched : FileName) (stood stands : FileName → Image) (past now : FileName → Image → Type 0) : Type 0 where
  pub same : (n : FileName) → n ≢ touched → stands n ≡ stood n
  pub no_more : (n : FileName) (c : Image) → n ≢ touched → now n c → past n c

-- Time goes on. At the names that have Bounded, a crash since t might have left what it might have left before, or what it
-- may leave now.
pub record FolderElapses (Bounded : FileName → Type 0) (before now : ℕ) (past since : ℕ → FileName → Image → Type 0) (may_leave : FileName → Image → Type 0) : Type 0 where
  pub later : before ≤ now
  pub nothing_else : (t : ℕ) (n : FileName) (c : Image) → t ≤ before → Bounded n → since t n c → past t n c ⊎ may_leave n c
  pub keeps : (t : ℕ) (n : FileName) (c : Image) → t ≤ before → past t n c → since t n c

-- each name
abbrev pub Every : FileName → Type 0
Every n = ⊤

-- the file that an opening gave
abbrev pub opened : {F E : Type 0} → Result (Option F) E → Option F
opened (Ok o) = o
opened (Err e) = None
