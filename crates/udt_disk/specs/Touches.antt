-- A run of calls on a folder that touches some names alone.
use Rattle.std.specs.Prelude.{◌≡◌, ◌⊎◌, ℕ, ◌≤◌}
use Rattle.udt_disk.specs.Crash.{Image}
use Rattle.udt_disk.specs.declared.name.FileName.{FileName}
use Rattle.udt_disk.specs.declared.disk.Disk.{Ghosts}

module _ {D F : Type 0} (d : Ghosts D F) where
  -- every name that isn't touched stands as it did, and a crash leaves no more there, now and at each moment since
  pub record Touches (IsTouched : FileName → Type 0) (old new : D) : Type 0 where
    pub same : (n : FileName) → ¬ IsTouched n → d.stands new n ≡ d.stands old n
    pub no_more : (n : FileName) (c : Image) → ¬ IsTouched n → d.may_leave new n c → d.may_leave old n c
    pub later : d.moment old ≤ d.moment new
    pub nothing_else : (t : ℕ) (n : FileName) (c : Image) → t ≤ d.moment old → ¬ IsTouched n → d.left_since new t n c → d.left_since old t n c ⊎ d.may_leave old n c
    pub keeps : (t : ℕ) (n : FileName) (c : Image) → t ≤ d.moment old → d.left_since old t n c → d.left_since new t n c
    pub told : d.is_told new ≡ d.is_told old
    pub model : d.keeps_model new ≡ d.keeps_model old
