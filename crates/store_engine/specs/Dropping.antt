-- Which of the older logs no family needs any more.
use Rattle.std.specs.Prelude.{◌≡◌, ◌⊎◌, ℕ, ◌+◌, ◌<◌, nat_lt, ◌==◌, ◌&&◌, not, Bool, true, false, if◌then◌else◌, List, [], ◌∷◌, length, slice_get, Some}
use Rattle.super_version.specs.declared.family.FamilyState.{FamilyState}
use Rattle.store_engine.specs.Older.{last_in}
use Rattle.store_engine.specs.Now.{versions_held}
use Rattle.store_engine.specs.declared.older.OlderLogs.{OlderLogs}

-- the family needs a log that holds no sequence above this one
abbrev pub needs_log : ℕ → FamilyState → Bool
needs_log last f = nat_lt f.through.0 last && not (length (versions_held f) == 0)

-- no family needs it
abbrev pub lets_go : ℕ → List FamilyState → Bool
lets_go last [] = true
lets_go last (f ∷ fs) = if needs_log last f then false else lets_go last fs

-- So many logs may be dropped, from the oldest on: no family needs one of them, and the next is the newest, or a family needs it.
pub record AreGone (families : List FamilyState) (older : OlderLogs) (logs : List ℕ) (count : ℕ) : Type 0 where
  pub one : (count ≡ 0) ⊎ (count < length logs)
  pub gone : (i n : ℕ) → i < count → slice_get logs i ≡ Some n → lets_go (last_in older n) families ≡ true
  pub most : (n : ℕ) → count + 1 < length logs → slice_get logs count ≡ Some n → lets_go (last_in older n) families ≡ false
