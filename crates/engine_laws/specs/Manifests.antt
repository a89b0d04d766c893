-- What every fold of a manifest keeps.
use Rattle.std.specs.Prelude.{◌≡◌, ℕ, ◌<◌, ◌≤◌, length, map, slice_get, All, Contains, Some}
use Rattle.std.specs.List.Sorted.{IsStrictlyIncreasing}
use Rattle.ts_key.specs.declared.limits.TheConstants.{SEQUENCE_LIMIT}
use Rattle.ts_key.specs.declared.numbers.Family.{Family}
use Rattle.manifest_edit.specs.declared.edit.TableAt.{TableAt}
use Rattle.manifest_fold.specs.declared.limits.TheConstants.{FILE_NUMBER_LIMIT, LOWEST_LEVEL}
use Rattle.manifest_fold.specs.declared.fold.FamilyFold.{FamilyFold}
use Rattle.manifest_fold.specs.declared.fold.Folded.{Folded}

abbrev pub table_number : TableAt → ℕ
table_number t = t.number

-- the table is live in the family of this number
pub record IsLive (fold : Folded) (i : Family) (f : FamilyFold) (t : TableAt) : Type 0 where
  pub family : slice_get fold.families i.0 ≡ Some f
  pub table : Contains f.tables t

-- Its logs ascend, from 1 on, and there is one. Each family's live tables ascend, and no table is live in two families. All their
-- numbers are below that of the next file.
pub record IsWell (fold : Folded) : Type 0 where
  pub some : 1 ≤ length fold.logs
  pub sorted : IsStrictlyIncreasing fold.logs
  pub next : fold.next_file ≤ FILE_NUMBER_LIMIT
  pub last : fold.last.0 ≤ SEQUENCE_LIMIT
  pub first : All (λ n. 1 ≤ n) fold.logs
  pub logs : All (λ n. n < fold.next_file) fold.logs
  pub tables : (family : Family) (f : FamilyFold) (t : TableAt) → IsLive fold family f t → t.number < fold.next_file
  pub levels : (family : Family) (f : FamilyFold) (t : TableAt) → IsLive fold family f t → t.level ≤ LOWEST_LEVEL
  pub through : (family : Family) (f : FamilyFold) → slice_get fold.families family.0 ≡ Some f → f.through.0 ≤ fold.last.0
  pub ascending : (family : Family) (f : FamilyFold) → slice_get fold.families family.0 ≡ Some f → IsStrictlyIncreasing (map table_number f.tables)
  pub apart : (i k : Family) (f h : FamilyFold) (t u : TableAt) → IsLive fold i f t → IsLive fold k h u → t.number ≡ u.number → i ≡ k
