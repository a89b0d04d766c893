-- Which edits a fold accepts, and what they make of it.
use Rattle.std.specs.Prelude.{◌≡◌, ℕ, ◌-◌, ◌<◌, ◌≤◌, Bool, not, ◌==◌, ◌||◌, List, ◌++◌, length, map, take, drop, slice_get, slice_set, slice_index, Option, Some, None, IsTrue, All, ⊤}
use Rattle.std.specs.List.{list_any}
use Rattle.std.specs.List.Sorted.{IsStrictlyIncreasing}
use Rattle.ts_key.specs.declared.limits.TheConstants.{SEQUENCE_LIMIT}
use Rattle.manifest_fold.specs.declared.limits.TheConstants.{FILE_NUMBER_LIMIT, LOWEST_LEVEL}
use Rattle.manifest_edit.specs.declared.edit.TableAt.{TableAt}
use Rattle.manifest_edit.specs.declared.edit.FamilyEdit.{FamilyEdit}
use Rattle.manifest_edit.specs.declared.edit.Edit.{Edit}
use Rattle.manifest_fold.specs.declared.fold.FamilyFold.{FamilyFold}
use Rattle.manifest_fold.specs.declared.fold.Folded.{Folded}
use Rattle.manifest_edit.specs.LiveTables.{has_table_number, place_tables, without_tables}

-- ---- the fold

-- a family's live tables stand by ascending number: without the removed ones, and with the added ones
abbrev pub family_with : FamilyFold → FamilyEdit → FamilyFold
family_with f e = record f { floor = e.floor; through = e.through; tables = place_tables e.add (without_tables e.remove f.tables) }

abbrev pub put_over : List FamilyFold → FamilyEdit → Option FamilyFold → List FamilyFold
put_over fs e None = fs
put_over fs e (Some f) = slice_set fs e.family.0 (family_with f e)

-- one family is changed, and none where the edit names no family of the list
abbrev pub one_changed : List FamilyFold → FamilyEdit → List FamilyFold
one_changed fs e = put_over fs e (slice_get fs e.family.0)

abbrev pub families_with : List FamilyFold → Option FamilyEdit → List FamilyFold
families_with fs None = fs
families_with fs (Some e) = one_changed fs e

-- the dropped logs are the oldest
abbrev pub logs_with : List ℕ → Edit → List ℕ
logs_with logs edit = drop (length edit.drop_logs) logs ++ edit.add_logs

-- what an edit makes of a fold
abbrev pub fold_with : Folded → Edit → Folded
fold_with fold edit = record {
  families = families_with fold.families edit.family;
  logs = logs_with fold.logs edit;
  next_file = edit.next_file;
  last = edit.last;
}

-- ---- acceptance

-- the newest of the live logs, which ascend: the last, or 0 where there is none
abbrev pub newest_log : List ℕ → ℕ
newest_log logs = slice_index logs (length logs - 1)

-- a table of this number is live, in whichever family
abbrev pub is_live : List FamilyFold → ℕ → Bool
is_live fs n = list_any (λ (f : FamilyFold). has_table_number f.tables n) fs

-- the number isn't live once these are taken out
abbrev pub IsFreeNumber : List FamilyFold → List ℕ → ℕ → Type 0
IsFreeNumber fs removed n = IsTrue (list_any (λ m. m == n) removed || not (is_live fs n))

-- what an edit may change of the logs
pub record IsLogsEdit (logs : List ℕ) (edit : Edit) : Type 0 where
  pub ascending : IsStrictlyIncreasing edit.add_logs
  pub newer : All (λ n. newest_log logs < n) edit.add_logs
  pub below : All (λ n. n < edit.next_file) edit.add_logs
  pub oldest : edit.drop_logs ≡ take (length edit.drop_logs) logs
  pub one : 1 ≤ length (logs_with logs edit)

-- what it may change of a family's live tables
pub record IsTablesEdit (fs : List FamilyFold) (next : ℕ) (old : FamilyFold) (e : FamilyEdit) : Type 0 where
  pub added : IsStrictlyIncreasing (map (λ (t : TableAt). t.number) e.add)
  pub removed : IsStrictlyIncreasing e.remove
  pub levels : All (λ (t : TableAt). t.level ≤ LOWEST_LEVEL) e.add
  pub below : All (λ (t : TableAt). t.number < next) e.add
  pub live : All (λ n. IsTrue (has_table_number old.tables n)) e.remove
  pub free : All (λ (t : TableAt). IsFreeNumber fs e.remove t.number) e.add

-- what it may change of a family
pub record IsFamilyEdit (fs : List FamilyFold) (edit : Edit) (old : FamilyFold) (e : FamilyEdit) : Type 0 where
  pub floor : old.floor.0 ≤ e.floor.0
  pub through : old.through.0 ≤ e.through.0
  pub within : e.through.0 ≤ edit.last.0
  pub tables : IsTablesEdit fs edit.next_file old e

abbrev pub IsOnePart : List FamilyFold → Edit → FamilyEdit → Type 0
IsOnePart fs edit e = (old : FamilyFold) × (slice_get fs e.family.0 ≡ Some old) × IsFamilyEdit fs edit old e

abbrev pub IsPart : List FamilyFold → Edit → Option FamilyEdit → Type 0
IsPart fs edit None = ⊤
IsPart fs edit (Some e) = IsOnePart fs edit e

-- the fold accepts the edit
pub record IsAccepted (fold : Folded) (edit : Edit) : Type 0 where
  pub next : fold.next_file ≤ edit.next_file
  pub most : edit.next_file ≤ FILE_NUMBER_LIMIT
  pub last : fold.last.0 ≤ edit.last.0
  pub within : edit.last.0 ≤ SEQUENCE_LIMIT
  pub logs : IsLogsEdit fold.logs edit
  pub part : IsPart fold.families edit edit.family
