-- Plans of compactions: which tables are taken, and to which level.
use Rattle.std.specs.Prelude.{ℕ, zero, suc, ◌+◌, ◌-◌, ◌*◌, ◌^◌, ◌==◌, nat_le, nat_lt, Bool, true, false, not, ◌&&◌, ◌||◌, if◌then◌else◌, List, [], ◌∷◌, ◌++◌, length, map, filter, Option, Some, None, option_map}
use Rattle.ts_key.specs.declared.numbers.Family.{Family}
use Rattle.udt_model.specs.declared.reply.KeySpan.{KeySpan}
use Rattle.udt_model.specs.Orders.{meets, hull_with}
use Rattle.super_version.specs.Live.{Live}
use Rattle.super_version.specs.Levels.{table_properties}
use Rattle.super_version.specs.declared.family.FamilyState.{FamilyState}
use Rattle.super_version.specs.declared.jobs.Plan.{Plan}
use Rattle.compaction.specs.declared.plans.Choice.{Choice}
use Rattle.compaction.specs.declared.sizes.TheConstants.{LEVEL0_TABLES, LEVEL1_BYTES, LOWEST_LEVEL}

-- ---- the live tables of a family

-- a live table, and the level that it stands on
pub record Leveled : Type 0 where
  pub level : ℕ
  pub table : Live

-- those of one level
abbrev pub on_level : ℕ → List Live → List Leveled
on_level level tables = map (λ t. record { level = level; table = t }) tables

-- those of levels, of which the first is this one
abbrev pub on_levels : ℕ → List (List Live) → List Leveled
on_levels level [] = []
on_levels level (tables ∷ rest) = on_level level tables ++ on_levels (level + 1) rest

-- put where its number belongs
abbrev pub with_leveled : Leveled → List Leveled → List Leveled
with_leveled t [] = t ∷ []
with_leveled t (o ∷ os) = if nat_lt o.table.number t.table.number then o ∷ with_leveled t os else t ∷ o ∷ os

abbrev pub by_number : List Leveled → List Leveled
by_number [] = []
by_number (t ∷ ts) = with_leveled t (by_number ts)

-- the live tables of a family, by ascending number
abbrev pub tables_in : FamilyState → List Leveled
tables_in f = by_number (on_levels 0 f.levels)

-- ---- their keys

-- all keys from the first of a table to its last
abbrev pub table_span : Leveled → KeySpan
table_span t = record { low = (table_properties t.table).least; high = (table_properties t.table).greatest }

abbrev pub ranges_of : List Leveled → List KeySpan
ranges_of tables = map table_span tables

-- the hull of spans, where there are some
abbrev pub hull_if_any : List KeySpan → Option KeySpan
hull_if_any [] = None
hull_if_any (s ∷ ss) = Some (hull_with s ss)

abbrev pub meets_some : Option KeySpan → KeySpan → Bool
meets_some None span = false
meets_some (Some hull) span = meets span hull

-- ---- levels that are due

abbrev pub of_level : ℕ → List Leveled → List Leveled
of_level level tables = filter (λ t. t.level == level) tables

-- how many bytes their files have
abbrev pub file_bytes : List Leveled → ℕ
file_bytes [] = 0
file_bytes (t ∷ ts) = length t.table.table.image + file_bytes ts

-- how many bytes a level from 1 on may have: ten times as many as the one before
abbrev pub bytes_limit : ℕ → ℕ
bytes_limit level = LEVEL1_BYTES * 10 ^ (level - 1)

-- level 0 has that many tables, or another level more bytes than it may have
abbrev pub is_level_due : List Leveled → ℕ → Bool
is_level_due tables level = if level == 0 then nat_le LEVEL0_TABLES (length (of_level 0 tables)) else nat_lt (bytes_limit level) (file_bytes (of_level level tables))

-- the first of so many levels that is due, from one on
abbrev pub due_from : ℕ → ℕ → List Leveled → Option ℕ
due_from zero level tables = None
due_from (suc n) level tables = if is_level_due tables level then Some level else due_from n (level + 1) tables

-- the first level above the lowest that is due
abbrev pub due_level : List Leveled → Option ℕ
due_level tables = due_from LOWEST_LEVEL 0 tables

-- ---- what is taken

abbrev pub first_number : List Leveled → Option ℕ
first_number [] = None
first_number (t ∷ ts) = Some t.table.number

abbrev pub is_number : Option ℕ → ℕ → Bool
is_number None n = false
is_number (Some m) n = m == n

-- of level 0 every table is taken, of another the first, which has this number
abbrev pub is_taken : ℕ → Option ℕ → Leveled → Bool
is_taken level first t = t.level == level && (level == 0 || is_number first t.table.number)

-- what is taken of a level: the first number there, and the hull of the tables that are taken
abbrev pub choice_of : List Leveled → ℕ → Choice
choice_of tables level = record {
  level = level;
  first = first_number (of_level level tables);
  hull = hull_if_any (ranges_of (filter (is_taken level (first_number (of_level level tables))) tables));
}

-- what is taken of the level, and the tables of the next whose keys meet the hull
abbrev pub is_picked : Choice → Leveled → Bool
is_picked c t = is_taken c.level c.first t || (t.level == c.level + 1 && meets_some c.hull (table_span t))

-- ---- plans

-- the tables that pass a test are taken to a level; deeper lie the ranges of the others below it
abbrev pub plan_of : Family → ℕ → (Leveled → Bool) → List Leveled → Plan
plan_of family level takes tables = record {
  family = family;
  inputs = map (λ t. t.table) (filter takes tables);
  level = level;
  deeper = ranges_of (filter (λ t. nat_lt level t.level && not (takes t)) tables);
}

abbrev pub every : Leveled → Bool
every t = true

-- all tables are taken to the lowest level, where there is one
abbrev pub whole_of : Family → List Leveled → Option Plan
whole_of family [] = None
whole_of family (t ∷ ts) = Some (plan_of family LOWEST_LEVEL every (t ∷ ts))

-- what is picked of the first level that is due is taken to the next, where one is due
abbrev pub picked_of : Family → List Leveled → Option Plan
picked_of family tables = option_map (λ level. plan_of family (level + 1) (is_picked (choice_of tables level)) tables) (due_level tables)

-- of a family that may not be there
abbrev pub whole_plan : Family → Option FamilyState → Option Plan
whole_plan family None = None
whole_plan family (Some f) = whole_of family (tables_in f)

abbrev pub picked_plan : Family → Option FamilyState → Option Plan
picked_plan family None = None
picked_plan family (Some f) = picked_of family (tables_in f)
