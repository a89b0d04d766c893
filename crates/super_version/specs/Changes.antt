-- What the changes make of one family and of a super version.
use Rattle.std.specs.Prelude.{◌≡◌, ℕ, ◌-◌, List, [], ◌∷◌, length, take}
use Rattle.ts_key.specs.declared.numbers.Family.{Family}
use Rattle.ts_key.specs.declared.numbers.Ts.{Ts}
use Rattle.ts_key.specs.declared.numbers.Seq.{Seq}
use Rattle.ts_key.specs.declared.version.Form.{Form}
use Rattle.memtable.specs.Memtables.{Memtable}
use Rattle.super_version.specs.declared.family.FamilyState.{FamilyState}
use Rattle.super_version.specs.declared.version.SuperVersion.{SuperVersion}
use Rattle.super_version.specs.Live.{Live}
use Rattle.super_version.specs.Levels.{item_changed_at, compacted_levels}

abbrev pub no_versions : Family → Memtable
no_versions family = record { family = family; runs = [] }

-- seven levels without a table
abbrev pub no_levels : List (List Live)
no_levels = [] ∷ [] ∷ [] ∷ [] ∷ [] ∷ [] ∷ [] ∷ []

abbrev pub empty_family : Family → Form → Ts → FamilyState
empty_family family form floor = record { form = form; floor = floor; through = record { 0 = 0 }; active = no_versions family; sealed = []; levels = no_levels }

-- ---- changes of a family

abbrev pub in_front : Live → List Live → List Live
in_front t tables = t ∷ tables

abbrev pub with_level : ℕ → (List Live → List Live) → List (List Live) → List (List Live)
with_level n change levels = item_changed_at n change levels

abbrev pub family_with_floor : Ts → FamilyState → FamilyState
family_with_floor floor f = record f { floor = floor }

-- the active memtable becomes the newest of the sealed ones
abbrev pub family_with_seal : FamilyState → FamilyState
family_with_seal f = record f { active = no_versions f.active.family; sealed = f.active ∷ f.sealed }

-- so many of the oldest sealed memtables leave, and a table comes in front of level 0
abbrev pub family_with_flush : ℕ → Seq → Ts → Live → FamilyState → FamilyState
family_with_flush gone through floor added f = record f { floor = floor; through = through; sealed = take (length f.sealed - gone) f.sealed; levels = with_level 0 (in_front added) f.levels }

abbrev pub family_with_compaction : List ℕ → ℕ → List Live → FamilyState → FamilyState
family_with_compaction gone level added f = record f { levels = compacted_levels gone level added f.levels }

-- ---- frames

-- one family becomes what the change makes of it, where there is one of this number; all others, and the last sequence, are as before
pub record ChangesFamily (family : ℕ) (change : FamilyState → FamilyState) (old new : SuperVersion) : Type 0 where
  pub last : new.last ≡ old.last
  pub families : new.families ≡ item_changed_at family change old.families
