-- Tables of a level from 1 on whose keys' spans meet: the first of them by number.
use Rattle.std.specs.Prelude.{◌≡◌, ◌⊎◌, ℕ, ◌<◌, ◌≤◌, true, nat_lt, if◌then◌else◌, List, map, Contains, Option, Some, None}
use Rattle.ts_key.specs.declared.numbers.Family.{Family}
use Rattle.udt_model.specs.Orders.{is_at_most, meets}
use Rattle.udt_model.specs.declared.reply.KeySpan.{KeySpan}
use Rattle.super_version.specs.Live.{Live}
use Rattle.super_version.specs.declared.family.TheConstants.{LEVELS}
use Rattle.recovery.specs.Fault.{IsStop}
use Rattle.recovery.specs.Places.{span_in}
use Rattle.recovery.specs.declared.fault.OpenFault.{OpenFault}
use Rattle.recovery.specs.declared.fault.OpenFault.TheVariants.{BadTable, NoMemory}
use Rattle.recovery.specs.declared.tables.Opened.{Opened}

abbrev pub span_at : Live → KeySpan
span_at t = span_in t.table.contents

-- the second has the greater number, and their spans meet
pub record Meets (a b : Live) : Type 0 where
  pub before : a.number < b.number
  pub meet : meets (span_at a) (span_at b) ≡ true

-- and they stand on one level of one family, which is 1 at least
pub record Clashes (a b : Opened) : Type 0 where
  pub family : a.family.0 ≡ b.family.0
  pub level : a.level ≡ b.level
  pub deep : 0 < b.level
  pub meet : Meets a.table b.table

-- on this level of this family, on its levels below one, on all of its levels, and in the first families
abbrev pub ClashesOn : Family → ℕ → Opened → Opened → Type 0
ClashesOn family level a b = Clashes a b × (b.family.0 ≡ family.0) × (b.level ≡ level)

abbrev pub ClashesBelow : Family → ℕ → Opened → Opened → Type 0
ClashesBelow family level a b = Clashes a b × (b.family.0 ≡ family.0) × (b.level < level)

abbrev pub ClashesIn : Family → Opened → Opened → Type 0
ClashesIn family a b = Clashes a b × (b.family.0 ≡ family.0)

abbrev pub ClashesAmong : ℕ → Opened → Opened → Type 0
ClashesAmong count a b = Clashes a b × (b.family.0 < count)

-- ---- the first

abbrev pub IsUpto : Option ℕ → ℕ → Type 0
IsUpto None n = ⊥
IsUpto (Some m) n = m ≤ n

-- this number is that of the second of two that meet so
pub record IsMet {X : Type 0} (number : X → ℕ) (Meet : X → X → Type 0) (xs : List X) (n : ℕ) : Type 0 where
  pub a : X
  pub b : X
  pub has_a : Contains xs a
  pub has_b : Contains xs b
  pub meet : Meet a b
  pub is : number b ≡ n

-- the smallest number of the second of two that meet so; None where no two do
pub record IsFirst {X : Type 0} (number : X → ℕ) (Meet : X → X → Type 0) (xs : List X) (first : Option ℕ) : Type 0 where
  pub least : (a b : X) → Contains xs a → Contains xs b → Meet a b → IsUpto first (number b)
  pub met : (n : ℕ) → first ≡ Some n → IsMet number Meet xs n

abbrev pub live_number : Live → ℕ
live_number t = t.number

abbrev pub opened_number : Opened → ℕ
opened_number o = o.table.number

-- the lesser, where there are two
abbrev pub lesser_of : Option ℕ → Option ℕ → Option ℕ
lesser_of None b = b
lesser_of (Some m) None = Some m
lesser_of (Some m) (Some n) = Some (if nat_lt n m then n else m)

-- ---- the walk along a level

-- the greater number of two whose spans meet
abbrev pub number_met : Live → Live → Option ℕ
number_met a b = if meets (span_at a) (span_at b) then (if nat_lt a.number b.number then Some b.number else (if nat_lt b.number a.number then Some a.number else None)) else None

-- of two that meet the one with the smaller number, and otherwise the second
abbrev pub kept_of_two : Live → Live → Live
kept_of_two a b = if meets (span_at a) (span_at b) then (if nat_lt b.number a.number then b else a) else b

-- ---- what holds of tables that files hold

-- the least key of each isn't above its greatest, and two of one number have one span
pub record AreOfFiles (ts : List Live) : Type 0 where
  pub rising : (t : Live) → Contains ts t → is_at_most (span_at t).low (span_at t).high ≡ true
  pub same : (t u : Live) → Contains ts t → Contains ts u → t.number ≡ u.number → span_at t ≡ span_at u

abbrev pub table_in : Opened → Live
table_in o = o.table

-- and each stands on a level that there is
pub record AreOnLevels (opened : List Opened) : Type 0 where
  pub files : AreOfFiles (map table_in opened)
  pub levels : (o : Opened) → Contains opened o → o.level < LEVELS

-- ---- what is told where a table isn't opened behind these

-- why it isn't, where that tells nothing of the folder, or none of these meets one with a smaller number
abbrev pub IsItself : ℕ → List Opened → OpenFault → OpenFault → Type 0
IsItself count opened fault e = (e ≡ fault) × (IsStop fault ⊎ IsFirst opened_number (ClashesAmong count) opened None)

-- the first of these that does
abbrev pub IsEarlier : ℕ → List Opened → OpenFault → Type 0
IsEarlier count opened e = (n : ℕ) × (e ≡ BadTable n) × IsFirst opened_number (ClashesAmong count) opened (Some n)

-- or that memory ran out
abbrev pub IsFirstFault : ℕ → List Opened → OpenFault → OpenFault → Type 0
IsFirstFault count opened fault e = IsItself count opened fault e ⊎ (IsEarlier count opened e ⊎ (e ≡ NoMemory))
