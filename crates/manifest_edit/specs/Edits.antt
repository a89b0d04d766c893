-- How an edit is spelled: one spelling an edit.
use Rattle.std.specs.Prelude.{◌≡◌, ℕ, ◌^◌, ◌<◌, List, [], ◌∷◌, ◌++◌, length, All, Option, Some, None, ⊤}
use Rattle.std.specs.List.{flat_map}
use Rattle.ts_key.specs.Numbers.{number_bytes}
use Rattle.manifest_edit.specs.declared.edit.TableAt.{TableAt}
use Rattle.manifest_edit.specs.declared.edit.FamilyEdit.{FamilyEdit}
use Rattle.manifest_edit.specs.declared.edit.Edit.{Edit}

-- ---- spelling

-- items behind their count, a u32
abbrev pub counted_text : {V : Type 0} → (V → List ℕ) → List V → List ℕ
counted_text text items = number_bytes 4 (length items) ++ flat_map text items

-- numbers, each a u64
abbrev pub numbers_text : List ℕ → List ℕ
numbers_text ns = counted_text (number_bytes 8) ns

-- a table: its level, a u8, and its number, a u64
abbrev pub table_text : TableAt → List ℕ
table_text t = t.level ∷ number_bytes 8 t.number

-- what changes of a family: its number, its floor and `through`, its added tables, and its removed ones
abbrev pub family_edit_text : FamilyEdit → List ℕ
family_edit_text e = number_bytes 4 e.family.0 ++ (number_bytes 8 e.floor.0 ++ (number_bytes 8 e.through.0 ++ (counted_text table_text e.add ++ numbers_text e.remove)))

abbrev pub part_text : Option FamilyEdit → List ℕ
part_text None = 0 ∷ []
part_text (Some e) = 1 ∷ family_edit_text e

-- an edit: its kind, the added logs, the dropped logs, the next file, the last sequence, and what changes of a family
abbrev pub edit_text : Edit → List ℕ
edit_text e = 2 ∷ (numbers_text e.add_logs ++ (numbers_text e.drop_logs ++ (number_bytes 8 e.next_file ++ (number_bytes 8 e.last.0 ++ part_text e.family))))

-- ---- what can be spelled

abbrev pub IsWord : ℕ → Type 0
IsWord n = n < 2 ^ 64

pub record IsTableWords (t : TableAt) : Type 0 where
  pub level : t.level < 2 ^ 8
  pub number : IsWord t.number

-- so many that a u32 counts them
pub record AreCounted {V : Type 0} (Is : V → Type 0) (items : List V) : Type 0 where
  pub few : length items < 2 ^ 32
  pub each : All Is items

pub record IsSizedFamily (e : FamilyEdit) : Type 0 where
  pub family : e.family.0 < 2 ^ 32
  pub floor : IsWord e.floor.0
  pub through : IsWord e.through.0
  pub added : AreCounted IsTableWords e.add
  pub removed : AreCounted IsWord e.remove

abbrev pub IsSizedPart : Option FamilyEdit → Type 0
IsSizedPart None = ⊤
IsSizedPart (Some e) = IsSizedFamily e

-- its counts, numbers and levels fit their places
pub record IsSized (e : Edit) : Type 0 where
  pub added : AreCounted IsWord e.add_logs
  pub dropped : AreCounted IsWord e.drop_logs
  pub next : IsWord e.next_file
  pub last : IsWord e.last.0
  pub part : IsSizedPart e.family

-- the bytes are this edit
pub record IsEdit (body : List ℕ) (e : Edit) : Type 0 where
  pub sized : IsSized e
  pub is : body ≡ edit_text e
