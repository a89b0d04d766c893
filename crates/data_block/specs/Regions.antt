-- Reading the entries of a region, one by one.
use Rattle.std.specs.Prelude.{◌≡◌, ℕ, ◌+◌, ◌<◌, ◌≤◌, slice_range, List, [], ◌∷◌, ◌++◌, length, drop, All, Option, Some, None}
use Rattle.std.specs.List.{AllByRecursion}
use Rattle.ts_key.specs.Items.{Item}
use Rattle.ts_key.specs.StoredKeys.{IsItem}
use Rattle.ts_key.specs.Lists.{IsSorted}
use Rattle.ts_key.specs.declared.version.Form.{Form}
use Rattle.ts_key.specs.Order.{SortKey}
use Rattle.ts_key.specs.declared.version.Kind.{Kind}
use Rattle.data_block.specs.declared.fields.Fields.{Fields}
use Rattle.data_block.specs.declared.index.Index.{Index}
use Rattle.data_block.specs.Grammar.{block_entries, block_restarts, last_key}
use Rattle.data_block.specs.Index.{IsWithin, items_at}
use Rattle.data_block.specs.Reading.{IsNextEntry, EndsBefore}

-- these versions stand at the front of the region, and the rest behind them
pub record IsRun (form : Form) (region : List ℕ) (vs : List Item) (rest : List ℕ) : Type 0 where
  pub parts : region ≡ block_entries form vs ++ rest
  pub items : AllByRecursion (IsItem form) vs
  pub sorted : IsSorted vs

-- the first entry that isn't in the grammar stands at this offset: entries that are stand before it, and no other does there
pub record StopsAt (form : Form) (region : List ℕ) (offset : ℕ) : Type 0 where
  pub vs : List Item
  pub rest : List ℕ
  pub run : IsRun form region vs rest
  pub at : offset ≡ length (block_entries form vs)
  pub some : 0 < length rest
  pub none : (v : Item) (after : List ℕ) → IsNextEntry form (length vs) (last_key form [] vs) rest v after → IsSorted (vs ++ v ∷ []) → ⊥

abbrev pub items_in : List ℕ → Index → List Item
items_in region x = items_at x.keys.items region x.entries.items

-- the version whose parts stand at an offset
abbrev pub item_in : List ℕ → ℕ → Fields → SortKey → Kind → Item
item_in region at f k kind = record { sort_key = k; kind = kind; value = slice_range region (at + 8 + length f.key.now) (at + 8 + length f.key.now + length f.value.now) }

-- the last of the versions begins at this offset
abbrev pub LastBegins : Form → List Item → ℕ → Type 0
LastBegins form vs at = (before : List Item) (v : Item) → vs ≡ before ++ v ∷ [] → at ≡ length (block_entries form before)

-- the region was read up to an offset
pub record HasRead (form : Form) (region : List ℕ) (offset : ℕ) (x : Index) (last : List ℕ) : Type 0 where
  pub fits : offset ≤ length region
  pub within : All (IsWithin x.keys.items region) x.entries.items
  pub run : IsRun form region (items_in region x) (drop offset region)
  pub restarts : x.restarts.items ≡ block_restarts form (items_in region x)
  pub begins : LastBegins form (items_in region x) x.last_at
  pub ends : last ≡ last_key form [] (items_in region x)

-- no entry stands at the offset that goes on
abbrev pub NoneAt : Form → List ℕ → ℕ → Index → List ℕ → Type 0
NoneAt form region offset x last = (v : Item) (after : List ℕ) → IsNextEntry form (length x.entries.items) last (drop offset region) v after → EndsBefore (items_in region x) v.sort_key → ⊥

-- one more entry was read, which ends there; or there is none
abbrev pub TakesNext : Form → List ℕ → ℕ → Index → List ℕ → Index → List ℕ → Option ℕ → Type 0
TakesNext form region offset old old_last new new_last (Some end) = (offset < end) × HasRead form region end new new_last
TakesNext form region offset old old_last new new_last None = NoneAt form region offset old old_last

-- the index stands for the whole region
pub record HasReadWhole (form : Form) (region : List ℕ) (x : Index) : Type 0 where
  pub within : All (IsWithin x.keys.items region) x.entries.items
  pub run : IsRun form region (items_in region x) []
  pub restarts : x.restarts.items ≡ block_restarts form (items_in region x)
  pub begins : LastBegins form (items_in region x) x.last_at

-- the whole region was read, or up to the first entry that isn't in the grammar
abbrev pub ReadsRegion : Form → List ℕ → Index → Option ℕ → Type 0
ReadsRegion form region x (Some at) = StopsAt form region at
ReadsRegion form region x None = HasReadWhole form region x
