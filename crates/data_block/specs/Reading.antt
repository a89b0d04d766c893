-- An entry as it is read.
use Rattle.std.specs.Prelude.{◌≡◌, ℕ, ◌≤◌, List, [], ◌∷◌, ◌++◌, length, take, Option, Some, None}
use Rattle.std.specs.declared.cmp.Ordering.TheVariants.{Less}
use Rattle.ts_key.specs.Order.{SortKey, sort_cmp, sort_key_of}
use Rattle.ts_key.specs.Items.{Item}
use Rattle.ts_key.specs.StoredKeys.{IsItem}
use Rattle.ts_key.specs.declared.version.Form.{Form}
use Rattle.ts_key.specs.declared.version.Kind.{Kind}
use Rattle.ts_key.specs.declared.lent.KeyRef.{KeyRef}
use Rattle.data_block.specs.declared.fields.Fields.{Fields}
use Rattle.data_block.specs.Grammar.{shared, entry_of}
use Rattle.data_block.specs.Fields.{bytes_of_fields}

-- the version with index n, behind the stored key `last`, stands at the front of the bytes
pub record IsNextEntry (form : Form) (n : ℕ) (last bytes : List ℕ) (v : Item) (rest : List ℕ) : Type 0 where
  pub parts : bytes ≡ entry_of form n last v ++ rest
  pub item : IsItem form v

-- the stored key that the parts give
abbrev pub joined_key : List ℕ → Fields → List ℕ
joined_key last f = take f.shared last ++ f.key.now

-- as many bytes are shared as the grammar wants
pub record IsJoined (n : ℕ) (last : List ℕ) (f : Fields) : Type 0 where
  pub within : f.shared ≤ length last
  pub exact : f.shared ≡ shared n last (joined_key last f)

abbrev pub item_from : Fields → KeyRef × Kind → Item
item_from f found = record { sort_key = sort_key_of found.0; kind = found.1; value = f.value.now }

-- the parts are the entry of the version that was found; where none was, they are none
abbrev pub ReadsNext : Form → ℕ → List ℕ → Fields → Option (KeyRef × Kind) → Type 0
ReadsNext form n last f None = (v : Item) (rest : List ℕ) → IsNextEntry form n last (bytes_of_fields f) v rest → ⊥
ReadsNext form n last f (Some found) = IsNextEntry form n last (bytes_of_fields f) (item_from f found) f.rest.now

-- the last one, if there is one, stands before the sort key
abbrev pub EndsBefore : List Item → SortKey → Type 0
EndsBefore [] to = Unit {0}
EndsBefore (x ∷ []) to = sort_cmp x.sort_key to ≡ Less
EndsBefore (x ∷ y ∷ vs) to = EndsBefore (y ∷ vs) to
