-- What a writer has written.
use Rattle.std.specs.Prelude.{◌≡◌, ℕ, List, [], length}
use Rattle.std.specs.List.{AllByRecursion}
use Rattle.ts_key.specs.Items.{Item}
use Rattle.ts_key.specs.StoredKeys.{IsItem}
use Rattle.ts_key.specs.declared.version.Form.{Form}
use Rattle.data_block.specs.Grammar.{block_entries, block_restarts, last_key}

-- the entries so far, the offsets of every sixteenth, how many entries there are, and the stored key of the last
pub record Written : Type 0 where
  pub form : Form
  pub entries : List ℕ
  pub restarts : List ℕ
  pub count : ℕ
  pub last : List ℕ

-- these versions were pushed, in this order
pub record HasWritten (w : Written) (vs : List Item) : Type 0 where
  pub entries : w.entries ≡ block_entries w.form vs
  pub restarts : w.restarts ≡ block_restarts w.form vs
  pub count : w.count ≡ length vs
  pub last : w.last ≡ last_key w.form [] vs
  pub items : AllByRecursion (IsItem w.form) vs
