-- Where bytes leave the grammar of a block.
use Rattle.std.specs.Prelude.{◌≡◌, ℕ, ◌+◌, ◌*◌, ◌^◌, ◌<◌, ◌≤◌, All, List, [], length, take, drop, Result, Ok, Err, ⊤}
use Rattle.ts_key.specs.Items.{Item}
use Rattle.ts_key.specs.Numbers.{number_bytes}
use Rattle.ts_key.specs.declared.version.Form.{Form}
use Rattle.data_block.specs.declared.block.BlockFault.{BlockFault}
use Rattle.data_block.specs.declared.block.BlockFault.TheVariants.{Bad, NoMemory}
use Rattle.data_block.specs.Grammar.{block_entries, block, IsBlock}
use Rattle.data_block.specs.Index.{IsWithin}
use Rattle.data_block.specs.declared.index.Index.{Index}
use Rattle.data_block.specs.Regions.{IsRun, StopsAt, LastBegins, items_in}

-- n bytes of entries, and behind them as many restarts as the last four bytes say
pub record EndsAt (image : List ℕ) (n : ℕ) : Type 0 where
  pub count : ℕ
  pub small : count < 2 ^ 32
  pub whole : n + 4 * count + 4 ≡ length image
  pub told : drop (n + 4 * count) image ≡ number_bytes 4 count

-- the restarts and their count don't fit
abbrev pub HasNoEnd : List ℕ → Type 0
HasNoEnd image = (n : ℕ) → EndsAt image n → ⊥

-- entries in the grammar, with a tail that isn't theirs
pub record EndsBadly (form : Form) (image : List ℕ) (n : ℕ) : Type 0 where
  pub vs : List Item
  pub run : IsRun form (take n image) vs []
  pub wrong : IsBlock form vs → image ≡ block form vs → ⊥

-- the offset of the fault: the image's length where the restarts don't fit, else the first entry that isn't in the
-- grammar, else where the restarts begin
pub data IsBlockFault (form : Form) (image : List ℕ) (at : ℕ) : Type 0 where
  no_end : HasNoEnd image → at ≡ length image → IsBlockFault form image at
  bad_entry : (n : ℕ) → EndsAt image n → StopsAt form (take n image) at → IsBlockFault form image at
  bad_tail : EndsAt image at → EndsBadly form image at → IsBlockFault form image at

-- the image is the spelling of what was read; or it leaves the grammar there
abbrev pub ReadsBlock : Form → List ℕ → Result (List Item) BlockFault → Type 0
ReadsBlock form image (Ok vs) = IsBlock form vs × (image ≡ block form vs)
ReadsBlock form image (Err (Bad at)) = IsBlockFault form image at
ReadsBlock form image (Err NoMemory) = ⊤

-- bytes with a fault spell no list
abbrev pub FaultsAreRight : Type 0
FaultsAreRight = (form : Form) (image : List ℕ) (at : ℕ) → IsBlockFault form image at → (vs : List Item) → IsBlock form vs → image ≡ block form vs → ⊥

-- there is one place of the fault
abbrev pub FaultsAreSingle : Type 0
FaultsAreSingle = (form : Form) (image : List ℕ) (a b : ℕ) → IsBlockFault form image a → IsBlockFault form image b → a ≡ b

-- a list is known by its spelling
abbrev pub BlocksAreUnique : Type 0
BlocksAreUnique = (form : Form) (vs ws : List Item) → IsBlock form vs → IsBlock form ws → block form vs ≡ block form ws → vs ≡ ws

-- the index stands for the versions of the image, whose entries end there
pub record IsIndexOf (form : Form) (image : List ℕ) (end : ℕ) (x : Index) : Type 0 where
  pub fits : end ≤ length image
  pub within : All (IsWithin x.keys.items (take end image)) x.entries.items
  pub versions : IsBlock form (items_in (take end image) x)
  pub spelled : image ≡ block form (items_in (take end image) x)
  pub entries : end ≡ length (block_entries form (items_in (take end image) x))
  pub begins : LastBegins form (items_in (take end image) x) x.last_at

-- so it does; or the image leaves the grammar
abbrev pub ReadsImage : Form → List ℕ → Index → Result ℕ BlockFault → Type 0
ReadsImage form image x (Ok end) = IsIndexOf form image end x
ReadsImage form image x (Err (Bad at)) = IsBlockFault form image at
ReadsImage form image x (Err NoMemory) = ⊤
