-- Blocks that were read one after the other.
use Rattle.std.specs.Prelude.{◌≡◌, ℕ, List, [], ◌∷◌, ◌++◌, length, IsTrue, ◌↔◌, Result, Ok, Err, ⊤}
use Rattle.ts_key.specs.Items.{Item}
use Rattle.ts_key.specs.Lists.{IsSorted}
use Rattle.ts_key.specs.declared.version.Form.{Form}
use Rattle.data_block.specs.declared.block.BlockFault.{BlockFault}
use Rattle.data_block.specs.declared.block.BlockFault.TheVariants.{Bad, NoMemory}
use Rattle.data_block.specs.declared.gather.BlockCut.{BlockCut}
use Rattle.data_block.specs.Grammar.{block_entries, block, IsBlock}
use Rattle.data_block.specs.Reading.{EndsBefore}
use Rattle.data_block.specs.Regions.{LastBegins}
use Rattle.data_block.specs.Faults.{IsBlockFault}

-- an image, and the versions of the blocks that were read of it
pub record Gathered : Type 0 where
  pub image : List ℕ
  pub items : List Item

-- the first of these versions stands after the last of those
abbrev pub ComesAfter : List Item → List Item → Type 0
ComesAfter before [] = Unit {0}
ComesAfter before (v ∷ vs) = EndsBefore before v.sort_key

-- what a block says of how its versions were cut
pub record IsCutOf (form : Form) (before vs : List Item) (c : BlockCut) : Type 0 where
  pub versions : c.versions ≡ length vs
  pub entries : c.entries ≡ length (block_entries form vs)
  pub begins : LastBegins form vs c.before_last
  pub follows : IsTrue c.follows ↔ ComesAfter before vs

-- the bytes are the block of these versions, which stand behind those before
pub record HasGathered (form : Form) (image : List ℕ) (before after : List Item) (c : BlockCut) : Type 0 where
  pub vs : List Item
  pub is_block : IsBlock form vs
  pub spelled : image ≡ block form vs
  pub extent : IsCutOf form before vs c
  pub behind : after ≡ before ++ vs

-- one more block was read; or its bytes leave the grammar, and all stays as it was
abbrev pub GathersBlock : Form → List ℕ → List Item → List Item → Result BlockCut BlockFault → Type 0
GathersBlock form image before after (Ok c) = HasGathered form image before after c
GathersBlock form image before after (Err (Bad at)) = IsBlockFault form image at × (after ≡ before)
GathersBlock form image before after (Err NoMemory) = ⊤

-- versions that come after sorted ones go on with them
abbrev pub ComingAfterSorts : Type 0
ComingAfterSorts = (before vs : List Item) → IsSorted before → IsSorted vs → ComesAfter before vs → IsSorted (before ++ vs)
