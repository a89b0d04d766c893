-- Reading the blocks of a table, one after the other.
use Rattle.std.specs.Prelude.{◌≡◌, ℕ, ◌+◌, ◌<◌, ◌≤◌, Bool, true, false, List, ◌++◌, length, take, slice_range, Result, Ok, Err, ⊤, ◌⊎◌}
use Rattle.std.specs.List.{AllByRecursion}
use Rattle.ts_key.specs.Items.{Item}
use Rattle.ts_key.specs.Lists.{IsSorted, joined_lists}
use Rattle.ts_key.specs.declared.version.Form.{Form}
use Rattle.data_block.specs.Grammar.{block_target, block, IsBlock}
use Rattle.data_block.specs.declared.gather.BlockCut.{BlockCut}
use Rattle.data_block.specs.Gathered.{ComesAfter}
use Rattle.block_table.specs.declared.handle.BlockHandle.{BlockHandle}
use Rattle.block_table.specs.declared.fault.TableFault.{TableFault}
use Rattle.block_table.specs.declared.fault.TableFault.TheVariants.{Bad, NoMemory}
use Rattle.block_table.specs.Tables.{EndsInTime, IsFull, AreCut, blocks, handles}
use Rattle.block_table.specs.Pushed.{IsDone}

abbrev pub handle_of : Form → ℕ → List Item → BlockHandle
handle_of form at vs = record { offset = at; length = length (block form vs); versions = length vs }

-- a block has as many versions as its handle says, goes on behind those before it, and ends where a block is to end
pub record IsCutRightly (c : BlockCut) (h : BlockHandle) (is_last : Bool) : Type 0 where
  pub versions : c.versions ≡ h.versions
  pub follows : c.follows ≡ true
  pub in_time : c.before_last < block_target
  pub full : (is_last ≡ true) ⊎ (block_target ≤ c.entries)

-- The block of these versions stands at an offset of the image, before `end`, as the handle says. It goes on behind the
-- versions before it, and ends where a block is to end.
pub record IsBlockAt (form : Form) (image : List ℕ) (before : List Item) (h : BlockHandle) (at end : ℕ) (is_last : Bool) (vs : List Item) : Type 0 where
  pub is_block : IsBlock form vs
  pub there : slice_range image at (at + length (block form vs)) ≡ block form vs
  pub within : at + length (block form vs) ≤ end
  pub handle : h ≡ handle_of form at vs
  pub in_time : EndsInTime form vs
  pub full : is_last ≡ false → IsFull form vs
  pub follows : ComesAfter before vs

-- the block of these versions was read behind those before, and its bytes end there
pub record HasAddedBlock (form : Form) (image : List ℕ) (before after : List Item) (h : BlockHandle) (at end : ℕ) (is_last : Bool) (to : ℕ) : Type 0 where
  pub vs : List Item
  pub is_at : IsBlockAt form image before h at end is_last vs
  pub ends : to ≡ at + length (block form vs)
  pub behind : after ≡ before ++ vs

-- such a block was read; or there is none
abbrev pub AddsBlock : Form → List ℕ → List Item → List Item → BlockHandle → ℕ → ℕ → Bool → Result ℕ TableFault → Type 0
AddsBlock form image before after h at end is_last (Ok to) = HasAddedBlock form image before after h at end is_last to
AddsBlock form image before after h at end is_last (Err Bad) = (vs : List Item) → IsBlockAt form image before h at end is_last vs → ⊥
AddsBlock form image before after h at end is_last (Err NoMemory) = ⊤

-- the image begins with these blocks, up to `end`, and the handles are theirs
pub record AreBlocksOf (form : Form) (image : List ℕ) (end : ℕ) (hs : List BlockHandle) (cuts : List (List Item)) : Type 0 where
  pub some : 0 < length cuts
  pub cut : AreCut form cuts
  pub each : AllByRecursion (IsBlock form) cuts
  pub sorted : IsSorted (joined_lists cuts)
  pub handles : hs ≡ handles form 0 cuts
  pub spelled : take end image ≡ blocks form cuts

-- such blocks have these versions, and there are no others
pub record AreOnlyBlocksOf (form : Form) (image : List ℕ) (end : ℕ) (hs : List BlockHandle) (items : List Item) : Type 0 where
  pub cuts : List (List Item)
  pub are : AreBlocksOf form image end hs cuts
  pub joins : items ≡ joined_lists cuts
  pub only : (others : List (List Item)) → AreBlocksOf form image end hs others → others ≡ cuts

-- such blocks were read; or there are none
abbrev pub ReadsBlocks : Form → List ℕ → ℕ → List BlockHandle → Result (List Item) TableFault → Type 0
ReadsBlocks form image end hs (Ok items) = AreOnlyBlocksOf form image end hs items
ReadsBlocks form image end hs (Err Bad) = (cuts : List (List Item)) → AreBlocksOf form image end hs cuts → ⊥
ReadsBlocks form image end hs (Err NoMemory) = ⊤

-- so many blocks were read, up to an offset
pub record HasReadBlocks (form : Form) (image : List ℕ) (end : ℕ) (hs : List BlockHandle) (n at : ℕ) (items : List Item) : Type 0 where
  pub done : List (List Item)
  pub count : length done ≡ n
  pub place : at ≡ length (blocks form done)
  pub there : take at image ≡ blocks form done
  pub within : at ≤ end
  pub cut : AreCut form done
  pub full : n < length hs → AllByRecursion (IsDone form) done
  pub each : AllByRecursion (IsBlock form) done
  pub handles : handles form 0 done ≡ take n hs
  pub versions : items ≡ joined_lists done
  pub sorted : IsSorted items
  -- no other blocks are there
  pub only : (cuts : List (List Item)) → AreBlocksOf form image end hs cuts → (rest : List (List Item)) × (cuts ≡ done ++ rest)
