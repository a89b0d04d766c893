-- The one spelling of a table.
use Rattle.std.specs.Prelude.{◌≡◌, ℕ, ◌+◌, ◌^◌, ◌<◌, ◌≤◌, List, [], ◌∷◌, ◌++◌, length, codes}
use Rattle.std.specs.List.{flat_map, AllByRecursion}
use Rattle.ts_key.specs.Items.{Item}
use Rattle.ts_key.specs.Lists.{IsSorted, joined_lists}
use Rattle.ts_key.specs.Numbers.{number_bytes}
use Rattle.ts_key.specs.declared.version.Form.{Form}
use Rattle.ts_key.specs.declared.version.Form.TheVariants.{Persist, Strip}
use Rattle.data_block.specs.Grammar.{block_target, block_entries, block, IsBlock}
use Rattle.block_table.specs.declared.handle.BlockHandle.{BlockHandle}
use Rattle.block_table.specs.declared.properties.Properties.{Properties}
use Rattle.block_table.specs.Contents.{Contents, properties_of}

-- ---- the blocks

-- the entries before the last have fewer bytes than the target
abbrev pub EndsInTime : Form → List Item → Type 0
EndsInTime form vs = (before : List Item) (v : Item) → vs ≡ before ++ v ∷ [] → length (block_entries form before) < block_target

-- the entries have at least as many
abbrev pub IsFull : Form → List Item → Type 0
IsFull form vs = block_target ≤ length (block_entries form vs)

-- each block ends with the first entry that brings its entries to the target; only the last may be smaller
abbrev pub AreCut : Form → List (List Item) → Type 0
AreCut form [] = Unit {0}
AreCut form (vs ∷ []) = EndsInTime form vs
AreCut form (vs ∷ ws ∷ rest) = IsFull form vs × EndsInTime form vs × AreCut form (ws ∷ rest)

abbrev pub blocks : Form → List (List Item) → List ℕ
blocks form cuts = flat_map (block form) cuts

-- ---- the index

abbrev pub handle_bytes : BlockHandle → List ℕ
handle_bytes h = number_bytes 8 h.offset ++ number_bytes 8 h.length ++ number_bytes 4 h.versions

-- the handles of blocks, the first of which begins at this offset
abbrev pub handles : Form → ℕ → List (List Item) → List BlockHandle
handles form at [] = []
handles form at (vs ∷ rest) = record { offset = at; length = length (block form vs); versions = length vs } ∷ handles form (at + length (block form vs)) rest

unfoldable pub index : List BlockHandle → List ℕ
index hs = number_bytes 4 (length hs) ++ flat_map handle_bytes hs

-- ---- the properties

abbrev pub form_number : Form → ℕ
form_number Persist = 0
form_number Strip = 1

-- a key behind its length
abbrev pub key_bytes : List ℕ → List ℕ
key_bytes key = number_bytes 2 (length key) ++ key

abbrev pub properties_head : Properties → List ℕ
properties_head p = number_bytes 4 p.family.0 ++ form_number p.form ∷ [] ++ number_bytes 8 p.count

abbrev pub properties_range : Properties → List ℕ
properties_range p = key_bytes p.least ++ key_bytes p.greatest

abbrev pub properties_numbers : Properties → List ℕ
properties_numbers p = number_bytes 8 p.least_seq.0 ++ number_bytes 8 p.greatest_seq.0 ++ number_bytes 8 p.greatest_ts.0

-- what stands before the last number
unfoldable pub properties_front : Properties → List ℕ
properties_front p = properties_head p ++ properties_range p ++ properties_numbers p

abbrev pub properties : Properties → List ℕ
properties p = properties_front p ++ number_bytes 8 p.collected_by.0

-- ---- the table

abbrev pub magic : List ℕ
magic = codes "udttab01"

-- where the index and the properties begin
abbrev pub footer : ℕ → ℕ → List ℕ
footer index_at properties_at = number_bytes 8 index_at ++ number_bytes 8 properties_at ++ magic

-- the parts of a table, and its footer
unfoldable pub with_footer : List ℕ → List ℕ → List ℕ → List ℕ
with_footer blocks index properties = blocks ++ index ++ properties ++ footer (length blocks) (length blocks + length index)

abbrev pub table : Contents → List (List Item) → List ℕ
table t cuts = with_footer (blocks t.form cuts) (index (handles t.form 0 cuts)) (properties (properties_of t))

-- these versions can be cut so
pub record AreBlocks (t : Contents) (cuts : List (List Item)) : Type 0 where
  pub some : 0 < length cuts
  pub count : length cuts < 2 ^ 32
  pub versions : AllByRecursion (λ vs. length vs < 2 ^ 32) cuts
  pub joins : t.items ≡ joined_lists cuts
  pub cut : AreCut t.form cuts
  pub each : AllByRecursion (IsBlock t.form) cuts
  pub sorted : IsSorted t.items
  pub family : t.family < 2 ^ 32
  pub collected_by : t.collected_by < 2 ^ 64
  pub short : length (blocks t.form cuts) < 2 ^ 64

-- the bytes are the table of these contents
pub record IsTable (t : Contents) (image : List ℕ) : Type 0 where
  pub cuts : List (List Item)
  pub blocks : AreBlocks t cuts
  pub spelled : image ≡ table t cuts
