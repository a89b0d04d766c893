-- What a table's writer was given.
use Rattle.std.specs.Prelude.{◌≡◌, ℕ, ◌<◌, ◌^◌, List, [], ◌∷◌, ◌++◌, length}
use Rattle.std.specs.List.{AllByRecursion}
use Rattle.ts_key.specs.Items.{Item, item_of}
use Rattle.ts_key.specs.Lists.{IsSorted, joined_lists}
use Rattle.ts_key.specs.StoredKeys.{IsItem}
use Rattle.ts_key.specs.declared.numbers.Family.{Family}
use Rattle.ts_key.specs.declared.numbers.Ts.{Ts}
use Rattle.ts_key.specs.declared.version.Form.{Form}
use Rattle.ts_key.specs.declared.version.Version.{Version}
use Rattle.data_block.specs.Grammar.{block_target, block_entries, IsBlock}
use Rattle.data_block.specs.Written.{Written, HasWritten}
use Rattle.block_table.specs.declared.writer.TableWriter.{TableWriter}
use Rattle.block_table.specs.Contents.{Contents}
use Rattle.block_table.specs.Tallies.{tally_of}
use Rattle.block_table.specs.Ranges.{IsRangeOf}
use Rattle.block_table.specs.Tables.{EndsInTime, IsFull, AreCut, blocks, handles, table}

abbrev pub contents_of : Family → Form → Ts → List Item → Contents
contents_of family form collected_by vs = record { family = family.0; form = form; collected_by = collected_by.0; items = vs }

-- the contents with one version more
abbrev pub and_version : Contents → Version → Contents
and_version t v = record t { items = t.items ++ item_of v ∷ [] }

-- these versions can be read again as a block, where they are sorted
abbrev pub IsReadable : Form → List Item → Type 0
IsReadable form vs = IsSorted vs → 0 < length vs → IsBlock form vs

-- these versions were written to a block
pub record IsOpen (form : Form) (block : Written) (vs : List Item) : Type 0 where
  pub form_is : block.form ≡ form
  pub written : HasWritten block vs

-- the writer's blocks that are done have these versions, and those of the open one come behind
pub record IsBehind (w : TableWriter) (t : Contents) (done : List (List Item)) (open_items : List Item) : Type 0 where
  pub family : w.family.0 ≡ t.family
  pub form : w.form ≡ t.form
  pub collected_by : w.collected_by.0 ≡ t.collected_by
  pub items : t.items ≡ joined_lists done ++ open_items
  pub bytes : w.blocks.items ≡ blocks t.form done
  pub index : w.handles.items ≡ handles t.form 0 done
  pub versions : w.versions ≡ length open_items
  pub tally : w.tally ≡ tally_of t.items
  pub range : IsRangeOf w.range t.items
  pub fit : AllByRecursion (IsItem t.form) t.items
  pub readable : AllByRecursion (IsReadable t.form) done
  pub few : AllByRecursion (λ vs. length vs < 2 ^ 32) done

-- a block that isn't the last
pub record IsDone (form : Form) (vs : List Item) : Type 0 where
  pub full : IsFull form vs
  pub in_time : EndsInTime form vs

-- the versions of these contents were pushed, in this order
pub record HasPushed (w : TableWriter) (t : Contents) : Type 0 where
  pub done : List (List Item)
  pub open_items : List Item
  pub behind : IsBehind w t done open_items
  pub is_open : IsOpen t.form w.block open_items
  pub each : AllByRecursion (IsDone t.form) done
  pub room : length (block_entries t.form open_items) < block_target

-- the versions of these contents were pushed, in the stored order, and there is one
pub record IsWholeTable (w : TableWriter) (t : Contents) : Type 0 where
  pub pushed : HasPushed w t
  pub some : 0 < length t.items
  pub sorted : IsSorted t.items

-- the blocks of these contents have so many bytes
pub record HaveBlockBytes (t : Contents) (n : ℕ) : Type 0 where
  pub cuts : List (List Item)
  pub joins : t.items ≡ joined_lists cuts
  pub cut : AreCut t.form cuts
  pub some_each : AllByRecursion (λ vs. 0 < length vs) cuts
  pub bytes : n ≡ length (blocks t.form cuts)

-- all blocks are done
pub record AreBlocksDone (w : TableWriter) (t : Contents) (cuts : List (List Item)) : Type 0 where
  pub behind : IsBehind w t cuts []
  pub some : 0 < length cuts
  pub cut : AreCut t.form cuts
  pub some_each : AllByRecursion (λ vs. 0 < length vs) cuts

-- the bytes are spelled as the table of these contents
pub record IsSpelled (t : Contents) (image : List ℕ) : Type 0 where
  pub cuts : List (List Item)
  pub some : 0 < length cuts
  pub count : length cuts < 2 ^ 32
  pub joins : t.items ≡ joined_lists cuts
  pub cut : AreCut t.form cuts
  pub some_each : AllByRecursion (λ vs. 0 < length vs) cuts
  pub readable : AllByRecursion (IsReadable t.form) cuts
  pub few : AllByRecursion (λ vs. length vs < 2 ^ 32) cuts
  pub family : t.family < 2 ^ 32
  pub collected_by : t.collected_by < 2 ^ 64
  pub spelled : image ≡ table t cuts
