-- The versions that an index of a block stands for.
use Rattle.std.specs.Prelude.{ℕ, ◌+◌, ◌≤◌, List, map, length, slice_range}
use Rattle.ts_key.specs.Order.{SortKey}
use Rattle.ts_key.specs.Items.{Item}
use Rattle.data_block.specs.declared.index.Entry.{Entry}

abbrev pub key_at : List ℕ → Entry → List ℕ
key_at keys e = slice_range keys e.key_from (e.key_from + e.key_len)

abbrev pub value_at : List ℕ → Entry → List ℕ
value_at image e = slice_range image e.value_from (e.value_from + e.value_len)

abbrev pub sort_key_at : List ℕ → Entry → SortKey
sort_key_at keys e = record { key = key_at keys e; ts = e.ts.0; seq = e.seq.0 }

-- its key lies in the joined keys, its value in the image
abbrev pub item_at : List ℕ → List ℕ → Entry → Item
item_at keys image e = record { sort_key = sort_key_at keys e; kind = e.kind; value = value_at image e }

abbrev pub items_at : List ℕ → List ℕ → List Entry → List Item
items_at keys image es = map (item_at keys image) es

pub record IsWithin (ks bs : List ℕ) (e : Entry) : Type 0 where
  pub key : e.key_from + e.key_len ≤ length ks
  pub value : e.value_from + e.value_len ≤ length bs
