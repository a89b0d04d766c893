-- What is counted of versions.
use Rattle.std.specs.Prelude.{List, length}
use Rattle.ts_key.specs.Items.{Item}
use Rattle.block_table.specs.declared.tally.Tally.{Tally}
use Rattle.block_table.specs.Contents.{least_of, greatest_of}

-- what is counted of a list
abbrev pub tally_of : List Item → Tally
tally_of vs = record {
  count = length vs;
  least_seq = record { 0 = least_of (λ v. v.sort_key.seq) vs };
  greatest_seq = record { 0 = greatest_of (λ v. v.sort_key.seq) vs };
  greatest_ts = record { 0 = greatest_of (λ v. v.sort_key.ts) vs };
}
