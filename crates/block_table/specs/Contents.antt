-- What a table holds, and what its properties say of that.
use Rattle.std.specs.Prelude.{ℕ, ◌-◌, ◌^◌, min, max, List, [], ◌∷◌, length}
use Rattle.ts_key.specs.Items.{Item}
use Rattle.ts_key.specs.declared.version.Form.{Form}
use Rattle.block_table.specs.declared.properties.Properties.{Properties}

-- versions of one family in the stored order, how their timestamps are spelled, and the floor that they were collected by
pub record Contents : Type 0 where
  pub family : ℕ
  pub form : Form
  pub collected_by : ℕ
  pub items : List Item

-- the least of a number of each version; the greatest number of 64 bits where there is none
abbrev pub least_of : (Item → ℕ) → List Item → ℕ
least_of f [] = 2 ^ 64 - 1
least_of f (v ∷ vs) = min (f v) (least_of f vs)

-- the greatest; 0 where there is none
abbrev pub greatest_of : (Item → ℕ) → List Item → ℕ
greatest_of f [] = 0
greatest_of f (v ∷ vs) = max (f v) (greatest_of f vs)

-- the key of the first version
abbrev pub first_key : List Item → List ℕ
first_key [] = []
first_key (v ∷ vs) = v.sort_key.key

-- the key of the last version
abbrev pub last_user_key : List Item → List ℕ
last_user_key [] = []
last_user_key (v ∷ []) = v.sort_key.key
last_user_key (v ∷ w ∷ vs) = last_user_key (w ∷ vs)

-- the properties of a table with these contents
abbrev pub properties_of : Contents → Properties
properties_of t = record {
  family = record { 0 = t.family };
  form = t.form;
  count = length t.items;
  least = first_key t.items;
  greatest = last_user_key t.items;
  least_seq = record { 0 = least_of (λ v. v.sort_key.seq) t.items };
  greatest_seq = record { 0 = greatest_of (λ v. v.sort_key.seq) t.items };
  greatest_ts = record { 0 = greatest_of (λ v. v.sort_key.ts) t.items };
  collected_by = record { 0 = t.collected_by };
}
