-- The one spelling of a block.
use Rattle.std.specs.Prelude.{ℕ, ◌+◌, ◌-◌, ◌%◌, ◌^◌, ◌<◌, ◌==◌, if◌then◌else◌, List, [], ◌∷◌, ◌++◌, length, drop, nat_eq, All}
use Rattle.std.specs.List.{common_prefix_len, flat_map, AllByRecursion}
use Rattle.ts_key.specs.Numbers.{number_bytes}
use Rattle.ts_key.specs.Items.{Item}
use Rattle.ts_key.specs.StoredKeys.{IsItem}
use Rattle.ts_key.specs.Lists.{IsSorted}
use Rattle.ts_key.specs.StoredKeys.{stored_key}
use Rattle.ts_key.specs.declared.version.Form.{Form}

-- from one restart to the next there are so many entries
abbrev pub restart_interval : ℕ
restart_interval = 16

-- the bytes of entries from which on a block is full
abbrev pub block_target : ℕ
block_target = 4096

-- the stored key of a version
abbrev pub stored_key_of : Form → Item → List ℕ
stored_key_of form v = stored_key form v.sort_key v.kind

-- how many bytes of the stored key before it the entry with index n leaves out
abbrev pub shared : ℕ → List ℕ → List ℕ → ℕ
shared n last key = if n % restart_interval == 0 then 0 else common_prefix_len nat_eq last key

abbrev pub entry : ℕ → List ℕ → List ℕ → List ℕ
entry shared key value = number_bytes 2 shared ++ number_bytes 2 (length key - shared) ++ number_bytes 4 (length value) ++ drop shared key ++ value

-- the entry of a version with index n, behind the stored key `last`
abbrev pub entry_of : Form → ℕ → List ℕ → Item → List ℕ
entry_of form n last v = entry (shared n last (stored_key_of form v)) (stored_key_of form v) v.value

-- the entries from index n on, behind the stored key `last`
unfoldable pub entries : Form → ℕ → List ℕ → List Item → List ℕ
entries form n last [] = []
entries form n last (v ∷ vs) = entry_of form n last v ++ entries form (n + 1) (stored_key_of form v) vs

-- the stored key of the last version, or the one before them all
abbrev pub last_key : Form → List ℕ → List Item → List ℕ
last_key form last [] = last
last_key form last (v ∷ vs) = last_key form (stored_key_of form v) vs

-- the offset of an entry, where its index is a multiple of `restart_interval`
abbrev pub restart : ℕ → ℕ → List ℕ
restart n at = if n % restart_interval == 0 then at ∷ [] else []

unfoldable pub restarts : Form → ℕ → List ℕ → ℕ → List Item → List ℕ
restarts form n last at [] = []
restarts form n last at (v ∷ vs) = restart n at ++ restarts form (n + 1) (stored_key_of form v) (at + length (entry_of form n last v)) vs

-- the restarts and their count
abbrev pub numbers : List ℕ → List ℕ
numbers ns = flat_map (number_bytes 4) ns ++ number_bytes 4 (length ns)

-- all the entries of a block, and where every sixteenth begins
abbrev pub block_entries : Form → List Item → List ℕ
block_entries form vs = entries form 0 [] vs

abbrev pub block_restarts : Form → List Item → List ℕ
block_restarts form vs = restarts form 0 [] 0 vs

abbrev pub block : Form → List Item → List ℕ
block form vs = block_entries form vs ++ numbers (block_restarts form vs)

-- numbers of 32 bits, and as many
pub record AreShort (ns : List ℕ) : Type 0 where
  pub each : All (λ n. n < 2 ^ 32) ns
  pub count : length ns < 2 ^ 32

-- what has a spelling
pub record IsBlock (form : Form) (vs : List Item) : Type 0 where
  pub some : 0 < length vs
  pub sorted : IsSorted vs
  pub items : AllByRecursion (IsItem form) vs
  pub offsets : AreShort (block_restarts form vs)
