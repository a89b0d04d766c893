-- Places in a slice of versions.
use Rattle.std.specs.Prelude.{ℕ, ◌+◌, ◌≤◌, List, length}
use Rattle.std.proofs.Common.{arith}
use Rattle.std.proofs.lemmas.List.{length-map}
use Rattle.ts_key.specs.Items.{item_of, items_of}
use Rattle.ts_key.specs.declared.version.Version.{Version}

pub length_within : (vs : List Version) (n : ℕ) → n ≤ length vs + 1 → n ≤ length (items_of vs) + 1
length_within vs n h = omega (arith, h, length-map vs item_of)
