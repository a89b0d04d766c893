-- Whole versions in the stored order.
use Rattle.std.specs.Prelude.{Bool, if◌then◌else◌, List, [], ◌∷◌}
use Rattle.ts_key.specs.declared.version.Version.{Version}
use Rattle.ts_key.specs.Items.{item_of}
use Rattle.ts_key.specs.Order as order

-- a stands before b
abbrev pub is_sorted_before : Version → Version → Bool
is_sorted_before a b = order.is_before (item_of a).sort_key (item_of b).sort_key

-- put where it belongs in a list that is in order, before those of its sort key
abbrev pub with_sorted : Version → List Version → List Version
with_sorted v [] = v ∷ []
with_sorted v (x ∷ xs) = if is_sorted_before x v then x ∷ with_sorted v xs else v ∷ x ∷ xs

-- the versions in the stored order; of two with one sort key the first comes first
abbrev pub sorted : List Version → List Version
sorted [] = []
sorted (v ∷ vs) = with_sorted v (sorted vs)
