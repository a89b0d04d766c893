-- Lists of versions in the stored order.
use Rattle.std.specs.Prelude.{◌≡◌, ℕ, zero, suc, ◌+◌, ◌≤◌, nat_le, Bool, false, if◌then◌else◌, List, [], ◌∷◌, ◌++◌, Option, None, slice_get}
use Rattle.std.specs.List.{AllByRecursion}
use Rattle.std.specs.Ordering.{is_eq}
use Rattle.std.specs.declared.cmp.Ordering.TheVariants.{Less}
use Rattle.ts_key.specs.Order.{SortKey, sort_cmp, is_before}
use Rattle.ts_key.specs.Items.{Item}

-- each stands before the ones after it
abbrev pub IsSorted : List Item → Type 0
IsSorted [] = Unit {0}
IsSorted (v ∷ vs) = AllByRecursion (λ w. sort_cmp v.sort_key w.sort_key ≡ Less) vs × IsSorted vs

-- none stands before one that it comes after; two may have one sort key
abbrev pub IsOrdered : List Item → Type 0
IsOrdered [] = Unit {0}
IsOrdered (v ∷ vs) = AllByRecursion (λ w. is_before w.sort_key v.sort_key ≡ false) vs × IsOrdered vs

-- how many pass a test
abbrev pub count_of : (Item → Bool) → List Item → ℕ
count_of p [] = 0
count_of p (v ∷ vs) = (if p v then 1 else 0) + count_of p vs

-- no two have one sort key
abbrev pub IsDistinct : List Item → Type 0
IsDistinct vs = (p : SortKey) → count_of (λ v. is_eq (sort_cmp v.sort_key p)) vs ≤ 1

-- how many stand before a sort key
abbrev pub below : SortKey → List Item → ℕ
below to vs = count_of (λ v. is_before v.sort_key to) vs

-- ---- places of a cursor: 0 is before the first version, i + 1 is at the one with index i

abbrev pub standing : {X : Type 0} → List X → ℕ → Option X
standing vs zero = None
standing vs (suc i) = slice_get vs i

-- one place on, up to one after the last of so many
abbrev pub onward : ℕ → ℕ → ℕ
onward len place = if nat_le place len then place + 1 else place

-- ---- sorting

-- put where it belongs in a list that is in order, before those of its sort key
abbrev pub with_item : Item → List Item → List Item
with_item v [] = v ∷ []
with_item v (x ∷ xs) = if is_before x.sort_key v.sort_key then x ∷ with_item v xs else v ∷ x ∷ xs

-- the versions in the stored order; of two with one sort key the first comes first
abbrev pub stored_items : List Item → List Item
stored_items [] = []
stored_items (v ∷ vs) = with_item v (stored_items vs)

-- one list after the other
abbrev pub joined_lists : List (List Item) → List Item
joined_lists [] = []
joined_lists (vs ∷ rest) = vs ++ joined_lists rest

-- several lists merged
abbrev pub merged : List (List Item) → List Item
merged lists = stored_items (joined_lists lists)
