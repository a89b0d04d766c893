-- Sorted versions, and more of them after the last one.
use Rattle.std.proofs.Common.{◌≡◌, List, [], ◌∷◌, ◌++◌, sym, subst, append_assoc}
use Rattle.std.specs.List.{AllByRecursion}
use Rattle.std.specs.declared.cmp.Ordering.TheVariants.{Less}
use Rattle.std.proofs.lemmas.List.{append-nil}
use Rattle.ts_key.specs.Order.{SortKey, sort_cmp}
use Rattle.ts_key.specs.Items.{Item}
use Rattle.ts_key.specs.Lists.{IsSorted}
use Rattle.data_block.specs.Reading.{EndsBefore}
use Rattle.data_block.specs.Gathered.{ComesAfter}
use Rattle.data_block.proofs.Runs.{sorted_snoc}

ends_snoc : (xs : List Item) (y : Item) (to : SortKey) → sort_cmp y.sort_key to ≡ Less → EndsBefore (xs ++ y ∷ []) to
ends_snoc [] y to l = l
ends_snoc (x ∷ []) y to l = l
ends_snoc (x ∷ z ∷ xs) y to l = ends_snoc (z ∷ xs) y to l

next_comes : (xs : List Item) (y : Item) (ys : List Item) → AllByRecursion (λ w. sort_cmp y.sort_key w.sort_key ≡ Less) ys → ComesAfter (xs ++ y ∷ []) ys
next_comes xs y [] h = tt
next_comes xs y (z ∷ ys) h = ends_snoc xs y z.sort_key h.0

-- versions that come after sorted ones go on with them
pub sorted_join : (xs ys : List Item) → IsSorted xs → IsSorted ys → ComesAfter xs ys → IsSorted (xs ++ ys)
sorted_join xs [] s t f = subst IsSorted (sym (append-nil xs)) s
sorted_join xs (y ∷ ys) s t f =
    subst IsSorted (append_assoc xs (y ∷ []) ys) (sorted_join (xs ++ y ∷ []) ys (sorted_snoc xs y s f) t.1 (next_comes xs y ys t.0))
