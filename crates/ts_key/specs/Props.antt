-- That a list is sorted, or in order, has at most one proof.
use Rattle.std.specs.Prelude.{◌≡◌, ℕ, zero, suc, Bool, true, false, refl, List, [], ◌∷◌}
use Rattle.std.specs.List.{AllByRecursion}
use Rattle.std.specs.Coded.{×_prop, Unit-prop, Coded, Coded-set, code_by, coded_ℕ}
use Rattle.std.specs.declared.cmp.Ordering.{Ordering}
use Rattle.std.specs.declared.cmp.Ordering.TheVariants.{Less, Equal, Greater}
use Rattle.ts_key.specs.Order.{sort_cmp, is_before}
use Rattle.ts_key.specs.Items.{Item}
use Rattle.ts_key.specs.Lists.{IsSorted, IsOrdered}

abbrev ordering_at : ℕ → Ordering
ordering_at zero = Less
ordering_at (suc zero) = Equal
ordering_at (suc (suc n)) = Greater

abbrev ordering_number : Ordering → ℕ
ordering_number Less = 0
ordering_number Equal = 1
ordering_number Greater = 2

ordering_back : (a : Ordering) → ordering_at (ordering_number a) ≡ a
ordering_back Less = refl
ordering_back Equal = refl
ordering_back Greater = refl

ordering_code : Coded Ordering
ordering_code = code_by ℕ coded_ℕ ordering_number ordering_at ordering_back

answer_prop : (a b : Ordering) → IsProp (a ≡ b)
answer_prop a b = Coded-set ordering_code a b

all_prop : (v : Item) (vs : List Item) → IsProp (AllByRecursion (λ w. sort_cmp v.sort_key w.sort_key ≡ Less) vs)
all_prop v [] = Unit-prop
all_prop v (w ∷ ws) = ×_prop (answer_prop (sort_cmp v.sort_key w.sort_key) Less) (all_prop v ws)

pub sorted_prop : (vs : List Item) → IsProp (IsSorted vs)
sorted_prop [] = Unit-prop
sorted_prop (v ∷ vs) = ×_prop (all_prop v vs) (sorted_prop vs)

abbrev bit_at : ℕ → Bool
bit_at zero = false
bit_at (suc n) = true

abbrev bit_number : Bool → ℕ
bit_number false = 0
bit_number true = 1

bit_back : (a : Bool) → bit_at (bit_number a) ≡ a
bit_back false = refl
bit_back true = refl

bit_code : Coded Bool
bit_code = code_by ℕ coded_ℕ bit_number bit_at bit_back

test_prop : (a b : Bool) → IsProp (a ≡ b)
test_prop a b = Coded-set bit_code a b

none_prop : (v : Item) (vs : List Item) → IsProp (AllByRecursion (λ w. is_before w.sort_key v.sort_key ≡ false) vs)
none_prop v [] = Unit-prop
none_prop v (w ∷ ws) = ×_prop (test_prop (is_before w.sort_key v.sort_key) false) (none_prop v ws)

pub ordered_prop : (vs : List Item) → IsProp (IsOrdered vs)
ordered_prop [] = Unit-prop
ordered_prop (v ∷ vs) = ×_prop (none_prop v vs) (ordered_prop vs)
