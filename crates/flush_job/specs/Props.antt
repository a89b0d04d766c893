-- That versions stand in order has at most one proof, which a ghost field of a feed of runs asks.
use Rattle.std.specs.Prelude.{◌≡◌, ℕ, zero, suc, Bool, true, false, refl, List, [], ◌∷◌}
use Rattle.std.specs.List.{AllByRecursion}
use Rattle.std.specs.Coded.{×_prop, Unit-prop, Coded, Coded-set, code_by, coded_ℕ}
use Rattle.ts_key.specs.declared.version.Version.{Version}
use Rattle.udt_model.specs.Orders.{is_version_before}
use Rattle.history_gc.specs.Pushed.{AreInOrder, StandsBefore}

abbrev bit_at : ℕ → Bool
bit_at zero = false
bit_at (suc n) = true

abbrev bit_number : Bool → ℕ
bit_number false = 0
bit_number true = 1

bit_back : (a : Bool) → bit_at (bit_number a) ≡ a
bit_back false = refl
bit_back true = refl

bit_code : Coded Bool
bit_code = code_by ℕ coded_ℕ bit_number bit_at bit_back

before_prop : (v w : Version) → IsProp (StandsBefore v w)
before_prop v w = ×_prop (Coded-set coded_ℕ v.family.0 w.family.0) (Coded-set bit_code (is_version_before v w) true)

all_prop : (v : Version) (vs : List Version) → IsProp (AllByRecursion (λ w. StandsBefore v w) vs)
all_prop v [] = Unit-prop
all_prop v (w ∷ ws) = ×_prop (before_prop v w) (all_prop v ws)

pub in_order_prop : (vs : List Version) → IsProp (AreInOrder vs)
in_order_prop [] = Unit-prop
in_order_prop (v ∷ vs) = ×_prop (all_prop v vs) (in_order_prop vs)
