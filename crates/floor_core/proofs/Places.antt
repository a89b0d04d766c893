-- Families by their places.
use Rattle.std.proofs.Common.{◌≡◌, ℕ, zero, suc, ◌<◌, ◌≤◌, Bool, true, false, ◌||◌, ◌++◌, List, [], ◌∷◌, length, get_or, refl, sym, ap, ◌∙◌, arith}
use Rattle.std.specs.Prelude.{slice_set, flat_map, ◌==◌}
use Rattle.std.specs.List.{list_any}
use Rattle.udt_model.specs.State.{FamilyState, LiveTable, changed_at, numbers_of}
use Rattle.udt_model.specs.Jobs.{has_number}

-- the changed family stands in its place
pub set_changed : (fs : List FamilyState) (n : ℕ) (change : FamilyState → FamilyState) (f g : FamilyState) → n < length fs → f ≡ get_or fs n f → g ≡ change f → slice_set fs n g ≡ changed_at n change fs
set_changed [] n change f g lt at e = absurd (omega arith)
set_changed (x ∷ xs) zero change f g lt at e = ap (λ (z : FamilyState). z ∷ xs) (e ∙ ap change at)
set_changed (x ∷ xs) (suc n) change f g lt at e = ap (λ (z : List FamilyState). x ∷ z) (set_changed xs n change f g (omega arith) at e)

-- there is no such place
pub none_changed : (fs : List FamilyState) (n : ℕ) (change : FamilyState → FamilyState) → length fs ≤ n → fs ≡ changed_at n change fs
none_changed [] n change le = refl
none_changed (x ∷ xs) zero change le = absurd (omega arith)
none_changed (x ∷ xs) (suc n) change le = ap (λ (z : List FamilyState). x ∷ z) (none_changed xs n change (omega arith))

-- ---- numbers of live tables

or_assoc : (a b c : Bool) → ((a || b) || c) ≡ (a || (b || c))
or_assoc true b c = refl
or_assoc false b c = refl

has_more : (n : ℕ) (xs ys : List ℕ) → has_number (xs ++ ys) n ≡ (has_number xs n || has_number ys n)
has_more n [] ys = refl
has_more n (x ∷ xs) ys = ap (λ b. (x == n) || b) (has_more n xs ys) ∙ sym (or_assoc (x == n) (has_number xs n) (has_number ys n))

pub has_mapped : (n : ℕ) (ts : List LiveTable) → list_any (λ (t : LiveTable). t.number == n) ts ≡ has_number (numbers_of ts) n
has_mapped n [] = refl
has_mapped n (t ∷ ts) = ap (λ b. (t.number == n) || b) (has_mapped n ts)

pub live_is : (fs : List FamilyState) (n : ℕ) → list_any (λ (f : FamilyState). list_any (λ (t : LiveTable). t.number == n) f.tables) fs ≡ has_number (flat_map (λ (f : FamilyState). numbers_of f.tables) fs) n
live_is [] n = refl
live_is (f ∷ fs) n =
    ap (λ b. b || list_any (λ (g : FamilyState). list_any (λ (t : LiveTable). t.number == n) g.tables) fs) (has_mapped n f.tables)
    ∙ ap (λ b. has_number (numbers_of f.tables) n || b) (live_is fs n)
    ∙ sym (has_more n (numbers_of f.tables) (flat_map (λ (g : FamilyState). numbers_of g.tables) fs))
