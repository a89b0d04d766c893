-- Tables in order.
use Rattle.std.proofs.Common.{◌≡◌, ℕ, ◌≤◌, Bool, true, false, cond, List, [], ◌∷◌, refl, sym, ◌∙◌, inl, inr, arith}
use Rattle.std.specs.Prelude.{filter, nat_lt, ◌==◌, if◌then◌else◌}
use Rattle.std.specs.List.{AllByRecursion}
use Rattle.std.specs.Ordering.{nat_cmp, is_lt, ordering_then}
use Rattle.std.specs.Cmp.Lexicographic.{slice_cmp}
use Rattle.std.specs.declared.cmp.Ordering.{Ordering}
use Rattle.std.specs.declared.cmp.Ordering.TheVariants.{Less, Equal, Greater}
use Rattle.std.proofs.lemmas.Bool.{cases_Bool}
use Rattle.std.proofs.lemmas.Bool.Decides.{nat_tests}
use Rattle.ts_key.specs.Order.{SortKey, is_before}
use Rattle.ts_key.specs.Orders.{before_back, upto_upto}
use Rattle.super_version.specs.Live.{Live}
use Rattle.super_version.specs.Levels.{StandInOrder, is_table_kept, placed_on_level, placed_all, table_properties, stands_before}

-- where a table stands on level 0, and where on another level
abbrev place_by : Bool → Live → SortKey
place_by true t = record { key = []; ts = 0; seq = (table_properties t).greatest_seq.0 }
place_by false t = record { key = (table_properties t).least; ts = 0; seq = 0 }

abbrev place_on : ℕ → Live → SortKey
place_on level t = place_by (level == 0) t

less_is : (p q : Bool) → p ≡ is_lt (cond p Less (cond q Equal Greater))
less_is true q = refl
less_is false true = refl
less_is false false = refl

seq_lt : (a b : ℕ) → nat_lt a b ≡ is_lt (nat_cmp a b)
seq_lt a b = less_is (nat_lt a b) (a == b)

alone : (o : Ordering) → is_lt o ≡ is_lt (ordering_then o Equal)
alone Less = refl
alone Equal = refl
alone Greater = refl

stands_by : (front : Bool) (a b : Live) → (if front then nat_lt (table_properties b).greatest_seq.0 (table_properties a).greatest_seq.0 else is_lt (slice_cmp nat_cmp (table_properties a).least (table_properties b).least)) ≡ is_before (place_by front a) (place_by front b)
stands_by true a b = seq_lt (table_properties b).greatest_seq.0 (table_properties a).greatest_seq.0
stands_by false a b = alone (slice_cmp nat_cmp (table_properties a).least (table_properties b).least)

stands_is : (level : ℕ) (a b : Live) → stands_before level a b ≡ is_before (place_on level a) (place_on level b)
stands_is level a b = stands_by (level == 0) a b

stands_back : (level : ℕ) (a b : Live) → stands_before level a b ≡ true → stands_before level b a ≡ false
stands_back level a b h = stands_is level b a ∙ before_back (place_on level a) (place_on level b) (sym (stands_is level a b) ∙ h)

stands_upto : (level : ℕ) (a b c : Live) → stands_before level b a ≡ false → stands_before level c b ≡ false → stands_before level c a ≡ false
stands_upto level a b c h g = stands_is level c a ∙ upto_upto (place_on level a) (place_on level b) (place_on level c) (sym (stands_is level b a) ∙ h) (sym (stands_is level c b) ∙ g)

all_more : {X : Type 0} (P Q : X → Type 0) (xs : List X) → ((x : X) → P x → Q x) → AllByRecursion P xs → AllByRecursion Q xs
all_more P Q [] f h = tt
all_more P Q (x ∷ xs) f h = (f x h.0, all_more P Q xs f h.1)

pub all_placed : (P : Live → Type 0) (level : ℕ) (t : Live) (os : List Live) → P t → AllByRecursion P os → AllByRecursion P (placed_on_level level t os)
all_placed P level t [] p h = (p, tt)
all_placed P level t (o ∷ os) p h =
    elim (cases_Bool (stands_before level o t)) [
      | inl y ↦ rw y (h.0, all_placed P level t os p h.1)
      | inr y ↦ rw y (p, h)
    ]

pub all_filter : {X : Type 0} (P : X → Type 0) (p : X → Bool) (xs : List X) → AllByRecursion P xs → AllByRecursion P (filter p xs)
all_filter P p [] h = tt
all_filter P p (x ∷ xs) h =
    elim (cases_Bool (p x)) [
      | inl y ↦ rw y (h.0, all_filter P p xs h.1)
      | inr y ↦ rw y (all_filter P p xs h.1)
    ]

placed_order : (level : ℕ) (t : Live) (os : List Live) → StandInOrder level os → StandInOrder level (placed_on_level level t os)
placed_order level t [] h = (tt, tt)
placed_order level t (o ∷ os) h =
    elim (cases_Bool (stands_before level o t)) [
      | inl y ↦ rw y (all_placed (λ x. stands_before level x o ≡ false) level t os (stands_back level o t y) h.0, placed_order level t os h.1)
      | inr y ↦ rw y ((y, all_more (λ x. stands_before level x o ≡ false) (λ x. stands_before level x t ≡ false) os (λ x g. stands_upto level t o x y g) h.0), h)
    ]

placed_all_order : (level : ℕ) (ts os : List Live) → StandInOrder level os → StandInOrder level (placed_all level ts os)
placed_all_order level [] os h = h
placed_all_order level (t ∷ ts) os h = placed_all_order level ts (placed_on_level level t os) (placed_order level t os h)

filter_order : (level : ℕ) (p : Live → Bool) (os : List Live) → StandInOrder level os → StandInOrder level (filter p os)
filter_order level p [] h = tt
filter_order level p (o ∷ os) h =
    elim (cases_Bool (p o)) [
      | inl y ↦ rw y (all_filter (λ x. stands_before level x o ≡ false) p os h.0, filter_order level p os h.1)
      | inr y ↦ rw y (filter_order level p os h.1)
    ]

pub compacted_order : (level : ℕ) (gone : List ℕ) (added tables : List Live) → StandInOrder level tables → StandInOrder level (placed_all level added (filter (is_table_kept gone) tables))
compacted_order level gone added tables h = placed_all_order level added (filter (is_table_kept gone) tables) (filter_order level (is_table_kept gone) tables h)

not_above : (a b : ℕ) → b ≤ a → nat_lt a b ≡ false
not_above a b h = grind (arith, nat_tests)

pub front_order : (t : Live) (tables : List Live) → AllByRecursion (λ (o : Live). (table_properties o).greatest_seq.0 ≤ (table_properties t).greatest_seq.0) tables → StandInOrder 0 tables → StandInOrder 0 (t ∷ tables)
front_order t tables h g = (all_more (λ (o : Live). (table_properties o).greatest_seq.0 ≤ (table_properties t).greatest_seq.0) (λ o. stands_before 0 o t ≡ false) tables (λ o l. not_above (table_properties t).greatest_seq.0 (table_properties o).greatest_seq.0 l) h, g)
