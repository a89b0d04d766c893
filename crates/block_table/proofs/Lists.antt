-- Sorted lists, joined and cut.
use Rattle.std.proofs.Common.{◌≡◌, List, [], ◌∷◌, ◌++◌, refl, sym, ap, ◌∙◌, append_assoc}
use Rattle.std.specs.List.{AllByRecursion}
use Rattle.std.specs.declared.cmp.Ordering.TheVariants.{Less}
use Rattle.ts_key.specs.Order.{sort_cmp}
use Rattle.ts_key.specs.declared.version.Version.{Version}
use Rattle.ts_key.specs.Items.{Item, item_of, items_of}
use Rattle.ts_key.specs.Lists.{IsSorted, joined_lists}
use Rattle.data_block.specs.Reading.{EndsBefore}
use Rattle.data_block.specs.Gathered.{ComesAfter}

-- ---- all of a list

pub all_left : {A : Type 0} (P : A → Type 0) (xs ys : List A) → AllByRecursion P (xs ++ ys) → AllByRecursion P xs
all_left P [] ys h = tt
all_left P (x ∷ xs) ys h = (h.0, all_left P xs ys h.1)

pub all_right : {A : Type 0} (P : A → Type 0) (xs ys : List A) → AllByRecursion P (xs ++ ys) → AllByRecursion P ys
all_right P [] ys h = h
all_right P (x ∷ xs) ys h = all_right P xs ys h.1

pub all_both : {A : Type 0} (P : A → Type 0) (xs ys : List A) → AllByRecursion P xs → AllByRecursion P ys → AllByRecursion P (xs ++ ys)
all_both P [] ys g h = h
all_both P (x ∷ xs) ys g h = (g.0, all_both P xs ys g.1 h)

pub all_last : {A : Type 0} (P : A → Type 0) (xs : List A) (x : A) → AllByRecursion P (xs ++ x ∷ []) → P x
all_last P [] x h = h.0
all_last P (y ∷ xs) x h = all_last P xs x h.1

-- ---- versions without their family

pub items_snoc : (vs : List Version) (v : Version) → items_of (vs ++ v ∷ []) ≡ items_of vs ++ item_of v ∷ []
items_snoc [] v = refl
items_snoc (x ∷ vs) v = ap (λ (us : List Item). item_of x ∷ us) (items_snoc vs v)

-- ---- sorted lists

pub ends_before : (xs : List Item) (v : Item) (ys : List Item) → IsSorted (xs ++ v ∷ ys) → EndsBefore xs v.sort_key
ends_before [] v ys s = tt
ends_before (x ∷ []) v ys s = s.0.0
ends_before (x ∷ y ∷ xs) v ys s = ends_before (y ∷ xs) v ys s.1

pub comes_after_in : (before vs rest : List Item) → IsSorted (before ++ (vs ++ rest)) → ComesAfter before vs
comes_after_in before [] rest s = tt
comes_after_in before (v ∷ vs) rest s = ends_before before v (vs ++ rest) s

pub sorted_left : (xs ys : List Item) → IsSorted (xs ++ ys) → IsSorted xs
sorted_left [] ys s = tt
sorted_left (x ∷ xs) ys s = (all_left (λ w. sort_cmp x.sort_key w.sort_key ≡ Less) xs ys s.0, sorted_left xs ys s.1)

pub sorted_right : (xs ys : List Item) → IsSorted (xs ++ ys) → IsSorted ys
sorted_right [] ys s = s
sorted_right (x ∷ xs) ys s = sorted_right xs ys s.1

-- ---- joined lists

pub joined_append : (xs ys : List (List Item)) → joined_lists (xs ++ ys) ≡ joined_lists xs ++ joined_lists ys
joined_append [] ys = refl
joined_append (x ∷ xs) ys = ap (λ (vs : List Item). x ++ vs) (joined_append xs ys) ∙ sym (append_assoc x (joined_lists xs) (joined_lists ys))
