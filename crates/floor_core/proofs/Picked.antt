-- Lists that are made element by element.
use Rattle.std.proofs.Common.{◌≡◌, ℕ, ◌+◌, ◌<◌, ◌≤◌, Bool, true, false, List, [], ◌∷◌, ◌++◌, length, map, get_or, drop, refl, sym, ap, ◌∙◌, append_assoc}
use Rattle.std.specs.Prelude.{filter, flat_map, if◌then◌else◌}
use Rattle.std.proofs.lemmas.List.{at_drop_more, at_drop_all, append-nil}
use Rattle.udt_model.specs.State.{State, FamilyState}
use Rattle.floor_core.specs.Cores.{PinnedFamily}
use Rattle.floor_core.specs.Machine.{kept_families, kept_family}

-- one more element of what F makes of a list
pub made_more : {X Y : Type 0} (F : List X → List Y) (xs : List X) (i : ℕ) (x : X) (here kept new all : List Y)
    → i < length xs → x ≡ get_or xs i x → F (x ∷ drop (i + 1) xs) ≡ here ++ F (drop (i + 1) xs) → kept ++ F (drop i xs) ≡ all → new ≡ kept ++ here → new ++ F (drop (i + 1) xs) ≡ all
made_more F xs i x here kept new all lt at is inv e =
    let rest = drop (i + 1) xs in
    ap (λ z. z ++ F rest) e
    ∙ append_assoc kept here (F rest)
    ∙ ap (λ z. kept ++ z) (sym is ∙ ap (λ z. F (z ∷ rest)) at ∙ sym (at_drop_more F xs i x lt))
    ∙ inv

pub made_all : {X Y : Type 0} (F : List X → List Y) (xs : List X) (i : ℕ) (kept all : List Y) → length xs ≤ i → F [] ≡ [] → kept ++ F (drop i xs) ≡ all → kept ≡ all
made_all F xs i kept all le nil inv = sym (append-nil kept) ∙ ap (λ z. kept ++ z) (sym nil ∙ sym (at_drop_all F xs i le)) ∙ inv

-- ---- filtered and mapped

abbrev one_if : {Y : Type 0} → Bool → Y → List Y
one_if keep y = if keep then y ∷ [] else []

picked_one : {X Y : Type 0} (f : X → Y) (p : X → Bool) (x : X) (xs : List X) (keep : Bool) → keep ≡ p x → map f (filter p (x ∷ xs)) ≡ one_if keep (f x) ++ map f (filter p xs)
picked_one f p x xs true e = ap (λ b. map f (if b then x ∷ filter p xs else filter p xs)) (sym e)
picked_one f p x xs false e = ap (λ b. map f (if b then x ∷ filter p xs else filter p xs)) (sym e)

push_is : {Y : Type 0} (kept : List Y) (y : Y) (keep : Bool) → (if keep then kept ++ y ∷ [] else kept) ≡ kept ++ one_if keep y
push_is kept y true = refl
push_is kept y false = sym (append-nil kept)

pub picked_more : {X Y : Type 0} (f : X → Y) (p : X → Bool) (xs : List X) (i : ℕ) (x : X) (kept new all : List Y) (keep : Bool)
    → i < length xs → x ≡ get_or xs i x → keep ≡ p x → kept ++ map f (filter p (drop i xs)) ≡ all → new ≡ (if keep then kept ++ f x ∷ [] else kept) → new ++ map f (filter p (drop (i + 1) xs)) ≡ all
picked_more f p xs i x kept new all keep lt at is inv e =
    made_more (λ z. map f (filter p z)) xs i x (one_if keep (f x)) kept new all lt at (picked_one f p x (drop (i + 1) xs) keep is) inv (e ∙ push_is kept (f x) keep)

pub picked_all : {X Y : Type 0} (f : X → Y) (p : X → Bool) (xs : List X) (i : ℕ) (kept all : List Y) → length xs ≤ i → kept ++ map f (filter p (drop i xs)) ≡ all → kept ≡ all
picked_all f p xs i kept all le inv = made_all (λ z. map f (filter p z)) xs i kept all le refl inv

-- ---- filtered

filtered_one : {X : Type 0} (p : X → Bool) (x : X) (xs : List X) (keep : Bool) → keep ≡ p x → filter p (x ∷ xs) ≡ one_if keep x ++ filter p xs
filtered_one p x xs true e = ap (λ b. if b then x ∷ filter p xs else filter p xs) (sym e)
filtered_one p x xs false e = ap (λ b. if b then x ∷ filter p xs else filter p xs) (sym e)

pub filtered_more : {X : Type 0} (p : X → Bool) (xs : List X) (i : ℕ) (x : X) (kept new all : List X) (keep : Bool)
    → i < length xs → x ≡ get_or xs i x → keep ≡ p x → kept ++ filter p (drop i xs) ≡ all → new ≡ (if keep then kept ++ x ∷ [] else kept) → new ++ filter p (drop (i + 1) xs) ≡ all
filtered_more p xs i x kept new all keep lt at is inv e =
    made_more (λ z. filter p z) xs i x (one_if keep x) kept new all lt at (filtered_one p x (drop (i + 1) xs) keep is) inv (e ∙ push_is kept x keep)

pub filtered_all : {X : Type 0} (p : X → Bool) (xs : List X) (i : ℕ) (kept all : List X) → length xs ≤ i → kept ++ filter p (drop i xs) ≡ all → kept ≡ all
filtered_all p xs i kept all le inv = made_all (λ z. filter p z) xs i kept all le refl inv

-- ---- filtered and flattened

abbrev all_if : {Y : Type 0} → Bool → List Y → List Y
all_if keep ys = if keep then ys else []

flat_one : {X Y : Type 0} (f : X → List Y) (p : X → Bool) (x : X) (xs : List X) (keep : Bool) → keep ≡ p x → flat_map f (filter p (x ∷ xs)) ≡ all_if keep (f x) ++ flat_map f (filter p xs)
flat_one f p x xs true e = ap (λ b. flat_map f (if b then x ∷ filter p xs else filter p xs)) (sym e)
flat_one f p x xs false e = ap (λ b. flat_map f (if b then x ∷ filter p xs else filter p xs)) (sym e)

append_is : {Y : Type 0} (kept ys : List Y) (keep : Bool) → (if keep then kept ++ ys else kept) ≡ kept ++ all_if keep ys
append_is kept ys true = refl
append_is kept ys false = sym (append-nil kept)

pub flat_more : {X Y : Type 0} (f : X → List Y) (p : X → Bool) (xs : List X) (i : ℕ) (x : X) (kept new all : List Y) (keep : Bool)
    → i < length xs → x ≡ get_or xs i x → keep ≡ p x → kept ++ flat_map f (filter p (drop i xs)) ≡ all → new ≡ (if keep then kept ++ f x else kept) → new ++ flat_map f (filter p (drop (i + 1) xs)) ≡ all
flat_more f p xs i x kept new all keep lt at is inv e =
    made_more (λ z. flat_map f (filter p z)) xs i x (all_if keep (f x)) kept new all lt at (flat_one f p x (drop (i + 1) xs) keep is) inv (e ∙ append_is kept (f x) keep)

pub flat_all : {X Y : Type 0} (f : X → List Y) (p : X → Bool) (xs : List X) (i : ℕ) (kept all : List Y) → length xs ≤ i → kept ++ flat_map f (filter p (drop i xs)) ≡ all → kept ≡ all
flat_all f p xs i kept all le inv = made_all (λ z. flat_map f (filter p z)) xs i kept all le refl inv

-- ---- what a view keeps

pub kept_more : (m : State) (fs : List FamilyState) (i : ℕ) (f : FamilyState) (g : PinnedFamily) (kept new all : List PinnedFamily)
    → i < length fs → f ≡ get_or fs i f → g ≡ kept_family m (record { 0 = i }) f → kept ++ kept_families m i (drop i fs) ≡ all → new ≡ kept ++ g ∷ [] → new ++ kept_families m (i + 1) (drop (i + 1) fs) ≡ all
kept_more m fs i f g kept new all lt at is inv e =
    let rest = drop (i + 1) fs in
    ap (λ z. z ++ kept_families m (i + 1) rest) e
    ∙ append_assoc kept (g ∷ []) (kept_families m (i + 1) rest)
    ∙ ap (λ (z : PinnedFamily). kept ++ z ∷ kept_families m (i + 1) rest) is
    ∙ ap (λ (z : FamilyState). kept ++ kept_families m i (z ∷ rest)) at
    ∙ sym (at_drop_more (λ z. kept ++ kept_families m i z) fs i f lt)
    ∙ inv

pub kept_all : (m : State) (fs : List FamilyState) (i : ℕ) (kept all : List PinnedFamily) → length fs ≤ i → kept ++ kept_families m i (drop i fs) ≡ all → kept ≡ all
kept_all m fs i kept all le inv = sym (append-nil kept) ∙ sym (at_drop_all (λ z. kept ++ kept_families m i z) fs i le) ∙ inv
