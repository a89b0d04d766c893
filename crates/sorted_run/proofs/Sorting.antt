-- Sorting whole versions.
use Rattle.std.proofs.Common.{◌≡◌, ℕ, zero, suc, ◌+◌, ◌<◌, ◌≤◌, ◌⊎◌, Bool, true, false, not, List, [], ◌∷◌, ◌++◌, length, get_or, drop, refl, sym, ap, subst, ◌∙◌, inl, inr, arith, append_assoc, append-nil}
use denote.Ref.{Bor}
use denote.Param.Members.{Mut}
use Rattle.std.specs.Prelude.{filter}
use Rattle.std.specs.Cmp.{IsStrictWeakOrder}
use Rattle.std.specs.Fn.{ComparesAs}
use Rattle.std.specs.List.{AllByRecursion}
use Rattle.std.specs.List.Sorted.{IsSortedBy, IsSortedByClosure, IsStableByClosure, ties}
use Rattle.std.specs.declared.cmp.Ordering.{Ordering}
use Rattle.std.proofs.lemmas.Bool.{and_parts, cases_Bool}
use Rattle.std.proofs.lemmas.List.Sorted.{sorted_far}
use Rattle.ts_key.specs.declared.version.Version.{Version}
use Rattle.ts_key.specs.Items.{Item, item_of, items_of}
use Rattle.ts_key.specs.Lists.{IsOrdered, with_item, stored_items}
use Rattle.ts_key.specs.Order as order
use Rattle.ts_key.specs.Orders as orders
use Rattle.ts_key.specs.Ordered.{stored_ordered}
use Rattle.sorted_run.proofs.Finds.{drop_past}
use Rattle.sorted_run.proofs.Keys.{ordered-drop}
use Rattle.sorted_run.specs.Sorts.{is_sorted_before, with_sorted, sorted}

-- ---- the same on versions without their family

pub items-with_version : (v : Version) (vs : List Version) → items_of (with_sorted v vs) ≡ with_item (item_of v) (items_of vs)
items-with_version v [] = refl
items-with_version v (x ∷ xs) =
    elim (cases_Bool (is_sorted_before x v)) [
      | inl y ↦ rw y (ap (λ r. item_of x ∷ r) (items-with_version v xs))
      | inr y ↦ rw y refl
    ]

pub items-sorted : (vs : List Version) → items_of (sorted vs) ≡ stored_items (items_of vs)
items-sorted [] = refl
items-sorted (v ∷ vs) = items-with_version v (sorted vs) ∙ ap (with_item (item_of v)) (items-sorted vs)

-- ---- the order

back : (a b : Version) → is_sorted_before a b ≡ true → is_sorted_before b a ≡ false
back a b h = orders.before_back (item_of a).sort_key (item_of b).sort_key h

trans : (a b c : Version) → is_sorted_before a b ≡ true → is_sorted_before b c ≡ true → is_sorted_before a c ≡ true
trans a b c h g = orders.before_trans (item_of a).sort_key (item_of b).sort_key (item_of c).sort_key h g

upto_before : (a b c : Version) → is_sorted_before b a ≡ false → is_sorted_before b c ≡ true → is_sorted_before a c ≡ true
upto_before a b c h g = orders.upto_before (item_of a).sort_key (item_of b).sort_key (item_of c).sort_key h g

clash : (b : Bool) → b ≡ true → b ≡ false → ⊥
clash b x y = cc

-- two insertions may be done in either order, where the first of the two stands before the other
swaps : (o v : Version) (l : List Version) → is_sorted_before o v ≡ true → with_sorted o (with_sorted v l) ≡ with_sorted v (with_sorted o l)
swaps o v [] h = let n = back o v h in rw (n, h) refl
swaps o v (x ∷ xs) h =
    let n = back o v h in
    elim (cases_Bool (is_sorted_before x o)) [
      | inl y ↦ (let z = trans x o v y h in rw (y, z) (rw y (ap (λ r. x ∷ r) (swaps o v xs h))))
      | inr y ↦ elim (cases_Bool (is_sorted_before x v)) [
        | inl z ↦ rw (y, z, h) (rw y refl)
        | inr z ↦ rw (y, z, h, n) refl
      ]
    ]

-- ---- parts

-- what is sorted already may be sorted again
sorted-with_left : (v : Version) (l b : List Version) → sorted (with_sorted v l ++ b) ≡ with_sorted v (sorted (l ++ b))
sorted-with_left v [] b = refl
sorted-with_left v (x ∷ xs) b =
    elim (cases_Bool (is_sorted_before x v)) [
      | inl y ↦ rw y (ap (with_sorted x) (sorted-with_left v xs b) ∙ swaps x v (sorted (xs ++ b)) y)
      | inr y ↦ rw y refl
    ]

pub sorted-left : (a b : List Version) → sorted (sorted a ++ b) ≡ sorted (a ++ b)
sorted-left [] b = refl
sorted-left (v ∷ a) b = sorted-with_left v (sorted a) b ∙ ap (with_sorted v) (sorted-left a b)

-- ---- lists in order

abbrev None_before : Version → List Version → Type 0
None_before v vs = AllByRecursion (λ (w : Item). order.is_before w.sort_key (item_of v).sort_key ≡ false) (items_of vs)

first_stays : (v : Version) (vs : List Version) → None_before v vs → with_sorted v vs ≡ v ∷ vs
first_stays v [] h = refl
first_stays v (x ∷ xs) h = let y : is_sorted_before x v ≡ false = h.0 in rw y refl

pub sorted_same : (vs : List Version) → IsOrdered (items_of vs) → sorted vs ≡ vs
sorted_same [] so = refl
sorted_same (v ∷ vs) so = ap (with_sorted v) (sorted_same vs so.1) ∙ first_stays v vs so.0

pub ordered-sorted : (vs : List Version) → IsOrdered (items_of (sorted vs))
ordered-sorted vs = rw (items-sorted vs) (stored_ordered (items_of vs))

pub sorted_again : (vs : List Version) → sorted (sorted vs) ≡ sorted vs
sorted_again vs = sorted_same (sorted vs) (ordered-sorted vs)

pub sorted-right : (a b : List Version) → sorted (a ++ sorted b) ≡ sorted (a ++ b)
sorted-right [] b = sorted_again b
sorted-right (v ∷ a) b = ap (with_sorted v) (sorted-right a b)

-- ---- the next of two lists in order

all_with : (P : Version → Type 0) (v : Version) (vs : List Version) → P v → AllByRecursion P vs → AllByRecursion P (with_sorted v vs)
all_with P v [] p h = (p, tt)
all_with P v (x ∷ xs) p h =
    elim (cases_Bool (is_sorted_before x v)) [
      | inl y ↦ rw y (h.0, all_with P v xs p h.1)
      | inr y ↦ rw y (p, h)
    ]

all_sorted : (P : Version → Type 0) (vs : List Version) → AllByRecursion P vs → AllByRecursion P (sorted vs)
all_sorted P [] h = tt
all_sorted P (v ∷ vs) h = all_with P v (sorted vs) h.0 (all_sorted P vs h.1)

stays_first : (v : Version) (vs : List Version) → AllByRecursion (λ w. is_sorted_before w v ≡ false) vs → with_sorted v vs ≡ v ∷ vs
stays_first v [] h = refl
stays_first v (x ∷ xs) h = let y = h.0 in rw y refl

-- what none of the list stands before comes first
pub sorted_first : (v : Version) (vs : List Version) → AllByRecursion (λ w. is_sorted_before w v ≡ false) vs → sorted (v ∷ vs) ≡ v ∷ sorted vs
sorted_first v vs h = stays_first v (sorted vs) (all_sorted (λ w. is_sorted_before w v ≡ false) vs h)

-- so does what stands before all before it
pub sorted_middle : (pre : List Version) (w : Version) (post : List Version) → AllByRecursion (λ v. is_sorted_before w v ≡ true) pre → AllByRecursion (λ v. is_sorted_before v w ≡ false) post → sorted (pre ++ w ∷ post) ≡ w ∷ sorted (pre ++ post)
sorted_middle [] w post h g = sorted_first w post g
sorted_middle (v ∷ pre) w post h g =
    let y = h.0 in
    ap (with_sorted v) (sorted_middle pre w post h.1 g) ∙ (rw y refl)

-- ---- merging

on_versions : (P : Item → Type 0) (vs : List Version) → AllByRecursion P (items_of vs) → AllByRecursion (λ v. P (item_of v)) vs
on_versions P [] h = tt
on_versions P (v ∷ vs) h = (h.0, on_versions P vs h.1)

all_more : (P Q : Version → Type 0) (vs : List Version) → ((v : Version) → P v → Q v) → AllByRecursion P vs → AllByRecursion Q vs
all_more P Q [] f h = tt
all_more P Q (v ∷ vs) f h = (f v h.0, all_more P Q vs f h.1)

all_append : (P : Version → Type 0) (xs ys : List Version) → AllByRecursion P xs → AllByRecursion P ys → AllByRecursion P (xs ++ ys)
all_append P [] ys h g = g
all_append P (x ∷ xs) ys h g = (h.0, all_append P xs ys h.1 g)

none_after : (v : Version) (vs : List Version) → IsOrdered (items_of (v ∷ vs)) → AllByRecursion (λ w. is_sorted_before w v ≡ false) vs
none_after v vs so = on_versions (λ w. order.is_before w.sort_key (item_of v).sort_key ≡ false) vs so.0

before_upto : (a b c : Version) → is_sorted_before a b ≡ true → is_sorted_before c b ≡ false → is_sorted_before a c ≡ true
before_upto a b c h g = orders.before_upto (item_of a).sort_key (item_of b).sort_key (item_of c).sort_key h g

upto_upto : (a b c : Version) → is_sorted_before b a ≡ false → is_sorted_before c b ≡ false → is_sorted_before c a ≡ false
upto_upto a b c h g = orders.upto_upto (item_of a).sort_key (item_of b).sort_key (item_of c).sort_key h g

takes_right : (x : Version) (xs : List Version) (y : Version) (ys : List Version) → IsOrdered (items_of (x ∷ xs)) → IsOrdered (items_of (y ∷ ys)) → is_sorted_before y x ≡ true → sorted ((x ∷ xs) ++ y ∷ ys) ≡ y ∷ sorted ((x ∷ xs) ++ ys)
takes_right x xs y ys so to h =
    sorted_middle (x ∷ xs) y ys (h, all_more (λ w. is_sorted_before w x ≡ false) (λ w. is_sorted_before y w ≡ true) xs (λ w g. before_upto y x w h g) (none_after x xs so)) (none_after y ys to)

takes_left : (x : Version) (xs : List Version) (y : Version) (ys : List Version) → IsOrdered (items_of (x ∷ xs)) → IsOrdered (items_of (y ∷ ys)) → is_sorted_before y x ≡ false → sorted ((x ∷ xs) ++ y ∷ ys) ≡ x ∷ sorted (xs ++ y ∷ ys)
takes_left x xs y ys so to h =
    sorted_first x (xs ++ y ∷ ys) (all_append (λ w. is_sorted_before w x ≡ false) xs (y ∷ ys) (none_after x xs so) (h, all_more (λ w. is_sorted_before w y ≡ false) (λ w. is_sorted_before w x ≡ false) ys (λ w g. upto_upto x y w h g) (none_after y ys to)))

-- a list from an index on
drop_at : (vs : List Version) (i : ℕ) (v : Version) → i < length vs → v ≡ get_or vs i v → drop i vs ≡ v ∷ drop (i + 1) vs
drop_at [] i v l e = absurd (omega arith)
drop_at (x ∷ xs) zero v l e = ap (λ w. w ∷ xs) (sym e)
drop_at (x ∷ xs) (suc i) v l e = let n : suc i + 1 ≡ suc (i + 1) = omega arith in rw n (drop_at xs i v (omega arith) e)

push_on : (out rest : List Version) (v : Version) → (out ++ v ∷ []) ++ rest ≡ out ++ v ∷ rest
push_on out rest v = append_assoc out (v ∷ []) rest

module _ (a b out all : List Version) (i j : ℕ) (v w : Version)
    (a_order : IsOrdered (items_of a)) (b_order : IsOrdered (items_of b))
    (i_in : i < length a) (j_in : j < length b) (v_is : v ≡ get_or a i v) (w_is : w ≡ get_or b j w)
    (so_far : out ++ sorted (drop i a ++ drop j b) ≡ all)
  where
    a_from : drop i a ≡ v ∷ drop (i + 1) a
    a_from = drop_at a i v i_in v_is

    b_from : drop j b ≡ w ∷ drop (j + 1) b
    b_from = drop_at b j w j_in w_is

    v_order : IsOrdered (items_of (v ∷ drop (i + 1) a))
    v_order = subst (λ vs. IsOrdered (items_of vs)) a_from (ordered-drop a i a_order)

    w_order : IsOrdered (items_of (w ∷ drop (j + 1) b))
    w_order = subst (λ vs. IsOrdered (items_of vs)) b_from (ordered-drop b j b_order)

    both_from : out ++ sorted ((v ∷ drop (i + 1) a) ++ w ∷ drop (j + 1) b) ≡ all
    both_from = sym (λ k. out ++ sorted (a_from k ++ b_from k)) ∙ so_far

    pub merges_right : is_sorted_before w v ≡ true → (out ++ w ∷ []) ++ sorted (drop i a ++ drop (j + 1) b) ≡ all
    merges_right h =
        push_on out (sorted (drop i a ++ drop (j + 1) b)) w
        ∙ ap (λ vs. out ++ w ∷ sorted (vs ++ drop (j + 1) b)) a_from
        ∙ ap (λ vs. out ++ vs) (sym (takes_right v (drop (i + 1) a) w (drop (j + 1) b) v_order w_order h))
        ∙ both_from

    pub merges_left : is_sorted_before w v ≡ false → (out ++ v ∷ []) ++ sorted (drop (i + 1) a ++ drop j b) ≡ all
    merges_left h =
        push_on out (sorted (drop (i + 1) a ++ drop j b)) v
        ∙ ap (λ vs. out ++ v ∷ sorted (drop (i + 1) a ++ vs)) b_from
        ∙ ap (λ vs. out ++ vs) (sym (takes_left v (drop (i + 1) a) w (drop (j + 1) b) v_order w_order h))
        ∙ both_from

-- where one of the two is at its end, the rest is in order
pub merges_end : (a b out all : List Version) (i j : ℕ) → IsOrdered (items_of a) → IsOrdered (items_of b) → (length a ≤ i) ⊎ (length b ≤ j) → out ++ sorted (drop i a ++ drop j b) ≡ all → (out ++ drop i a) ++ drop j b ≡ all
merges_end a b out all i j so to (inl l) e =
    let d = drop_past a i l in
    append_assoc out (drop i a) (drop j b)
    ∙ ap (λ vs. out ++ (vs ++ drop j b)) d
    ∙ ap (λ vs. out ++ vs) (sym (sorted_same (drop j b) (ordered-drop b j to)))
    ∙ ap (λ vs. out ++ sorted (vs ++ drop j b)) (sym d)
    ∙ e
merges_end a b out all i j so to (inr l) e =
    let d = drop_past b j l in
    append_assoc out (drop i a) (drop j b)
    ∙ ap (λ vs. out ++ (drop i a ++ vs)) d
    ∙ ap (λ vs. out ++ vs) (append-nil (drop i a) ∙ sym (sorted_same (drop i a) (ordered-drop a i so)))
    ∙ ap (λ vs. out ++ sorted vs) (sym (append-nil (drop i a)))
    ∙ ap (λ vs. out ++ sorted (drop i a ++ vs)) (sym d)
    ∙ e

-- ---- a stable sort

weak : IsStrictWeakOrder is_sorted_before
weak = record { one_way = back; chain = λ a b c h g. upto_upto c b a g h }

not_itself : (v : Version) → is_sorted_before v v ≡ false
not_itself v = elim (cases_Bool (is_sorted_before v v)) [ inl y ↦ absurd (clash (is_sorted_before v v) y (back v v y)) | inr y ↦ y ]

-- those that tie with one
abbrev tied : Version → List Version → List Version
tied v vs = filter (ties is_sorted_before v) vs

tied_more : (u v : Version) (a b : List Version) → tied u a ≡ tied u b → tied u (v ∷ a) ≡ tied u (v ∷ b)
tied_more u v a b h = elim (cases_Bool (ties is_sorted_before u v)) [ inl y ↦ rw y (ap (λ r. v ∷ r) h) | inr y ↦ rw y h ]

tied_less : (u v : Version) (a b : List Version) → tied u (v ∷ a) ≡ tied u (v ∷ b) → tied u a ≡ tied u b
tied_less u v a b h = elim (cases_Bool (ties is_sorted_before u v)) [ inl y ↦ (let e = rw y at h in cc) | inr y ↦ rw y at h ]

tied_itself : (v : Version) (vs : List Version) → tied v (v ∷ vs) ≡ v ∷ tied v vs
tied_itself v vs = let n = not_itself v in rw n refl

-- what stands before one doesn't tie with what ties with it
apart : (u v w : Version) → is_sorted_before w v ≡ true → ties is_sorted_before u w ≡ true → ties is_sorted_before u v ≡ false
apart u v w h t =
    elim (cases_Bool (is_sorted_before u v)) [
      | inl y ↦ rw y refl
      | inr y ↦ elim (cases_Bool (is_sorted_before w u)) [
        | inl z ↦ (let e = rw z at (and_parts (not (is_sorted_before u w)) (not (is_sorted_before w u)) t).1 in cc)
        | inr z ↦ absurd (clash (is_sorted_before w v) h (upto_upto v u w y z))
      ]
    ]

-- what is put in where it belongs stays behind those that tie with it and came later
tied_with : (u v : Version) (vs : List Version) → tied u (with_sorted v vs) ≡ tied u (v ∷ vs)
tied_with u v [] = refl
tied_with u v (x ∷ xs) =
    let r = tied_with u v xs in
    elim (cases_Bool (is_sorted_before x v)) [
      | inl y ↦ rw y (elim (cases_Bool (ties is_sorted_before u x)) [
        | inl z ↦ (let n = apart u v x y z in let k = rw n at r in rw (z, n) (ap (λ s. x ∷ s) k))
        | inr z ↦ rw z r
      ])
      | inr y ↦ rw y refl
    ]

tied_sorted : (u : Version) (vs : List Version) → tied u (sorted vs) ≡ tied u vs
tied_sorted u [] = refl
tied_sorted u (v ∷ vs) = tied_with u v (sorted vs) ∙ tied_more u v (sorted vs) vs (tied_sorted u vs)

none_tied : (u : Version) (vs : List Version) → AllByRecursion (λ w. is_sorted_before u w ≡ true) vs → tied u vs ≡ []
none_tied u [] h = refl
none_tied u (v ∷ vs) h = let y = h.0 in rw y (none_tied u vs h.1)

-- what stands before the first of a list in order ties with none of it
first_apart : (u v : Version) (vs : List Version) → IsOrdered (items_of (v ∷ vs)) → is_sorted_before u v ≡ true → tied u (v ∷ vs) ≡ []
first_apart u v vs so h = none_tied u (v ∷ vs) (h, all_more (λ w. is_sorted_before w v ≡ false) (λ w. is_sorted_before u w ≡ true) vs (λ w g. before_upto u v w h g) (none_after v vs so))

-- two lists in order that have the same of each class of those that tie
same_list : (a b : List Version) → IsOrdered (items_of a) → IsOrdered (items_of b) → ((u : Version) → tied u a ≡ tied u b) → a ≡ b
same_list [] [] so to h = refl
same_list [] (w ∷ ws) so to h = absurd (let e = h w ∙ tied_itself w ws in cc)
same_list (v ∷ vs) [] so to h = absurd (let e = sym (tied_itself v vs) ∙ h v in cc)
same_list (v ∷ vs) (w ∷ ws) so to h =
    elim (cases_Bool (is_sorted_before v w)) [
      | inl y ↦ absurd (let e = sym (tied_itself v vs) ∙ h v ∙ first_apart v w ws to y in cc)
      | inr y ↦ elim (cases_Bool (is_sorted_before w v)) [
        | inl z ↦ absurd (let e = sym (tied_itself w ws) ∙ sym (h w) ∙ first_apart w v vs so z in cc)
        | inr z ↦
            let heads : v ∷ tied v vs ≡ w ∷ tied v ws = sym (tied_itself v vs) ∙ h v ∙ (rw (y, z) refl) in
            let same : v ≡ w = cc in
            let rest = same_list vs ws so.1 to.1 (λ u. tied_less u v vs ws (h u ∙ ap (λ x. tied u (x ∷ ws)) (sym same))) in
            ap (λ r. v ∷ r) rest ∙ ap (λ x. x ∷ ws) same
      ]
    ]

none_before : (v : Version) (vs : List Version) → ((j : ℕ) (d : Version) → j < length vs → is_sorted_before (get_or vs j d) v ≡ false) → None_before v vs
none_before v [] h = tt
none_before v (w ∷ ws) h = (h 0 w (omega arith), none_before v ws (λ j d l. h (suc j) d (omega (arith, l))))

ordered_from : (vs : List Version) → IsSortedBy is_sorted_before vs → IsOrdered (items_of vs)
ordered_from [] up = tt
ordered_from (v ∷ vs) up = (none_before v vs (λ j d l. sorted_far is_sorted_before weak (v ∷ vs) up 0 (suc j) d (omega arith) (omega (arith, l))), ordered_from vs (λ k d a b. subst (λ n. is_sorted_before (get_or (v ∷ vs) n d) (get_or vs k d) ≡ false) {x = suc k + 1} {y = suc (k + 1)} (omega arith) (up (suc k) d (omega arith) (omega (arith, b)))))

-- a stable sort gives the stored order
pub stable_sorted : {F : Type 0} {g : Mut F (Bor Version × (Bor Version × Unit {0})) Ordering} {f : F} (vs out : List Version) → ComparesAs g is_sorted_before f → IsSortedByClosure g f out → IsStableByClosure g f vs out → out ≡ sorted vs
stable_sorted vs out compares up stable = same_list out (sorted vs) (ordered_from out (up is_sorted_before weak compares)) (ordered-sorted vs) (λ u. stable is_sorted_before weak compares u ∙ sym (tied_sorted u vs))
