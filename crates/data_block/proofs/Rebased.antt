-- Entries of one block among those of an image.
use Rattle.std.proofs.Common.{◌≡◌, ℕ, zero, suc, ◌+◌, ◌-◌, ◌≤◌, List, [], ◌∷◌, ◌++◌, length, take, drop, All, refl, sym, ap, ◌∙◌, length-append, length-take, length-drop, arith}
use Rattle.std.specs.Prelude.{map, slice_range}
use Rattle.std.specs.List.{AllByRecursion}
use Rattle.std.proofs.lemmas.List.{drop-drop, drop-take}
use Rattle.std.proofs.lemmas.List.Elements.{All-from_recursion, recursion_from_All, All-take}
use Rattle.std.proofs.Math.Seq.{drop-append-add}
use Rattle.ts_key.specs.Items.{Item}
use Rattle.data_block.specs.declared.index.Entry.{Entry}
use Rattle.data_block.proofs.Runs.{items_keep}
use Rattle.data_block.specs.Index.{key_at, value_at, item_at, items_at, IsWithin}

-- the entry in the joined keys and in the image
abbrev pub rebased : ℕ → ℕ → Entry → Entry
rebased base from e = record e { key_from = base + e.key_from; value_from = from + e.value_from }

take_take : (a m : ℕ) (xs : List ℕ) → a ≤ m → take a (take m xs) ≡ take a xs
take_take zero m xs le = refl
take_take (suc a) zero xs le = absurd (omega arith)
take_take (suc a) (suc m) [] le = refl
take_take (suc a) (suc m) (x ∷ xs) le = ap (λ (r : List ℕ). x ∷ r) (take_take a m xs (omega arith))

-- a part of a front
inner : (n from m : ℕ) (xs : List ℕ) → from + n ≤ m → take n (drop from (take m xs)) ≡ take n (drop from xs)
inner n from m xs le =
    let whole : from + (m - from) ≡ m = omega arith in
    ap (λ (k : ℕ). take n (drop from (take k xs))) (sym whole) ∙ ap (take n) (drop-take from (m - from) xs) ∙ take_take n (m - from) (drop from xs) (omega arith)

pub item_rebased : (keys more image region : List ℕ) (from : ℕ) (e : Entry) → IsWithin more region e → region ≡ slice_range image from (from + length region) → item_at (keys ++ more) image (rebased (length keys) from e) ≡ item_at more region e
item_rebased keys more image region from e h is =
    let hk = h.key in
    let hv = h.value in
    let size : from + length region - from ≡ length region = omega arith in
    let front : region ≡ take (length region) (drop from image) = is ∙ ap (λ (n : ℕ). take n (drop from image)) size in
    let kn : length keys + e.key_from + e.key_len - (length keys + e.key_from) ≡ e.key_from + e.key_len - e.key_from = omega arith in
    let vn : from + e.value_from + e.value_len - (from + e.value_from) ≡ e.value_from + e.value_len - e.value_from = omega arith in
    let key : key_at (keys ++ more) (rebased (length keys) from e) ≡ key_at more e =
    ap (λ (n : ℕ). take n (drop (length keys + e.key_from) (keys ++ more))) kn ∙ ap (take (e.key_from + e.key_len - e.key_from)) (drop-append-add keys more e.key_from) in
    let value : value_at image (rebased (length keys) from e) ≡ value_at region e =
    ap (λ (n : ℕ). take n (drop (from + e.value_from) image)) vn
    ∙ ap (take (e.value_from + e.value_len - e.value_from)) (sym (drop-drop e.value_from from image))
    ∙ sym (inner (e.value_from + e.value_len - e.value_from) e.value_from (length region) (drop from image) (omega arith))
    ∙ ap (λ (r : List ℕ). take (e.value_from + e.value_len - e.value_from) (drop e.value_from r)) (sym front) in
    λ i. record { sort_key = record { key = key i; ts = e.ts.0; seq = e.seq.0 }; kind = e.kind; value = value i }

within_rebased : (keys more image region : List ℕ) (from : ℕ) (e : Entry) → IsWithin more region e → from + length region ≤ length image → IsWithin (keys ++ more) image (rebased (length keys) from e)
within_rebased keys more image region from e h le =
    let k = h.key in
    let v = h.value in
    record { key = omega (arith, length-append keys more); value = omega arith }

items_rebased : (keys more image region : List ℕ) (from : ℕ) (es : List Entry) → AllByRecursion (IsWithin more region) es → region ≡ slice_range image from (from + length region) → items_at (keys ++ more) image (map (rebased (length keys) from) es) ≡ items_at more region es
items_rebased keys more image region from [] h is = refl
items_rebased keys more image region from (e ∷ es) h is = λ i. item_rebased keys more image region from e h.0 is i ∷ items_rebased keys more image region from es h.1 is i

all_rebased : (keys more image region : List ℕ) (from : ℕ) (es : List Entry) → AllByRecursion (IsWithin more region) es → from + length region ≤ length image → AllByRecursion (IsWithin (keys ++ more) image) (map (rebased (length keys) from) es)
all_rebased keys more image region from [] h le = tt
all_rebased keys more image region from (e ∷ es) h le = (within_rebased keys more image region from e h.0 le, all_rebased keys more image region from es h.1 le)

items_append : (keys image : List ℕ) (es more : List Entry) → items_at keys image (es ++ more) ≡ items_at keys image es ++ items_at keys image more
items_append keys image [] more = refl
items_append keys image (e ∷ es) more = ap (λ (vs : List Item). item_at keys image e ∷ vs) (items_append keys image es more)

all_keep : (keys more image : List ℕ) (es : List Entry) → AllByRecursion (IsWithin keys image) es → AllByRecursion (IsWithin (keys ++ more) image) es
all_keep keys more image [] h = tt
all_keep keys more image (e ∷ es) h = (let k = h.0.key in record { key = omega (arith, length-append keys more); value = h.0.value }, all_keep keys more image es h.1)

all_append : {A : Type 0} (P : A → Type 0) (xs ys : List A) → AllByRecursion P xs → AllByRecursion P ys → AllByRecursion P (xs ++ ys)
all_append P [] ys h g = g
all_append P (x ∷ xs) ys h g = (h.0, all_append P xs ys h.1 g)

pub gathered_items : (keys more image region : List ℕ) (from : ℕ) (old es : List Entry) → All (IsWithin keys image) old → All (IsWithin more region) es → region ≡ slice_range image from (from + length region)
    → items_at (keys ++ more) image (old ++ map (rebased (length keys) from) es) ≡ items_at keys image old ++ items_at more region es
gathered_items keys more image region from old es h g is =
    items_append (keys ++ more) image old (map (rebased (length keys) from) es)
    ∙ (λ i. items_keep keys more image old (recursion_from_All (IsWithin keys image) old h) i ++ items_rebased keys more image region from es (recursion_from_All (IsWithin more region) es g) is i)

pub gathered_within : (keys more image region : List ℕ) (from : ℕ) (old es : List Entry) → All (IsWithin keys image) old → All (IsWithin more region) es → from + length region ≤ length image
    → All (IsWithin (keys ++ more) image) (old ++ map (rebased (length keys) from) es)
gathered_within keys more image region from old es h g le =
    All-from_recursion (IsWithin (keys ++ more) image) (old ++ map (rebased (length keys) from) es)
    (all_append (IsWithin (keys ++ more) image) old (map (rebased (length keys) from) es) (all_keep keys more image old (recursion_from_All (IsWithin keys image) old h)) (all_rebased keys more image region from es (recursion_from_All (IsWithin more region) es g) le))

pub within_all : (keys more image region : List ℕ) (from : ℕ) (old es : List Entry) (i : ℕ) → All (IsWithin keys image) old → All (IsWithin more region) es → from + length region ≤ length image
    → All (IsWithin (keys ++ more) image) (old ++ map (rebased (length keys) from) (take i es))
within_all keys more image region from old es i h g le = gathered_within keys more image region from old (take i es) h (All-take (IsWithin more region) i es g) le

-- the entries of a block in its image
pub region_is : (image : List ℕ) (from to end : ℕ) → from ≤ to → to ≤ length image → end ≤ length (slice_range image from to) → take end (slice_range image from to) ≡ slice_range image from (from + end)
region_is image from to end order within fits =
    let size : from + end - from ≡ end = omega arith in
    take_take end (to - from) (drop from image) (omega (arith, length-take (to - from) (drop from image), length-drop from image)) ∙ ap (λ (n : ℕ). take n (drop from image)) (sym size)

pub length-region : (image : List ℕ) (from to end : ℕ) → from ≤ to → to ≤ length image → end ≤ length (slice_range image from to) → length (slice_range image from (from + end)) ≡ end
length-region image from to end order within fits =
    omega (arith, length-take (from + end - from) (drop from image), length-take (to - from) (drop from image), length-drop from image)
