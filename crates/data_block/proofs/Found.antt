-- The entry at an index, in the list of versions.
use Rattle.std.proofs.Common.{◌≡◌, ℕ, zero, suc, ◌+◌, ◌<◌, Bool, true, false, cond, List, [], ◌∷◌, length, drop, get_or, refl, sym, ap, subst, ◌∙◌, arith}
use Rattle.std.specs.Prelude.{Option, Some, None, nat_le, ◌&&◌}
use Rattle.std.specs.Str.{bytes_eq}
use Rattle.std.proofs.lemmas.Slice.Eq.{bytes_eq-Decides}
use Rattle.ts_key.specs.Order.{is_before}
use Rattle.ts_key.specs.Items.{Item, hit_at}
use Rattle.ts_key.specs.Lists.{IsSorted, IsOrdered}
use Rattle.ts_key.specs.Ordered.{ordered_from}
use Rattle.ts_key.specs.Visible.{is_item_seen, first_of}
use Rattle.ts_key.specs.Firsts.{stops_past}
use Rattle.ts_key.specs.declared.lent.Hit.{Hit}
use Rattle.data_block.specs.declared.index.Entry.{Entry}
use Rattle.data_block.specs.Index.{key_at, value_at, sort_key_at, item_at, items_at}

pub items_from : (keys image : List ℕ) (es : List Entry) (i : ℕ) (d : Entry) → i < length es → items_at keys image (drop i es) ≡ item_at keys image (get_or es i d) ∷ items_at keys image (drop (i + 1) es)
items_from keys image [] i d lt = absurd (omega arith)
items_from keys image (e ∷ es) zero d lt = refl
items_from keys image (e ∷ es) (suc i) d lt = let next : suc i + 1 ≡ suc (i + 1) = omega arith in rw next (items_from keys image es i d (omega arith))

pub ordered_drop : (keys image : List ℕ) (es : List Entry) (i : ℕ) → IsOrdered (items_at keys image es) → IsOrdered (items_at keys image (drop i es))
ordered_drop keys image es zero h = h
ordered_drop keys image [] (suc i) h = tt
ordered_drop keys image (e ∷ es) (suc i) h = ordered_drop keys image es i h.1

pub sorted_drop : (keys image : List ℕ) (es : List Entry) (i : ℕ) → IsSorted (items_at keys image es) → IsSorted (items_at keys image (drop i es))
sorted_drop keys image es zero h = h
sorted_drop keys image [] (suc i) h = tt
sorted_drop keys image (e ∷ es) (suc i) h = sorted_drop keys image es i h.1

-- the first that passes is this one, or among those after it
step : (p : Item → Bool) (keys image : List ℕ) (es : List Entry) (i : ℕ) (d : Entry) → i < length es → first_of p (items_at keys image (drop i es)) ≡ cond (p (item_at keys image (get_or es i d))) (Some (item_at keys image (get_or es i d))) (first_of p (items_at keys image (drop (i + 1) es)))
step p keys image es i d lt = ap (first_of p) (items_from keys image es i d lt)

-- one that doesn't pass
pub passed_by : (p : Item → Bool) (keys image : List ℕ) (es : List Entry) (i : ℕ) (d : Entry) (all : Option Item) → i < length es → first_of p (items_at keys image (drop i es)) ≡ all → p (item_at keys image (get_or es i d)) ≡ false → first_of p (items_at keys image (drop (i + 1) es)) ≡ all
passed_by p keys image es i d all lt so_far fails =
    let v = item_at keys image (get_or es i d) in
    let rest = first_of p (items_at keys image (drop (i + 1) es)) in
    sym (ap (λ (b : Bool). cond b (Some v) rest) fails) ∙ sym (step p keys image es i d lt) ∙ so_far

-- a version of another key ends the search
pub ended : (keys image : List ℕ) (es : List Entry) (i : ℕ) (d : Entry) (key : List ℕ) (t s : ℕ) (all : Option Item) → i < length es → IsSorted (items_at keys image es)
    → is_before (sort_key_at keys (get_or es i d)) (record { key = key; ts = t; seq = s }) ≡ false → bytes_eq (key_at keys (get_or es i d)) key ≡ false → first_of (is_item_seen key t s) (items_at keys image (drop i es)) ≡ all → None ≡ all
ended keys image es i d key t s all lt sorted from other so_far =
    let rest = items_at keys image (drop (i + 1) es) in
    let v = item_at keys image (get_or es i d) in
    let ordered = ordered_drop keys image es i (ordered_from (items_at keys image es) sorted) in
    let is = items_from keys image es i d lt in
    sym (stops_past key t s v rest (let P : List Item → Type 0 = IsOrdered in subst P is ordered) from other) ∙ ap (first_of (is_item_seen key t s)) (sym is) ∙ so_far

-- the version that is seen
pub found_at : (keys image : List ℕ) (es : List Entry) (i : ℕ) (d : Entry) (key : List ℕ) (t s : ℕ) (hit : Hit) (all : Option Item) → i < length es
    → first_of (is_item_seen key t s) (items_at keys image (drop i es)) ≡ all
    → bytes_eq (key_at keys (get_or es i d)) key ≡ true → (nat_le (get_or es i d).ts.0 t && nat_le (get_or es i d).seq.0 s) ≡ true
    → hit.ts ≡ (get_or es i d).ts → hit.seq ≡ (get_or es i d).seq → hit.kind ≡ (get_or es i d).kind → hit.value.now ≡ value_at image (get_or es i d)
    → Some (hit_at key hit) ≡ all
found_at keys image es i d key t s hit all lt so_far own within ts-is seq-is kind-is value-is =
    let e = get_or es i d in
    let v = item_at keys image e in
    let rest = first_of (is_item_seen key t s) (items_at keys image (drop (i + 1) es)) in
    let passes : is_item_seen key t s v ≡ true = ap (λ (b : Bool). b && (nat_le e.ts.0 t && nat_le e.seq.0 s)) own ∙ within in
    let key-is : key_at keys e ≡ key = (bytes_eq-Decides (key_at keys e) key).0 own in
    let here : cond (is_item_seen key t s v) (Some v) rest ≡ Some v = ap (λ (b : Bool). cond b (Some v) rest) passes in
    let same : Some (hit_at key hit) ≡ Some v = λ j. Some (record { sort_key = record { key = sym key-is j; ts = (ts-is j).0; seq = (seq-is j).0 }; kind = kind-is j; value = value-is j }) in
    same ∙ sym here ∙ sym (step (is_item_seen key t s) keys image es i d lt) ∙ so_far

-- one of the key that isn't within
pub not_within : (keys image : List ℕ) (e : Entry) (key : List ℕ) (t s : ℕ) → bytes_eq (key_at keys e) key ≡ true → (nat_le e.ts.0 t && nat_le e.seq.0 s) ≡ false → is_item_seen key t s (item_at keys image e) ≡ false
not_within keys image e key t s own out = ap (λ (b : Bool). b && (nat_le e.ts.0 t && nat_le e.seq.0 s)) own ∙ out

pub items_drop : (keys image : List ℕ) (es : List Entry) (i : ℕ) → items_at keys image (drop i es) ≡ drop i (items_at keys image es)
items_drop keys image es zero = refl
items_drop keys image [] (suc i) = refl
items_drop keys image (e ∷ es) (suc i) = items_drop keys image es i
