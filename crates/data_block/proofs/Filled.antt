-- One more entry in an index.
use Rattle.std.proofs.Common.{◌≡◌, ℕ, ◌+◌, ◌-◌, ◌<◌, ◌≤◌, List, [], ◌∷◌, ◌++◌, length, take, get_or, All, refl, sym, ap, subst, ◌∙◌, length-append, arith}
use Rattle.std.specs.List.{AllByRecursion}
use Rattle.std.proofs.Common.{Bool, true}
use Rattle.std.specs.Ordering.{is_lt}
use Rattle.std.specs.declared.cmp.Ordering.{Ordering}
use Rattle.std.specs.declared.cmp.Ordering.TheVariants.{Less, Equal, Greater}
use Rattle.std.proofs.lemmas.List.{drop_at, take_at, append-nil}
use Rattle.std.proofs.lemmas.List.Elements.{All-from_recursion, recursion_from_All}
use Rattle.ts_key.specs.Order.{SortKey, sort_cmp, is_before}
use Rattle.data_block.specs.declared.index.Entry.{Entry}
use Rattle.ts_key.specs.Items.{Item}
use Rattle.data_block.specs.Index.{key_at, value_at, sort_key_at, item_at, items_at, IsWithin}
use Rattle.data_block.specs.Reading.{EndsBefore}
use Rattle.data_block.proofs.Runs.{items_keep}

items_snoc : (keys image : List ℕ) (es : List Entry) (e : Entry) → items_at keys image (es ++ e ∷ []) ≡ items_at keys image es ++ item_at keys image e ∷ []
items_snoc keys image [] e = refl
items_snoc keys image (x ∷ es) e = ap (λ (vs : List Item). item_at keys image x ∷ vs) (items_snoc keys image es e)

pub added : (keys more image : List ℕ) (es : List Entry) (e : Entry) → All (IsWithin keys image) es → e.key_from ≡ length keys → e.key_len ≡ length more
    → items_at (keys ++ more) image (es ++ e ∷ []) ≡ items_at keys image es ++ (record { sort_key = record { key = more; ts = e.ts.0; seq = e.seq.0 }; kind = e.kind; value = value_at image e }) ∷ []
added keys more image es e h from len =
    let key : key_at (keys ++ more) e ≡ more =
    ap (λ (xs : List ℕ). take (e.key_from + e.key_len - e.key_from) xs) (drop_at keys more e.key_from (sym from)) ∙ ap (take (e.key_from + e.key_len - e.key_from)) (sym (append-nil more)) ∙ take_at more [] (e.key_from + e.key_len - e.key_from) (omega arith) in
    items_snoc (keys ++ more) image es e ∙ (λ i. items_keep keys more image es (recursion_from_All (IsWithin keys image) es h) i ++ (record { sort_key = record { key = key i; ts = e.ts.0; seq = e.seq.0 }; kind = e.kind; value = value_at image e }) ∷ [])

within_more : (keys more image : List ℕ) (es : List Entry) (e : Entry) → AllByRecursion (IsWithin keys image) es → IsWithin (keys ++ more) image e → AllByRecursion (IsWithin (keys ++ more) image) (es ++ e ∷ [])
within_more keys more image [] e h p = (p, tt)
within_more keys more image (x ∷ es) e h p =
    let a = h.0.key in
    (record { key = omega (arith, length-append keys more); value = h.0.value }, within_more keys more image es e h.1 p)

pub added_within : (keys more image : List ℕ) (es : List Entry) (e : Entry) → All (IsWithin keys image) es → e.key_from ≡ length keys → e.key_len ≡ length more → e.value_from + e.value_len ≤ length image → All (IsWithin (keys ++ more) image) (es ++ e ∷ [])
added_within keys more image es e h from len w =
    All-from_recursion (IsWithin (keys ++ more) image) (es ++ e ∷ []) (within_more keys more image es e (recursion_from_All (IsWithin keys image) es h) (record { key = omega (arith, length-append keys more); value = w }))

pub ends_at : (keys image : List ℕ) (e : Entry) (es : List Entry) (d : Entry) (to : SortKey) → EndsBefore (items_at keys image (e ∷ es)) to ≡ (sort_cmp (sort_key_at keys (get_or (e ∷ es) (length es) d)) to ≡ Less)
ends_at keys image e [] d to = refl
ends_at keys image e (x ∷ es) d to = ends_at keys image x es d to

pub ends_last : (keys image : List ℕ) (es : List Entry) (n : ℕ) (d : Entry) (to : SortKey) → 0 < length es → n + 1 ≡ length es → EndsBefore (items_at keys image es) to ≡ (sort_cmp (sort_key_at keys (get_or es n d)) to ≡ Less)
ends_last keys image [] n d to some at = absurd (omega arith)
ends_last keys image (e ∷ es) n d to some at = ends_at keys image e es d to ∙ (let same : length es ≡ n = omega arith in ap (λ (m : ℕ). sort_cmp (sort_key_at keys (get_or (e ∷ es) m d)) to ≡ Less) same)

is_Less_at : (o : Ordering) → ((is_lt o ≡ true) → o ≡ Less) × (o ≡ Less → is_lt o ≡ true)
is_Less_at Less = (λ _. refl, λ _. refl)
is_Less_at Equal = (λ e. absurd cc, λ e. absurd cc)
is_Less_at Greater = (λ e. absurd cc, λ e. absurd cc)

coe_on : (A B : Type 0) → A ≡ B → A → B
coe_on A B p x = let F : Type 0 → Type 0 = λ T. T in subst F p x

coe_back : (A B : Type 0) → A ≡ B → B → A
coe_back A B p x = let F : Type 0 → Type 0 = λ T. T in subst F (sym p) x

pub ends_told : (keys image : List ℕ) (es : List Entry) (n : ℕ) (d : Entry) (to : SortKey) (b : Bool) → 0 < length es → n + 1 ≡ length es → b ≡ is_before (sort_key_at keys (get_or es n d)) to → (b ≡ true → EndsBefore (items_at keys image es) to) × (EndsBefore (items_at keys image es) to → b ≡ true)
ends_told keys image es n d to b some at is =
    let o = sort_cmp (sort_key_at keys (get_or es n d)) to in
    let same = ends_last keys image es n d to some at in
    (λ t. coe_back (EndsBefore (items_at keys image es) to) (o ≡ Less) same ((is_Less_at o).0 (sym is ∙ t)), λ h. is ∙ (is_Less_at o).1 (coe_on (EndsBefore (items_at keys image es) to) (o ≡ Less) same h))
