-- Entries one after the other, as a reader takes them.
use Rattle.std.proofs.Common.{◌≡◌, ℕ, ◌+◌, ◌-◌, List, [], ◌∷◌, ◌++◌, length, take, drop, refl, sym, ap, ◌∙◌, append_assoc, length-append, length-drop, arith}
use Rattle.std.specs.List.{AllByRecursion}
use Rattle.std.specs.declared.cmp.Ordering.TheVariants.{Less}
use Rattle.std.proofs.lemmas.List.{take-append-drop, drop-append-le, take-append-le}
use Rattle.ts_key.specs.Order.{sort_cmp}
use Rattle.ts_key.specs.Orders.{sort_cmp_total}
use Rattle.ts_key.proofs.StoredKeys.{stored_key_short, one_spelling}
use Rattle.ts_key.specs.Items.{Item}
use Rattle.ts_key.specs.StoredKeys.{IsItem}
use Rattle.ts_key.specs.Lists.{IsSorted}
use Rattle.ts_key.specs.declared.version.Form.{Form}
use Rattle.data_block.specs.declared.index.Entry.{Entry}
use Rattle.data_block.specs.Grammar.{stored_key_of, shared, entry_of, entries, last_key}
use Rattle.data_block.specs.Fields.{fields, Fit}
use Rattle.data_block.specs.Index.{item_at, items_at, key_at, value_at, IsWithin}
use Rattle.data_block.specs.Reading.{IsNextEntry, EndsBefore}
use Rattle.data_block.proofs.Lengths.{length-entry}
use Rattle.data_block.proofs.Fielded.{fields_once}
use Rattle.data_block.proofs.Nexts.{is_shared, entry_fields, value_short}
use Rattle.data_block.proofs.Written.{entries_snoc, all_snoc}

-- ---- the index keeps its versions as its keys grow
item_keeps : (keys more image : List ℕ) (e : Entry) → IsWithin keys image e → item_at (keys ++ more) image e ≡ item_at keys image e
item_keeps keys more image e h =
    let a = h.key in
    let at : drop e.key_from (keys ++ more) ≡ drop e.key_from keys ++ more = drop-append-le e.key_from keys more (omega arith) in
    let same : key_at (keys ++ more) e ≡ key_at keys e = ap (take (e.key_from + e.key_len - e.key_from)) at ∙ take-append-le (e.key_from + e.key_len - e.key_from) (drop e.key_from keys) more (omega (arith, length-drop e.key_from keys)) in
    λ i. record { sort_key = record { key = same i; ts = e.ts.0; seq = e.seq.0 }; kind = e.kind; value = value_at image e }

pub items_keep : (keys more image : List ℕ) (es : List Entry) → AllByRecursion (IsWithin keys image) es → items_at (keys ++ more) image es ≡ items_at keys image es
items_keep keys more image [] h = refl
items_keep keys more image (e ∷ es) h = λ i. item_keeps keys more image e h.0 i ∷ items_keep keys more image es h.1 i

-- ---- a version at the end, after the last one
-- the first stands before what stands after the last
first_before : (x : Item) (vs : List Item) (v : Item) → AllByRecursion (λ w. sort_cmp x.sort_key w.sort_key ≡ Less) vs → IsSorted vs → EndsBefore (x ∷ vs) v.sort_key → sort_cmp x.sort_key v.sort_key ≡ Less
first_before x [] v h s e = e
first_before x (y ∷ vs) v h s e = sort_cmp_total.trans x.sort_key y.sort_key v.sort_key h.0 (first_before y vs v s.0 s.1 e)

ends_on : (x : Item) (vs : List Item) (v : Item) → EndsBefore (x ∷ vs) v.sort_key → EndsBefore vs v.sort_key
ends_on x [] v e = tt
ends_on x (y ∷ vs) v e = e

pub sorted_snoc : (vs : List Item) (v : Item) → IsSorted vs → EndsBefore vs v.sort_key → IsSorted (vs ++ v ∷ [])
sorted_snoc [] v s e = (tt, tt)
sorted_snoc (x ∷ vs) v s e = (all_snoc (λ w. sort_cmp x.sort_key w.sort_key ≡ Less) vs v s.0 (first_before x vs v s.0 s.1 e), sorted_snoc vs v s.1 (ends_on x vs v e))

-- ---- one more entry of a region
pub run_more : (form : Form) (region rest after : List ℕ) (vs : List Item) (v : Item) → region ≡ entries form 0 [] vs ++ rest → IsNextEntry form (length vs) (last_key form [] vs) rest v after → region ≡ entries form 0 [] (vs ++ v ∷ []) ++ after
run_more form region rest after vs v e h =
    let index : entry_of form (length vs) (last_key form [] vs) v ≡ entry_of form (0 + length vs) (last_key form [] vs) v = ap (λ (m : ℕ). entry_of form m (last_key form [] vs) v) (omega arith) in
    let more : entries form 0 [] vs ++ entry_of form (length vs) (last_key form [] vs) v ≡ entries form 0 [] (vs ++ v ∷ []) = ap (λ (x : List ℕ). entries form 0 [] vs ++ x) index ∙ sym (entries_snoc form 0 [] vs v) in
    e ∙ ap (λ (x : List ℕ). entries form 0 [] vs ++ x) h.parts ∙ sym (append_assoc (entries form 0 [] vs) (entry_of form (length vs) (last_key form [] vs) v) after) ∙ ap (λ (x : List ℕ). x ++ after) more

-- ---- each region has one list of versions
pub own_fit : (form : Form) (n : ℕ) (last : List ℕ) (v : Item) → IsItem form v → Fit (shared n last (stored_key_of form v)) (drop (shared n last (stored_key_of form v)) (stored_key_of form v)) v.value
own_fit form n last v h =
    let key = stored_key_of form v in
    let s = shared n last key in
    let sh = is_shared n last key in
    let sk = sh.in_key in
    let short = stored_key_short form v.sort_key v.kind h.spelled in
    let vs = value_short v.kind v.value h.value in
    record { shared = omega arith; key = omega (arith, length-drop s key); value = omega arith }

pub next_once : (form : Form) (n : ℕ) (last bytes : List ℕ) (v w : Item) (r q : List ℕ) → IsNextEntry form n last bytes v r → IsNextEntry form n last bytes w q → (v ≡ w) × (r ≡ q)
next_once form n last bytes v w r q a b =
    let k = stored_key_of form v in
    let l = stored_key_of form w in
    let s = shared n last k in
    let t = shared n last l in
    let x = is_shared n last k in
    let y = is_shared n last l in
    let e : fields s (drop s k) v.value ++ r ≡ fields t (drop t l) w.value ++ q = ap (λ (z : List ℕ). z ++ r) (sym (entry_fields s k v.value)) ∙ sym a.parts ∙ b.parts ∙ ap (λ (z : List ℕ). z ++ q) (entry_fields t l w.value) in
    let o = fields_once s t (drop s k) (drop t l) v.value w.value r q (own_fit form n last v a.item) (own_fit form n last w b.item) e in
    let front : take s k ≡ take t l = sym x.same ∙ ap (λ (m : ℕ). take m last) o.0 ∙ y.same in
    let keys : k ≡ l = sym (take-append-drop s k) ∙ (λ i. front i ++ o.1 i) ∙ take-append-drop t l in
    let same = one_spelling form v.sort_key w.sort_key v.kind w.kind a.item.spelled b.item.spelled keys in
    (λ i. record { sort_key = same.0 i; kind = same.1 i; value = o.2 i }, o.3)

some_bytes : (form : Form) (n : ℕ) (last : List ℕ) (v : Item) (r : List ℕ) → [] ≡ entry_of form n last v ++ r → ⊥
some_bytes form n last v r e = omega (arith, ap length e, length-append (entry_of form n last v) r, length-entry (shared n last (stored_key_of form v)) (stored_key_of form v) v.value)

pub entries_once : (form : Form) (n : ℕ) (last : List ℕ) (vs ws : List Item) → AllByRecursion (IsItem form) vs → AllByRecursion (IsItem form) ws → entries form n last vs ≡ entries form n last ws → vs ≡ ws
unfolding entries
entries_once form n last [] [] a b e = refl
entries_once form n last [] (w ∷ ws) a b e = absurd (some_bytes form n last w (entries form (n + 1) (stored_key_of form w) ws) e)
entries_once form n last (v ∷ vs) [] a b e = absurd (some_bytes form n last v (entries form (n + 1) (stored_key_of form v) vs) (sym e))
entries_once form n last (v ∷ vs) (w ∷ ws) a b e =
    let bytes = entries form n last (v ∷ vs) in
    let o = next_once form n last bytes v w (entries form (n + 1) (stored_key_of form v) vs) (entries form (n + 1) (stored_key_of form w) ws) (record { parts = refl; item = a.0 }) (record { parts = e; item = b.0 }) in
    let rest : entries form (n + 1) (stored_key_of form v) vs ≡ entries form (n + 1) (stored_key_of form v) ws = o.1 ∙ ap (λ (x : Item). entries form (n + 1) (stored_key_of form x) ws) (sym o.0) in
    λ i. o.0 i ∷ entries_once form (n + 1) (stored_key_of form v) vs ws a.1 b.1 rest i
