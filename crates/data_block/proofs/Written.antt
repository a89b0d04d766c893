-- One more version at the end of a block.
use Rattle.std.proofs.Common.{◌≡◌, ℕ, ◌+◌, ◌%◌, ◌^◌, ◌<◌, ◌≤◌, inl, inr, All, List, [], ◌∷◌, ◌++◌, length, refl, sym, ap, subst, ◌∙◌, append_assoc, length-append, add-zero, arith}
use Rattle.std.proofs.lemmas.List.{append-nil}
use Rattle.std.specs.Prelude.{◌==◌}
use Rattle.std.specs.List.{AllByRecursion}
use Rattle.std.proofs.lemmas.Bool.{cases_Bool}
use Rattle.std.proofs.lemmas.List.Elements.{All-append, All-from_recursion}
use Rattle.ts_key.specs.Items.{Item, kind_of, value_of, IsValue}
use Rattle.ts_key.specs.declared.limits.TheConstants.{VALUE_LIMIT}
use Rattle.ts_key.specs.declared.version.Op.{Op}
use Rattle.ts_key.specs.declared.version.Op.TheVariants as ops
use Rattle.ts_key.specs.StoredKeys.{IsItem}
use Rattle.ts_key.specs.declared.version.Form.{Form}
use Rattle.ts_key.specs.Lists.{IsSorted}
use Rattle.data_block.specs.Grammar.{stored_key_of, shared, entry, entry_of, entries, block_entries, restart, restarts, last_key, IsBlock}
use Rattle.data_block.specs.Written.{Written, HasWritten}

pub last_key_snoc : (form : Form) (last : List ℕ) (vs : List Item) (v : Item) → last_key form last (vs ++ v ∷ []) ≡ stored_key_of form v
last_key_snoc form last [] v = refl
last_key_snoc form last (x ∷ vs) v = last_key_snoc form (stored_key_of form x) vs v

pub entries_snoc : (form : Form) (n : ℕ) (last : List ℕ) (vs : List Item) (v : Item) → entries form n last (vs ++ v ∷ []) ≡ entries form n last vs ++ entry_of form (n + length vs) (last_key form last vs) v
unfolding entries
entries_snoc form n last [] v = append-nil (entry_of form n last v) ∙ ap (λ (m : ℕ). entry_of form m last v) (omega arith)
entries_snoc form n last (x ∷ vs) v =
    let key = stored_key_of form x in
    ap (λ (r : List ℕ). entry_of form n last x ++ r) (entries_snoc form (n + 1) key vs v ∙ ap (λ (m : ℕ). entries form (n + 1) key vs ++ entry_of form m (last_key form key vs) v) (omega arith))
    ∙ sym (append_assoc (entry_of form n last x) (entries form (n + 1) key vs) (entry_of form (n + length (x ∷ vs)) (last_key form key vs) v))

pub restarts_snoc : (form : Form) (n : ℕ) (last : List ℕ) (at : ℕ) (vs : List Item) (v : Item) → restarts form n last at (vs ++ v ∷ []) ≡ restarts form n last at vs ++ restart (n + length vs) (at + length (entries form n last vs))
unfolding restarts entries
restarts_snoc form n last at [] v = append-nil (restart n at) ∙ (λ i. restart (sym (add-zero n) i) (sym (add-zero at) i))
restarts_snoc form n last at (x ∷ vs) v =
    let key = stored_key_of form x in
    let e = entry_of form n last x in
    let ends : at + length e + length (entries form (n + 1) key vs) ≡ at + length (e ++ entries form (n + 1) key vs) = omega (arith, length-append e (entries form (n + 1) key vs)) in
    let index : n + 1 + length vs ≡ n + length (x ∷ vs) = omega arith in
    ap (λ (r : List ℕ). restart n at ++ r) (restarts_snoc form (n + 1) key (at + length e) vs v ∙ (λ i. restarts form (n + 1) key (at + length e) vs ++ restart (index i) (ends i)))
    ∙ sym (append_assoc (restart n at) (restarts form (n + 1) key (at + length e) vs) (restart (n + length (x ∷ vs)) (at + length (e ++ entries form (n + 1) key vs))))

pub all_snoc : {A : Type 0} (P : A → Type 0) (vs : List A) (v : A) → AllByRecursion P vs → P v → AllByRecursion P (vs ++ v ∷ [])
all_snoc P [] v h p = (p, tt)
all_snoc P (x ∷ vs) v h p = (h.0, all_snoc P vs v h.1 p)

pub nothing_written : (w : Written) → w.entries ≡ [] → w.restarts ≡ [] → w.count ≡ 0 → w.last ≡ [] → HasWritten w []
unfolding entries restarts
nothing_written w e r n l = record { entries = e; restarts = r; count = n; last = l; items = tt }

pub written_more : (w next : Written) (vs : List Item) (v : Item) (key : List ℕ) (s : ℕ) → HasWritten w vs
    → next.form ≡ w.form → key ≡ stored_key_of w.form v → s ≡ shared w.count w.last key → IsItem w.form v
    → next.entries ≡ w.entries ++ entry s key v.value → next.restarts ≡ w.restarts ++ restart w.count (length w.entries) → next.count ≡ w.count + 1 → next.last ≡ key
    → HasWritten next (vs ++ v ∷ [])
written_more w next vs v key s h form-is key-is s-is item out-is restarts-is count-is last-is =
    let same : entry s key v.value ≡ entry_of w.form (length vs) (last_key w.form [] vs) v =
    (λ i. entry (s-is i) key v.value) ∙ (λ i. entry (shared (h.count i) (h.last i) (key-is i)) (key-is i) v.value) in
    let index : entry_of w.form (length vs) (last_key w.form [] vs) v ≡ entry_of w.form (0 + length vs) (last_key w.form [] vs) v = ap (λ (m : ℕ). entry_of w.form m (last_key w.form [] vs) v) (omega arith) in
    let whole : next.entries ≡ entries w.form 0 [] (vs ++ v ∷ []) = out-is ∙ (λ i. h.entries i ++ (same ∙ index) i) ∙ sym (entries_snoc w.form 0 [] vs v) in
    let counted : length vs ≡ 0 + length vs = omega arith in
    let placed : length (entries w.form 0 [] vs) ≡ 0 + length (entries w.form 0 [] vs) = omega arith in
    let starts : next.restarts ≡ restarts w.form 0 [] 0 (vs ++ v ∷ []) = restarts-is ∙ (λ i. h.restarts i ++ restart ((h.count ∙ counted) i) ((ap length h.entries ∙ placed) i)) ∙ sym (restarts_snoc w.form 0 [] 0 vs v) in
    let ended : next.last ≡ last_key w.form [] (vs ++ v ∷ []) = last-is ∙ key-is ∙ sym (last_key_snoc w.form [] vs v) in
    record {
      entries = whole ∙ ap (λ (f : Form). entries f 0 [] (vs ++ v ∷ [])) (sym form-is);
      restarts = starts ∙ ap (λ (f : Form). restarts f 0 [] 0 (vs ++ v ∷ [])) (sym form-is);
      count = count-is ∙ omega (arith, h.count, length-append vs (v ∷ []));
      last = ended ∙ ap (λ (f : Form). last_key f [] (vs ++ v ∷ [])) (sym form-is);
      items = subst (λ (f : Form). AllByRecursion (IsItem f) (vs ++ v ∷ [])) (sym form-is) (all_snoc (IsItem w.form) vs v h.items item);
    }

pub is_value_of : (op : Op) → length (value_of op) ≤ VALUE_LIMIT → IsValue (kind_of op) (value_of op)
is_value_of ops.Del h = refl
is_value_of (ops.Put value) h = h

short_restart : (n at : ℕ) → at < 2 ^ 32 → All (λ m. m < 2 ^ 32) (restart n at)
short_restart n at h = elim (cases_Bool (n % 16 == 0)) [
  | inl y ↦ rw y (All-from_recursion (λ (m : ℕ). m < 2 ^ 32) (at ∷ []) (h, tt))
  | inr y ↦ rw y (All-from_recursion (λ (m : ℕ). m < 2 ^ 32) [] tt)
]

-- restarts lie within the entries
each_short : (form : Form) (n : ℕ) (last : List ℕ) (at : ℕ) (vs : List Item) → at + length (entries form n last vs) < 2 ^ 32 → All (λ m. m < 2 ^ 32) (restarts form n last at vs)
unfolding entries restarts
each_short form n last at [] h = All-from_recursion (λ (m : ℕ). m < 2 ^ 32) [] tt
each_short form n last at (v ∷ vs) h =
    let e = entry_of form n last v in
    let len = length-append e (entries form (n + 1) (stored_key_of form v) vs) in
    All-append (λ (m : ℕ). m < 2 ^ 32) (restart n at) (restarts form (n + 1) (stored_key_of form v) (at + length e) vs) (short_restart n at (omega arith)) (each_short form (n + 1) (stored_key_of form v) (at + length e) vs (omega (arith, len)))

-- what was written in order is a block
pub is_block : (w : Written) (vs : List Item) → length w.entries < 2 ^ 17 → length w.restarts ≤ w.count → w.count ≤ length w.entries → HasWritten w vs → IsSorted vs → 0 < length vs → IsBlock w.form vs
is_block w vs short few counted h sorted some =
    let size : 0 + length (block_entries w.form vs) < 2 ^ 32 = omega (arith, ap length h.entries) in
    record {
      some = some;
      sorted = sorted;
      items = h.items;
      offsets = record { each = each_short w.form 0 [] 0 vs size; count = omega (arith, ap length h.restarts) };
    }
