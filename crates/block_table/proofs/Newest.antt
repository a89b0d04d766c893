-- A read at the greatest numbers sees the newest version.
use Rattle.std.proofs.Common.{◌≡◌, ℕ, ◌-◌, ◌^◌, ◌≤◌, Bool, true, false, List, [], ◌∷◌, refl, ap, ◌∙◌, arith}
use Rattle.std.specs.Prelude.{filter, ◌&&◌, if◌then◌else◌}
use Rattle.std.specs.List.{AllByRecursion}
use Rattle.std.proofs.lemmas.Bool.Decides.{nat_tests}
use Rattle.ts_key.specs.Items.{Item}
use Rattle.ts_key.specs.Lists.{joined_lists}
use Rattle.ts_key.specs.StoredKeys.{IsStamp, IsItem}
use Rattle.ts_key.specs.Visible.{newest_item, is_item_of, is_item_within, is_item_seen, visible_item, newest}
use Rattle.ts_key.specs.declared.version.Form.{Form}
use Rattle.ts_key.specs.declared.version.Form.TheVariants.{Persist, Strip}
use Rattle.data_block.specs.Grammar.{IsBlock}
use Rattle.block_table.proofs.Lists.{all_both}

filter_same : (p q : Item → Bool) (vs : List Item) → AllByRecursion (λ v. p v ≡ q v) vs → filter p vs ≡ filter q vs
filter_same p q [] h = refl
filter_same p q (v ∷ vs) h =
    (λ i. if h.0 i then (v ∷ filter p vs) else filter p vs) ∙ ap (λ (us : List Item). if q v then (v ∷ us) else us) (filter_same p q vs h.1)

stamp_bound : (form : Form) (ts : ℕ) → IsStamp form ts → ts ≤ 2 ^ 64 - 1
stamp_bound Persist ts h = omega arith
stamp_bound Strip ts h = omega arith

and_true : (a b : Bool) → b ≡ true → (a && b) ≡ a
and_true true b e = e
and_true false b e = refl

within_all : (form : Form) (v : Item) → IsItem form v → is_item_within (2 ^ 64 - 1) (2 ^ 64 - 1) v ≡ true
within_all form v h =
    let t = stamp_bound form v.sort_key.ts h.spelled.stamp in
    let s = h.spelled.sequence.most in
    grind (arith, nat_tests)

seen_all : (form : Form) (key : List ℕ) (vs : List Item) → AllByRecursion (IsItem form) vs → AllByRecursion (λ v. is_item_seen key (2 ^ 64 - 1) (2 ^ 64 - 1) v ≡ is_item_of key v) vs
seen_all form key [] h = tt
seen_all form key (v ∷ vs) h = (and_true (is_item_of key v) (is_item_within (2 ^ 64 - 1) (2 ^ 64 - 1) v) (within_all form v h.0), seen_all form key vs h.1)

pub newest_seen : (form : Form) (key : List ℕ) (vs : List Item) → AllByRecursion (IsItem form) vs → visible_item vs key (2 ^ 64 - 1) (2 ^ 64 - 1) ≡ newest vs key
newest_seen form key vs h = ap newest_item (filter_same (is_item_seen key (2 ^ 64 - 1) (2 ^ 64 - 1)) (is_item_of key) vs (seen_all form key vs h))

pub items_of_blocks : (form : Form) (cuts : List (List Item)) → AllByRecursion (IsBlock form) cuts → AllByRecursion (IsItem form) (joined_lists cuts)
items_of_blocks form [] h = tt
items_of_blocks form (vs ∷ cuts) h = all_both (IsItem form) vs (joined_lists cuts) h.0.items (items_of_blocks form cuts h.1)
