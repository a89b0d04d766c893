-- Where a scan downwards begins, and what an answer of it says.
use Rattle.std.proofs.Common.{◌≡◌, ℕ, zero, suc, Bool, true, false, cond, not, ◌&&◌, ◌||◌, List, [], ◌∷◌, length, take, reverse, Option, Some, None, refl, sym, ap, subst, ◌∙◌, inl, inr, arith}
use Rattle.std.specs.Prelude.{filter, MatchOption}
use Rattle.std.specs.List.{AllByRecursion}
use Rattle.std.specs.Ordering.{is_lt}
use Rattle.std.proofs.Math.Seq.{take-length}
use Rattle.std.proofs.lemmas.Bool.{cases_Bool}
use Rattle.ts_key.specs.declared.numbers.Ts.{Ts}
use Rattle.ts_key.specs.Order.{is_before}
use Rattle.ts_key.specs.Items.{Item}
use Rattle.ts_key.specs.Lists.{IsOrdered, below}
use Rattle.ts_key.specs.Ordered.{none_low}
use Rattle.ts_key.specs.Counts.{count_of_within}
use Rattle.ts_key.specs.Firsts.{key_upto}
use Rattle.ts_key.specs.Visible.{is_item_within}
use Rattle.udt_model.specs.declared.reply.Row.{Row}
use Rattle.udt_model.specs.Orders.{is_below}
use Rattle.ts_iterator.specs.Rows.{is_past, range_rows, rows_down}
use Rattle.ts_iterator.specs.Rests.{rows_given}
use Rattle.ts_iterator.specs.Walks.{IsLastBelow, back_from, top_of}
use Rattle.ts_iterator.proofs.Keys.{not_after, past_on}
use Rattle.ts_iterator.proofs.Lasts.{firsts}
use Rattle.ts_iterator.proofs.Backwards.{rows_backwards, scan_backwards, wanted}
use Rattle.ts_iterator.proofs.StepsDown.{behind_upto}

all_take : (P : Item → Type 0) (n : ℕ) (vs : List Item) → AllByRecursion P vs → AllByRecursion P (take n vs)
all_take P zero [] h = tt
all_take P zero (v ∷ vs) h = tt
all_take P (suc n) [] h = tt
all_take P (suc n) (v ∷ vs) h = (h.0, all_take P n vs h.1)

take_ordered : (n : ℕ) (vs : List Item) → IsOrdered vs → IsOrdered (take n vs)
take_ordered zero [] so = tt
take_ordered zero (v ∷ vs) so = tt
take_ordered (suc n) [] so = tt
take_ordered (suc n) (v ∷ vs) so = (all_take (λ (w : Item). is_before w.sort_key v.sort_key ≡ false) n vs so.0, take_ordered n vs so.1)

module _ (floor : Ts) (low high : List ℕ) (t s : ℕ) where
  abbrev among : Item → Bool
  among v = wanted floor low (Some high) t s v

  past_out : (v : Item) → is_past (Some high) v.sort_key.key ≡ true → among v ≡ false
  past_out v y = ap (λ b. not (is_below v.sort_key.key low) && not (b || not (is_item_within t s v))) y ∙ none (is_below v.sort_key.key low)
    where
      none : (b : Bool) → (not b && false) ≡ false
      none true = refl
      none false = refl

  past_all : (v : Item) (vs : List Item) → is_past (Some high) v.sort_key.key ≡ true → AllByRecursion (λ w. is_before w.sort_key v.sort_key ≡ false) vs → filter among vs ≡ []
  past_all v [] y h = refl
  past_all v (w ∷ ws) y h =
      let z : is_past (Some high) w.sort_key.key ≡ true = elim (key_upto v.sort_key w.sort_key h.0) [ inl l ↦ past_on (Some high) v.sort_key.key w.sort_key.key (ap is_lt l) y | inr e ↦ subst (λ k. is_past (Some high) k ≡ true) e y ] in
      let n = past_out w z in
      ap (λ b. cond b (w ∷ filter among ws) (filter among ws)) n ∙ past_all v ws y h.1

  -- none from the bound on is wanted
  wanted_upto : (vs : List Item) → IsOrdered vs → filter among (take (below (top_of high) vs) vs) ≡ filter among vs
  wanted_upto [] so = refl
  wanted_upto (v ∷ vs) so =
      elim (cases_Bool (is_before v.sort_key (top_of high))) [
        | inl y ↦
            let n : below (top_of high) (v ∷ vs) ≡ suc (below (top_of high) vs) = rw y (omega arith) in
            ap (λ m. filter among (take m (v ∷ vs))) n ∙ ap (λ fs. cond (among v) (v ∷ fs) fs) (wanted_upto vs so.1)
        | inr y ↦
            let z = none_low (top_of high) v vs so.0 y in
            let n : below (top_of high) (v ∷ vs) ≡ zero = rw y (omega (arith, z)) in
            let p : is_past (Some high) v.sort_key.key ≡ true = ap not (not_after (top_of high) v.sort_key y) in
            ap (λ m. filter among (take m (v ∷ vs))) n ∙ sym (ap (λ b. cond b (v ∷ filter among vs) (filter among vs)) (past_out v p) ∙ past_all v vs p so.0)
      ]

pub from_last : (floor : Ts) (low : List ℕ) (high : Option (List ℕ)) (t s : ℕ) (n : ℕ) (vs : List Item) → IsOrdered vs → IsLastBelow high n vs → rows_down floor low high t s None (back_from n vs) ≡ reverse (range_rows vs floor low high t s)
from_last floor low None t s n vs so h =
    ap (λ m. rows_down floor low None t s None (back_from m vs)) h
    ∙ ap (rows_down floor low None t s None) (behind_upto vs (length vs) (omega arith) ∙ ap reverse (take-length vs))
    ∙ scan_backwards floor low None t s vs so
from_last floor low (Some high) t s n vs so h =
    let m = below (top_of high) vs in
    ap (λ k. rows_down floor low (Some high) t s None (back_from k vs)) h
    ∙ ap (rows_down floor low (Some high) t s None) (behind_upto vs m (count_of_within (λ v. is_before v.sort_key (top_of high)) vs))
    ∙ rows_backwards floor low (Some high) t s (take m vs) (take_ordered m vs so)
    ∙ ap (λ fs. reverse (firsts floor None fs)) (wanted_upto floor low high t s vs so)
    ∙ sym (rows_backwards floor low (Some high) t s vs so)
    ∙ scan_backwards floor low (Some high) t s vs so

-- what an answer at the end says
pub told_at_end : (o : Option Row) (old new : List Row) → old ≡ rows_given o → new ≡ [] → MatchOption o ((old ≡ []) × (new ≡ [])) (λ row. old ≡ row ∷ new)
told_at_end None old new e f = (e, f)
told_at_end (Some row) old new e f = e ∙ ap (λ r. row ∷ r) (sym f)
