-- A look-up by the part of a key, then by timestamps, then by sequences.
use Rattle.std.proofs.Common.{◌≡◌, ℕ, zero, suc, ◌≤◌, Bool, true, false, cond, List, [], ◌∷◌, length, get_or, take, drop, Some, None, refl, sym, ap, subst, ◌∙◌, inl, inr, arith}
use Rattle.std.specs.Prelude.{find, nat_le, nat_lt, slice_get, option_map}
use Rattle.std.specs.List.{AllWithin, position, position_or_len}
use Rattle.std.proofs.lemmas.Bool.{cases_Bool}
use Rattle.std.proofs.lemmas.Bool.Decides.{nat_tests}
use Rattle.std.proofs.lemmas.List.{length-map}
use Rattle.ts_key.specs.declared.version.Version.{Version}
use Rattle.ts_key.specs.Items.{item_of, items_of}
use Rattle.ts_key.specs.Lists.{IsOrdered}
use Rattle.ts_key.specs.Visible.{is_item_of, newest_ts}
use Rattle.ts_key.specs.Firsts.{newest_is_first}
use Rattle.sorted_run.specs.Runs.{first_seen, has_key, has_key_below, sees, stamps_of}
use Rattle.sorted_run.proofs.Finds.{find-drop, find_none, find-take, find_alike, find_items, head_none, head_some, drop_past, option_map-twice}
use Rattle.sorted_run.proofs.Keys.{below_other, key_parts, none_of_key, other_unseen, above_unseen, upto_seen, stamps_fall, ordered-take}

-- ---- where a search of numbers ends

none_test : (b : Bool) (q : ℕ) → None ≡ cond b (Some q) None → b ≡ false
none_test true q e = absurd cc
none_test false q e = refl

some_test : (b : Bool) (q i : ℕ) → Some i ≡ cond b (Some q) None → q ≡ i
some_test true q i e = cc
some_test false q i e = absurd cc

not_lt : (q n : ℕ) → nat_lt q n ≡ false → n ≤ q
not_lt q n e = grind (arith, nat_tests)

le_le : (a b t : ℕ) → nat_le a t ≡ true → b ≤ a → nat_le b t ≡ true
le_le a b t e l = grind (arith, nat_tests)

pub stamps-take : (n : ℕ) (vs : List Version) → take n (stamps_of vs) ≡ stamps_of (take n vs)
stamps-take zero vs = refl
stamps-take (suc n) [] = refl
stamps-take (suc n) (v ∷ vs) = ap (λ ts. v.ts.0 ∷ ts) (stamps-take n vs)

module _ (key : List ℕ) (t s : ℕ) where
  abbrev seen : Version → Bool
  seen v = sees key t s v

  abbrev early : Version → Bool
  early v = nat_le v.seq.0 s

  -- how many timestamps from the front on are above t
  abbrev upto : List Version → ℕ
  upto vs = position_or_len (λ x. nat_le x t) (stamps_of vs)

  skips : (vs : List Version) → find seen (drop (upto vs) vs) ≡ find seen vs
  skips [] = refl
  skips (v ∷ vs) =
      elim (cases_Bool (nat_le v.ts.0 t)) [
        | inl y ↦ let n : upto (v ∷ vs) ≡ 0 = rw y refl in ap (λ (m : ℕ). find seen (drop m (v ∷ vs))) n
        | inr y ↦
            let n : upto (v ∷ vs) ≡ suc (upto vs) = rw y (omega arith) in
            let u = above_unseen key t s v y in
            let r : find seen (v ∷ vs) ≡ find seen vs = rw u refl in
            ap (λ (m : ℕ). find seen (drop m (v ∷ vs))) n ∙ skips vs ∙ sym r
      ]

  rest : (vs : List Version) → IsOrdered (items_of vs) → AllWithin (λ v. has_key key v ≡ true) vs 0 (length vs) → find seen (drop (upto vs) vs) ≡ find early (drop (upto vs) vs)
  rest [] so own = refl
  rest (v ∷ vs) so own =
      elim (cases_Bool (nat_le v.ts.0 t)) [
        | inl y ↦
            let n : upto (v ∷ vs) ≡ 0 = rw y refl in
            let h : find seen (v ∷ vs) ≡ find early (v ∷ vs) = find_alike seen early (v ∷ vs) (λ k d l m. let w = get_or (v ∷ vs) k d in
            upto_seen key t s w (own k d l m) (le_le v.ts.0 w.ts.0 t y (stamps_fall key (v ∷ vs) so own 0 k d l m))) in
            subst (λ (m : ℕ). find seen (drop m (v ∷ vs)) ≡ find early (drop m (v ∷ vs))) (sym n) h
        | inr y ↦
            let n : upto (v ∷ vs) ≡ suc (upto vs) = rw y (omega arith) in
            subst (λ (m : ℕ). find seen (drop m (v ∷ vs)) ≡ find early (drop m (v ∷ vs))) (sym n) (rest vs so.1 (λ k d l m. own (suc k) d (omega arith) (omega arith)))
      ]

  none_seen : (vs : List Version) → None ≡ position (λ x. nat_le x t) (stamps_of vs) → find seen vs ≡ None
  none_seen vs e =
      let q = not_lt (upto vs) (length (stamps_of vs)) (none_test (nat_lt (upto vs) (length (stamps_of vs))) (upto vs) e) in
      let l : length vs ≤ upto vs = omega (arith, q, length-map vs (λ (v : Version). v.ts.0)) in
      sym (skips vs) ∙ ap (find seen) (drop_past vs (upto vs) l)

  found_at : (vs : List Version) (at : ℕ) → IsOrdered (items_of vs) → AllWithin (λ v. has_key key v ≡ true) vs 0 (length vs) → Some at ≡ position (λ x. nat_le x t) (stamps_of vs) → find seen vs ≡ find early (drop at vs)
  found_at vs at so own e =
      let q = some_test (nat_lt (upto vs) (length (stamps_of vs))) (upto vs) at e in
      sym (skips vs) ∙ rest vs so own ∙ ap (λ (m : ℕ). find early (drop m vs)) q

  -- ---- the part of the key

  module _ (vs : List Version) (ts : List ℕ) (n : ℕ) (is : ts ≡ stamps_of vs) (other : AllWithin (λ v. has_key key v ≡ false) vs n (length vs)) where
    in_part : find seen (take n vs) ≡ first_seen vs key t s
    in_part = find-take seen vs n (λ k d l m. other_unseen key t s (get_or vs k d) (other k d l m))

    part_stamps : take n ts ≡ stamps_of (take n vs)
    part_stamps = ap (take n) is ∙ stamps-take n vs

    pub part_none : None ≡ position (λ x. nat_le x t) (take n ts) → first_seen vs key t s ≡ None
    part_none e = sym in_part ∙ none_seen (take n vs) (e ∙ ap (position (λ x. nat_le x t)) part_stamps)

    pub part_at : (at : ℕ) → n ≤ length vs → IsOrdered (items_of vs) → AllWithin (λ v. has_key key v ≡ true) vs 0 n → Some at ≡ position (λ x. nat_le x t) (take n ts) → find early (drop at (take n vs)) ≡ first_seen vs key t s
    part_at at l so same e =
        sym (found_at (take n vs) at (ordered-take vs n so) (own vs n l same) (e ∙ ap (position (λ x. nat_le x t)) part_stamps)) ∙ in_part
      where
        own : (vs : List Version) (n : ℕ) → n ≤ length vs → AllWithin (λ v. has_key key v ≡ true) vs 0 n → AllWithin (λ v. has_key key v ≡ true) (take n vs) 0 (length (take n vs))
        own vs zero l h = λ k d a b. absurd (omega arith)
        own [] (suc n) l h = λ k d a b. absurd (omega arith)
        own (v ∷ vs) (suc n) l h = cons (λ (w : Version). has_key key w ≡ true) v (take n vs) (h 0 v (omega arith) (omega arith)) (own vs n (omega arith) (λ k d a b. h (suc k) d (omega arith) (omega arith)))
          where
            cons : (P : Version → Type 0) (v : Version) (vs : List Version) → P v → AllWithin P vs 0 (length vs) → AllWithin P (v ∷ vs) 0 (length (v ∷ vs))
            cons P v vs p h zero d a b = p
            cons P v vs p h (suc k) d a b = h k d (omega arith) (omega arith)

  -- from the key on
  pub from_key : (vs : List Version) (n : ℕ) → AllWithin (λ v. has_key_below key v ≡ true) vs 0 n → first_seen (drop n vs) key t s ≡ first_seen vs key t s
  from_key vs n below = find-drop seen vs n (λ k d l m. other_unseen key t s (get_or vs k d) (below_other key (get_or vs k d) (below k d l m)))

  -- where the first version from the key on is of another key
  pub none_there : (vs : List Version) (v : Version) → IsOrdered (items_of vs) → AllWithin (λ v. has_key_below key v ≡ false) vs 0 (length vs) → Some v ≡ slice_get vs 0 → has_key key v ≡ false → first_seen vs key t s ≡ None
  none_there vs v so from e h = find_none seen vs (λ k d l m. other_unseen key t s (get_or vs k d) (none_of_key key vs v so from e h k d l m))

-- ---- the newest of a key

module _ (key : List ℕ) (vs : List Version) (n : ℕ) (so : IsOrdered (items_of vs)) (below : AllWithin (λ v. has_key_below key v ≡ true) vs 0 n) where
  newest_found : newest_ts (items_of vs) key ≡ option_map (λ (v : Version). v.ts.0) (find (has_key key) (drop n vs))
  newest_found =
      ap (option_map (λ v. v.sort_key.ts)) (newest_is_first (items_of vs) key so ∙ sym (find_items (is_item_of key) vs))
      ∙ option_map-twice (λ v. v.sort_key.ts) item_of (find (has_key key) vs)
      ∙ ap (option_map (λ (v : Version). v.ts.0)) (sym (find-drop (has_key key) vs n (λ k d l m. below_other key (get_or vs k d) (below k d l m))))

  pub newest_none : None ≡ slice_get (drop n vs) 0 → None ≡ newest_ts (items_of vs) key
  newest_none e = sym (newest_found ∙ ap (option_map (λ (v : Version). v.ts.0)) (head_none (has_key key) (drop n vs) e))

  pub newest_head : (v : Version) → Some v ≡ slice_get (drop n vs) 0 → has_key key v ≡ true → Some v.ts.0 ≡ newest_ts (items_of vs) key
  newest_head v e h = sym (newest_found ∙ ap (option_map (λ (v : Version). v.ts.0)) (head_some (has_key key) (drop n vs) v e h))

  pub newest_other : (v : Version) → IsOrdered (items_of (drop n vs)) → AllWithin (λ v. has_key_below key v ≡ false) (drop n vs) 0 (length (drop n vs)) → Some v ≡ slice_get (drop n vs) 0 → has_key key v ≡ false → None ≡ newest_ts (items_of vs) key
  newest_other v to from e h = sym (newest_found ∙ ap (option_map (λ (v : Version). v.ts.0)) (none_of_key (drop n vs) v to from e h))
    where
      not_so : (b : Bool) → (b ≡ true → ⊥) → b ≡ false
      not_so true h = absurd (h refl)
      not_so false h = refl

      both : (b : Bool) → b ≡ true → b ≡ false → ⊥
      both b x y = cc

      head_is : (ws : List Version) (v d : Version) → Some v ≡ slice_get ws 0 → get_or ws 0 d ≡ v
      head_is [] v d e = absurd cc
      head_is (w ∷ ws) v d e = cc

      none_of_key : (ws : List Version) (v : Version) → IsOrdered (items_of ws) → AllWithin (λ v. has_key_below key v ≡ false) ws 0 (length ws) → Some v ≡ slice_get ws 0 → has_key key v ≡ false → find (has_key key) ws ≡ None
      none_of_key ws v to from e h = find_none (has_key key) ws (λ k d l m. not_so (has_key key (get_or ws k d)) (λ y. both (has_key key v) (ap (has_key key) (sym (head_is ws v d e)) ∙ key_parts key ws to from 0 k d l m y) h))
