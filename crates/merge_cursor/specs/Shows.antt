-- The merged list of sides, and what stands in front of them.
use Rattle.std.proofs.Common.{◌≡◌, ℕ, zero, suc, ◌+◌, ◌<◌, ◌≤◌, Bool, true, false, not, List, [], ◌∷◌, ◌++◌, length, get_or, set, Option, Some, None, refl, sym, ap, subst, ◌∙◌, inl, inr, arith, length-append, append_assoc}
use Rattle.std.specs.Prelude.{if◌then◌else◌, slice_get, nat_le, All, map}
use Rattle.std.proofs.lemmas.Bool.{cases_Bool, cases_lt, le-leb, lt-leb}
use Rattle.std.proofs.lemmas.List.Elements.{All-tail}
use Rattle.std.proofs.lemmas.Option.{slice_get_past, slice_get-get_or}
use Rattle.ts_key.specs.Order.{is_before}
use Rattle.ts_key.specs.Items.{Item}
use Rattle.ts_key.specs.Lists.{IsOrdered, count_of, below, standing, onward, with_item, stored_items, joined_lists}
use Rattle.ts_key.specs.Orders.{before_itself, upto_before, upto_upto}
use Rattle.ts_key.specs.Counts.{get_In, In_after, count_of-append, count_of-stored, length-stored}
use Rattle.ts_key.specs.Ordered.{not_true, not_false, stored_ordered, none_low, count_cut, past_end}
use Rattle.merge_cursor.specs.Sides.{Side, sides, key_in, front, back, front_of, is_lower, is_upto, is_apart, passed, lists, all, AreSidesCut, IsMerge}
use Rattle.merge_cursor.specs.Cuts.{AreOrdered, moved, end_cut}

-- ---- where a version stands in the stored list

-- how many don't stand after it
abbrev upto : Item → List Item → ℕ
upto v vs = count_of (λ u. not (is_before v.sort_key u.sort_key)) vs

at_with_item : (v : Item) (zs : List Item) → IsOrdered zs → slice_get (with_item v zs) (below v.sort_key zs) ≡ Some v
at_with_item v [] o = refl
at_with_item v (z ∷ zs) o =
    elim (cases_Bool (is_before z.sort_key v.sort_key)) [
      | inl y ↦ (
          let n : below v.sort_key (z ∷ zs) ≡ suc (below v.sort_key zs) = rw y (omega arith) in
          let i : with_item v (z ∷ zs) ≡ z ∷ with_item v zs = rw y refl in
          ap (slice_get (with_item v (z ∷ zs))) n ∙ ap (λ (xs : List Item). slice_get xs (suc (below v.sort_key zs))) i ∙ at_with_item v zs o.1)
      | inr y ↦ (
          let e = none_low v.sort_key z zs o.0 y in
          let n : below v.sort_key (z ∷ zs) ≡ 0 = rw y (omega (arith, e)) in
          let i : with_item v (z ∷ zs) ≡ v ∷ z ∷ zs = rw y refl in
          ap (slice_get (with_item v (z ∷ zs))) n ∙ ap (λ (xs : List Item). slice_get xs 0) i)
    ]

-- one that isn't after it comes before it
over_with_item : (v x : Item) (zs : List Item) (n : ℕ) → slice_get zs n ≡ Some v → is_before v.sort_key x.sort_key ≡ false → slice_get (with_item x zs) (suc n) ≡ Some v
over_with_item v x [] n e h = absurd cc
over_with_item v x (z ∷ zs) zero e h =
    let q : z ≡ v = cc in
    let y : is_before z.sort_key x.sort_key ≡ false = ap (λ (u : Item). is_before u.sort_key x.sort_key) q ∙ h in
    rw y e
over_with_item v x (z ∷ zs) (suc n) e h =
    elim (cases_Bool (is_before z.sort_key x.sort_key)) [
      | inl y ↦ rw y (over_with_item v x zs n e h)
      | inr y ↦ rw y e
    ]

-- one that is after it comes after it
under_with_item : (v x : Item) (zs : List Item) (n : ℕ) → IsOrdered zs → slice_get zs n ≡ Some v → is_before v.sort_key x.sort_key ≡ true → slice_get (with_item x zs) n ≡ Some v
under_with_item v x [] n o e h = absurd cc
under_with_item v x (z ∷ zs) zero o e h =
    let q : z ≡ v = cc in
    let y : is_before z.sort_key x.sort_key ≡ true = ap (λ (u : Item). is_before u.sort_key x.sort_key) q ∙ h in
    rw y e
under_with_item v x (z ∷ zs) (suc n) o e h =
    let l : is_before v.sort_key z.sort_key ≡ false = In_after (λ u. is_before u.sort_key z.sort_key ≡ false) v zs o.0 (get_In zs n v e) in
    let y : is_before z.sort_key x.sort_key ≡ true = upto_before z.sort_key v.sort_key x.sort_key l h in
    rw y (under_with_item v x zs n o.1 e h)

-- before it stand those in front of it that aren't after it, and those behind it that are before it
position : (v : Item) (pre post : List Item) → slice_get (stored_items (pre ++ v ∷ post)) (upto v pre + below v.sort_key post) ≡ Some v
position v [] post =
    let n : upto v [] + below v.sort_key post ≡ below v.sort_key (stored_items post) = omega (arith, count_of-stored (λ u. is_before u.sort_key v.sort_key) post) in
    ap (slice_get (with_item v (stored_items post))) n ∙ at_with_item v (stored_items post) (stored_ordered post)
position v (x ∷ pre) post =
    let w = stored_items (pre ++ v ∷ post) in
    let r = position v pre post in
    elim (cases_Bool (is_before v.sort_key x.sort_key)) [
      | inl y ↦ (
          let n : upto v (x ∷ pre) + below v.sort_key post ≡ upto v pre + below v.sort_key post = rw y (omega arith) in
          ap (slice_get (with_item x w)) n ∙ under_with_item v x w (upto v pre + below v.sort_key post) (stored_ordered (pre ++ v ∷ post)) r y)
      | inr y ↦ (
          let n : upto v (x ∷ pre) + below v.sort_key post ≡ suc (upto v pre + below v.sort_key post) = rw y (omega arith) in
          ap (slice_get (with_item x w)) n ∙ over_with_item v x w (upto v pre + below v.sort_key post) r y)
    ]

-- ---- where it stands among the joined ones

record Split (v : Item) (w : List Item) (n : ℕ) : Type 0 where
  pub pre : List Item
  pub post : List Item
  pub is : w ≡ pre ++ v ∷ post
  pub count : upto v pre + below v.sort_key post ≡ n

split_one : (vs : List Item) (p : ℕ) (v : Item) → IsOrdered vs → slice_get vs p ≡ Some v → (pre : List Item) × (post : List Item) × (vs ≡ pre ++ v ∷ post) × (upto v pre ≡ p) × (below v.sort_key post ≡ 0)
split_one [] p v o e = absurd cc
split_one (x ∷ xs) zero v o e =
    let q : x ≡ v = cc in
    ([], xs, ap (λ (u : Item). u ∷ xs) q, refl, ap (λ (u : Item). below u.sort_key xs) (sym q) ∙ none_low x.sort_key x xs o.0 (before_itself x.sort_key))
split_one (x ∷ xs) (suc n) v o e =
    let r = split_one xs n v o.1 e in
    let y : is_before v.sort_key x.sort_key ≡ false = In_after (λ u. is_before u.sort_key x.sort_key ≡ false) v xs o.0 (get_In xs n v e) in
    (x ∷ r.0, r.1, ap (λ (l : List Item). x ∷ l) r.2, (let c = r.3 in rw y (omega (arith, c))), r.4)

pub count_joined : (q : Item → Bool) (ss : List Side) → ((k : ℕ) (d : Side) → k < length ss → count_of q (get_or ss k d).versions ≡ (get_or ss k d).passed) → count_of q (joined_lists (lists ss)) ≡ passed ss
count_joined q [] h = refl
count_joined q (s ∷ ss) h =
    let x : count_of q s.versions ≡ s.passed = h zero s (omega arith) in
    let r = count_joined q ss (λ k d l. h (suc k) d (omega arith)) in
    omega (arith, count_of-append q s.versions (joined_lists (lists ss)), x, r)

split_at : (ss : List Side) (a : ℕ) (s : Side) (v : Item) → AreOrdered ss → a < length ss → s ≡ get_or ss a s → slice_get s.versions s.passed ≡ Some v
    → ((k : ℕ) (d : Side) → k < a → k < length ss → upto v (get_or ss k d).versions ≡ (get_or ss k d).passed)
    → ((k : ℕ) (d : Side) → a < k → k < length ss → below v.sort_key (get_or ss k d).versions ≡ (get_or ss k d).passed) → Split v (joined_lists (lists ss)) (passed ss)
split_at [] a s v so l is e low high = absurd (omega arith)
split_at (x ∷ xs) zero s v so l is e low high =
    let o : IsOrdered s.versions = subst (λ (y : Side). IsOrdered y.versions) (sym is) (so zero s (omega arith)) in
    let r = split_one s.versions s.passed v o e in
    let rest = joined_lists (lists xs) in
    let c = count_joined (λ u. is_before u.sort_key v.sort_key) xs (λ k d m. high (suc k) d (omega arith) (omega arith)) in
    let p : s.passed ≡ x.passed = ap (λ (y : Side). y.passed) is in
    let n = r.3 in
    let z = r.4 in
    record {
      pre = r.0;
      post = r.1 ++ rest;
      is = ap (λ (y : Side). y.versions ++ rest) (sym is) ∙ ap (λ (l : List Item). l ++ rest) r.2 ∙ append_assoc r.0 (v ∷ r.1) rest;
      count = omega (arith, count_of-append (λ u. is_before u.sort_key v.sort_key) r.1 rest, c, p, n, z);
    }
split_at (x ∷ xs) (suc a) s v so l is e low high =
    let r = split_at xs a s v (All-tail (λ (y : Side). IsOrdered y.versions) x xs so) (omega arith) is e (λ k d i m. low (suc k) d (omega arith) (omega arith)) (λ k d i m. high (suc k) d (omega arith) (omega arith)) in
    let c : upto v x.versions ≡ x.passed = low zero x (omega arith) (omega arith) in
    let n = r.count in
    record {
      pre = x.versions ++ r.pre;
      post = r.post;
      is = ap (λ (l : List Item). x.versions ++ l) r.is ∙ sym (append_assoc x.versions r.pre (v ∷ r.post));
      count = omega (arith, count_of-append (λ u. not (is_before v.sort_key u.sort_key)) x.versions r.pre, c, n);
    }

some_place : (o : Option Item) (w : Item) → o ≡ Some w → key_in o ≡ Some w.sort_key
some_place o w e = ap key_in e

-- the lowest one in front, of the first side that has it, stands where so many are passed
pub shows_at : (ss : List Side) (a : ℕ) (s : Side) (v : Item) → AreOrdered ss → IsMerge ss a → a < length ss → s ≡ get_or ss a s → slice_get s.versions s.passed ≡ Some v → slice_get (all ss) (passed ss) ≡ Some v
shows_at ss a s v so m l is e =
    let fv : front (get_or ss a s) ≡ Some v.sort_key = ap front (sym is) ∙ ap key_in e in
    let fo : front_of (slice_get ss a) ≡ Some v.sort_key = ap front_of (slice_get-get_or ss a s l) ∙ fv in
    let r = split_at ss a s v so l is e
    (λ k d i n. let x = get_or ss k d in
    count_cut (λ u. not (is_before v.sort_key u.sort_key)) (λ u w h y. not_true (is_before v.sort_key u.sort_key) (upto_upto u.sort_key w.sort_key v.sort_key h (not_false (is_before v.sort_key w.sort_key) y))) x.versions x.passed (so k d n) (m.cut.inside k d n)
    (λ w q. subst (λ b. is_upto b (Some v.sort_key) ≡ true) (some_place (standing x.versions x.passed) w q) (subst (λ b. is_upto (back x) b ≡ true) fv (m.cut.upto k a d s n l (omega arith))))
    (λ w q. ap not (subst (λ b. is_lower (Some v.sort_key) b ≡ true) (some_place (slice_get x.versions x.passed) w q) (m.low.first v.sort_key fo k d i n))))
    (λ k d i n. let x = get_or ss k d in
    count_cut (λ u. is_before u.sort_key v.sort_key) (λ u w h y. upto_before u.sort_key w.sort_key v.sort_key h y) x.versions x.passed (so k d n) (m.cut.inside k d n)
    (λ w q. subst (λ b. is_apart b (Some v.sort_key) ≡ true) (some_place (standing x.versions x.passed) w q) (subst (λ b. is_apart (back x) b ≡ true) fv (m.cut.apart k a d s n l i)))
    (λ w q. subst (λ b. is_lower b (Some v.sort_key) ≡ false) (some_place (slice_get x.versions x.passed) w q) (subst (λ b. is_lower (front x) b ≡ false) fo (m.low.least k d n)))) in
    ap (λ (w : List Item). slice_get (stored_items w) (passed ss)) r.is ∙ ap (slice_get (stored_items (r.pre ++ v ∷ r.post))) (sym r.count) ∙ position v r.pre r.post

-- ---- the end

passed_joined : (ss : List Side) → ((k : ℕ) (d : Side) → k < length ss → (get_or ss k d).passed ≤ length (get_or ss k d).versions) → passed ss ≤ length (joined_lists (lists ss))
passed_joined [] h = omega arith
passed_joined (s ∷ ss) h =
    let x : s.passed ≤ length s.versions = h zero s (omega arith) in
    let r = passed_joined ss (λ k d l. h (suc k) d (omega arith)) in
    omega (arith, length-append s.versions (joined_lists (lists ss)), x, r)

pub passed_within : (ss : List Side) → AreSidesCut ss → passed ss ≤ length (all ss)
passed_within ss c = let h = passed_joined ss c.inside in let e = length-stored (joined_lists (lists ss)) in omega (arith, h, e)

joined_passed : (ss : List Side) → ((k : ℕ) (d : Side) → k < length ss → length (get_or ss k d).versions ≤ (get_or ss k d).passed) → length (joined_lists (lists ss)) ≤ passed ss
joined_passed [] h = omega arith
joined_passed (s ∷ ss) h =
    let x : length s.versions ≤ s.passed = h zero s (omega arith) in
    let r = joined_passed ss (λ k d l. h (suc k) d (omega arith)) in
    omega (arith, length-append s.versions (joined_lists (lists ss)), x, r)

-- where all are passed, as many as there are
pub passed_end : (ss : List Side) → All (λ s. s.passed ≡ length s.versions) ss → passed ss ≡ length (all ss)
passed_end ss at =
    let j = joined_passed ss (λ k d n. let h = at k d n in omega (arith, h)) in
    let e = length-stored (joined_lists (lists ss)) in
    let w = passed_within ss (end_cut ss at) in
    omega (arith, j, e, w)

no_front : (o : Option Item) → is_lower (key_in o) None ≡ false → o ≡ None
no_front None h = refl
no_front (Some v) h = absurd cc

all_passed : (vs : List Item) (p : ℕ) → slice_get vs p ≡ None → length vs ≤ p
all_passed vs p e = elim (cases_lt p (length vs)) [ inl l ↦ absurd (past_end vs p e (omega arith)) | inr g ↦ g ]

pub ends_passed : (ss : List Side) (low : ℕ) → IsMerge ss low → length ss ≤ low → passed ss ≡ length (all ss)
ends_passed ss low m l =
    let fo : front_of (slice_get ss low) ≡ None = ap front_of (slice_get_past ss low l) in
    let j = joined_passed ss (λ k d n. let x = get_or ss k d in
    all_passed x.versions x.passed (no_front (slice_get x.versions x.passed) (subst (λ b. is_lower (front x) b ≡ false) fo (m.low.least k d n)))) in
    let e = length-stored (joined_lists (lists ss)) in
    let w = passed_within ss m.cut in
    omega (arith, j, e, w)

pub ends_none : (ss : List Side) (low : ℕ) → IsMerge ss low → length ss ≤ low → slice_get (all ss) (passed ss) ≡ None
ends_none ss low m l = let e = ends_passed ss low m l in slice_get_past (all ss) (passed ss) (omega (arith, e))

-- ---- a side that moves

pub lists_same : (ss : List Side) (a : ℕ) (s : Side) (n : ℕ) → a < length ss → s ≡ get_or ss a s → lists (set ss a (moved s n)) ≡ lists ss
lists_same [] a s n l is = absurd (omega arith)
lists_same (x ∷ xs) zero s n l is = ap (λ (y : Side). y.versions ∷ lists xs) is
lists_same (x ∷ xs) (suc a) s n l is = ap (λ r. x.versions ∷ r) (lists_same xs a s n (omega arith) is)

pub passed_moved : (ss : List Side) (a : ℕ) (s : Side) (n : ℕ) → a < length ss → s ≡ get_or ss a s → passed (set ss a (moved s n)) + s.passed ≡ passed ss + n
passed_moved [] a s n l is = absurd (omega arith)
passed_moved (x ∷ xs) zero s n l is = let e : s.passed ≡ x.passed = ap (λ (y : Side). y.passed) is in omega (arith, e)
passed_moved (x ∷ xs) (suc a) s n l is = let r = passed_moved xs a s n (omega arith) is in omega (arith, r)

pub place_within : (ss : List Side) (low : ℕ) (before : Bool) → IsMerge ss low → (if before then 0 else passed ss + 1) ≤ length (all ss) + 1
place_within ss low true m = omega arith
place_within ss low false m = let h = passed_within ss m.cut in omega (arith, h)

-- ---- places after a step

pub place_on : (before : Bool) (len p q : ℕ) → before ≡ false → q ≡ p + 1 → q ≤ len → (if before then 0 else q + 1) ≡ onward len (if before then 0 else p + 1)
place_on true len p q b e l = absurd cc
place_on false len p q b e l = let y : nat_le (p + 1) len ≡ true = le-leb (p + 1) len (omega arith) in rw y (omega arith)

pub place_first : (before : Bool) (len p : ℕ) → before ≡ true → (before ≡ true → p ≡ 0) → p + 1 ≡ onward len (if before then 0 else p + 1)
place_first true len p b e = let z : p ≡ 0 = e refl in let y : nat_le 0 len ≡ true = le-leb 0 len (omega arith) in rw y (omega arith)
place_first false len p b e = absurd cc

pub place_stays_at_end : (before : Bool) (len p : ℕ) → before ≡ false → p ≡ len → (if before then 0 else p + 1) ≡ onward len (if before then 0 else p + 1)
place_stays_at_end true len p b e = absurd cc
place_stays_at_end false len p b e = let y : nat_le (p + 1) len ≡ false = lt-leb (p + 1) len (omega arith) in rw y refl

-- ---- the lists of cursors

pub lists_are : {C : Type 0} (items : C → List Item) (place : C → ℕ) (cs : List C) → lists (sides items place cs) ≡ map items cs
lists_are items place [] = refl
lists_are items place (c ∷ cs) = ap (λ (r : List (List Item)). items c ∷ r) (lists_are items place cs)
