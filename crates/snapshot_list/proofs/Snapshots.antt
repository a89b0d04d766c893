-- Edits of the two lists that hold the registered snapshots.
use Rattle.std.proofs.Common.{◌≡◌, ℕ, zero, suc, ◌+◌, ◌<◌, ◌≤◌, Bool, true, false, cond, not, ◌||◌, List, [], ◌∷◌, length, get_or, Option, Some, None, refl, sym, ap, subst, ◌∙◌, ◌⊎◌, inl, inr, leb-true, arith}
use Rattle.std.specs.Prelude.{◌==◌, nat_lt, nat_le, if◌then◌else◌, position}
use Rattle.std.specs.List.{AllWithin, insert, remove, list_any, position_or_len}
use Rattle.std.specs.Option.{is_some}
use Rattle.std.proofs.lemmas.Bool.{cases_Bool}
use Rattle.std.proofs.lemmas.Bool.Decides.{nat_tests}
use Rattle.std.proofs.lemmas.List.Edits.{length-remove, get_or-remove_below, get_or-remove_above}
use Rattle.ts_key.specs.declared.numbers.Seq.{Seq}
use Rattle.ts_key.specs.Ascending.{AreAscending}
use Rattle.snapshot_list.specs.Registered.{Registered, has_id, with_snapshot, without_id, registered_seqs, paired, AreDistinct}

pub length_paired : (ids : List ℕ) (seqs : List Seq) → length ids ≡ length seqs → length (paired ids seqs) ≡ length seqs
length_paired [] [] e = refl
length_paired [] (s ∷ seqs) e = absurd (omega (arith, e))
length_paired (id ∷ ids) [] e = absurd (omega (arith, e))
length_paired (id ∷ ids) (s ∷ seqs) e = ap suc (length_paired ids seqs (omega (arith, e)))

pub seqs_paired : (ids : List ℕ) (seqs : List Seq) → length ids ≡ length seqs → registered_seqs (paired ids seqs) ≡ seqs
seqs_paired [] [] e = refl
seqs_paired [] (s ∷ seqs) e = absurd (omega (arith, e))
seqs_paired (id ∷ ids) [] e = absurd (omega (arith, e))
seqs_paired (id ∷ ids) (s ∷ seqs) e = ap (λ (l : List Seq). s ∷ l) (seqs_paired ids seqs (omega (arith, e)))

pub has_paired : (ids : List ℕ) (seqs : List Seq) (id : ℕ) → length ids ≡ length seqs → has_id (paired ids seqs) id ≡ list_any (λ i. i == id) ids
has_paired [] seqs id e = refl
has_paired (i ∷ ids) [] id e = absurd (omega (arith, e))
has_paired (i ∷ ids) (s ∷ seqs) id e = ap (λ b. (i == id) || b) (has_paired ids seqs id (omega (arith, e)))

-- ---- one more

or_parts : (a b : Bool) → (a || b) ≡ false → (a ≡ false) × (b ≡ false)
or_parts true b h = absurd cc
or_parts false b h = (refl, h)

any_insert : (p : ℕ → Bool) (xs : List ℕ) (i y : ℕ) → list_any p xs ≡ false → p y ≡ false → list_any p (insert xs i y) ≡ false
any_insert p xs zero y h n = ap (λ b. b || list_any p xs) n ∙ h
any_insert p [] (suc i) y h n = ap (λ b. b || false) n
any_insert p (x ∷ xs) (suc i) y h n =
    let r = or_parts (p x) (list_any p xs) h in
    ap (λ b. b || list_any p (insert xs i y)) r.0 ∙ any_insert p xs i y r.1 n

other_way : (a b : ℕ) → (a == b) ≡ false → (b == a) ≡ false
other_way a b h = grind (arith, nat_tests)

pub distinct_insert : (xs : List ℕ) (i y : ℕ) → AreDistinct xs → list_any (λ x. x == y) xs ≡ false → AreDistinct (insert xs i y)
distinct_insert xs zero y d n = (n, d)
distinct_insert [] (suc i) y d n = (refl, tt)
distinct_insert (x ∷ xs) (suc i) y d n =
    let r = or_parts (x == y) (list_any (λ x. x == y) xs) n in
    (any_insert (λ z. z == x) xs i y d.0 (other_way x y r.0), distinct_insert xs i y d.1 r.1)

-- put between the sequences up to its own and those above
pub inserted_is : (ids : List ℕ) (seqs : List Seq) (id : ℕ) (s : Seq) (i : ℕ) → length ids ≡ length seqs → i ≤ length seqs
    → AllWithin (λ (x : Seq). nat_le x.0 s.0 ≡ true) seqs 0 i → AllWithin (λ (x : Seq). nat_le x.0 s.0 ≡ false) seqs i (length seqs)
    → paired (insert ids i id) (insert seqs i s) ≡ with_snapshot (record { id = id; seq = s }) (paired ids seqs)
inserted_is [] [] id s zero e l low high = refl
inserted_is [] [] id s (suc i) e l low high = absurd (omega (arith, l))
inserted_is [] (x ∷ seqs) id s i e l low high = absurd (omega (arith, e))
inserted_is (j ∷ ids) [] id s i e l low high = absurd (omega (arith, e))
inserted_is (j ∷ ids) (x ∷ seqs) id s zero e l low high =
    let n : nat_le x.0 s.0 ≡ false = high 0 x (omega arith) (omega arith) in
    sym (ap (λ b. if b then record { id = j; seq = x } ∷ with_snapshot (record { id = id; seq = s }) (paired ids seqs) else record { id = id; seq = s } ∷ record { id = j; seq = x } ∷ paired ids seqs) n)
inserted_is (j ∷ ids) (x ∷ seqs) id s (suc i) e l low high =
    let y : nat_le x.0 s.0 ≡ true = low 0 x (omega arith) (omega arith) in
    let r = inserted_is ids seqs id s i (omega (arith, e)) (omega (arith, l)) (λ k d a b. low (suc k) d (omega arith) (omega (arith, b))) (λ k d a b. high (suc k) d (omega (arith, a)) (omega (arith, b))) in
    ap (λ (rs : List Registered). record { id = j; seq = x } ∷ rs) r
    ∙ sym (ap (λ b. if b then record { id = j; seq = x } ∷ with_snapshot (record { id = id; seq = s }) (paired ids seqs) else record { id = id; seq = s } ∷ record { id = j; seq = x } ∷ paired ids seqs) y)

-- ---- one less

lt_from : (a b : ℕ) → nat_lt a b ≡ true → a < b
lt_from a b h = grind (arith, nat_tests)

ge_from : (a b : ℕ) → nat_lt a b ≡ false → b ≤ a
ge_from a b h = grind (arith, nat_tests)

any_remove : (p : ℕ → Bool) (xs : List ℕ) (i : ℕ) → list_any p xs ≡ false → list_any p (remove xs i) ≡ false
any_remove p [] zero h = refl
any_remove p [] (suc i) h = refl
any_remove p (x ∷ xs) zero h = (or_parts (p x) (list_any p xs) h).1
any_remove p (x ∷ xs) (suc i) h =
    let r = or_parts (p x) (list_any p xs) h in
    ap (λ b. b || list_any p (remove xs i)) r.0 ∙ any_remove p xs i r.1

pub distinct_remove : (xs : List ℕ) (i : ℕ) → AreDistinct xs → AreDistinct (remove xs i)
distinct_remove [] zero d = tt
distinct_remove [] (suc i) d = tt
distinct_remove (x ∷ xs) zero d = d.1
distinct_remove (x ∷ xs) (suc i) d = (any_remove (λ z. z == x) xs i d.0, distinct_remove xs i d.1)

pub ascending_remove : (xs : List Seq) (i : ℕ) → i < length xs → AreAscending xs → AreAscending (remove xs i)
ascending_remove xs i l up a b d le in_range =
    let n = length-remove xs i l in
    elim (split a) [
      | inl x ↦ elim (split b) [
        | inl y ↦ rw (get_or-remove_below xs i d a x l, get_or-remove_below xs i d b y l) (up a b d le (omega (arith, n)))
        | inr y ↦ rw (get_or-remove_below xs i d a x l, get_or-remove_above xs i d b y l) (up a (b + 1) d (omega arith) (omega (arith, n)))
      ]
      | inr x ↦ rw (get_or-remove_above xs i d a x l, get_or-remove_above xs i d b (omega arith) l) (up (a + 1) (b + 1) d (omega arith) (omega (arith, n)))
    ]
  where
    split : (k : ℕ) → (k < i) ⊎ (i ≤ k)
    split k = elim (cases_Bool (nat_lt k i)) [ inl y ↦ inl (lt_from k i y) | inr n ↦ inr (ge_from k i n) ]

all_stay : (id : ℕ) (ids : List ℕ) (seqs : List Seq) → list_any (λ i. i == id) ids ≡ false → without_id (paired ids seqs) id ≡ paired ids seqs
all_stay id [] seqs h = refl
all_stay id (i ∷ ids) [] h = refl
all_stay id (i ∷ ids) (s ∷ seqs) h =
    let r = or_parts (i == id) (list_any (λ i. i == id) ids) h in
    ap (λ b. cond (not b) (record { id = i; seq = s } ∷ without_id (paired ids seqs) id) (without_id (paired ids seqs) id)) r.0
    ∙ ap (λ (rs : List Registered). record { id = i; seq = s } ∷ rs) (all_stay id ids seqs r.1)

same_id : (i id : ℕ) (ids : List ℕ) → (i == id) ≡ true → list_any (λ j. j == i) ids ≡ false → list_any (λ j. j == id) ids ≡ false
same_id i id ids e h = let q : i ≡ id = grind (arith, nat_tests) in subst (λ x. list_any (λ j. j == x) ids ≡ false) q h

abbrev place_in : ℕ → List ℕ → ℕ
place_in id ids = position_or_len (λ i. i == id) ids

removed_at : (id : ℕ) (ids : List ℕ) (seqs : List Seq) → length ids ≡ length seqs → AreDistinct ids → place_in id ids < length ids
    → paired (remove ids (place_in id ids)) (remove seqs (place_in id ids)) ≡ without_id (paired ids seqs) id
removed_at id [] seqs e d l = absurd (omega (arith, l))
removed_at id (i ∷ ids) [] e d l = absurd (omega (arith, e))
removed_at id (i ∷ ids) (s ∷ seqs) e d l =
    elim (cases_Bool (i == id)) [
      | inl y ↦
          let z : place_in id (i ∷ ids) ≡ 0 = ap (λ b. cond (not b) (1 + place_in id ids) 0) y in
          ap (λ k. paired (remove (i ∷ ids) k) (remove (s ∷ seqs) k)) z
          ∙ sym (all_stay id ids seqs (same_id i id ids y d.0))
          ∙ sym (ap (λ b. cond (not b) (record { id = i; seq = s } ∷ without_id (paired ids seqs) id) (without_id (paired ids seqs) id)) y)
      | inr n ↦
          let z : place_in id (i ∷ ids) ≡ suc (place_in id ids) = ap (λ b. cond (not b) (1 + place_in id ids) 0) n ∙ omega arith in
          ap (λ k. paired (remove (i ∷ ids) k) (remove (s ∷ seqs) k)) z
          ∙ ap (λ (rs : List Registered). record { id = i; seq = s } ∷ rs) (removed_at id ids seqs (omega (arith, e)) d.1 (omega (arith, l, z)))
          ∙ sym (ap (λ b. cond (not b) (record { id = i; seq = s } ∷ without_id (paired ids seqs) id) (without_id (paired ids seqs) id)) n)
    ]

missing : (p : ℕ → Bool) (xs : List ℕ) → (position_or_len p xs < length xs → ⊥) → list_any p xs ≡ false
missing p [] h = refl
missing p (x ∷ xs) h =
    elim (cases_Bool (p x)) [
      | inl y ↦ let z : position_or_len p (x ∷ xs) ≡ 0 = ap (λ b. cond (not b) (1 + position_or_len p xs) 0) y in absurd (h (omega (arith, z)))
      | inr n ↦
          let z : position_or_len p (x ∷ xs) ≡ suc (position_or_len p xs) = ap (λ b. cond (not b) (1 + position_or_len p xs) 0) n ∙ omega arith in
          ap (λ b. b || list_any p xs) n ∙ missing p xs (λ l. h (omega (arith, l, z)))
    ]

found_on : (b : Bool) (k i : ℕ) → cond b (Some k) None ≡ Some i → (b ≡ true) × (k ≡ i)
found_on true k i e = (refl, cc)
found_on false k i e = absurd cc

none_on : (b : Bool) (k : ℕ) → cond b (Some k) None ≡ None → b ≡ false
none_on true k e = absurd cc
none_on false k e = refl

not_lt : (a b : ℕ) → nat_lt a b ≡ false → a < b → ⊥
not_lt a b h l = grind (arith, nat_tests)

pub place_within : (id : ℕ) (ids : List ℕ) (i : ℕ) → position (λ j. j == id) ids ≡ Some i → (place_in id ids ≡ i) × (i < length ids)
place_within id ids i e =
    let r = found_on (nat_lt (place_in id ids) (length ids)) (place_in id ids) i e in
    let l = lt_from (place_in id ids) (length ids) r.0 in
    let k = r.1 in
    (k, omega (arith, l, k))

pub removed_is : (id : ℕ) (ids : List ℕ) (seqs : List Seq) (i : ℕ) → length ids ≡ length seqs → AreDistinct ids → position (λ j. j == id) ids ≡ Some i
    → paired (remove ids i) (remove seqs i) ≡ without_id (paired ids seqs) id
removed_is id ids seqs i e d p =
    let r = place_within id ids i p in
    let k = r.0 in
    let l = r.1 in
    subst (λ m. paired (remove ids m) (remove seqs m) ≡ without_id (paired ids seqs) id) k (removed_at id ids seqs e d (omega (arith, k, l)))

pub none_is : (id : ℕ) (ids : List ℕ) (seqs : List Seq) → position (λ j. j == id) ids ≡ None → without_id (paired ids seqs) id ≡ paired ids seqs
none_is id ids seqs p =
    all_stay id ids seqs (missing (λ j. j == id) ids (not_lt (place_in id ids) (length ids) (none_on (nat_lt (place_in id ids) (length ids)) (place_in id ids) p)))

-- ---- what a test at a place says

pub le_from : (d s : Seq) (xs : List Seq) (k : ℕ) → nat_le (get_or xs k d).0 s.0 ≡ true → (get_or xs k d).0 ≤ s.0
le_from d s xs k h = leb-true (get_or xs k d).0 s.0 h

not_le : (a b : ℕ) → nat_le a b ≡ false → b ≤ a
not_le a b h = grind (arith, nat_tests)

pub gt_from : (d s : Seq) (xs : List Seq) (k : ℕ) → nat_le (get_or xs k d).0 s.0 ≡ false → s.0 ≤ (get_or xs k d).0
gt_from d s xs k h = not_le (get_or xs k d).0 s.0 h

-- ---- whether a number is there

there : (p : ℕ → Bool) (xs : List ℕ) → position_or_len p xs < length xs → list_any p xs ≡ true
there p [] l = absurd (omega (arith, l))
there p (x ∷ xs) l =
    elim (cases_Bool (p x)) [
      | inl y ↦ ap (λ b. b || list_any p xs) y
      | inr n ↦
          let z : position_or_len p (x ∷ xs) ≡ suc (position_or_len p xs) = ap (λ b. cond (not b) (1 + position_or_len p xs) 0) n ∙ omega arith in
          ap (λ b. b || list_any p xs) n ∙ there p xs (omega (arith, l, z))
    ]

-- a place is found exactly where the number is there
pub is_there : (id : ℕ) (ids : List ℕ) → is_some (position (λ j. j == id) ids) ≡ list_any (λ j. j == id) ids
is_there id ids =
    elim (cases_Bool (nat_lt (place_in id ids) (length ids))) [
      | inl y ↦ ap (λ b. is_some (cond b (Some (place_in id ids)) None)) y ∙ sym (there (λ j. j == id) ids (lt_from (place_in id ids) (length ids) y))
      | inr n ↦ ap (λ b. is_some (cond b (Some (place_in id ids)) None)) n ∙ sym (missing (λ j. j == id) ids (not_lt (place_in id ids) (length ids) n))
    ]

-- what the search for a number's place says of the snapshots
pub known_is : (ids : List ℕ) (seqs : List Seq) (id : ℕ) (now : List Registered) (r : Bool) (p : Option ℕ) (d : List ℕ) → length ids ≡ length seqs → paired ids seqs ≡ now
    → r ≡ is_some p → p ≡ position (λ j. j == id) d → d ≡ ids → has_id now id ≡ r
known_is ids seqs id now r p d e v a b c =
    ap (λ l. has_id l id) (sym v) ∙ has_paired ids seqs id e ∙ sym (is_there id ids) ∙ sym (a ∙ ap is_some b ∙ ap (λ l. is_some (position (λ j. j == id) l)) c)
