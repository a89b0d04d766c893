-- The definition of a collection, computed.
use Rattle.std.proofs.Common.{◌≡◌, ℕ, zero, suc, ◌+◌, ◌<◌, ◌≤◌, Bool, true, false, cond, not, ◌&&◌, ◌||◌, List, [], ◌∷◌, ◌++◌, length, get_or, take, drop, Option, Some, None, refl, sym, ap, subst, ◌∙◌, ◌⊎◌, inl, inr, arith, append_assoc}
use Rattle.std.specs.Prelude.{filter, nat_le, nat_lt, position, IsSome, ◌↔◌, if◌then◌else◌}
use Rattle.std.specs.List.{insert, list_any, position_or_len}
use Rattle.std.specs.Option.{option_to_list}
use Rattle.std.proofs.lemmas.Bool.{cases_Bool}
use Rattle.std.proofs.lemmas.Bool.Decides.{nat_tests}
use Rattle.std.proofs.lemmas.List.{at_drop_more, at_drop_all, append-nil}
use Rattle.ts_key.specs.declared.numbers.Seq.{Seq}
use Rattle.ts_key.specs.declared.numbers.Ts.{Ts}
use Rattle.ts_key.specs.declared.version.Version.{Version}
use Rattle.udt_model.specs.Orders.{is_version_before, with_version, stored}
use Rattle.udt_model.specs.Versions.{up_to}
use Rattle.udt_model.specs.Collecting.{hides, is_hidden}

-- a test over what passes another
pub any_filter : (p q : Version → Bool) (xs : List Version) → list_any p (filter q xs) ≡ list_any (λ x. q x && p x) xs
any_filter p q [] = refl
any_filter p q (x ∷ xs) = on (q x) (any_filter p q xs)
  where
    on : (b : Bool) → list_any p (filter q xs) ≡ list_any (λ x. q x && p x) xs → list_any p (cond b (x ∷ filter q xs) (filter q xs)) ≡ ((b && p x) || list_any (λ x. q x && p x) xs)
    on true r = ap (λ b. p x || b) r
    on false r = r

-- hidden by those up to a sequence
pub hidden_up_to : (vs : List Version) (floor : Ts) (v : Version) (s : Seq) → is_hidden (up_to s.0 vs) floor v ≡ list_any (λ o. nat_le o.seq.0 s.0 && hides floor o v) vs
hidden_up_to vs floor v s = any_filter (λ o. hides floor o v) (λ o. nat_le o.seq.0 s.0) vs

-- a filter, one version further
pub filter_step : (p : Version → Bool) (xs : List Version) (i : ℕ) (v : Version) → i < length xs → v ≡ get_or xs i v → filter p (drop i xs) ≡ cond (p v) (v ∷ filter p (drop (i + 1) xs)) (filter p (drop (i + 1) xs))
filter_step p xs i v l is = at_drop_more (filter p) xs i v l ∙ ap (λ (w : Version). cond (p w) (w ∷ filter p (drop (i + 1) xs)) (filter p (drop (i + 1) xs))) (sym is)

pub filter_kept : (p : Version → Bool) (xs kept more all : List Version) (i : ℕ) (v : Version) → i < length xs → v ≡ get_or xs i v → p v ≡ true → kept ++ filter p (drop i xs) ≡ all → more ≡ kept ++ v ∷ [] → more ++ filter p (drop (i + 1) xs) ≡ all
filter_kept p xs kept more all i v l is y inv e =
    ap (λ (k : List Version). k ++ filter p (drop (i + 1) xs)) e ∙ append_assoc kept (v ∷ []) (filter p (drop (i + 1) xs))
    ∙ ap (λ (k : List Version). kept ++ k) (sym (filter_step p xs i v l is ∙ ap (λ b. cond b (v ∷ filter p (drop (i + 1) xs)) (filter p (drop (i + 1) xs))) y)) ∙ inv

pub filter_left : (p : Version → Bool) (xs kept all : List Version) (i : ℕ) (v : Version) → i < length xs → v ≡ get_or xs i v → p v ≡ false → kept ++ filter p (drop i xs) ≡ all → kept ++ filter p (drop (i + 1) xs) ≡ all
filter_left p xs kept all i v l is n inv =
    ap (λ (k : List Version). kept ++ k) (sym (filter_step p xs i v l is ∙ ap (λ b. cond b (v ∷ filter p (drop (i + 1) xs)) (filter p (drop (i + 1) xs))) n)) ∙ inv

pub filter_end : (p : Version → Bool) (xs kept all : List Version) (i : ℕ) → length xs ≤ i → kept ++ filter p (drop i xs) ≡ all → kept ≡ all
filter_end p xs kept all i l inv = sym (append-nil kept) ∙ ap (λ (k : List Version). kept ++ k) (sym (at_drop_all (filter p) xs i l)) ∙ inv

pub filter_more : (p : Version → Bool) (xs kept more all : List Version) (i : ℕ) (v : Version) → i < length xs → v ≡ get_or xs i v → (keep : Bool) → keep ≡ p v → kept ++ filter p (drop i xs) ≡ all
    → more ≡ (if keep then kept ++ v ∷ [] else kept) → more ++ filter p (drop (i + 1) xs) ≡ all
filter_more p xs kept more all i v l is true k inv e = filter_kept p xs kept more all i v l is (sym k) inv e
filter_more p xs kept more all i v l is false k inv e = ap (λ (m : List Version). m ++ filter p (drop (i + 1) xs)) e ∙ filter_left p xs kept all i v l is (sym k) inv

-- put before the first that it stands before
abbrev behind : Version → Version → Bool
behind v o = not (is_version_before o v)

pub insert_is : (v : Version) (os : List Version) → insert os (position_or_len (λ o. not (is_version_before o v)) os) v ≡ with_version v os
insert_is v [] = refl
insert_is v (o ∷ os) =
    elim (cases_Bool (is_version_before o v)) [
      | inl y ↦
          ap (λ b. insert (o ∷ os) (cond (not (not b)) (1 + position_or_len (behind v) os) 0) v) y
          ∙ ap (λ n. insert (o ∷ os) n v) (one_more (position_or_len (behind v) os))
          ∙ ap (λ (k : List Version). o ∷ k) (insert_is v os)
          ∙ sym (ap (λ b. if b then o ∷ with_version v os else v ∷ o ∷ os) y)
      | inr n ↦
          ap (λ b. insert (o ∷ os) (cond (not (not b)) (1 + position_or_len (behind v) os) 0) v) n
          ∙ sym (ap (λ b. if b then o ∷ with_version v os else v ∷ o ∷ os) n)
    ]
  where
    one_more : (n : ℕ) → 1 + n ≡ suc n
    one_more n = omega arith

pub place_most : (p : Version → Bool) (xs : List Version) → position_or_len p xs ≤ length xs
place_most p [] = omega arith
place_most p (x ∷ xs) = on (not (p x)) (place_most p xs)
  where
    on : (b : Bool) → position_or_len p xs ≤ length xs → cond b (1 + position_or_len p xs) 0 ≤ suc (length xs)
    on true r = omega (arith, r)
    on false r = omega arith

pub place_some : (p : Version → Bool) (xs : List Version) (i : ℕ) → position p xs ≡ Some i → i ≡ position_or_len p xs
place_some p xs i e = on (nat_lt (position_or_len p xs) (length xs)) (position_or_len p xs) e
  where
    on : (b : Bool) (k : ℕ) → cond b (Some k) None ≡ Some i → i ≡ k
    on true k e = cc
    on false k e = absurd cc

pub place_none : (p : Version → Bool) (xs : List Version) → position p xs ≡ None → length xs ≡ position_or_len p xs
place_none p xs e =
    let n : nat_lt (position_or_len p xs) (length xs) ≡ false = on (nat_lt (position_or_len p xs) (length xs)) (position_or_len p xs) e in
    let g = ge (position_or_len p xs) (length xs) n in
    omega (arith, g, place_most p xs)
  where
    on : (b : Bool) (k : ℕ) → cond b (Some k) None ≡ None → b ≡ false
    on true k e = absurd cc
    on false k e = refl

    ge : (a b : ℕ) → nat_lt a b ≡ false → b ≤ a
    ge a b h = grind (arith, nat_tests)

-- the last one of the rest goes before those behind it
pub one_back : (rest less back all : List Version) (o : Option Version) (v : Version) → o ≡ Some v → rest ≡ less ++ option_to_list o → rest ++ back ≡ all → less ++ v ∷ back ≡ all
one_back rest less back all o v e f h =
    sym (append_assoc less (v ∷ []) back) ∙ ap (λ (k : List Version). k ++ back) (sym (f ∙ ap (λ p. less ++ option_to_list p) e)) ∙ h

none_some : IsSome {T = Version} None → ⊥
none_some h = cc

-- where there is none left all are behind
pub none_back : (rest back all : List Version) (n : ℕ) (o : Option Version) → length rest ≡ n → o ≡ None → (IsSome o ↔ (0 < n)) → rest ++ back ≡ all → back ≡ all
none_back [] back all n o q e f h = h
none_back (x ∷ rest) back all n o q e f h = absurd (none_some (subst IsSome e (f.1 (omega (arith, q)))))
