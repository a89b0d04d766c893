-- What flushes make.
use Rattle.std.proofs.Common.{◌≡◌, ℕ, suc, ◌+◌, ◌-◌, ◌^◌, ◌<◌, ◌≤◌, Bool, true, false, cond, not, ◌&&◌, ◌||◌, List, [], ◌∷◌, length, map, Some, None, refl, sym, ap, ◌∙◌, inl, inr, arith}
use Rattle.std.specs.Prelude.{max, min, nat_le, nat_lt, position, if◌then◌else◌}
use Rattle.std.specs.List.{insert, list_any, position_or_len}
use Rattle.std.proofs.lemmas.Bool.{cases_Bool}
use Rattle.std.proofs.lemmas.Bool.Decides.{nat_tests}
use Rattle.ts_key.specs.declared.numbers.Seq.{Seq}
use Rattle.ts_key.specs.declared.numbers.Ts.{Ts}
use Rattle.ts_key.specs.declared.version.Version.{Version}
use Rattle.udt_model.specs.declared.reply.KeySpan.{KeySpan}
use Rattle.udt_model.specs.Orders.{is_in, is_in_some, span_of_key, stored}
use Rattle.udt_model.specs.Versions.{is_put}
use Rattle.udt_model.specs.Collecting.{collect, collect_all, cutoff, is_put_below, is_ever_seen, is_useless, seen_of}
use Rattle.udt_model.specs.State.{LiveTable, with_table}
use Rattle.floor_laws.proofs.Keys.{at_most_itself}
use Rattle.floor_laws.proofs.Members.{In, filter_every, filter-In}

-- ---- no delete is taken out where each key lies in a deeper span

abbrev spans : List Version → List KeySpan
spans vs = map (λ (v : Version). span_of_key v.key) vs

both : (a b : Bool) → a ≡ true → b ≡ true → (a && b) ≡ true
both true b e f = f
both false b e f = absurd (cc)

either_first : (a b : Bool) → a ≡ true → (a || b) ≡ true
either_first true b e = refl
either_first false b e = absurd (cc)

either_second : (a b : Bool) → b ≡ true → (a || b) ≡ true
either_second true b e = refl
either_second false b e = e

in_own_span : (vs : List Version) (v : Version) → In v vs → is_in_some (spans vs) v.key ≡ true
in_own_span [] v i = absurd i
in_own_span (x ∷ xs) v (inl q) =
    either_first (is_in (span_of_key x.key) v.key) (is_in_some (spans xs) v.key)
    (ap (λ (z : Version). is_in (span_of_key x.key) z.key) (sym q) ∙ both _ _ (at_most_itself x.key) (at_most_itself x.key))
in_own_span (x ∷ xs) v (inr i) = either_second (is_in (span_of_key x.key) v.key) (is_in_some (spans xs) v.key) (in_own_span xs v i)

useful : (a b c d : Bool) → c ≡ true → (((a && b) && not c) && not d) ≡ false
useful true true true d e = refl
useful true false true d e = refl
useful false b true d e = refl
useful a b false d e = absurd (cc)

not_false : (b : Bool) → b ≡ false → not b ≡ true
not_false true e = absurd (cc)
not_false false e = refl

pub collect_covered : (vs : List Version) (floor : Ts) (seqs : List Seq) → collect vs floor seqs (spans vs) ≡ collect_all vs floor seqs
collect_covered vs floor seqs =
    let kept = seen_of vs floor seqs in
    ap stored (filter_every (λ (v : Version). not (is_useless kept floor (spans vs) v)) kept (λ v i.
    let j = (filter-In (is_ever_seen vs floor seqs) v vs i).0 in
    not_false (is_useless kept floor (spans vs) v) (useful (not (is_put v.op)) (nat_le v.ts.0 floor.0) (is_in_some (spans vs) v.key) (list_any (is_put_below v) kept) (in_own_span vs v j))))

-- ---- places of tables

pub place_most : (p : LiveTable → Bool) (xs : List LiveTable) → position_or_len p xs ≤ length xs
place_most p [] = omega arith
place_most p (x ∷ xs) = on (not (p x)) (place_most p xs)
  where
    on : (b : Bool) → position_or_len p xs ≤ length xs → cond b (1 + position_or_len p xs) 0 ≤ suc (length xs)
    on true r = omega (arith, r)
    on false r = omega arith

-- put before the first whose number isn't smaller
pub join_is : (t : LiveTable) (os : List LiveTable) → insert os (position_or_len (λ o. not (nat_lt o.number t.number)) os) t ≡ with_table t os
join_is t [] = refl
join_is t (o ∷ os) =
    let p : LiveTable → Bool = λ (z : LiveTable). not (nat_lt z.number t.number) in
    elim (cases_Bool (nat_lt o.number t.number)) [
      | inl y ↦
          ap (λ b. insert (o ∷ os) (cond (not (not b)) (1 + position_or_len p os) 0) t) y
          ∙ ap (λ n. insert (o ∷ os) n t) (one_more (position_or_len p os))
          ∙ ap (λ (k : List LiveTable). o ∷ k) (join_is t os)
          ∙ sym (ap (λ b. if b then o ∷ with_table t os else t ∷ o ∷ os) y)
      | inr n ↦
          ap (λ b. insert (o ∷ os) (cond (not (not b)) (1 + position_or_len p os) 0) t) n
          ∙ sym (ap (λ b. if b then o ∷ with_table t os else t ∷ o ∷ os) n)
    ]
  where
    one_more : (n : ℕ) → 1 + n ≡ suc n
    one_more n = omega arith

pub place_found : (p : LiveTable → Bool) (xs : List LiveTable) (i : ℕ) → position p xs ≡ Some i → i ≡ position_or_len p xs
place_found p xs i e = on (nat_lt (position_or_len p xs) (length xs)) (position_or_len p xs) e
  where
    on : (b : Bool) (k : ℕ) → cond b (Some k) None ≡ Some i → i ≡ k
    on true k e = cc
    on false k e = absurd cc

pub place_missing : (p : LiveTable → Bool) (xs : List LiveTable) → position p xs ≡ None → length xs ≡ position_or_len p xs
place_missing p xs e =
    let n : nat_lt (position_or_len p xs) (length xs) ≡ false = on (nat_lt (position_or_len p xs) (length xs)) (position_or_len p xs) e in
    let g = ge (position_or_len p xs) (length xs) n in
    omega (arith, g, place_most p xs)
  where
    on : (b : Bool) (k : ℕ) → cond b (Some k) None ≡ None → b ≡ false
    on true k e = absurd cc
    on false k e = refl

    ge : (a b : ℕ) → nat_lt a b ≡ false → b ≤ a
    ge a b h = grind (arith, nat_tests)

-- ---- the floor of a stripping flush

none_above : (vs : List Version) → list_any (λ (v : Version). nat_le (2 ^ 64 - 1) v.ts.0) vs ≡ false → cutoff vs ≤ 2 ^ 64 - 1
none_above [] e = omega arith
none_above (v ∷ vs) e =
    let parts = neither (nat_le (2 ^ 64 - 1) v.ts.0) (list_any (λ (z : Version). nat_le (2 ^ 64 - 1) z.ts.0) vs) e in
    let rest = none_above vs parts.1 in
    let here : v.ts.0 < 2 ^ 64 - 1 = under (2 ^ 64 - 1) v.ts.0 parts.0 in
    most (v.ts.0 + 1) (cutoff vs) (2 ^ 64 - 1) (omega (arith, here)) rest
  where
    neither : (a b : Bool) → (a || b) ≡ false → (a ≡ false) × (b ≡ false)
    neither true b e = absurd (cc)
    neither false b e = (refl, e)

    under : (a b : ℕ) → nat_le a b ≡ false → b < a
    under a b h = grind (arith, nat_tests)

    most : (a b c : ℕ) → a ≤ c → b ≤ c → max a b ≤ c
    most a b c h k = omega arith

least_is : (a b : ℕ) → a ≤ b → min a b ≡ a
least_is a b h = omega arith

pub cut_is : (floor : Ts) (vs : List Version) (cut : ℕ) → false ≡ list_any (λ (v : Version). nat_le (2 ^ 64 - 1) v.ts.0) vs → cut ≡ min (cutoff vs) (2 ^ 64 - 1) → max floor.0 cut ≡ max floor.0 (cutoff vs)
cut_is floor vs cut none e = ap (max floor.0) (e ∙ least_is (cutoff vs) (2 ^ 64 - 1) (none_above vs (sym none)))
