-- A read sees the greatest of the versions that it may see.
use Rattle.std.proofs.Common.{◌≡◌, ◌≢◌, ◌⊎◌, ℕ, zero, suc, ◌<◌, Bool, true, false, List, [], ◌∷◌, length, Option, Some, None, refl, sym, ap, ◌∙◌, subst, inl, inr, arith}
use Rattle.std.specs.Prelude.{AllPairs, Contains, MatchOption, filter, slice_index_or}
use Rattle.std.proofs.lemmas.Bool.{cases_Bool, cases_lt}
use Rattle.std.proofs.lemmas.Bool.Decides.{nat_tests}
use Rattle.ts_key.specs.declared.numbers.Family.{Family}
use Rattle.ts_key.specs.declared.numbers.Ts.{Ts}
use Rattle.ts_key.specs.declared.numbers.Seq.{Seq}
use Rattle.ts_key.specs.declared.version.Version.{Version}
use Rattle.udt_model.specs.Versions.{is_newer, newer, newest_of, is_of, is_within, visible}
use Rattle.udt_model.specs.Greatest.{is_seen, IsGreatest, SeesTheGreatest, HasOneGreatest}
use Rattle.udt_model.proofs.Sorted.{filter_twice}

-- ---- what is in a list

-- `Contains`, by recursion on the list
abbrev In : Version → List Version → Type 0
In v [] = ⊥
In v (x ∷ xs) = (x ≡ v) ⊎ In v xs

In-contains : (xs : List Version) (v : Version) → In v xs → Contains xs v
In-contains [] v h = absurd h
In-contains (x ∷ xs) v (inl q) = (0, omega arith, q)
In-contains (x ∷ xs) v (inr h) = let r = In-contains xs v h in let l = r.1 in (suc r.0, omega (arith, l), r.2)

contains_at : (xs : List Version) (v : Version) (k : ℕ) → k < length xs → slice_index_or xs k v ≡ v → In v xs
contains_at [] v k h e = absurd (omega arith)
contains_at (x ∷ xs) v zero h e = inl e
contains_at (x ∷ xs) v (suc k) h e = inr (contains_at xs v k (omega arith) e)

contains_In : (xs : List Version) (v : Version) → Contains xs v → In v xs
contains_In xs v h = contains_at xs v h.0 h.1 h.2

-- ---- the newest of those that pass a test

record IsBest (w : List Version) (p : Version → Bool) (v : Version) : Type 0 where
  there : In v w
  fit : p v ≡ true
  top : (u : Version) → In u w → p u ≡ true → is_newer u v ≡ false

abbrev Best : List Version → (Version → Bool) → Option Version → Type 0
Best w p None = (u : Version) → In u w → p u ≡ true → ⊥
Best w p (Some v) = IsBest w p v

not_newer_itself : (a : Version) → is_newer a a ≡ false
not_newer_itself a = grind (arith, nat_tests)

newer_one_way : (a b : Version) → is_newer a b ≡ true → is_newer b a ≡ false
newer_one_way a b h = grind (arith, nat_tests)

down : (a b c : Version) → is_newer b a ≡ false → is_newer c b ≡ false → is_newer c a ≡ false
down a b c x y = grind (arith, nat_tests)

same_place : (a b : Version) → is_newer a b ≡ false → is_newer b a ≡ false → a.seq.0 ≡ b.seq.0
same_place a b x y = grind (arith, nat_tests)

both_tests : (b : Bool) → b ≡ true → b ≡ false → ⊥
both_tests b x y = cc

best_cons : (p : Version → Bool) (x : Version) (xs : List Version) (o : Option Version) → p x ≡ true → Best xs p o → Best (x ∷ xs) p (newer (Some x) o)
best_cons p x xs None e b = record {
  there = inl refl;
  fit = e;
  top = λ u h f. elim h [ inl q ↦ subst (λ y. is_newer y x ≡ false) q (not_newer_itself x) | inr i ↦ absurd (b u i f) ];
}
best_cons p x xs (Some c) e b =
    elim (cases_Bool (is_newer c x)) [
      | inl y ↦ rw y (record {
        there = inr b.there;
        fit = b.fit;
        top = λ u h f. elim h [ inl q ↦ subst (λ z. is_newer z c ≡ false) q (newer_one_way c x y) | inr i ↦ b.top u i f ];
      })
      | inr y ↦ rw y (record {
        there = inl refl;
        fit = e;
        top = λ u h f. elim h [ inl q ↦ subst (λ z. is_newer z x ≡ false) q (not_newer_itself x) | inr i ↦ down x c u y (b.top u i f) ];
      })
    ]

best_past : (p : Version → Bool) (x : Version) (xs : List Version) (o : Option Version) → p x ≡ false → Best xs p o → Best (x ∷ xs) p o
best_past p x xs None e b = λ u h f. elim h [ inl q ↦ both_tests (p u) f (ap p (sym q) ∙ e) | inr i ↦ b u i f ]
best_past p x xs (Some c) e b = record {
  there = inr b.there;
  fit = b.fit;
  top = λ u h f. elim h [ inl q ↦ absurd (both_tests (p u) f (ap p (sym q) ∙ e)) | inr i ↦ b.top u i f ];
}

best_filter : (p : Version → Bool) (w : List Version) → Best w p (newest_of (filter p w))
best_filter p [] = λ u h f. h
best_filter p (x ∷ xs) =
    elim (cases_Bool (p x)) [
      | inl y ↦ rw y (best_cons p x xs (newest_of (filter p xs)) y (best_filter p xs))
      | inr y ↦ rw y (best_past p x xs (newest_of (filter p xs)) y (best_filter p xs))
    ]

-- ---- what a read sees

best_visible : (w : List Version) (family : Family) (key : List ℕ) (t : Ts) (s : Seq) → Best w (is_seen family key t s) (visible w family key t s)
best_visible w family key t s =
    subst (Best w (is_seen family key t s)) (sym (ap newest_of (filter_twice (is_within t s) (is_of family key) w))) (best_filter (is_seen family key t s) w)

not_passed : (b : Bool) → (b ≡ true → ⊥) → b ≡ false
not_passed true h = absurd (h refl)
not_passed false h = refl

told : (w : List Version) (family : Family) (key : List ℕ) (t : Ts) (s : Seq) (o : Option Version) → Best w (is_seen family key t s) o
    → MatchOption o ((u : Version) → Contains w u → is_seen family key t s u ≡ false) (IsGreatest w family key t s)
told w family key t s None b = λ u c. not_passed (is_seen family key t s u) (b u (contains_In w u c))
told w family key t s (Some v) b = record {
  listed = In-contains w v b.there;
  seen = b.fit;
  newest = λ u c f. b.top u (contains_In w u c) f;
}

pub sees_the_greatest : SeesTheGreatest
sees_the_greatest w family key t s = told w family key t s (visible w family key t s) (best_visible w family key t s)

same_at : (xs : List Version) (k : ℕ) (d e : Version) → k < length xs → slice_index_or xs k d ≡ slice_index_or xs k e
same_at [] k d e l = absurd (omega arith)
same_at (x ∷ xs) zero d e l = refl
same_at (x ∷ xs) (suc k) d e l = same_at xs k d e (omega arith)

abbrev sequence : Version → ℕ
sequence v = v.seq.0

-- of versions with sequences of their own two that have one sequence are one
one_each : (w : List Version) → AllPairs (λ (a b : Version). a.seq.0 ≢ b.seq.0) w → (a b : Version) → Contains w a → Contains w b → a.seq.0 ≡ b.seq.0 → a ≡ b
one_each w apart a b x y e =
    let first : slice_index_or w x.0 a ≡ a = x.2 in
    let second : slice_index_or w y.0 a ≡ b = same_at w y.0 a b y.1 ∙ y.2 in
    elim (cases_lt x.0 y.0) [
      | inl l ↦ absurd (apart x.0 y.0 a l y.1 (ap sequence first ∙ e ∙ sym (ap sequence second)))
      | inr g ↦ elim (cases_lt y.0 x.0) [
        | inl l ↦ absurd (apart y.0 x.0 a l x.1 (ap sequence second ∙ sym e ∙ sym (ap sequence first)))
        | inr h ↦ let one : x.0 ≡ y.0 = omega (arith, g, h) in sym first ∙ ap (λ (n : ℕ). slice_index_or w n a) one ∙ second
      ]
    ]

best_is : (w : List Version) (family : Family) (key : List ℕ) (t : Ts) (s : Seq) (v : Version) (o : Option Version) → AllPairs (λ (a b : Version). a.seq.0 ≢ b.seq.0) w
    → IsGreatest w family key t s v → Best w (is_seen family key t s) o → o ≡ Some v
best_is w family key t s v None apart g b = absurd (b v (contains_In w v g.listed) g.seen)
best_is w family key t s v (Some u) apart g b =
    let same = same_place u v (g.newest u (In-contains w u b.there) b.fit) (b.top v (contains_In w v g.listed) g.seen) in
    ap Some (one_each w apart u v (In-contains w u b.there) g.listed same)

pub has_one_greatest : HasOneGreatest
has_one_greatest w family key t s v apart g = best_is w family key t s v (visible w family key t s) apart g (best_visible w family key t s)
