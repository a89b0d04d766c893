-- The newest of the versions that pass a test, by what is in the list.
use Rattle.std.proofs.Common.{◌≡◌, Bool, true, false, List, [], ◌∷◌, Option, Some, None, refl, sym, ap, ◌∙◌, arith, inl, inr, subst}
use Rattle.std.specs.List.{filter}
use Rattle.std.proofs.lemmas.Bool.{cases_Bool, false≢true}
use Rattle.std.proofs.lemmas.Bool.Decides.{nat_tests}
use Rattle.ts_key.specs.declared.version.Version.{Version}
use Rattle.udt_model.specs.Versions.{is_newer, newer, newest_of}
use Rattle.floor_laws.proofs.Members.{In}

-- no two versions have one sequence
abbrev pub Single : List Version → Type 0
Single w = (a b : Version) → In a w → In b w → a.seq.0 ≡ b.seq.0 → a ≡ b

pub record IsBest (w : List Version) (p : Version → Bool) (v : Version) : Type 0 where
  pub there : In v w
  pub fit : p v ≡ true
  pub top : (u : Version) → In u w → p u ≡ true → is_newer u v ≡ false

abbrev pub Best : List Version → (Version → Bool) → Option Version → Type 0
Best w p None = (u : Version) → In u w → p u ≡ true → ⊥
Best w p (Some v) = IsBest w p v

pub not_newer_itself : (a : Version) → is_newer a a ≡ false
not_newer_itself a = grind (arith, nat_tests)

pub newer_one_way : (a b : Version) → is_newer a b ≡ true → is_newer b a ≡ false
newer_one_way a b h = grind (arith, nat_tests)

pub down : (a b c : Version) → is_newer b a ≡ false → is_newer c b ≡ false → is_newer c a ≡ false
down a b c x y = grind (arith, nat_tests)

pub same_place : (a b : Version) → is_newer a b ≡ false → is_newer b a ≡ false → a.seq.0 ≡ b.seq.0
same_place a b x y = grind (arith, nat_tests)

best_cons : (p : Version → Bool) (x : Version) (xs : List Version) (o : Option Version) → p x ≡ true → Best xs p o → Best (x ∷ xs) p (newer (Some x) o)
best_cons p x xs None e b = record {
  there = inl refl;
  fit = e;
  top = λ u h f. elim h [ inl q ↦ subst (λ y. is_newer y x ≡ false) q (not_newer_itself x) | inr i ↦ absurd (b u i f) ];
}
best_cons p x xs (Some c) e b =
    elim (cases_Bool (is_newer c x)) [
      | inl y ↦ rw y (record {
        there = inr b.there;
        fit = b.fit;
        top = λ u h f. elim h [ inl q ↦ subst (λ z. is_newer z c ≡ false) q (newer_one_way c x y) | inr i ↦ b.top u i f ];
      })
      | inr y ↦ rw y (record {
        there = inl refl;
        fit = e;
        top = λ u h f. elim h [ inl q ↦ subst (λ z. is_newer z x ≡ false) q (not_newer_itself x) | inr i ↦ down x c u y (b.top u i f) ];
      })
    ]

best_skip_head : (p : Version → Bool) (x : Version) (xs : List Version) (o : Option Version) → p x ≡ false → Best xs p o → Best (x ∷ xs) p o
best_skip_head p x xs None e b = λ u h f. elim h [ inl q ↦ false≢true (sym e ∙ ap p q ∙ f) | inr i ↦ b u i f ]
best_skip_head p x xs (Some c) e b = record {
  there = inr b.there;
  fit = b.fit;
  top = λ u h f. elim h [ inl q ↦ absurd (false≢true (sym e ∙ ap p q ∙ f)) | inr i ↦ b.top u i f ];
}

pub best_filter : (p : Version → Bool) (w : List Version) → Best w p (newest_of (filter p w))
best_filter p [] = λ u h f. h
best_filter p (x ∷ xs) =
    elim (cases_Bool (p x)) [
      | inl y ↦ rw y (best_cons p x xs (newest_of (filter p xs)) y (best_filter p xs))
      | inr y ↦ rw y (best_skip_head p x xs (newest_of (filter p xs)) y (best_filter p xs))
    ]

-- a list has one best
pub best_unique : (w : List Version) (p : Version → Bool) (a b : Option Version) → Single w → Best w p a → Best w p b → a ≡ b
best_unique w p None None one x y = refl
best_unique w p None (Some b) one x y = absurd (x b y.there y.fit)
best_unique w p (Some a) None one x y = absurd (y a x.there x.fit)
best_unique w p (Some a) (Some b) one x y = ap Some (one a b x.there y.there (same_place a b (y.top a x.there x.fit) (x.top b y.there y.fit)))
