-- Downwards a list gives its rows backwards.
use Rattle.std.proofs.Common.{◌≡◌, ℕ, Bool, true, false, List, [], ◌∷◌, ◌++◌, reverse, Option, Some, None, refl, sym, ap, ◌∙◌, inl, inr, append_assoc}
use Rattle.std.specs.Prelude.{if◌then◌else◌}
use Rattle.std.specs.Str.{bytes_eq}
use Rattle.std.proofs.lemmas.Bool.{cases_Bool}
use Rattle.std.proofs.lemmas.List.{append-nil, reverse-append}
use Rattle.std.proofs.lemmas.Slice.Eq.{bytes_eq-Decides}
use Rattle.ts_key.specs.declared.numbers.Ts.{Ts}
use Rattle.ts_key.specs.declared.version.Kind.{Kind}
use Rattle.ts_key.specs.declared.version.Kind.TheVariants as kinds
use Rattle.ts_key.specs.Items.{Item}
use Rattle.udt_model.specs.declared.reply.Row.{Row}
use Rattle.ts_iterator.specs.Rows.{are_of_one_key, emit, emit_of, given_before, given_by, row_at}

reverse-cons : (v : Item) (vs : List Item) → reverse (v ∷ vs) ≡ reverse vs ++ v ∷ []
reverse-cons v vs = reverse-append (v ∷ []) vs

abbrev pub first_at : Ts → Option Item → Item → List Row
first_at floor None v = emit floor v
first_at floor (Some l) v = if are_of_one_key l v then [] else emit floor v

-- the rows_up of versions that are all seen, ascending: the first of each key
abbrev pub firsts : Ts → Option Item → List Item → List Row
firsts floor last [] = []
firsts floor last (v ∷ vs) = first_at floor last v ++ firsts floor (Some v) vs

-- the same from the greatest on: the last of each key, when the next key or the end is there
abbrev pub lasts : Ts → Option Item → List Item → List Row
lasts floor best [] = emit_of floor best
lasts floor best (v ∷ vs) = given_before floor best v ++ lasts floor (Some v) vs

-- the last one found in a list from the greatest on
abbrev last_found : Option Item → List Item → Option Item
last_found best [] = best
last_found best (v ∷ vs) = last_found (Some v) vs

-- what is given before the end
abbrev before_end : Ts → Option Item → List Item → List Row
before_end floor best [] = []
before_end floor best (v ∷ vs) = given_before floor best v ++ before_end floor (Some v) vs

lasts_is : (floor : Ts) (best : Option Item) (vs : List Item) → lasts floor best vs ≡ before_end floor best vs ++ emit_of floor (last_found best vs)
lasts_is floor best [] = refl
lasts_is floor best (v ∷ vs) = ap (λ r. given_before floor best v ++ r) (lasts_is floor (Some v) vs) ∙ sym (append_assoc (given_before floor best v) (before_end floor (Some v) vs) (emit_of floor (last_found (Some v) vs)))

found_snoc : (best : Option Item) (vs : List Item) (v : Item) → last_found best (vs ++ v ∷ []) ≡ Some v
found_snoc best [] v = refl
found_snoc best (u ∷ us) v = found_snoc (Some u) us v

before_snoc : (floor : Ts) (best : Option Item) (vs : List Item) (v : Item) → before_end floor best (vs ++ v ∷ []) ≡ before_end floor best vs ++ given_before floor (last_found best vs) v
before_snoc floor best [] v = append-nil (given_before floor best v)
before_snoc floor best (u ∷ us) v = ap (λ r. given_before floor best u ++ r) (before_snoc floor (Some u) us v) ∙ sym (append_assoc (given_before floor best u) (before_end floor (Some u) us) (given_before floor (last_found (Some u) us) v))

-- ---- backwards

emitted_back : (k : Kind) (l : Row) → reverse (given_by k l) ≡ given_by k l
emitted_back kinds.Del l = refl
emitted_back kinds.Put l = refl

swap : (a b : List ℕ) → bytes_eq a b ≡ bytes_eq b a
swap a b =
    elim (cases_Bool (bytes_eq a b)) [
      | inl y ↦ y ∙ sym ((bytes_eq-Decides b a).1 (sym ((bytes_eq-Decides a b).0 y)))
      | inr y ↦ elim (cases_Bool (bytes_eq b a)) [
        | inl z ↦ absurd (let w : bytes_eq a b ≡ true = (bytes_eq-Decides a b).1 (sym ((bytes_eq-Decides b a).0 z)) in clash (bytes_eq a b) w y)
        | inr z ↦ y ∙ sym z
      ]
    ]
  where
    clash : (b : Bool) → b ≡ true → b ≡ false → ⊥
    clash b x y = cc

first_back : (floor : Ts) (l v : Item) → reverse (first_at floor (Some l) v) ≡ given_before floor (Some v) l
first_back floor l v = ap (λ c. reverse (if c then [] else emit floor v)) (swap l.sort_key.key v.sort_key.key) ∙ branch (are_of_one_key v l)
  where
    branch : (c : Bool) → reverse (if c then [] else emit floor v) ≡ (if c then [] else emit floor v)
    branch true = refl
    branch false = emitted_back v.kind (row_at floor v)

-- what stands before the end, from the greatest on, is the rows_up behind the first version
back_is : (floor : Ts) (v : Item) (vs : List Item) → before_end floor None (reverse (v ∷ vs)) ≡ reverse (firsts floor (Some v) vs)
back_is floor v [] = refl
back_is floor v (w ∷ ws) =
    ap (before_end floor None) (reverse-cons v (w ∷ ws))
    ∙ before_snoc floor None (reverse (w ∷ ws)) v
    ∙ ap (λ r. r ++ given_before floor (last_found None (reverse (w ∷ ws))) v) (back_is floor w ws)
    ∙ ap (λ o. reverse (firsts floor (Some w) ws) ++ given_before floor o v) (ap (last_found None) (reverse-cons w ws) ∙ found_snoc None (reverse ws) w)
    ∙ ap (λ r. reverse (firsts floor (Some w) ws) ++ r) (sym (first_back floor v w))
    ∙ sym (reverse-append (first_at floor (Some v) w) (firsts floor (Some w) ws))

pub down_is : (floor : Ts) (vs : List Item) → lasts floor None (reverse vs) ≡ reverse (firsts floor None vs)
down_is floor [] = refl
down_is floor (v ∷ vs) =
    lasts_is floor None (reverse (v ∷ vs))
    ∙ ap (λ r. r ++ emit_of floor (last_found None (reverse (v ∷ vs)))) (back_is floor v vs)
    ∙ ap (λ o. reverse (firsts floor (Some v) vs) ++ emit_of floor o) (ap (last_found None) (reverse-cons v vs) ∙ found_snoc None (reverse vs) v)
    ∙ ap (λ r. reverse (firsts floor (Some v) vs) ++ r) (sym (emitted_back v.kind (row_at floor v)))
    ∙ sym (reverse-append (emit floor v) (firsts floor (Some v) vs))
