-- The keys of a list in the stored order.
use Rattle.std.proofs.Common.{◌≡◌, ℕ, Bool, true, false, cond, List, [], ◌∷◌, ◌++◌, Option, Some, None, refl, sym, ap, subst, ◌∙◌, ◌⊎◌, inl, inr}
use Rattle.std.specs.Prelude.{filter, if◌then◌else◌}
use Rattle.std.specs.List.{flat_map, AllByRecursion}
use Rattle.std.specs.Ordering.{is_eq, is_lt, nat_cmp}
use Rattle.std.specs.Cmp.Lexicographic.{slice_cmp}
use Rattle.std.specs.declared.cmp.Ordering.{Ordering}
use Rattle.std.specs.declared.cmp.Ordering.TheVariants.{Less, Equal, Greater}
use Rattle.std.proofs.lemmas.Bool.{cases_Bool}
use Rattle.std.proofs.lemmas.Cmp.{nat_list_cmp_total}
use Rattle.std.proofs.lemmas.Map.Text.{is_eq-slice_cmp}
use Rattle.ts_key.specs.Order.{SortKey, is_before}
use Rattle.ts_key.specs.Items.{Item}
use Rattle.ts_key.specs.Lists.{IsOrdered}
use Rattle.ts_key.specs.Orders.{is_Less}
use Rattle.ts_key.specs.Firsts.{key_upto, slice_self}
use Rattle.udt_model.specs.declared.reply.Row.{Row}
use Rattle.udt_model.specs.Orders.{is_below}
use Rattle.udt_model.specs.Scans.{with_key}
use Rattle.ts_iterator.specs.Rows.{keys, is_past}

pub key_less : (a b : List ℕ) → is_below a b ≡ true → slice_cmp nat_cmp a b ≡ Less
key_less a b e = is_Less (slice_cmp nat_cmp a b) e

pub key_trans : (a b c : List ℕ) → is_below a b ≡ true → is_below b c ≡ true → is_below a c ≡ true
key_trans a b c x y = ap is_lt (nat_list_cmp_total.trans a b c (key_less a b x) (key_less b c y))

pub key_self : (a : List ℕ) → is_below a a ≡ false
key_self a = ap is_lt (slice_self a)

-- keys before another are other keys
pub key_apart : (a b : List ℕ) → is_below a b ≡ true → a ≡ b → ⊥
key_apart a b x e = let h : is_below b b ≡ true = subst (λ k. is_below k b ≡ true) e x in let n = key_self b in absurd cc

pub key_back : (a b : List ℕ) → is_below a b ≡ true → is_below b a ≡ false
key_back a b x =
    elim (cases_Bool (is_below b a)) [
      | inl y ↦ absurd (let h = key_trans a b a x y in let n = key_self a in clash (is_below a a) h n)
      | inr y ↦ y
    ]
  where
    clash : (b : Bool) → b ≡ true → b ≡ false → ⊥
    clash b x y = cc

pub not_after : (p q : SortKey) → is_before q p ≡ false → is_below q.key p.key ≡ false
not_after p q h =
    elim (key_upto p q h) [
      | inl l ↦ key_back p.key q.key (ap is_lt l)
      | inr e ↦ subst (λ k. is_below k p.key ≡ false) e (key_self p.key)
    ]

pub past_on : (high : Option (List ℕ)) (a b : List ℕ) → is_below a b ≡ true → is_past high a ≡ true → is_past high b ≡ true
past_on None a b l h = h
past_on (Some k) a b l h =
    elim (cases_Bool (is_below b k)) [
      | inl y ↦ let z : is_below a k ≡ true = key_trans a b k l y in absurd cc
      | inr y ↦ rw y refl
    ]

-- ---- a key put among others

abbrev pub insert_at : Ordering → List ℕ → List ℕ → List (List ℕ) → List (List ℕ) → List (List ℕ)
insert_at Less k x xs more = k ∷ x ∷ xs
insert_at Equal k x xs more = x ∷ xs
insert_at Greater k x xs more = x ∷ more

pub with_key_at : (k x : List ℕ) (xs : List (List ℕ)) → with_key k (x ∷ xs) ≡ insert_at (slice_cmp nat_cmp k x) k x xs (with_key k xs)
with_key_at k x xs = ap (λ b. if is_lt (slice_cmp nat_cmp k x) then k ∷ x ∷ xs else if b then x ∷ xs else x ∷ with_key k xs) (sym (is_eq-slice_cmp k x)) ∙ on (slice_cmp nat_cmp k x)
  where
    on : (o : Ordering) → (if is_lt o then k ∷ x ∷ xs else if is_eq o then x ∷ xs else x ∷ with_key k xs) ≡ insert_at o k x xs (with_key k xs)
    on Less = refl
    on Equal = refl
    on Greater = refl

-- ---- the keys of a sorted list begin with its first

pub record Heads (v : Item) (vs : List Item) : Type 0 where
  pub more : List (List ℕ)
  pub is : keys (v ∷ vs) ≡ v.sort_key.key ∷ more
  pub after : AllByRecursion (λ k. is_below v.sort_key.key k ≡ true) more

all_after : (a b : List ℕ) (ks : List (List ℕ)) → is_below a b ≡ true → AllByRecursion (λ k. is_below b k ≡ true) ks → AllByRecursion (λ k. is_below a k ≡ true) ks
all_after a b [] l h = tt
all_after a b (k ∷ ks) l h = (key_trans a b k l h.0, all_after a b ks l h.1)

pub keys_less : (v w : Item) (ws : List Item) → slice_cmp nat_cmp v.sort_key.key w.sort_key.key ≡ Less → Heads w ws → keys (v ∷ w ∷ ws) ≡ v.sort_key.key ∷ keys (w ∷ ws)
keys_less v w ws e h =
    ap (with_key v.sort_key.key) h.is ∙ with_key_at v.sort_key.key w.sort_key.key h.more ∙ ap (λ o. insert_at o v.sort_key.key w.sort_key.key h.more (with_key v.sort_key.key h.more)) e ∙ ap (λ ks. v.sort_key.key ∷ ks) (sym h.is)

pub keys_same : (v w : Item) (ws : List Item) → v.sort_key.key ≡ w.sort_key.key → Heads w ws → keys (v ∷ w ∷ ws) ≡ keys (w ∷ ws)
keys_same v w ws e h =
    let q : slice_cmp nat_cmp v.sort_key.key w.sort_key.key ≡ Equal = ap (λ k. slice_cmp nat_cmp k w.sort_key.key) e ∙ slice_self w.sort_key.key in
    ap (with_key v.sort_key.key) h.is ∙ with_key_at v.sort_key.key w.sort_key.key h.more ∙ ap (λ o. insert_at o v.sort_key.key w.sort_key.key h.more (with_key v.sort_key.key h.more)) q ∙ sym h.is

heads_on : (v w : Item) (ws : List Item) → (slice_cmp nat_cmp v.sort_key.key w.sort_key.key ≡ Less) ⊎ (v.sort_key.key ≡ w.sort_key.key) → Heads w ws → Heads v (w ∷ ws)
heads_on v w ws (inl l) h = record { more = keys (w ∷ ws); is = keys_less v w ws l h; after = subst (AllByRecursion (λ k. is_below v.sort_key.key k ≡ true)) (sym h.is) (ap is_lt l, all_after v.sort_key.key w.sort_key.key h.more (ap is_lt l) h.after) }
heads_on v w ws (inr e) h = record { more = h.more; is = keys_same v w ws e h ∙ h.is ∙ ap (λ k. k ∷ h.more) (sym e); after = subst (λ a. AllByRecursion (λ k. is_below a k ≡ true) h.more) (sym e) h.after }

pub heads : (v : Item) (vs : List Item) → IsOrdered (v ∷ vs) → Heads v vs
heads v [] s = record { more = []; is = refl; after = tt }
heads v (w ∷ ws) s = heads_on v w ws (key_upto v.sort_key w.sort_key s.0.0) (heads w ws s.1)

-- ---- filters

insert_on : (p : List ℕ → Bool) (k x : List ℕ) (xs more : List (List ℕ)) (o : Ordering) → p k ≡ false → filter p more ≡ filter p xs → filter p (insert_at o k x xs more) ≡ filter p (x ∷ xs)
insert_on p k x xs more Less e h = rw e refl
insert_on p k x xs more Equal e h = refl
insert_on p k x xs more Greater e h = ap (λ r. cond (p x) (x ∷ r) r) h

pub filter_insert : (p : List ℕ → Bool) (k : List ℕ) (ks : List (List ℕ)) → p k ≡ false → filter p (with_key k ks) ≡ filter p ks
filter_insert p k [] e = rw e refl
filter_insert p k (x ∷ xs) e = ap (filter p) (with_key_at k x xs) ∙ insert_on p k x xs (with_key k xs) (slice_cmp nat_cmp k x) e (filter_insert p k xs e)

pub flat_agree : (f g : List ℕ → List Row) (p : List ℕ → Bool) (ks : List (List ℕ)) → ((k : List ℕ) → p k ≡ true → f k ≡ g k) → flat_map f (filter p ks) ≡ flat_map g (filter p ks)
flat_agree f g p [] h = refl
flat_agree f g p (x ∷ xs) h =
    elim (cases_Bool (p x)) [
      | inl y ↦ rw y (λ i. h x y i ++ flat_agree f g p xs h i)
      | inr y ↦ rw y (flat_agree f g p xs h)
    ]

pub filter_none : (p : List ℕ → Bool) (ks : List (List ℕ)) → AllByRecursion (λ k. p k ≡ false) ks → filter p ks ≡ []
filter_none p [] h = refl
filter_none p (k ∷ ks) h = let y = h.0 in rw y (filter_none p ks h.1)

pub filter_alike : (p q : List ℕ → Bool) (ks : List (List ℕ)) → AllByRecursion (λ k. p k ≡ q k) ks → filter p ks ≡ filter q ks
filter_alike p q [] h = refl
filter_alike p q (k ∷ ks) h = λ i. cond (h.0 i) (k ∷ filter_alike p q ks h.1 i) (filter_alike p q ks h.1 i)

pub all_more : (P Q : List ℕ → Type 0) (ks : List (List ℕ)) → ((k : List ℕ) → P k → Q k) → AllByRecursion P ks → AllByRecursion Q ks
all_more P Q [] h a = tt
all_more P Q (k ∷ ks) h a = (h k a.0, all_more P Q ks h a.1)
