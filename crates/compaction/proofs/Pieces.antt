-- Tables that grow version by version, and where they end.
use Rattle.std.proofs.Common.{◌≡◌, ◌≢◌, ◌⊎◌, ℕ, Bool, true, false, not, List, [], ◌∷◌, ◌++◌, refl, sym, ap, subst, ◌∙◌, inl, inr}
use Rattle.std.specs.Prelude.{filter, Option, Some}
use Rattle.std.specs.List.{AllByRecursion}
use Rattle.std.specs.Str.{bytes_eq}
use Rattle.std.specs.declared.cmp.Ordering.TheVariants.{Less}
use Rattle.std.proofs.lemmas.Bool.{cases_Bool, false_from_ne_true}
use Rattle.std.proofs.lemmas.List.{map-append, append-nil}
use Rattle.std.proofs.lemmas.Slice.Eq.{bytes_eq-Decides}
use Rattle.ts_key.specs.declared.numbers.Family.{Family}
use Rattle.ts_key.specs.declared.numbers.Ts.{Ts}
use Rattle.ts_key.specs.declared.version.Form.{Form}
use Rattle.ts_key.specs.declared.version.Version.{Version}
use Rattle.ts_key.specs.Items.{Item, item_of, items_of}
use Rattle.ts_key.specs.Lists.{IsSorted}
use Rattle.ts_key.specs.Order.{sort_cmp}
use Rattle.udt_model.specs.Orders.{is_at_most}
use Rattle.collection_laws.specs.Places.{AreStored}
use Rattle.collection_laws.proofs.Storing.{sorted_from_stored}
use Rattle.block_table.specs.Contents.{Contents, first_key, last_user_key}
use Rattle.block_table.specs.Pushed.{contents_of}
use Rattle.floor_laws.proofs.Keys.{at_most_same}
use Rattle.compaction.specs.Made.{before_last_key, LeavesRoom, IsPiece, TableEndsBefore, AreCutBefore}
use Rattle.compaction.proofs.Hulls.{keys_upto}

same_key : (a b : List ℕ) → bytes_eq a b ≡ true → a ≡ b
same_key a b h = (bytes_eq-Decides a b).0 h

equal_key : (a : List ℕ) → bytes_eq a a ≡ true
equal_key a = (bytes_eq-Decides a a).1 refl

other_key : (a b : List ℕ) → a ≢ b → bytes_eq a b ≡ false
other_key a b h = false_from_ne_true (bytes_eq a b) (λ y. h (same_key a b y))

-- ---- the last key

pub last_snoc : (vs : List Item) (v : Item) → last_user_key (vs ++ v ∷ []) ≡ v.sort_key.key
last_snoc [] v = refl
last_snoc (x ∷ []) v = refl
last_snoc (x ∷ y ∷ ys) v = last_snoc (y ∷ ys) v

filter_append : (p : Item → Bool) (xs ys : List Item) → filter p (xs ++ ys) ≡ filter p xs ++ filter p ys
filter_append p [] ys = refl
filter_append p (x ∷ xs) ys = elim (cases_Bool (p x)) [ inl y ↦ rw y (ap (λ l. x ∷ l) (filter_append p xs ys)) | inr y ↦ rw y (filter_append p xs ys) ]

abbrev not_of : List ℕ → Item → Bool
not_of k v = not (bytes_eq v.sort_key.key k)

lost : (v : Item) → filter (not_of v.sort_key.key) (v ∷ []) ≡ []
lost v = let e : bytes_eq v.sort_key.key v.sort_key.key ≡ true = equal_key v.sort_key.key in rw e refl

before_last : (own : List Item) (v : Item) → before_last_key (own ++ v ∷ []) ≡ filter (not_of v.sort_key.key) own
before_last own v =
    ap (λ k. filter (not_of k) (own ++ v ∷ [])) (last_snoc own v)
    ∙ filter_append (not_of v.sort_key.key) own (v ∷ [])
    ∙ ap (λ l. filter (not_of v.sort_key.key) own ++ l) (lost v)
    ∙ append-nil (filter (not_of v.sort_key.key) own)

-- one more of the last key changes nothing
pub before_same : (own : List Item) (v : Item) → last_user_key own ≡ v.sort_key.key → before_last_key (own ++ v ∷ []) ≡ before_last_key own
before_same own v e = before_last own v ∙ ap (λ k. filter (not_of k) own) (sym e)

all_kept : (k : List ℕ) (own : List Item) → AllByRecursion (λ u. u.sort_key.key ≢ k) own → filter (not_of k) own ≡ own
all_kept k [] h = refl
all_kept k (u ∷ us) h = let e : bytes_eq u.sort_key.key k ≡ false = other_key u.sort_key.key k h.0 in rw e (ap (λ l. u ∷ l) (all_kept k us h.1))

last_less : (u v : Item) (us : List Item) → AllByRecursion (λ w. sort_cmp u.sort_key w.sort_key ≡ Less) (us ++ v ∷ []) → sort_cmp u.sort_key v.sort_key ≡ Less
last_less u v [] h = h.0
last_less u v (w ∷ ws) h = last_less u v ws h.1

-- in the stored order no version before the last has a key that comes after it
none_of : (own : List Item) (v : Item) → IsSorted (own ++ v ∷ []) → last_user_key own ≢ v.sort_key.key → AllByRecursion (λ u. u.sort_key.key ≢ v.sort_key.key) own
none_of [] v s n = tt
none_of (u ∷ []) v s n = (n, tt)
none_of (u ∷ w ∷ ws) v s n =
    let ih = none_of (w ∷ ws) v s.1 n in (
      (λ e.
          let a : is_at_most u.sort_key.key w.sort_key.key ≡ true = keys_upto u.sort_key w.sort_key s.0.0 in
          let b : is_at_most w.sort_key.key v.sort_key.key ≡ true = keys_upto w.sort_key v.sort_key (last_less w v ws s.1.0) in
          let c : is_at_most v.sort_key.key w.sort_key.key ≡ true = subst (λ k. is_at_most k w.sort_key.key ≡ true) e a in
          ih.0 (at_most_same w.sort_key.key v.sort_key.key b c)),
      ih,
    )

-- the first of another key has all others before it
pub before_other : (own : List Item) (v : Item) → IsSorted (own ++ v ∷ []) → last_user_key own ≢ v.sort_key.key → before_last_key (own ++ v ∷ []) ≡ own
before_other own v s n = before_last own v ∙ all_kept v.sort_key.key own (none_of own v s n)

-- ---- versions

pub items_snoc : (vs : List Version) (v : Version) → items_of (vs ++ v ∷ []) ≡ items_of vs ++ item_of v ∷ []
items_snoc vs v = map-append item_of vs (v ∷ [])

stored_rest : (xs ys : List Version) → AreStored (xs ++ ys) → AreStored ys
stored_rest [] ys h = h
stored_rest (x ∷ xs) ys h = stored_rest xs ys h.1

pub sorted_rest : (given own : List Version) → AreStored (given ++ own) → IsSorted (items_of own)
sorted_rest given own h = sorted_from_stored own (stored_rest given own h)

-- ---- room before the last key

module _ (family : Family) (form : Form) (floor : Ts) where
  abbrev with_items : List Item → Contents
  with_items vs = contents_of family form floor vs

  abbrev Room : List Version → Type 0
  Room own = LeavesRoom (with_items (before_last_key (items_of own)))

  room_of : (vs ws : List Item) → vs ≡ ws → LeavesRoom (with_items ws) → LeavesRoom (with_items vs)
  room_of vs ws e r = subst (λ l. LeavesRoom (with_items l)) (sym e) r

  pub room_more : (own : List Version) (last v : Version) → IsSorted (items_of ((own ++ last ∷ []) ++ v ∷ [])) → Room (own ++ last ∷ [])
      → LeavesRoom (with_items (items_of (own ++ last ∷ []))) ⊎ (last.key ≡ v.key) → Room ((own ++ last ∷ []) ++ v ∷ [])
  room_more own last v s room how =
      let all : List Version = own ++ last ∷ [] in
      let snoc : items_of (all ++ v ∷ []) ≡ items_of all ++ item_of v ∷ [] = items_snoc all v in
      let is_last : last_user_key (items_of all) ≡ last.key = ap last_user_key (items_snoc own last) ∙ last_snoc (items_of own) (item_of last) in
      elim (cases_Bool (bytes_eq last.key v.key)) [
        | inl y ↦
            let e : last.key ≡ v.key = same_key last.key v.key y in
            room_of (before_last_key (items_of (all ++ v ∷ []))) (before_last_key (items_of all)) (ap before_last_key snoc ∙ before_same (items_of all) (item_of v) (is_last ∙ e)) room
        | inr y ↦
            let n : last.key ≢ v.key = λ e. apart (bytes_eq last.key v.key) y (ap (λ k. bytes_eq last.key k) (sym e) ∙ equal_key last.key) in
            let sorted : IsSorted (items_of all ++ item_of v ∷ []) = subst IsSorted snoc s in
            let other : last_user_key (items_of all) ≢ v.key = λ e. n (sym is_last ∙ e) in
            elim how [
              | inl r ↦ room_of (before_last_key (items_of (all ++ v ∷ []))) (items_of all) (ap before_last_key snoc ∙ before_other (items_of all) (item_of v) sorted other) r
              | inr e ↦ absurd (n e)
            ]
      ]
    where
      apart : (b : Bool) → b ≡ false → b ≡ true → ⊥
      apart b x y = cc

  -- a table of one version has nothing before its last key
  pub before_one : (v : Version) → before_last_key (items_of (v ∷ [])) ≡ []
  before_one v = lost (item_of v)

-- ---- cuts

pub cut_snoc : (next : Option (List ℕ)) (ts : List Contents) (t : Contents) → AreCutBefore (Some (first_key t.items)) ts → IsPiece t → TableEndsBefore t next → AreCutBefore next (ts ++ t ∷ [])
cut_snoc next [] t h p e = (p, e)
cut_snoc next (x ∷ []) t h p e = (h.0, h.1, (p, e))
cut_snoc next (x ∷ y ∷ ys) t h p e = (h.0, h.1, cut_snoc next (y ∷ ys) t h.2 p e)
