-- The tables that a compaction's pieces make.
use Rattle.std.proofs.Common.{◌≡◌, ◌≢◌, ℕ, zero, suc, ◌<◌, ◌≤◌, ◌&&◌, true, false, not, List, [], ◌∷◌, ◌++◌, take, drop, length, refl, sym, ap, ◌∙◌, arith, inl, inr, subst}
use Rattle.std.specs.Prelude.{◌==◌, nat_lt, nat_le}
use Rattle.std.proofs.lemmas.Bool.{false≢true, and_parts, and_from, ltb-true, leb-true, eqb-true, and_right, and_left, false_from_ne_true}
use Rattle.std.proofs.lemmas.List.{take-append-drop}
use Rattle.std.proofs.lemmas.Slice.Eq.{bytes_eq-Decides}
use Rattle.ts_key.specs.declared.version.Version.{Version}
use Rattle.udt_model.specs.declared.reply.Piece.{Piece}
use Rattle.udt_model.specs.declared.reply.KeySpan.{KeySpan}
use Rattle.udt_model.specs.Orders.{is_at_most, is_in, meets, hull_with, span_of}
use Rattle.udt_model.specs.State.{LiveTable, numbers_of}
use Rattle.udt_model.specs.Jobs.{is_cut, are_parts, tables_from, numbers_of_pieces, spans_of, hull_of}
use Rattle.floor_laws.specs.Tables.{contents}
use Rattle.floor_laws.proofs.Members.{In, Within, In-append, In-right, In-map}
use Rattle.udt_model.specs.Orders.{span_of_both}
use Rattle.floor_laws.proofs.Keys.{Ends, ends_of, at_most_itself, at_most_trans, at_most_same, is_in_parts, joined_left, joined_right, span_has}
use Rattle.floor_laws.proofs.Sorting.{InOrder}
use Rattle.floor_laws.proofs.Tables.{contents-from, In-contents}

-- ---- parts of a list in order

order_parts : (xs ys : List Version) → InOrder (xs ++ ys) → (x y : Version) → In x xs → In y ys → is_at_most x.key y.key ≡ true
order_parts [] ys h x y i j = absurd i
order_parts (a ∷ xs) ys h x y (inl q) j = subst (λ (z : Version). is_at_most z.key y.key ≡ true) q (h.0 y (In-right y xs ys j)).key
order_parts (a ∷ xs) ys h x y (inr i) j = order_parts xs ys h.1 x y i j

order_rest : (xs ys : List Version) → InOrder (xs ++ ys) → InOrder ys
order_rest [] ys h = h
order_rest (x ∷ xs) ys h = order_rest xs ys h.1

first_most : (w : Version) (ws : List Version) → InOrder (w ∷ ws) → (y : Version) → In y (w ∷ ws) → is_at_most w.key y.key ≡ true
first_most w ws h y (inl q) = subst (λ (z : Version). is_at_most w.key z.key ≡ true) q (at_most_itself w.key)
first_most w ws h y (inr i) = (h.0 y i).key

-- no key stands on both sides of a cut
cut_apart : (front back : List Version) → InOrder (front ++ back) → is_cut front back ≡ true → (x y : Version) → In x front → In y back → x.key ≡ y.key → ⊥
cut_apart [] back o h x y i j k = absurd i
cut_apart (v ∷ vs) [] o h x y i j k = absurd j
cut_apart (v ∷ []) (w ∷ ws) o h x y (inl q) j k =
    let e : v.key ≡ y.key = ap (λ (z : Version). z.key) q ∙ k in
    let a : is_at_most w.key y.key ≡ true = first_most w ws o.1 y j in
    let b : is_at_most w.key v.key ≡ true = ap (is_at_most w.key) e ∙ a in
    let c : v.key ≡ w.key = at_most_same v.key w.key (o.0 w (inl refl)).key b in
    false≢true (sym (ap not ((bytes_eq-Decides v.key w.key).1 c)) ∙ h)
cut_apart (v ∷ []) (w ∷ ws) o h x y (inr i) j k = absurd i
cut_apart (v ∷ u ∷ vs) (w ∷ ws) o h x y (inl q) j k =
    let e : v.key ≡ y.key = ap (λ (z : Version). z.key) q ∙ k in
    let a : is_at_most u.key y.key ≡ true = order_parts (u ∷ vs) (w ∷ ws) o.1 u y (inl refl) j in
    let b : is_at_most y.key u.key ≡ true = subst (λ z. is_at_most z u.key ≡ true) e (o.0 u (inl refl)).key in
    cut_apart (u ∷ vs) (w ∷ ws) o.1 h u y (inl refl) j (at_most_same u.key y.key a b)
cut_apart (v ∷ u ∷ vs) (w ∷ ws) o h x y (inr i) j k = cut_apart (u ∷ vs) (w ∷ ws) o.1 h x y i j k

-- ---- spans of versions

pub ends_in : (vs : List Version) (v : Version) → In v vs → Ends vs
ends_in [] v i = absurd i
ends_in (x ∷ xs) v i = ends_of x xs

-- where every key of one part is below every key of the other they don't meet
apart_meets : (xs ys : List Version) → Ends xs → Ends ys → ((x y : Version) → In x xs → In y ys → is_at_most x.key y.key ≡ true) → ((x y : Version) → In x xs → In y ys → x.key ≡ y.key → ⊥) → (meets (span_of xs) (span_of ys) ≡ false) × (meets (span_of ys) (span_of xs) ≡ false)
apart_meets xs ys ex ey le ne =
    let no : is_at_most (span_of ys).low (span_of xs).high ≡ false = false_from_ne_true (is_at_most (span_of ys).low (span_of xs).high) (λ y.
    let k : is_at_most ey.low.key ex.high.key ≡ true = subst (λ z. is_at_most z ex.high.key ≡ true) (sym ey.low_is) (subst (λ z. is_at_most (span_of ys).low z ≡ true) (sym ex.high_is) y) in
    ne ex.high ey.low ex.high_in ey.low_in (at_most_same ex.high.key ey.low.key (le ex.high ey.low ex.high_in ey.low_in) k)) in
    (and_right (is_at_most (span_of xs).low (span_of ys).high) (is_at_most (span_of ys).low (span_of xs).high) no, and_left (is_at_most (span_of ys).low (span_of xs).high) (is_at_most (span_of xs).low (span_of ys).high) no)

-- ---- the pieces

pub record Cut (level : ℕ) (vs : List Version) (ts : List LiveTable) : Type 0 where
  pub same : contents ts ≡ vs
  pub level_is : (t : LiveTable) → In t ts → t.level ≡ level
  pub some : (t : LiveTable) → In t ts → (v : Version) × In v t.versions
  pub spread : (a b : LiveTable) → In a ts → In b ts → a.number ≢ b.number → meets (span_of a.versions) (span_of b.versions) ≡ false

front_some : (n : ℕ) (vs : List Version) → 0 < n → n ≤ length vs → (v : Version) × In v (take n vs)
front_some zero vs a b = absurd (omega arith)
front_some (suc n) [] a b = absurd (omega arith)
front_some (suc n) (v ∷ vs) a b = (v, inl refl)

empty_is : (vs : List Version) → (length vs == 0) ≡ true → vs ≡ []
empty_is [] h = refl
empty_is (v ∷ vs) h = absurd (let e = eqb-true (length (v ∷ vs)) 0 h in omega (arith, e))

pub cut_is : (level : ℕ) (vs : List Version) (ps : List Piece) → InOrder vs → are_parts vs ps ≡ true → Cut level vs (tables_from level vs ps)
cut_is level vs [] o h = record {
  same = sym (empty_is vs h);
  level_is = λ t i. absurd i;
  some = λ t i. absurd i;
  spread = λ a b i j ne. absurd i;
}
cut_is level vs (p ∷ ps) o h =
    let front = take p.count vs in
    let rest = drop p.count vs in
    let a = and_parts (nat_lt 0 p.count && nat_le p.count (length vs) && is_cut front rest) (are_parts rest ps) h in
    let b = and_parts (nat_lt 0 p.count && nat_le p.count (length vs)) (is_cut front rest) a.0 in
    let c = and_parts (nat_lt 0 p.count) (nat_le p.count (length vs)) b.0 in
    let whole : front ++ rest ≡ vs = take-append-drop p.count vs in
    let o2 : InOrder (front ++ rest) = subst InOrder (sym whole) o in
    let some : (v : Version) × In v front = front_some p.count vs (ltb-true 0 p.count c.0) (leb-true p.count (length vs) c.1) in
    let more = tables_from level rest ps in
    let ih = cut_is level rest ps (order_rest front rest o2) a.1 in
    let pair : (t : LiveTable) → In t more → (meets (span_of front) (span_of t.versions) ≡ false) × (meets (span_of t.versions) (span_of front) ≡ false) = λ t i.
    let s = ih.some t i in
    let from : (y : Version) → In y t.versions → In y rest = λ y j. subst (λ z. In y z) ih.same (contents-from more t y i j) in
    apart_meets front t.versions (ends_in front some.0 some.1) (ends_in t.versions s.0 s.1)
    (λ x y k j. order_parts front rest o2 x y k (from y j))
    (λ x y k j e. cut_apart front rest o2 b.1 x y k (from y j) e) in
    record {
      same = ap (λ z. front ++ z) ih.same ∙ whole;
      level_is = λ t i. elim i [ inl e ↦ sym (ap (λ (z : LiveTable). z.level) e) | inr j ↦ ih.level_is t j ];
      some = λ t i. elim i [ inl e ↦ (some.0, subst (λ (z : LiveTable). In some.0 z.versions) e some.1) | inr j ↦ ih.some t j ];
      spread = λ s t i j ne. elim i [
        | inl e ↦ elim j [
          | inl e2 ↦ absurd (ne (ap (λ (z : LiveTable). z.number) (sym e ∙ e2)))
          | inr j2 ↦ subst (λ (z : LiveTable). meets (span_of z.versions) (span_of t.versions) ≡ false) e (pair t j2).0
        ]
        | inr i2 ↦ elim j [
          | inl e2 ↦ subst (λ (z : LiveTable). meets (span_of s.versions) (span_of z.versions) ≡ false) e2 (pair s i2).1
          | inr j2 ↦ ih.spread s t i2 j2 ne
        ]
      ];
    }

pub numbers_are : (level : ℕ) (vs : List Version) (ps : List Piece) → numbers_of (tables_from level vs ps) ≡ numbers_of_pieces ps
numbers_are level vs [] = refl
numbers_are level vs (p ∷ ps) = ap (λ z. p.table ∷ z) (numbers_are level (drop p.count vs) ps)

-- ---- the hull of tables

hull_left : (a : KeySpan) (bs : List KeySpan) (k : List ℕ) → is_in a k ≡ true → is_in (hull_with a bs) k ≡ true
hull_left a [] k h = h
hull_left a (b ∷ bs) k h = hull_left (span_of_both a b) bs k (joined_left a b k h)

hull_right : (a : KeySpan) (bs : List KeySpan) (b : KeySpan) (k : List ℕ) → In b bs → is_in b k ≡ true → is_in (hull_with a bs) k ≡ true
hull_right a [] b k i h = absurd i
hull_right a (c ∷ bs) b k (inl q) h = hull_left (span_of_both a c) bs k (joined_right a c k (subst (λ z. is_in z k ≡ true) (sym q) h))
hull_right a (c ∷ bs) b k (inr i) h = hull_right (span_of_both a c) bs b k i h

-- each key of the tables lies in their hull
pub hull_has : (ts : List LiveTable) (v : Version) → In v (contents ts) → is_in (hull_of ts) v.key ≡ true
hull_has [] v i = absurd i
hull_has (t ∷ ts) v i = elim (In-append v t.versions (contents ts) i) [
  | inl j ↦ hull_left (span_of t.versions) (spans_of ts) v.key (span_has t.versions v j)
  | inr j ↦
      let r = In-contents ts v j in
      hull_right (span_of t.versions) (spans_of ts) (span_of r.0.versions) v.key (In-map (λ (x : LiveTable). span_of x.versions) r.0 ts r.1) (span_has r.0.versions v r.2)
]

-- what meets a part of what the tables hold meets their hull
pub meets_hull : (o : KeySpan) (vs : List Version) (ts : List LiveTable) → Ends vs → Within vs (contents ts) → meets o (span_of vs) ≡ true → meets o (hull_of ts) ≡ true
meets_hull o vs ts e sub h =
    let p = and_parts (is_at_most o.low (span_of vs).high) (is_at_most (span_of vs).low o.high) h in
    let lo = is_in_parts (hull_of ts) e.low.key (hull_has ts e.low (sub e.low e.low_in)) in
    let hi = is_in_parts (hull_of ts) e.high.key (hull_has ts e.high (sub e.high e.high_in)) in
    and_from (is_at_most o.low (hull_of ts).high) (is_at_most (hull_of ts).low o.high)
    (at_most_trans o.low (span_of vs).high (hull_of ts).high p.0 (subst (λ z. is_at_most z (hull_of ts).high ≡ true) e.high_is hi.1))
    (at_most_trans (hull_of ts).low (span_of vs).low o.high (subst (λ z. is_at_most (hull_of ts).low z ≡ true) e.low_is lo.0) p.1)
