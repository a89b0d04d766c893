-- Spans that meet.
use Rattle.std.proofs.Common.{◌≡◌, ◌⊎◌, ℕ, true, false, List, [], ◌∷◌, ◌++◌, map, refl, sym, ap, subst, ◌∙◌, inl, inr}
use Rattle.std.specs.Prelude.{Some, None}
use Rattle.std.specs.List.{AllByRecursion}
use Rattle.std.specs.Ordering.{is_le, ordering_then}
use Rattle.std.specs.declared.cmp.Ordering.{Ordering}
use Rattle.std.specs.declared.cmp.Ordering.TheVariants.{Less, Equal, Greater}
use Rattle.std.proofs.lemmas.Bool.{cases_Bool, false≢true, and_from, and_parts, false_from_ne_true}
use Rattle.ts_key.specs.declared.numbers.Family.{Family}
use Rattle.ts_key.specs.Items.{Item}
use Rattle.ts_key.specs.Lists.{IsSorted}
use Rattle.ts_key.specs.Order.{SortKey, sort_cmp}
use Rattle.ts_key.specs.declared.version.Version.{Version}
use Rattle.udt_model.specs.declared.reply.KeySpan.{KeySpan}
use Rattle.udt_model.specs.Orders.{hull_with, is_at_most, is_below, meets, span_of, span_of_both, span_of_key, lower_of, higher_of}
use Rattle.block_table.specs.Contents.{first_key, last_user_key}
use Rattle.super_version.specs.Contents.{version_of_item}
use Rattle.compaction.specs.Plans.{hull_if_any}
use Rattle.floor_laws.proofs.Members.{In}
use Rattle.floor_laws.proofs.Keys.{at_most_itself, at_most_trans, at_most_same, at_most_total, not_below, below_at_most, lower_left, lower_right, higher_left, higher_right}

-- ---- hulls made span by span

hull_end : (a : KeySpan) (ss : List KeySpan) (s : KeySpan) → hull_with a (ss ++ s ∷ []) ≡ span_of_both (hull_with a ss) s
hull_end a [] s = refl
hull_end a (b ∷ bs) s = hull_end (span_of_both a b) bs s

pub hull_first : (ss : List KeySpan) (s : KeySpan) → None ≡ hull_if_any ss → Some s ≡ hull_if_any (ss ++ s ∷ [])
hull_first [] s e = refl
hull_first (a ∷ bs) s e = cc

pub hull_more : (ss : List KeySpan) (hull s : KeySpan) → Some hull ≡ hull_if_any ss → Some (span_of_both hull s) ≡ hull_if_any (ss ++ s ∷ [])
hull_more [] hull s e = cc
hull_more (a ∷ bs) hull s e = let h : hull ≡ hull_with a bs = cc in ap Some (ap (λ z. span_of_both z s) h ∙ sym (hull_end a bs s))

-- ---- the span of versions in the stored order

key_upto : (o r : Ordering) → ordering_then o r ≡ Less → is_le o ≡ true
key_upto Less r h = refl
key_upto Equal r h = refl
key_upto Greater r h = cc

pub keys_upto : (a b : SortKey) → sort_cmp a b ≡ Less → is_at_most a.key b.key ≡ true
keys_upto a b h = key_upto _ _ h

last_upto : (v w : Item) (ws : List Item) → AllByRecursion (λ x. sort_cmp v.sort_key x.sort_key ≡ Less) (w ∷ ws) → is_at_most v.sort_key.key (last_user_key (w ∷ ws)) ≡ true
last_upto v w [] h = keys_upto v.sort_key w.sort_key h.0
last_upto v w (x ∷ xs) h = last_upto v x xs h.1

lower_is : (a b : List ℕ) → is_at_most a b ≡ true → lower_of a b ≡ a
lower_is a b h =
    elim (cases_Bool (is_below b a)) [
      | inl y ↦ let e : b ≡ a = at_most_same b a (below_at_most b a y) h in rw y e
      | inr y ↦ rw y refl
    ]

higher_is : (a b : List ℕ) → is_at_most a b ≡ true → higher_of a b ≡ b
higher_is a b h =
    elim (cases_Bool (is_below a b)) [
      | inl y ↦ rw y refl
      | inr y ↦ let e : a ≡ b = at_most_same a b h (not_below a b y) in rw y e
    ]

pub span_sorted : (family : Family) (vs : List Item) → IsSorted vs → span_of (map (version_of_item family) vs) ≡ record { low = first_key vs; high = last_user_key vs }
span_sorted family [] s = refl
span_sorted family (v ∷ []) s = refl
span_sorted family (v ∷ w ∷ vs) s =
    let low : lower_of v.sort_key.key w.sort_key.key ≡ v.sort_key.key = lower_is v.sort_key.key w.sort_key.key (keys_upto v.sort_key w.sort_key s.0.0) in
    let high : higher_of v.sort_key.key (last_user_key (w ∷ vs)) ≡ last_user_key (w ∷ vs) = higher_is v.sort_key.key (last_user_key (w ∷ vs)) (last_upto v w vs s.0) in
    ap (span_of_both (span_of_key v.sort_key.key)) (span_sorted family (w ∷ vs) s.1) ∙ (λ i. record { low = low i; high = high i })

-- ---- spans whose low end isn't above the high one

abbrev pub IsUp : KeySpan → Type 0
IsUp s = is_at_most s.low s.high ≡ true

pub both_up : (a b : KeySpan) → IsUp a → IsUp (span_of_both a b)
both_up a b h = at_most_trans (lower_of a.low b.low) a.high (higher_of a.high b.high) (at_most_trans (lower_of a.low b.low) a.low a.high (lower_left a.low b.low) h) (higher_left a.high b.high)

pub span_up : (vs : List Version) → IsUp (span_of vs)
span_up [] = at_most_itself []
span_up (v ∷ []) = at_most_itself v.key
span_up (v ∷ w ∷ vs) = both_up (span_of_key v.key) (span_of (w ∷ vs)) (at_most_itself v.key)

pub meets_parts : (a b : KeySpan) → meets a b ≡ true → (is_at_most a.low b.high ≡ true) × (is_at_most b.low a.high ≡ true)
meets_parts a b h = and_parts (is_at_most a.low b.high) (is_at_most b.low a.high) h

pub meets_of : (a b : KeySpan) → is_at_most a.low b.high ≡ true → is_at_most b.low a.high ≡ true → meets a b ≡ true
meets_of a b h k = and_from (is_at_most a.low b.high) (is_at_most b.low a.high) h k

-- b lies within a
pub record Lies (b a : KeySpan) : Type 0 where
  pub low : is_at_most a.low b.low ≡ true
  pub high : is_at_most b.high a.high ≡ true

pub lies_itself : (a : KeySpan) → Lies a a
lies_itself a = record { low = at_most_itself a.low; high = at_most_itself a.high }

lies_left : (a b : KeySpan) → Lies a (span_of_both a b)
lies_left a b = record { low = lower_left a.low b.low; high = higher_left a.high b.high }

lies_right : (a b : KeySpan) → Lies b (span_of_both a b)
lies_right a b = record { low = lower_right a.low b.low; high = higher_right a.high b.high }

lies_trans : (a b c : KeySpan) → Lies a b → Lies b c → Lies a c
lies_trans a b c h k = record { low = at_most_trans c.low b.low a.low k.low h.low; high = at_most_trans a.high b.high c.high h.high k.high }

lies_hull : (a : KeySpan) (ss : List KeySpan) → Lies a (hull_with a ss)
lies_hull a [] = lies_itself a
lies_hull a (s ∷ ss) = lies_trans a (span_of_both a s) (hull_with (span_of_both a s) ss) (lies_left a s) (lies_hull (span_of_both a s) ss)

-- each span lies within the hull
lies_in : (a : KeySpan) (ss : List KeySpan) (s : KeySpan) → In s (a ∷ ss) → Lies s (hull_with a ss)
lies_in a ss s (inl e) = subst (λ (z : KeySpan). Lies z (hull_with a ss)) e (lies_hull a ss)
lies_in a [] s (inr i) = absurd i
lies_in a (b ∷ bs) s (inr (inl e)) = subst (λ (z : KeySpan). Lies z (hull_with (span_of_both a b) bs)) e (lies_trans b (span_of_both a b) (hull_with (span_of_both a b) bs) (lies_right a b) (lies_hull (span_of_both a b) bs))
lies_in a (b ∷ bs) s (inr (inr i)) = lies_in (span_of_both a b) bs s (inr i)

pub lies_within : (ss : List KeySpan) (hull s : KeySpan) → hull_if_any ss ≡ Some hull → In s ss → Lies s hull
lies_within [] hull s e i = absurd i
lies_within (a ∷ bs) hull s e i = let h : hull_with a bs ≡ hull = cc in subst (λ (z : KeySpan). Lies s z) h (lies_in a bs s i)

pub meets_wider : (t b a : KeySpan) → Lies b a → meets t b ≡ true → meets t a ≡ true
meets_wider t b a l h =
    let p = meets_parts t b h in
    meets_of t a (at_most_trans t.low b.high a.high p.0 l.high) (at_most_trans a.low b.low t.high l.low p.1)

pub lies_meets : (b a : KeySpan) → IsUp b → Lies b a → meets b a ≡ true
lies_meets b a u l = meets_of b a (at_most_trans b.low b.high a.high u l.high) (at_most_trans a.low b.low b.high l.low u)

-- ---- what meets a hull meets one of the spans, or what they all meet

-- t doesn't meet s, and lies left of it or right of it
abbrev Left : KeySpan → KeySpan → Type 0
Left t s = is_at_most s.low t.high ≡ false

abbrev Right : KeySpan → KeySpan → Type 0
Right t s = is_at_most t.low s.high ≡ false

aside : (t s : KeySpan) → meets t s ≡ false → Left t s ⊎ Right t s
aside t s h =
    elim (cases_Bool (is_at_most s.low t.high)) [
      | inl y ↦ elim (cases_Bool (is_at_most t.low s.high)) [
        | inl z ↦ absurd (false≢true (sym h ∙ meets_of t s z y))
        | inr z ↦ inr z
      ]
      | inr y ↦ inl y
    ]

-- t can't lie left of h and right of what h meets
between_left : (t s h : KeySpan) → IsUp t → meets s h ≡ true → Left t h → Right t s → ⊥
between_left t s h u m l r =
    let p = meets_parts s h m in
    let a : is_at_most s.high t.low ≡ true = at_most_total t.low s.high r in
    false≢true (sym l ∙ at_most_trans h.low s.high t.high p.1 (at_most_trans s.high t.low t.high a u))

between_right : (t s h : KeySpan) → IsUp t → meets s h ≡ true → Right t h → Left t s → ⊥
between_right t s h u m r l =
    let p = meets_parts s h m in
    let a : is_at_most t.high s.low ≡ true = at_most_total s.low t.high l in
    false≢true (sym r ∙ at_most_trans t.low t.high h.high u (at_most_trans t.high s.low h.high a p.0))

left_both : (t a b : KeySpan) → Left t a → Left t b → Left t (span_of_both a b)
left_both t a b l k = elim (cases_Bool (is_below b.low a.low)) [ inl y ↦ rw y k | inr y ↦ rw y l ]

right_both : (t a b : KeySpan) → Right t a → Right t b → Right t (span_of_both a b)
right_both t a b l k = elim (cases_Bool (is_below a.high b.high)) [ inl y ↦ rw y k | inr y ↦ rw y l ]

not_left : (t s : KeySpan) → meets t s ≡ true → Left t s → ⊥
not_left t s m l = false≢true (sym l ∙ (meets_parts t s m).1)

not_right : (t s : KeySpan) → meets t s ≡ true → Right t s → ⊥
not_right t s m r = false≢true (sym r ∙ (meets_parts t s m).0)

apart_both : (t a b h : KeySpan) → IsUp t → meets a h ≡ true → meets b h ≡ true → meets t h ≡ false → meets t a ≡ false → meets t b ≡ false → meets t (span_of_both a b) ≡ false
apart_both t a b h u ma mb nh na nb =
    false_from_ne_true (meets t (span_of_both a b)) (λ m.
    elim (aside t h nh) [
      | inl l ↦ elim (aside t a na) [
        | inr r ↦ between_left t a h u ma l r
        | inl la ↦ elim (aside t b nb) [
          | inr r ↦ between_left t b h u mb l r
          | inl lb ↦ not_left t (span_of_both a b) m (left_both t a b la lb)
        ]
      ]
      | inr r ↦ elim (aside t a na) [
        | inl l ↦ between_right t a h u ma r l
        | inr ra ↦ elim (aside t b nb) [
          | inl l ↦ between_right t b h u mb r l
          | inr rb ↦ not_right t (span_of_both a b) m (right_both t a b ra rb)
        ]
      ]
    ])

pub apart_hull : (t h a : KeySpan) (ss : List KeySpan) → IsUp t → meets t h ≡ false → ((s : KeySpan) → In s (a ∷ ss) → (meets s h ≡ true) × (meets t s ≡ false)) → meets t (hull_with a ss) ≡ false
apart_hull t h a [] u nh each = (each a (inl refl)).1
apart_hull t h a (b ∷ bs) u nh each =
    let x = each a (inl refl) in
    let y = each b (inr (inl refl)) in
    let m : meets (span_of_both a b) h ≡ true = (let p = meets_parts a h x.0 in meets_of (span_of_both a b) h (at_most_trans (lower_of a.low b.low) a.low h.high (lower_left a.low b.low) p.0) (at_most_trans h.low a.high (higher_of a.high b.high) p.1 (higher_left a.high b.high))) in
    let n : meets t (span_of_both a b) ≡ false = apart_both t a b h u x.0 y.0 nh x.1 y.1 in
    apart_hull t h (span_of_both a b) bs u nh (λ s i. elim i [
      | inl e ↦ (subst (λ (z : KeySpan). meets z h ≡ true) e m, subst (λ (z : KeySpan). meets t z ≡ false) e n)
      | inr j ↦ each s (inr (inr j))
    ])
