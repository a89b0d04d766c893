-- The stored order, and that a collection depends on the versions alone, not on the order in which they come.
use Rattle.std.proofs.Common.{◌≡◌, ◌⊎◌, ℕ, ◌<◌, ◌≤◌, ◌&&◌, ◌||◌, Bool, true, false, not, max, List, [], ◌∷◌, refl, sym, ap, ◌∙◌, subst, arith, inl, inr}
use Rattle.std.specs.Prelude.{nat_lt, nat_le, ◌==◌}
use Rattle.std.specs.List.{list_any}
use Rattle.std.specs.Str.{bytes_eq}
use Rattle.std.proofs.lemmas.Bool.{cases_Bool, false≢true, cases_order, or_parts, and_from, lt-ltb, eq-eqb, eqb-true, ltb-true, or_cases, and_parts, false_from_ne_true}
use Rattle.std.proofs.lemmas.Slice.Eq.{bytes_eq-Decides}
use Rattle.ts_key.specs.declared.numbers.Ts.{Ts}
use Rattle.ts_key.specs.declared.numbers.Seq.{Seq}
use Rattle.ts_key.specs.declared.version.Form.{Form}
use Rattle.ts_key.specs.declared.version.Form.TheVariants.{Persist, Strip}
use Rattle.ts_key.specs.declared.version.Version.{Version}
use Rattle.udt_model.specs.declared.reply.KeySpan.{KeySpan}
use Rattle.udt_model.specs.Versions.{is_newer, is_put, up_to}
use Rattle.udt_model.specs.Orders.{is_below, is_at_most, is_in_some, is_version_before, with_version, stored}
use Rattle.udt_model.specs.Collecting.{hides, is_hidden, is_ever_seen, is_seen_at, seen_of, is_put_below, collect, collect_all, cutoff}
use Rattle.udt_model.specs.Jobs.{floor_over}
use Rattle.floor_laws.proofs.Members.{In, Within, filter-In, In-filter, any-In, In-any}
use Rattle.floor_laws.proofs.Counts.{Distinct, count, count-filter, count-stored, distinct_head, distinct_tail, distinct_single}
use Rattle.floor_laws.proofs.Kept.{with_version-In, stored-In, In-stored, is_spent, unspent, everywhere, collect_by, collect_all_is}
use Rattle.floor_laws.proofs.Keys.{at_most_itself, at_most_trans, at_most_same, below_at_most, below_not, not_below}

-- ---- the stored order

-- a has a smaller key, or the same key and isn't older
pub record Before (a b : Version) : Type 0 where
  pub key : is_at_most a.key b.key ≡ true
  pub newer : a.key ≡ b.key → (b.ts.0 < a.ts.0) ⊎ ((b.ts.0 ≡ a.ts.0) × (b.seq.0 ≤ a.seq.0))

newer_parts : (a b : Version) → is_newer a b ≡ false → (a.ts.0 < b.ts.0) ⊎ ((a.ts.0 ≡ b.ts.0) × (a.seq.0 ≤ b.seq.0))
newer_parts a b h =
    let p = or_parts (nat_lt b.ts.0 a.ts.0) (a.ts.0 == b.ts.0 && nat_lt b.seq.0 a.seq.0) h in
    elim (cases_order a.ts.0 b.ts.0) [
      | inl e ↦ inr (
        e,
        elim (cases_order a.seq.0 b.seq.0) [
          | inl q ↦ omega (arith, q)
          | inr o ↦ elim o [
            | inl l ↦ omega (arith, l)
            | inr l ↦ absurd (false≢true (sym p.1 ∙ and_from (a.ts.0 == b.ts.0) (nat_lt b.seq.0 a.seq.0) (eq-eqb a.ts.0 b.ts.0 e) (lt-ltb b.seq.0 a.seq.0 l)))
          ]
        ],
      )
      | inr o ↦ elim o [
        | inl l ↦ inl l
        | inr l ↦ absurd (false≢true (sym p.0 ∙ lt-ltb b.ts.0 a.ts.0 l))
      ]
    ]

newer_is : (a b : Version) → is_newer a b ≡ true → (b.ts.0 < a.ts.0) ⊎ ((a.ts.0 ≡ b.ts.0) × (b.seq.0 < a.seq.0))
newer_is a b h = elim (or_cases (nat_lt b.ts.0 a.ts.0) (a.ts.0 == b.ts.0 && nat_lt b.seq.0 a.seq.0) h) [
  | inl x ↦ inl (ltb-true b.ts.0 a.ts.0 x)
  | inr x ↦ let p = and_parts (a.ts.0 == b.ts.0) (nat_lt b.seq.0 a.seq.0) x in inr (eqb-true a.ts.0 b.ts.0 p.0, ltb-true b.seq.0 a.seq.0 p.1)
]

before_is : (a b : Version) → is_version_before a b ≡ true → Before a b
before_is a b h = elim (or_cases (is_below a.key b.key) (bytes_eq a.key b.key && is_newer a b) h) [
  | inl y ↦ record {
    key = below_at_most a.key b.key y;
    newer = λ q. absurd (false≢true (sym (below_not a.key b.key ∙ ap not (ap (is_at_most b.key) q ∙ at_most_itself b.key)) ∙ y));
  }
  | inr y ↦
      let p = and_parts (bytes_eq a.key b.key) (is_newer a b) y in
      let e = (bytes_eq-Decides a.key b.key).0 p.0 in
      record {
        key = subst (λ z. is_at_most a.key z ≡ true) e (at_most_itself a.key);
        newer = λ q. elim (newer_is a b p.1) [ inl l ↦ inl l | inr l ↦ inr (sym l.0, (let u = l.1 in omega (arith, u))) ];
      }
]

not_before_is : (a b : Version) → is_version_before a b ≡ false → Before b a
not_before_is a b h =
    let p = or_parts (is_below a.key b.key) (bytes_eq a.key b.key && is_newer a b) h in
    record {
      key = not_below a.key b.key p.0;
      newer = λ q.
          let n : is_newer a b ≡ false = false_from_ne_true (is_newer a b) (λ y. false≢true (sym p.1 ∙ and_from (bytes_eq a.key b.key) (is_newer a b) ((bytes_eq-Decides a.key b.key).1 (sym q)) y)) in
          newer_parts a b n;
    }

before_trans : (a b c : Version) → Before a b → Before b c → Before a c
before_trans a b c x y = record {
  key = at_most_trans a.key b.key c.key x.key y.key;
  newer = λ q.
      let ab : a.key ≡ b.key = at_most_same a.key b.key x.key (subst (λ z. is_at_most b.key z ≡ true) (sym q) y.key) in
      elim (x.newer ab) [
        | inl l ↦ elim (y.newer (sym ab ∙ q)) [ inl u ↦ inl (omega (arith, l, u)) | inr u ↦ let e = u.0 in inl (omega (arith, l, e)) ]
        | inr l ↦ let e = l.0 in let f = l.1 in elim (y.newer (sym ab ∙ q)) [ inl u ↦ inl (omega (arith, e, u)) | inr u ↦ let k = u.0 in let n = u.1 in inr (k ∙ e, omega (arith, f, n)) ]
      ];
}

-- two of which each stands before the other have one sequence
before_same : (a b : Version) → Before a b → Before b a → a.seq.0 ≡ b.seq.0
before_same a b x y =
    let e = at_most_same a.key b.key x.key y.key in
    elim (x.newer e) [
      | inl l ↦ elim (y.newer (sym e)) [ inl u ↦ absurd (omega (arith, l, u)) | inr u ↦ let k = u.0 in absurd (omega (arith, l, k)) ]
      | inr l ↦ let f = l.0 in let g = l.1 in elim (y.newer (sym e)) [ inl u ↦ absurd (omega (arith, f, u)) | inr u ↦ let n = u.1 in omega (arith, g, n) ]
    ]

-- ---- sorted lists

abbrev pub InOrder : List Version → Type 0
InOrder [] = Unit {0}
InOrder (v ∷ vs) = ((x : Version) → In x vs → Before v x) × InOrder vs

ordered_with : (u : Version) (xs : List Version) → InOrder xs → InOrder (with_version u xs)
ordered_with u [] h = ((λ x i. absurd i), tt)
ordered_with u (x ∷ xs) h =
    elim (cases_Bool (is_version_before x u)) [
      | inl y ↦
          let k = before_is x u y in
          rw y ((λ z i. elim (with_version-In z u xs i) [ inl q ↦ subst (λ w. Before x w) q k | inr j ↦ h.0 z j ]), ordered_with u xs h.1)
      | inr y ↦
          let k = not_before_is x u y in
          rw y ((λ z i. elim i [ inl q ↦ subst (λ w. Before u w) q k | inr j ↦ before_trans u x z k (h.0 z j) ]), h)
    ]

pub ordered_stored : (xs : List Version) → InOrder (stored xs)
ordered_stored [] = tt
ordered_stored (x ∷ xs) = ordered_with x (stored xs) (ordered_stored xs)

-- sorted lists of the same versions are one
pub sorted_same : (xs ys : List Version) → InOrder xs → InOrder ys → Distinct xs → Distinct ys → Within xs ys → Within ys xs → xs ≡ ys
sorted_same [] [] a b c d f g = refl
sorted_same [] (y ∷ ys) a b c d f g = absurd (g y (inl refl))
sorted_same (x ∷ xs) [] a b c d f g = absurd (f x (inl refl))
sorted_same (x ∷ xs) (y ∷ ys) a b c d f g =
    let same : x ≡ y = elim (f x (inl refl)) [
      | inl q ↦ sym q
      | inr i ↦ elim (g y (inl refl)) [
        | inl q ↦ q
        | inr j ↦ distinct_single (x ∷ xs) c x y (inl refl) (inr j) (before_same x y (a.0 y j) (b.0 x i))
      ]
    ] in
    let rest : xs ≡ ys = sorted_same xs ys a.1 b.1 (distinct_tail x xs c) (distinct_tail y ys d)
    (λ u i. elim (f u (inr i)) [ inl q ↦ absurd (distinct_head x xs c u i (ap (λ (z : Version). z.seq.0) (sym (same ∙ q)))) | inr j ↦ j ])
    (λ u i. elim (g u (inr i)) [ inl q ↦ absurd (distinct_head y ys d u i (ap (λ (z : Version). z.seq.0) (sym (sym same ∙ q)))) | inr j ↦ j ]) in
    ap (λ z. z ∷ xs) same ∙ ap (λ z. y ∷ z) rest

-- ---- what a collection keeps

any_same : {X : Type 0} (p q : X → Bool) (xs ys : List X) → ((x : X) → p x ≡ q x) → ((x : X) → In x xs → In x ys) → ((x : X) → In x ys → In x xs) → list_any p xs ≡ list_any q ys
any_same p q xs ys e f g =
    elim (cases_Bool (list_any p xs)) [
      | inl y ↦ let r = In-any p xs y in y ∙ sym (any-In q r.0 ys (f r.0 r.1) (sym (e r.0) ∙ r.2))
      | inr y ↦ y ∙ sym (false_from_ne_true (list_any q ys) (λ z. let r = In-any q ys z in false≢true (sym y ∙ any-In p r.0 xs (g r.0 r.1) (e r.0 ∙ r.2))))
    ]

up_to_within : (n : ℕ) (p q : List Version) → Within p q → Within (up_to n p) (up_to n q)
up_to_within n p q to x i = let r = filter-In (λ (v : Version). nat_le v.seq.0 n) x p i in In-filter (λ (v : Version). nat_le v.seq.0 n) x q (to x r.0) r.1

module _ (p q : List Version) (to : Within p q) (from : Within q p) (g : Ts) (ss : List Seq) (covered : List ℕ → Bool) where
  hidden_same : (v : Version) → is_hidden p g v ≡ is_hidden q g v
  hidden_same v = any_same (λ o. hides g o v) (λ o. hides g o v) p q (λ x. refl) to from

  seen_at_same : (v : Version) (s : Seq) → is_seen_at p g v s ≡ is_seen_at q g v s
  seen_at_same v s = ap (λ z. nat_le v.seq.0 s.0 && not z) (any_same (λ o. hides g o v) (λ o. hides g o v) (up_to s.0 p) (up_to s.0 q) (λ x. refl) (up_to_within s.0 p q to) (up_to_within s.0 q p from))

  seen_same : (v : Version) → is_ever_seen p g ss v ≡ is_ever_seen q g ss v
  seen_same v =
      ap (λ z. not z || list_any (is_seen_at p g v) ss) (hidden_same v)
      ∙ ap (λ z. not (is_hidden q g v) || z) (any_same (is_seen_at p g v) (is_seen_at q g v) ss ss (seen_at_same v) (λ x i. i) (λ x i. i))

  kept_to : Within (seen_of p g ss) (seen_of q g ss)
  kept_to v i = let r = filter-In (is_ever_seen p g ss) v p i in In-filter (is_ever_seen q g ss) v q (to v r.0) (sym (seen_same v) ∙ r.1)

  kept_from : Within (seen_of q g ss) (seen_of p g ss)
  kept_from v i = let r = filter-In (is_ever_seen q g ss) v q i in In-filter (is_ever_seen p g ss) v p (from v r.0) (seen_same v ∙ r.1)

  spent_same : (v : Version) → is_spent (seen_of p g ss) g covered v ≡ is_spent (seen_of q g ss) g covered v
  spent_same v = ap (λ z. not (is_put v.op) && nat_le v.ts.0 g.0 && not (covered v.key) && not z) (any_same (is_put_below v) (is_put_below v) (seen_of p g ss) (seen_of q g ss) (λ x. refl) kept_to kept_from)

  unspent_to : Within (unspent p g ss covered) (unspent q g ss covered)
  unspent_to v i =
      let r = filter-In (λ x. not (is_spent (seen_of p g ss) g covered x)) v (seen_of p g ss) i in
      In-filter (λ x. not (is_spent (seen_of q g ss) g covered x)) v (seen_of q g ss) (kept_to v r.0) (sym (ap not (spent_same v)) ∙ r.1)

  unspent_from : Within (unspent q g ss covered) (unspent p g ss covered)
  unspent_from v i =
      let r = filter-In (λ x. not (is_spent (seen_of q g ss) g covered x)) v (seen_of q g ss) i in
      In-filter (λ x. not (is_spent (seen_of p g ss) g covered x)) v (seen_of p g ss) (kept_from v r.0) (ap not (spent_same v) ∙ r.1)

pub count-collect : (n : ℕ) (p : List Version) (g : Ts) (ss : List Seq) (covered : List ℕ → Bool) → count n (collect_by p g ss covered) ≤ count n p
count-collect n p g ss covered =
    let a = count-filter n (is_ever_seen p g ss) p in
    let b = count-filter n (λ v. not (is_spent (seen_of p g ss) g covered v)) (seen_of p g ss) in
    let c = count-stored n (unspent p g ss covered) in
    omega (arith, a, b, c)

collect_distinct : (p : List Version) (g : Ts) (ss : List Seq) (covered : List ℕ → Bool) → Distinct p → Distinct (collect_by p g ss covered)
collect_distinct p g ss covered h n = let a = count-collect n p g ss covered in let d = h n in omega (arith, a, d)

-- a collection of the same versions in another order is the same list
collect_by_same : (p q : List Version) (g : Ts) (ss : List Seq) (covered : List ℕ → Bool) → Within p q → Within q p → Distinct p → Distinct q → collect_by p g ss covered ≡ collect_by q g ss covered
collect_by_same p q g ss covered to from dp dq =
    sorted_same (collect_by p g ss covered) (collect_by q g ss covered) (ordered_stored (unspent p g ss covered)) (ordered_stored (unspent q g ss covered))
    (collect_distinct p g ss covered dp) (collect_distinct q g ss covered dq)
    (λ v i. In-stored v (unspent q g ss covered) (unspent_to p q to from g ss covered v (stored-In v (unspent p g ss covered) i)))
    (λ v i. In-stored v (unspent p g ss covered) (unspent_from p q to from g ss covered v (stored-In v (unspent q g ss covered) i)))

pub collect_same : (p q : List Version) (g : Ts) (ss : List Seq) (deeper : List KeySpan) → Within p q → Within q p → Distinct p → Distinct q → collect p g ss deeper ≡ collect q g ss deeper
collect_same p q g ss deeper to from dp dq = collect_by_same p q g ss (is_in_some deeper) to from dp dq

pub collect_all_same : (p q : List Version) (g : Ts) (ss : List Seq) → Within p q → Within q p → Distinct p → Distinct q → collect_all p g ss ≡ collect_all q g ss
collect_all_same p q g ss to from dp dq = sym (collect_all_is p g ss) ∙ collect_by_same p q g ss everywhere to from dp dq ∙ collect_all_is q g ss

-- ---- what a flush leaves, from memtables in any order

cutoff_in : (p : List Version) (v : Version) → In v p → v.ts.0 < cutoff p
cutoff_in [] v i = absurd i
cutoff_in (x ∷ xs) v (inl q) = let e : x.ts.0 ≡ v.ts.0 = ap (λ (z : Version). z.ts.0) q in omega (arith, e)
cutoff_in (x ∷ xs) v (inr i) = let r = cutoff_in xs v i in omega (arith, r)

cutoff_low : (p : List Version) (n : ℕ) → ((v : Version) → In v p → v.ts.0 < n) → cutoff p ≤ n
cutoff_low [] n h = omega arith
cutoff_low (x ∷ xs) n h = let a = h x (inl refl) in let b = cutoff_low xs n (λ v i. h v (inr i)) in omega (arith, a, b)

pub cutoff_same : (p q : List Version) → Within p q → Within q p → cutoff p ≡ cutoff q
cutoff_same p q to from =
    let a = cutoff_low p (cutoff q) (λ v i. cutoff_in q v (to v i)) in
    let b = cutoff_low q (cutoff p) (λ v i. cutoff_in p v (from v i)) in
    omega (arith, a, b)

pub floor_same : (form : Form) (p q : List Version) (floor : Ts) → Within p q → Within q p → floor_over form floor p ≡ floor_over form floor q
floor_same Persist p q floor to from = refl
floor_same Strip p q floor to from = ap (λ z. let t : Ts = record { 0 = max floor.0 z } in t) (cutoff_same p q to from)
