-- What a collection keeps, for a read.
use Rattle.std.proofs.Common.{◌≡◌, ◌⊎◌, ℕ, ◌<◌, ◌≤◌, Bool, true, false, not, ◌&&◌, List, [], ◌∷◌, ◌++◌, max, Option, Some, None, refl, sym, ap, ◌∙◌, subst, arith, inl, inr}
use Rattle.std.specs.List.{filter, list_any}
use Rattle.std.specs.Str.{bytes_eq}
use Rattle.std.specs.Prelude.{◌==◌, nat_le, ⊤}
use Rattle.std.proofs.lemmas.Bool.{cases_Bool, and_parts, and_from, or_left, or_right, false≢true, not-true, leb-true, le-leb}
use Rattle.std.proofs.lemmas.Bool.Decides.{nat_tests, Decides-eqb}
use Rattle.std.proofs.lemmas.Slice.Eq.{bytes_eq-Decides}
use Rattle.ts_key.specs.declared.numbers.Family.{Family}
use Rattle.ts_key.specs.declared.numbers.Ts.{Ts}
use Rattle.ts_key.specs.declared.numbers.Seq.{Seq}
use Rattle.ts_key.specs.declared.version.Op.{Op}
use Rattle.ts_key.specs.declared.version.Op.TheVariants.{Put, Del}
use Rattle.ts_key.specs.declared.version.Version.{Version}
use Rattle.udt_model.specs.declared.reply.KeySpan.{KeySpan}
use Rattle.udt_model.specs.Versions.{is_newer, is_of, is_within, visible, newest_of, is_put, up_to}
use Rattle.udt_model.specs.Orders.{is_version_before, is_in_some, stored, with_version}
use Rattle.udt_model.specs.Collecting.{hides, is_hidden, is_ever_seen, is_seen_at, seen_of, is_put_below, collect, collect_all}
use Rattle.floor_laws.proofs.Members.{In, In-filter, filter-In, filter_every, In-left, In-right, In-append, any-In, In-any, none-any}
use Rattle.floor_laws.proofs.Best.{Single, IsBest, Best, best_filter}

-- ---- a version of the key, within a timestamp and a sequence

abbrev pub fits : Family → List ℕ → Ts → Seq → Version → Bool
fits family key t s v = is_of family key v && is_within t s v

-- the parts of the test
pub record Fits (family : Family) (key : List ℕ) (t : Ts) (s : Seq) (v : Version) : Type 0 where
  pub same_family : v.family ≡ family
  pub same_key : v.key ≡ key
  pub in_time : v.ts.0 ≤ t.0
  pub in_order : v.seq.0 ≤ s.0

pub same_number : (a b : Family) → a.0 ≡ b.0 → a ≡ b
same_number a b e = ap (λ (n : ℕ). let f : Family = record { 0 = n } in f) e

pub is_of-true : (family : Family) (key : List ℕ) (v : Version) → is_of family key v ≡ true → (v.family ≡ family) × (v.key ≡ key)
is_of-true family key v h =
    let r = and_parts (v.family.0 == family.0) (bytes_eq v.key key) h in
    (same_number v.family family ((Decides-eqb v.family.0 family.0).0 r.0), (bytes_eq-Decides v.key key).0 r.1)

pub is_of-from : (family : Family) (key : List ℕ) (v : Version) → v.family ≡ family → v.key ≡ key → is_of family key v ≡ true
is_of-from family key v f k = and_from (v.family.0 == family.0) (bytes_eq v.key key) ((Decides-eqb v.family.0 family.0).1 (ap (λ (z : Family). z.0) f)) ((bytes_eq-Decides v.key key).1 k)

pub fits-true : (family : Family) (key : List ℕ) (t : Ts) (s : Seq) (v : Version) → fits family key t s v ≡ true → Fits family key t s v
fits-true family key t s v h =
    let r = and_parts (is_of family key v) (nat_le v.ts.0 t.0 && nat_le v.seq.0 s.0) h in
    let q = and_parts (nat_le v.ts.0 t.0) (nat_le v.seq.0 s.0) r.1 in
    let i = is_of-true family key v r.0 in
    record { same_family = i.0; same_key = i.1; in_time = leb-true v.ts.0 t.0 q.0; in_order = leb-true v.seq.0 s.0 q.1 }

pub fits-from : (family : Family) (key : List ℕ) (t : Ts) (s : Seq) (v : Version) → Fits family key t s v → fits family key t s v ≡ true
fits-from family key t s v h =
    and_from (is_of family key v) (nat_le v.ts.0 t.0 && nat_le v.seq.0 s.0) (is_of-from family key v h.same_family h.same_key)
    (and_from (nat_le v.ts.0 t.0) (nat_le v.seq.0 s.0) (le-leb v.ts.0 t.0 h.in_time) (le-leb v.seq.0 s.0 h.in_order))

-- both tests at once
filter_both : (p q : Version → Bool) (w : List Version) → filter q (filter p w) ≡ filter (λ v. p v && q v) w
filter_both p q [] = refl
filter_both p q (x ∷ xs) =
    let h = filter_both p q xs in
    elim (cases_Bool (p x)) [
      | inl y ↦ elim (cases_Bool (q x)) [ inl z ↦ rw (y, z) (ap (λ (t : List Version). x ∷ t) h) | inr z ↦ rw (y, z) h ]
      | inr y ↦ rw y h
    ]

pub visible_best : (w : List Version) (family : Family) (key : List ℕ) (t : Ts) (s : Seq) → Best w (fits family key t s) (visible w family key t s)
visible_best w family key t s =
    subst (λ (vs : List Version). Best w (fits family key t s) (newest_of vs)) (sym (filter_both (is_of family key) (is_within t s) w)) (best_filter (fits family key t s) w)

-- ---- the order

pub over_one_below : (d u x : Version) → is_newer u d ≡ false → is_newer u x ≡ true → is_newer d x ≡ true
over_one_below d u x a b = grind (arith, nat_tests)

pub not_newer-ts : (u d : Version) → is_newer u d ≡ false → u.ts.0 ≤ d.ts.0
not_newer-ts u d a = grind (arith, nat_tests)

pub over_another : (u d : Version) → is_newer u d ≡ false → (u.seq.0 ≡ d.seq.0 → ⊥) → is_newer d u ≡ true
over_another u d a n = grind (arith, nat_tests)

pub newer_by_seq : (u d : Version) → d.ts.0 ≤ u.ts.0 → d.seq.0 < u.seq.0 → is_newer u d ≡ true
newer_by_seq u d a n = grind (arith, nat_tests)

-- ---- the stored order keeps what is there

pub with_version-In : (v u : Version) (xs : List Version) → In v (with_version u xs) → (u ≡ v) ⊎ In v xs
with_version-In v u [] h = h
with_version-In v u (x ∷ xs) h =
    elim (cases_Bool (is_version_before x u)) [
      | inl y ↦
          let h2 : In v (x ∷ with_version u xs) = rw y at h in
          elim h2 [ inl q ↦ inr (inl q) | inr i ↦ elim (with_version-In v u xs i) [ inl q ↦ inl q | inr j ↦ inr (inr j) ] ]
      | inr y ↦ let h2 : In v (u ∷ x ∷ xs) = rw y at h in h2
    ]

pub In-with_version : (v u : Version) (xs : List Version) → (u ≡ v) ⊎ In v xs → In v (with_version u xs)
In-with_version v u [] h = h
In-with_version v u (x ∷ xs) h =
    elim (cases_Bool (is_version_before x u)) [
      | inl y ↦ rw y (elim h [ inl q ↦ inr (In-with_version v u xs (inl q)) | inr i ↦ elim i [ inl q ↦ inl q | inr j ↦ inr (In-with_version v u xs (inr j)) ] ])
      | inr y ↦ rw y h
    ]

pub stored-In : (v : Version) (xs : List Version) → In v (stored xs) → In v xs
stored-In v [] h = h
stored-In v (x ∷ xs) h = elim (with_version-In v x (stored xs) h) [ inl q ↦ inl q | inr i ↦ inr (stored-In v xs i) ]

pub In-stored : (v : Version) (xs : List Version) → In v xs → In v (stored xs)
In-stored v [] h = h
In-stored v (x ∷ xs) h = In-with_version v x (stored xs) (elim h [ inl q ↦ inl q | inr i ↦ inr (In-stored v xs i) ])

-- ---- a collection that leaves alone the deletes of covered keys

abbrev pub is_spent : List Version → Ts → (List ℕ → Bool) → Version → Bool
is_spent kept floor covered v = not (is_put v.op) && nat_le v.ts.0 floor.0 && not (covered v.key) && not (list_any (is_put_below v) kept)

abbrev pub unspent : List Version → Ts → List Seq → (List ℕ → Bool) → List Version
unspent vs floor seqs covered = filter (λ v. not (is_spent (seen_of vs floor seqs) floor covered v)) (seen_of vs floor seqs)

abbrev pub collect_by : List Version → Ts → List Seq → (List ℕ → Bool) → List Version
collect_by vs floor seqs covered = stored (unspent vs floor seqs covered)

pub collect_is : (vs : List Version) (floor : Ts) (seqs : List Seq) (deeper : List KeySpan) → collect_by vs floor seqs (is_in_some deeper) ≡ collect vs floor seqs deeper
collect_is vs floor seqs deeper = refl

abbrev pub everywhere : List ℕ → Bool
everywhere key = true

pub collect_all_is : (vs : List Version) (floor : Ts) (seqs : List Seq) → collect_by vs floor seqs everywhere ≡ collect_all vs floor seqs
collect_all_is vs floor seqs =
    ap stored (filter_every (λ v. not (is_spent (seen_of vs floor seqs) floor everywhere v)) (seen_of vs floor seqs) (λ v i. stays v)) where
      stays : (v : Version) → not (is_spent (seen_of vs floor seqs) floor everywhere v) ≡ true
      stays v = grind arith

-- up to this sequence, or up to the end
abbrev pub upto : Option Seq → Version → Bool
upto None v = true
upto (Some s) v = nat_le v.seq.0 s.0

-- the end, or the sequence of a snapshot
abbrev pub IsEnd : List Seq → Option Seq → Type 0
IsEnd seqs None = ⊤
IsEnd seqs (Some s) = In s seqs

-- the part sees up to s what it sees up to e
pub record SeesAlike (p : List Version) (s : ℕ) (e : Option Seq) : Type 0 where
  pub down : (v : Version) → In v p → v.seq.0 ≤ s → upto e v ≡ true
  pub up : (v : Version) → In v p → upto e v ≡ true → v.seq.0 ≤ s

-- a version outside the part, of a key that isn't covered, is newer than those of the part
abbrev pub NewerOutside : List Version → List Version → (List ℕ → Bool) → Type 0
NewerOutside p r covered = (a b : Version) → In a p → In b r → a.family ≡ b.family → a.key ≡ b.key → covered a.key ≡ false → is_newer b a ≡ true

pub collect-In : (p : List Version) (f : Ts) (ss : List Seq) (covered : List ℕ → Bool) (v : Version) → In v (collect_by p f ss covered) → In v p
collect-In p f ss covered v h =
    (filter-In (is_ever_seen p f ss) v p (filter-In (λ x. not (is_spent (seen_of p f ss) f covered x)) v (seen_of p f ss) (stored-In v (unspent p f ss covered) h)).0).0

pub collect_rest-In : (p r : List Version) (f : Ts) (ss : List Seq) (covered : List ℕ → Bool) (v : Version) → In v (collect_by p f ss covered ++ r) → In v (p ++ r)
collect_rest-In p r f ss covered v h =
    elim (In-append v (collect_by p f ss covered) r h) [
      | inl i ↦ In-left v p r (collect-In p f ss covered v i)
      | inr i ↦ In-right v p r i
    ]

-- what a read finds is hidden by none of the versions that the read sees
best_unhidden : (family : Family) (key : List ℕ) (t : Ts) (s : Seq) (p r q : List Version) (f : Ts) (d : Version) → f.0 ≤ t.0 → IsBest (p ++ r) (fits family key t s) d → ((u : Version) → In u q → In u p × (u.seq.0 ≤ s.0)) → is_hidden q f d ≡ false
best_unhidden family key t s p r q f d le best sub =
    let fd = fits-true family key t s d best.fit in
    none-any (λ u. hides f u d) q (λ u i h.
    let a = and_parts (is_of d.family d.key u && is_newer u d) (nat_le u.ts.0 (max d.ts.0 f.0)) h in
    let b = and_parts (is_of d.family d.key u) (is_newer u d) a.0 in
    let k = is_of-true d.family d.key u b.0 in
    let m : u.ts.0 ≤ max d.ts.0 f.0 = leb-true u.ts.0 (max d.ts.0 f.0) a.1 in
    let dt : d.ts.0 ≤ t.0 = fd.in_time in
    let g = sub u i in
    let fu : fits family key t s u ≡ true = fits-from family key t s u (record {
      same_family = k.0 ∙ fd.same_family;
      same_key = k.1 ∙ fd.same_key;
      in_time = omega (arith, m, dt, le);
      in_order = g.1;
    }) in
    false≢true (sym (best.top u (In-left u p r g.0) fu) ∙ b.1))

-- what a read finds is seen
best_seen : (family : Family) (key : List ℕ) (t : Ts) (s : Seq) (p r : List Version) (f : Ts) (ss : List Seq) (e : Option Seq) (d : Version) → f.0 ≤ t.0 → IsEnd ss e → SeesAlike p s.0 e → IsBest (p ++ r) (fits family key t s) d → In d p → is_ever_seen p f ss d ≡ true
best_seen family key t s p r f ss None d le ine alike best here =
    or_left (not (is_hidden p f d)) (list_any (is_seen_at p f d) ss)
    (ap not (best_unhidden family key t s p r p f d le best (λ u i. (i, alike.up u i refl))))
best_seen family key t s p r f ss (Some n) d le ine alike best here =
    or_right (not (is_hidden p f d)) (list_any (is_seen_at p f d) ss)
    (any-In (is_seen_at p f d) n ss ine
    (and_from (nat_le d.seq.0 n.0) (not (is_hidden (up_to n.0 p) f d)) (alike.down d here (fits-true family key t s d best.fit).in_order)
    (ap not (best_unhidden family key t s p r (up_to n.0 p) f d le best (λ u i. let g = filter-In (λ v. nat_le v.seq.0 n.0) u p i in (g.0, alike.up u g.0 g.1))))))

delete_from : (o : Op) → not (is_put o) ≡ true → o ≡ Del
delete_from Del h = refl
delete_from (Put x) h = absurd (false≢true h)

pub record SpentParts (kept : List Version) (f : Ts) (covered : List ℕ → Bool) (v : Version) : Type 0 where
  pub delete : not (is_put v.op) ≡ true
  pub low : nat_le v.ts.0 f.0 ≡ true
  pub free : not (covered v.key) ≡ true
  pub alone : not (list_any (is_put_below v) kept) ≡ true

spent-true : (kept : List Version) (f : Ts) (covered : List ℕ → Bool) (v : Version) → is_spent kept f covered v ≡ true → SpentParts kept f covered v
spent-true kept f covered v h =
    let a = and_parts (not (is_put v.op) && nat_le v.ts.0 f.0 && not (covered v.key)) (not (list_any (is_put_below v) kept)) h in
    let b = and_parts (not (is_put v.op) && nat_le v.ts.0 f.0) (not (covered v.key)) a.0 in
    let c = and_parts (not (is_put v.op)) (nat_le v.ts.0 f.0) b.0 in
    record { delete = c.0; low = c.1; free = b.1; alone = a.1 }

spent-from : (kept : List Version) (f : Ts) (covered : List ℕ → Bool) (v : Version) → SpentParts kept f covered v → is_spent kept f covered v ≡ true
spent-from kept f covered v h =
    and_from (not (is_put v.op) && nat_le v.ts.0 f.0 && not (covered v.key)) (not (list_any (is_put_below v) kept))
    (and_from (not (is_put v.op) && nat_le v.ts.0 f.0) (not (covered v.key)) (and_from (not (is_put v.op)) (nat_le v.ts.0 f.0) h.delete h.low) h.free) h.alone

-- below a spent delete no put of its key was kept
no_put_below : (kept : List Version) (f : Ts) (covered : List ℕ → Bool) (d x : Version) → SpentParts kept f covered d → In x kept → is_put x.op ≡ true → is_of d.family d.key x ≡ true → is_newer d x ≡ true → ⊥
no_put_below kept f covered d x h i e k n =
    let yes : list_any (is_put_below d) kept ≡ true = any-In (is_put_below d) x kept i (and_from (is_put x.op && is_of d.family d.key x) (is_newer d x) (and_from (is_put x.op) (is_of d.family d.key x) e k) n) in
    false≢true (sym (ap not yes) ∙ h.alone)

-- u isn't spent and d, the best, is: then u isn't there
spent_covers : (p r : List Version) (kept : List Version) (f : Ts) (covered : List ℕ → Bool) (family : Family) (key : List ℕ) (t : Ts) (s : Seq) (d u : Version) → Single (p ++ r) → ((v : Version) → In v kept → In v p) → IsBest (p ++ r) (fits family key t s) d → is_spent kept f covered d ≡ true → In u kept → fits family key t s u ≡ true → is_spent kept f covered u ≡ false → ⊥
spent_covers p r kept f covered family key t s d u one sub best spent here fu unspent =
    let h = spent-true kept f covered d spent in
    let fd = fits-true family key t s d best.fit in
    let fu' = fits-true family key t s u fu in
    let inu : In u (p ++ r) = In-left u p r (sub u here) in
    let below : is_newer u d ≡ false = best.top u inu fu in
    let ku : u.key ≡ d.key = fu'.same_key ∙ sym fd.same_key in
    let cu : u.family ≡ d.family = fu'.same_family ∙ sym fd.same_family in
    let low : d.ts.0 ≤ f.0 = leb-true d.ts.0 f.0 h.low in
    let ut : u.ts.0 ≤ d.ts.0 = not_newer-ts u d below in
    elim (cases_Bool (is_put u.op)) [
      | inl y ↦
          let apart : u.seq.0 ≡ d.seq.0 → ⊥ = λ q. let same : u ≡ d = one u d inu best.there q in false≢true (sym (ap not y) ∙ ap (λ (v : Version). not (is_put v.op)) same ∙ h.delete) in
          no_put_below kept f covered d u h here y (is_of-from d.family d.key u cu ku) (over_another u d below apart)
      | inr y ↦
          elim (cases_Bool (list_any (is_put_below u) kept)) [
            | inl a ↦
                let x = In-any (is_put_below u) kept a in
                let q = and_parts (is_put x.0.op && is_of u.family u.key x.0) (is_newer u x.0) x.2 in
                let q2 = and_parts (is_put x.0.op) (is_of u.family u.key x.0) q.0 in
                let k = is_of-true u.family u.key x.0 q2.1 in
                no_put_below kept f covered d x.0 h x.1 q2.0 (is_of-from d.family d.key x.0 (k.0 ∙ cu) (k.1 ∙ ku)) (over_one_below d u x.0 below q.1)
            | inr a ↦
                let yes : is_spent kept f covered u ≡ true = spent-from kept f covered u (record {
                  delete = ap not y;
                  low = le-leb u.ts.0 f.0 (omega (arith, low, ut));
                  free = ap (λ k. not (covered k)) ku ∙ h.free;
                  alone = ap not a;
                }) in
                false≢true (sym unspent ∙ yes)
          ]
    ]

pub record Spent (w : List Version) (p : Version → Bool) (f : Ts) (o : Option Version) : Type 0 where
  pub none : Best w p None
  pub one : Version
  pub is : o ≡ Some one
  pub delete : one.op ≡ Del
  pub low : one.ts.0 ≤ f.0

spent_best : (family : Family) (key : List ℕ) (t : Ts) (s : Seq) (p r : List Version) (f : Ts) (ss : List Seq) (covered : List ℕ → Bool) (d : Version) → Single (p ++ r) → NewerOutside p r covered → IsBest (p ++ r) (fits family key t s) d → In d p → is_spent (seen_of p f ss) f covered d ≡ true → Spent (collect_by p f ss covered ++ r) (fits family key t s) f (Some d)
spent_best family key t s p r f ss covered d one outside best here y =
    let h = spent-true (seen_of p f ss) f covered d y in
    let fd = fits-true family key t s d best.fit in
    record {
      none = λ u i x. elim (In-append u (collect_by p f ss covered) r i) [
        | inl j ↦
            let q = filter-In (λ v. not (is_spent (seen_of p f ss) f covered v)) u (seen_of p f ss) (stored-In u (unspent p f ss covered) j) in
            spent_covers p r (seen_of p f ss) f covered family key t s d u one (λ v a. (filter-In (is_ever_seen p f ss) v p a).0) best y q.0 x (not-true (is_spent (seen_of p f ss) f covered u) q.1)
        | inr j ↦
            let fu = fits-true family key t s u x in
            let new : is_newer u d ≡ true = outside d u here j (fd.same_family ∙ sym fu.same_family) (fd.same_key ∙ sym fu.same_key) (not-true (covered d.key) h.free) in
            false≢true (sym (best.top u (In-right u p r j) x) ∙ new)
      ];
      one = d;
      is = refl;
      delete = delete_from d.op h.delete;
      low = leb-true d.ts.0 f.0 h.low;
    }

pub collect_best : (family : Family) (key : List ℕ) (t : Ts) (s : Seq) (p r : List Version) (f : Ts) (ss : List Seq) (covered : List ℕ → Bool) (e : Option Seq) (o : Option Version) → Single (p ++ r) → f.0 ≤ t.0 → IsEnd ss e → SeesAlike p s.0 e → NewerOutside p r covered → Best (p ++ r) (fits family key t s) o → Best (collect_by p f ss covered ++ r) (fits family key t s) o ⊎ Spent (collect_by p f ss covered ++ r) (fits family key t s) f o
collect_best family key t s p r f ss covered e None one le ine alike outside best = inl (λ u h x. best u (collect_rest-In p r f ss covered u h) x)
collect_best family key t s p r f ss covered e (Some d) one le ine alike outside best =
    let top' : (u : Version) → In u (collect_by p f ss covered ++ r) → fits family key t s u ≡ true → is_newer u d ≡ false = λ u h x. best.top u (collect_rest-In p r f ss covered u h) x in
    elim (In-append d p r best.there) [
      | inl i ↦
          let seen = best_seen family key t s p r f ss e d le ine alike best i in
          let ink : In d (seen_of p f ss) = In-filter (is_ever_seen p f ss) d p i seen in
          elim (cases_Bool (is_spent (seen_of p f ss) f covered d)) [
            | inl y ↦ inr (spent_best family key t s p r f ss covered d one outside best i y)
            | inr y ↦ inl (record {
              there = In-left d (collect_by p f ss covered) r (In-stored d (unspent p f ss covered) (In-filter (λ x. not (is_spent (seen_of p f ss) f covered x)) d (seen_of p f ss) ink (ap not y)));
              fit = best.fit;
              top = top';
            })
          ]
      | inr i ↦ inl (record { there = In-right d (collect_by p f ss covered) r i; fit = best.fit; top = top' })
    ]
