-- What keeps a list standing for another one.
use Rattle.std.proofs.Common.{◌≡◌, ◌⊎◌, ℕ, ◌<◌, ◌≤◌, Bool, true, false, List, ◌++◌, Option, Some, None, refl, sym, ap, ◌∙◌, arith, inl, inr, subst}
use Rattle.std.proofs.lemmas.Bool.{cases_Bool, false≢true, false_from_ne_true, le-leb, leb-true}
use Rattle.std.proofs.lemmas.Bool.Decides.{nat_tests}
use Rattle.ts_key.specs.declared.numbers.Family.{Family}
use Rattle.ts_key.specs.declared.numbers.Ts.{Ts}
use Rattle.ts_key.specs.declared.numbers.Seq.{Seq}
use Rattle.ts_key.specs.declared.version.Form.{Form}
use Rattle.ts_key.specs.declared.version.Form.TheVariants.{Persist, Strip}
use Rattle.ts_key.specs.declared.version.Op.TheVariants.{Del}
use Rattle.ts_key.specs.declared.version.Version.{Version}
use Rattle.udt_model.specs.Versions.{is_newer, is_of, visible}
use Rattle.udt_model.specs.Standing.{IsVersionImage, AreAlike}
use Rattle.floor_laws.proofs.Members.{In, Within}
use Rattle.floor_laws.proofs.Best.{Single, Best, best_unique, not_newer_itself}
use Rattle.floor_laws.proofs.Counts.{Distinct, distinct_single}
use Rattle.floor_laws.proofs.Kept.{fits, fits-true, is_of-true, visible_best, IsEnd, SeesAlike, NewerOutside, Spent, collect_by, collect_best, collect_rest-In}

-- the timestamps of a key rise with the sequences
abbrev pub Rising : List Version → Type 0
Rising w = (a b : Version) → In a w → In b w → is_of a.family a.key b ≡ true → a.seq.0 < b.seq.0 → a.ts.0 ≤ b.ts.0

-- the sequence of a snapshot, or one that no version is above
abbrev pub Sees : List Version → List Seq → Seq → Type 0
Sees w seqs s = ((a : Version) → In a w → a.seq.0 ≤ s.0) ⊎ In s seqs

-- The model's `Stands`, by what is in the lists.
pub record Standing (form : Form) (family : Family) (v w : List Version) (floor : Ts) (seqs : List Seq) : Type 0 where
  pub images : (b : Version) → In b v → (a : Version) × In a w × (a.family ≡ family) × IsVersionImage form floor b a
  pub distinct : Distinct v
  pub rising : Rising v
  pub reads : (key : List ℕ) (t : Ts) (s : Seq) → floor.0 ≤ t.0 → Sees w seqs s → AreAlike form floor (visible w family key t s) (visible v family key t s)

pub visible_is : (w : List Version) (family : Family) (key : List ℕ) (t : Ts) (s : Seq) (o : Option Version) → Single w → Best w (fits family key t s) o → visible w family key t s ≡ o
visible_is w family key t s o one b = best_unique w (fits family key t s) (visible w family key t s) o one (visible_best w family key t s) b

-- ---- images

pub image_itself : (form : Form) (f : Ts) (a : Version) → IsVersionImage form f a a
image_itself Persist f a = refl
image_itself Strip f a = inl refl

pub image_raise : (form : Form) (f g : Ts) (b a : Version) → f.0 ≤ g.0 → IsVersionImage form f b a → IsVersionImage form g b a
image_raise Persist f g b a le h = h
image_raise Strip f g b a le (inl q) = inl q
image_raise Strip f g b a le (inr q) = inr (let l = q.0 in omega (arith, l), q.1)

-- an image keeps all but the timestamp, which it doesn't raise
pub record Kin (a b : Version) : Type 0 where
  pub family : b.family ≡ a.family
  pub key : b.key ≡ a.key
  pub seq : b.seq.0 ≡ a.seq.0
  pub ts : b.ts.0 ≤ a.ts.0

kin_same : (a b : Version) → b ≡ a → Kin a b
kin_same a b q = record {
  family = ap (λ (x : Version). x.family) q;
  key = ap (λ (x : Version). x.key) q;
  seq = ap (λ (x : Version). x.seq.0) q;
  ts = let e : b.ts.0 ≡ a.ts.0 = ap (λ (x : Version). x.ts.0) q in omega (arith, e);
}

pub kin : (form : Form) (f : Ts) (a b : Version) → IsVersionImage form f b a → Kin a b
kin Persist f a b q = kin_same a b q
kin Strip f a b (inl q) = kin_same a b q
kin Strip f a b (inr q) = record {
  family = ap (λ (x : Version). x.family) q.1;
  key = ap (λ (x : Version). x.key) q.1;
  seq = ap (λ (x : Version). x.seq.0) q.1;
  ts = let e : b.ts.0 ≡ 0 = ap (λ (x : Version). x.ts.0) q.1 in omega (arith, e);
}

-- ---- a higher floor, other snapshots

pub alike_raise : (form : Form) (f g : Ts) (a b : Option Version) → f.0 ≤ g.0 → AreAlike form f a b → AreAlike form g a b
alike_raise form f g None None le h = tt
alike_raise form f g None (Some b) le h = h
alike_raise form f g (Some a) None le h = (h.0, let l = h.1 in omega (arith, l))
alike_raise form f g (Some a) (Some b) le h = image_raise form f g b a le h

pub standing_raise : (form : Form) (c : Family) (v w : List Version) (f g : Ts) (ss : List Seq) → f.0 ≤ g.0 → Standing form c v w f ss → Standing form c v w g ss
standing_raise form c v w f g ss le h = record {
  images = λ b i. let x = h.images b i in (x.0, x.1, x.2, image_raise form f g b x.0 le x.3);
  distinct = h.distinct;
  rising = h.rising;
  reads = λ key t s lt see. alike_raise form f g (visible w c key t s) (visible v c key t s) le (h.reads key t s (omega (arith, lt)) see);
}

-- each of the snapshots was one already, or is at the end
pub standing_snaps : (form : Form) (c : Family) (v w : List Version) (f : Ts) (ss new : List Seq) → ((s : Seq) → In s new → Sees w ss s) → Standing form c v w f ss → Standing form c v w f new
standing_snaps form c v w f ss new sub h = record {
  images = h.images;
  distinct = h.distinct;
  rising = h.rising;
  reads = λ key t s le see. h.reads key t s le (elim see [ inl a ↦ inl a | inr b ↦ sub s b ]);
}

-- ---- the same versions in other places

best_same : (v w : List Version) (p : Version → Bool) (o : Option Version) → Within v w → Within w v → Best v p o → Best w p o
best_same v w p None to from b = λ u i h. b u (from u i) h
best_same v w p (Some d) to from b = record { there = to d b.there; fit = b.fit; top = λ u i h. b.top u (from u i) h }

pub Single-within : (v w : List Version) → Within w v → Single v → Single w
Single-within v w sub h = λ a b i j q. h a b (sub a i) (sub b j) q

pub Rising-within : (v w : List Version) → Within w v → Rising v → Rising w
Rising-within v w sub h = λ a b i j k q. h a b (sub a i) (sub b j) k q

pub visible_same : (v w : List Version) (c : Family) (key : List ℕ) (t : Ts) (s : Seq) → Within v w → Within w v → Single v → visible w c key t s ≡ visible v c key t s
visible_same v w c key t s to from one =
    visible_is w c key t s (visible v c key t s) (Single-within v w from one) (best_same v w (fits c key t s) (visible v c key t s) to from (visible_best v c key t s))

pub standing_same : (form : Form) (c : Family) (v v2 w : List Version) (f : Ts) (ss : List Seq) → Within v v2 → Within v2 v → Distinct v2 → Standing form c v w f ss → Standing form c v2 w f ss
standing_same form c v v2 w f ss to from one h = record {
  images = λ b i. h.images b (from b i);
  distinct = one;
  rising = Rising-within v v2 from h.rising;
  reads = λ key t s le see. rw (visible_same v v2 c key t s to from (distinct_single v h.distinct)) (h.reads key t s le see);
}

-- ---- a collection

-- each sequence that a read may see up to looks on the part like one of the job's
abbrev pub SeesLikeThen : List Version → List Version → List Seq → List Seq → Type 0
SeesLikeThen p w ss ss0 = (s : Seq) → Sees w ss s → (e : Option Seq) × IsEnd ss0 e × SeesAlike p s.0 e

image_spent : (form : Form) (f g : Ts) (a d : Version) → g.0 ≤ f.0 → d.op ≡ Del → d.ts.0 ≤ g.0 → IsVersionImage form f d a → (a.op ≡ Del) × (a.ts.0 ≤ f.0)
image_spent Persist f g a d le del low q = (ap (λ (x : Version). x.op) (sym q) ∙ del, let e : d.ts.0 ≡ a.ts.0 = ap (λ (x : Version). x.ts.0) q in omega (arith, e, low, le))
image_spent Strip f g a d le del low (inl q) = (ap (λ (x : Version). x.op) (sym q) ∙ del, let e : d.ts.0 ≡ a.ts.0 = ap (λ (x : Version). x.ts.0) q in omega (arith, e, low, le))
image_spent Strip f g a d le del low (inr q) = (ap (λ (x : Version). x.op) (sym q.1) ∙ del, let l = q.0 in omega (arith, l))

alike_spent : (form : Form) (f g : Ts) (a : Option Version) (d : Version) → g.0 ≤ f.0 → d.op ≡ Del → d.ts.0 ≤ g.0 → AreAlike form f a (Some d) → AreAlike form f a None
alike_spent form f g None d le del low h = absurd h
alike_spent form f g (Some a) d le del low h = image_spent form f g a d le del low h

collect_alike : (form : Form) (c : Family) (key : List ℕ) (t : Ts) (s : Seq) (f g : Ts) (v2 : List Version) (a o : Option Version) → Single v2 → g.0 ≤ f.0 → AreAlike form f a o → Best v2 (fits c key t s) o ⊎ Spent v2 (fits c key t s) g o → AreAlike form f a (visible v2 c key t s)
collect_alike form c key t s f g v2 a o one le h (inl b) = rw (visible_is v2 c key t s o one b) h
collect_alike form c key t s f g v2 a o one le h (inr b) =
    let h2 : AreAlike form f a (Some b.one) = subst (λ x. AreAlike form f a x) b.is h in
    rw (visible_is v2 c key t s None one b.none) (alike_spent form f g a b.one le b.delete b.low h2)

pub standing_collect : (form : Form) (c : Family) (p r w : List Version) (f : Ts) (ss : List Seq) (g : Ts) (ss0 : List Seq) (covered : List ℕ → Bool) → g.0 ≤ f.0 → SeesLikeThen p w ss ss0 → NewerOutside p r covered → Distinct (collect_by p g ss0 covered ++ r) → Standing form c (p ++ r) w f ss → Standing form c (collect_by p g ss0 covered ++ r) w f ss
standing_collect form c p r w f ss g ss0 covered le alike outside one h =
    let sub : Within (collect_by p g ss0 covered ++ r) (p ++ r) = λ x i. collect_rest-In p r g ss0 covered x i in
    record {
      images = λ b i. h.images b (sub b i);
      distinct = one;
      rising = Rising-within (p ++ r) (collect_by p g ss0 covered ++ r) sub h.rising;
      reads = λ key t s lt see.
          let e = alike s see in
          collect_alike form c key t s f g (collect_by p g ss0 covered ++ r) (visible w c key t s) (visible (p ++ r) c key t s)
          (distinct_single (collect_by p g ss0 covered ++ r) one) le (h.reads key t s lt see)
          (collect_best c key t s p r g ss0 covered e.0 (visible (p ++ r) c key t s) (distinct_single (p ++ r) h.distinct) (omega (arith, le, lt)) e.1 e.2 outside (visible_best (p ++ r) c key t s));
    }

-- what a read sees of a part that is no newer than the start, it saw then
pub like_then : (p w : List Version) (start : ℕ) (ss ss0 : List Seq) → ((b : Version) → In b p → b.seq.0 ≤ start) → ((s : Seq) → In s ss → In s ss0 ⊎ (start ≤ s.0)) → ((b : Version) → In b p → (a : Version) × In a w × (b.seq.0 ≡ a.seq.0)) → SeesLikeThen p w ss ss0
like_then p w start ss ss0 low since from s see =
    let whole : ((v : Version) → In v p → v.seq.0 ≤ s.0) → (e : Option Seq) × IsEnd ss0 e × SeesAlike p s.0 e = λ l.
    (None, tt, record { down = λ v i q. refl; up = λ v i q. l v i }) in
    elim see [
      | inl l ↦ whole (λ v i. let x = from v i in let k = l x.0 x.1 in let e = x.2 in omega (arith, k, e))
      | inr i ↦ elim (since s i) [
        | inl j ↦ (Some s, j, record { down = λ v a q. le-leb v.seq.0 s.0 q; up = λ v a q. leb-true v.seq.0 s.0 q })
        | inr l ↦ whole (λ v a. let k = low v a in omega (arith, k, l))
      ]
    ]

-- ---- a write

-- w2 has the versions of w, and n
pub record Adds (w w2 : List Version) (n : Version) : Type 0 where
  pub old : Within w w2
  pub new : In n w2
  pub only : (x : Version) → In x w2 → In x w ⊎ (n ≡ x)

best_skip : (w w2 : List Version) (n : Version) (p : Version → Bool) (o : Option Version) → Adds w w2 n → p n ≡ false → Best w p o → Best w2 p o
best_skip w w2 n p None add e b = λ u i h. elim (add.only u i) [ inl j ↦ b u j h | inr q ↦ false≢true (sym e ∙ ap p q ∙ h) ]
best_skip w w2 n p (Some d) add e b = record {
  there = add.old d b.there;
  fit = b.fit;
  top = λ u i h. elim (add.only u i) [ inl j ↦ b.top u j h | inr q ↦ absurd (false≢true (sym e ∙ ap p q ∙ h)) ];
}

best_new : (w w2 : List Version) (n : Version) (p : Version → Bool) → Adds w w2 n → p n ≡ true → ((u : Version) → In u w → p u ≡ true → is_newer u n ≡ false) → Best w2 p (Some n)
best_new w w2 n p add e over = record {
  there = add.new;
  fit = e;
  top = λ u i h. elim (add.only u i) [ inl j ↦ over u j h | inr q ↦ subst (λ x. is_newer x n ≡ false) q (not_newer_itself n) ];
}

pub Single-add : (w w2 : List Version) (n : Version) → Adds w w2 n → ((a : Version) → In a w → a.seq.0 < n.seq.0) → Single w → Single w2
Single-add w w2 n add low one = λ a b i j q.
    elim (add.only a i) [
      | inl i2 ↦ elim (add.only b j) [
        | inl j2 ↦ one a b i2 j2 q
        | inr e ↦ let k = low a i2 in let e2 : n.seq.0 ≡ b.seq.0 = ap (λ (x : Version). x.seq.0) e in absurd (omega (arith, k, e2, q))
      ]
      | inr e ↦ elim (add.only b j) [
        | inl j2 ↦ let k = low b j2 in let e2 : n.seq.0 ≡ a.seq.0 = ap (λ (x : Version). x.seq.0) e in absurd (omega (arith, k, e2, q))
        | inr e2 ↦ sym e ∙ e2
      ]
    ]

pub older : (u n : Version) → u.ts.0 ≤ n.ts.0 → u.seq.0 < n.seq.0 → is_newer u n ≡ false
older u n a b = grind (arith, nat_tests)

-- what admission gives: a greater sequence than all, and no older timestamp of its key above it
pub record Admitted (w : List Version) (n : Version) : Type 0 where
  pub low : (a : Version) → In a w → a.seq.0 < n.seq.0
  pub over : (a : Version) → In a w → a.family ≡ n.family → a.key ≡ n.key → a.ts.0 ≤ n.ts.0

low_image : (form : Form) (c : Family) (v w : List Version) (f : Ts) (ss : List Seq) (n : ℕ) → Standing form c v w f ss → ((a : Version) → In a w → a.seq.0 < n) → (b : Version) → In b v → b.seq.0 < n
low_image form c v w f ss n h bounded b i =
    let x = h.images b i in
    let k = (kin form f x.0 b x.3).seq in
    let l = bounded x.0 x.1 in
    omega (arith, l, k)

over_image : (form : Form) (c : Family) (v w : List Version) (f : Ts) (ss : List Seq) (n : Version) → Standing form c v w f ss → Admitted w n → (b : Version) → In b v → b.family ≡ n.family → b.key ≡ n.key → b.ts.0 ≤ n.ts.0
over_image form c v w f ss n h ad b i fam key =
    let x = h.images b i in
    let k = kin form f x.0 b x.3 in
    let le : x.0.ts.0 ≤ n.ts.0 = ad.over x.0 x.1 (sym k.family ∙ fam) (sym k.key ∙ key) in
    let l = k.ts in
    omega (arith, le, l)

pub Rising-add : (v v2 : List Version) (n : Version) → Adds v v2 n → ((a : Version) → In a v → a.seq.0 < n.seq.0) → ((a : Version) → In a v → a.family ≡ n.family → a.key ≡ n.key → a.ts.0 ≤ n.ts.0) → Rising v → Rising v2
Rising-add v v2 n add low over h = λ a b i j k q.
    elim (add.only a i) [
      | inl i2 ↦ elim (add.only b j) [
        | inl j2 ↦ h a b i2 j2 k q
        | inr e ↦
            let kk = is_of-true a.family a.key b k in
            let e2 : n.ts.0 ≡ b.ts.0 = ap (λ (x : Version). x.ts.0) e in
            let le : a.ts.0 ≤ n.ts.0 = over a i2 (sym kk.0 ∙ sym (ap (λ (x : Version). x.family) e)) (sym kk.1 ∙ sym (ap (λ (x : Version). x.key) e)) in
            omega (arith, e2, le)
      ]
      | inr e ↦
          let e1 : n.seq.0 ≡ a.seq.0 = ap (λ (x : Version). x.seq.0) e in
          elim (add.only b j) [
            | inl j2 ↦ let l = low b j2 in absurd (omega (arith, l, e1, q))
            | inr e2 ↦ let e3 : n.seq.0 ≡ b.seq.0 = ap (λ (x : Version). x.seq.0) e2 in absurd (omega (arith, e1, e3, q))
          ]
    ]

write_alike : (form : Form) (c : Family) (v w v2 w2 : List Version) (f : Ts) (n : Version) (key : List ℕ) (t : Ts) (s : Seq) → Adds v v2 n → Adds w w2 n → Single v2 → Single w2 → ((u : Version) → In u v → fits c key t s u ≡ true → fits c key t s n ≡ true → is_newer u n ≡ false) → ((u : Version) → In u w → fits c key t s u ≡ true → fits c key t s n ≡ true → is_newer u n ≡ false) → AreAlike form f (visible w c key t s) (visible v c key t s) → AreAlike form f (visible w2 c key t s) (visible v2 c key t s)
write_alike form c v w v2 w2 f n key t s av aw ov2 ow2 tv tw h =
    elim (cases_Bool (fits c key t s n)) [
      | inl y ↦
          rw (visible_is w2 c key t s (Some n) ow2 (best_new w w2 n (fits c key t s) aw y (λ u i k. tw u i k y)), visible_is v2 c key t s (Some n) ov2 (best_new v v2 n (fits c key t s) av y (λ u i k. tv u i k y)))
          (image_itself form f n)
      | inr y ↦
          rw (visible_is w2 c key t s (visible w c key t s) ow2 (best_skip w w2 n (fits c key t s) (visible w c key t s) aw y (visible_best w c key t s)), visible_is v2 c key t s (visible v c key t s) ov2 (best_skip v v2 n (fits c key t s) (visible v c key t s) av y (visible_best v c key t s)))
          h
    ]

sees_before : (w w2 : List Version) (n : Version) (ss : List Seq) (s : Seq) → Adds w w2 n → Sees w2 ss s → Sees w ss s
sees_before w w2 n ss s add (inl l) = inl (λ a i. l a (add.old a i))
sees_before w w2 n ss s add (inr i) = inr i

pub standing_write : (form : Form) (v w v2 w2 : List Version) (f : Ts) (ss : List Seq) (n : Version) → Adds v v2 n → Adds w w2 n → Admitted w n → Single w → Distinct v2 → Standing form n.family v w f ss → Standing form n.family v2 w2 f ss
standing_write form v w v2 w2 f ss n av aw ad one dv h =
    let lowv : (b : Version) → In b v → b.seq.0 < n.seq.0 = λ b i. low_image form n.family v w f ss n.seq.0 h ad.low b i in
    let overv : (b : Version) → In b v → b.family ≡ n.family → b.key ≡ n.key → b.ts.0 ≤ n.ts.0 = λ b i a k. over_image form n.family v w f ss n h ad b i a k in
    record {
      images = λ b i. elim (av.only b i) [
        | inl j ↦ let x = h.images b j in (x.0, aw.old x.0 x.1, x.2, x.3)
        | inr q ↦ (n, aw.new, refl, subst (λ z. IsVersionImage form f z n) q (image_itself form f n))
      ];
      distinct = dv;
      rising = Rising-add v v2 n av lowv overv h.rising;
      reads = λ key t s le see.
          write_alike form n.family v w v2 w2 f n key t s av aw (distinct_single v2 dv) (Single-add w w2 n aw ad.low one)
          (λ u i a b. let fu = fits-true n.family key t s u a in let fn = fits-true n.family key t s n b in older u n (overv u i fu.same_family (fu.same_key ∙ sym fn.same_key)) (lowv u i))
          (λ u i a b. let fu = fits-true n.family key t s u a in let fn = fits-true n.family key t s n b in older u n (ad.over u i fu.same_family (fu.same_key ∙ sym fn.same_key)) (ad.low u i))
          (h.reads key t s le (sees_before w w2 n ss s aw see));
    }

-- a write to another family
pub standing_other : (form : Form) (c : Family) (v w w2 : List Version) (f : Ts) (ss : List Seq) (n : Version) → (n.family ≡ c → ⊥) → Adds w w2 n → Single w2 → Standing form c v w f ss → Standing form c v w2 f ss
standing_other form c v w w2 f ss n ne aw one h = record {
  images = λ b i. let x = h.images b i in (x.0, aw.old x.0 x.1, x.2, x.3);
  distinct = h.distinct;
  rising = h.rising;
  reads = λ key t s le see.
      rw (visible_is w2 c key t s (visible w c key t s) one (best_skip w w2 n (fits c key t s) (visible w c key t s) aw (false_from_ne_true (fits c key t s n) (λ y. ne (fits-true c key t s n y).same_family)) (visible_best w c key t s)))
      (h.reads key t s le (sees_before w w2 n ss s aw see));
}
