-- A list of which a part loses its timestamps goes on to stand.
use Rattle.std.proofs.Common.{◌≡◌, ◌⊎◌, ℕ, ◌<◌, ◌≤◌, true, false, List, [], ◌∷◌, ◌++◌, map, Option, Some, None, refl, sym, ap, ◌∙◌, arith, inl, inr, subst}
use Rattle.std.proofs.lemmas.Bool.{false≢true, cases_lt}
use Rattle.std.proofs.lemmas.Bool.Decides.{nat_tests}
use Rattle.ts_key.specs.declared.numbers.Family.{Family}
use Rattle.ts_key.specs.declared.numbers.Ts.{Ts}
use Rattle.ts_key.specs.declared.numbers.Seq.{Seq}
use Rattle.ts_key.specs.declared.version.Form.TheVariants.{Strip}
use Rattle.ts_key.specs.declared.version.Version.{Version}
use Rattle.udt_model.specs.Versions.{is_newer, is_of, visible}
use Rattle.udt_model.specs.Collecting.{without_ts, cutoff}
use Rattle.udt_model.specs.Standing.{IsVersionImage, AreAlike}
use Rattle.floor_laws.proofs.Members.{In, In-left, In-right, In-append, In-map, map-In}
use Rattle.floor_laws.proofs.Best.{IsBest, Best}
use Rattle.floor_laws.proofs.Counts.{Distinct, distinct_single}
use Rattle.floor_laws.proofs.Kept.{fits, fits-true, fits-from, is_of-from, newer_by_seq, visible_best}
use Rattle.floor_laws.proofs.Standing.{Rising, Standing, visible_is, image_raise, alike_raise}

-- each version of the rest is older, with the timestamp 0, or newer than each of the part
abbrev pub Apart : List Version → List Version → Type 0
Apart p r = (b u : Version) → In b p → In u r → ((u.seq.0 < b.seq.0) × (u.ts.0 ≡ 0)) ⊎ (b.seq.0 < u.seq.0)

pub below_cutoff : (p : List Version) (b : Version) → In b p → b.ts.0 < cutoff p
below_cutoff [] b h = absurd h
below_cutoff (x ∷ xs) b (inl q) = let e : x.ts.0 ≡ b.ts.0 = ap (λ (y : Version). y.ts.0) q in omega (arith, e)
below_cutoff (x ∷ xs) b (inr h) = let k = below_cutoff xs b h in omega (arith, k)

not_newer-seq : (v : List Version) (u d : Version) → Rising v → In u v → In d v → is_of d.family d.key u ≡ true → is_newer u d ≡ false → u.seq.0 ≤ d.seq.0
not_newer-seq v u d rise iu id k n =
    elim (cases_lt d.seq.0 u.seq.0) [
      | inl lt ↦ absurd (false≢true (sym n ∙ newer_by_seq u d (rise d u id iu k lt) lt))
      | inr le ↦ le
    ]

low_seq : (u d : Version) → u.ts.0 ≡ 0 → u.seq.0 ≤ d.seq.0 → is_newer u d ≡ false
low_seq u d a b = grind (arith, nat_tests)

fits_bare : (c : Family) (key : List ℕ) (t : Ts) (s : Seq) (u : Version) → u.ts.0 ≤ t.0 → fits c key t s (without_ts u) ≡ true → fits c key t s u ≡ true
fits_bare c key t s u le h =
    let f = fits-true c key t s (without_ts u) h in
    fits-from c key t s u (record { same_family = f.same_family; same_key = f.same_key; in_time = le; in_order = f.in_order })

bare_fits : (c : Family) (key : List ℕ) (t : Ts) (s : Seq) (u : Version) → fits c key t s u ≡ true → fits c key t s (without_ts u) ≡ true
bare_fits c key t s u h =
    let f = fits-true c key t s u h in
    fits-from c key t s (without_ts u) (record { same_family = f.same_family; same_key = f.same_key; in_time = omega arith; in_order = f.in_order })

-- what is best afterwards: the best before, or what is left of it
pub data Left (p : List Version) (o : Option Version) (q : Option Version) : Type 0 where
  Same : q ≡ o → Left p o q
  Cut : (d : Version) → In d p → o ≡ Some d → q ≡ Some (without_ts d) → Left p o q

pub same_kind : (c : Family) (key : List ℕ) (t : Ts) (s : Seq) (u d : Version) → fits c key t s u ≡ true → fits c key t s d ≡ true → is_of d.family d.key u ≡ true
same_kind c key t s u d a b =
    let x = fits-true c key t s u a in
    let y = fits-true c key t s d b in
    is_of-from d.family d.key u (x.same_family ∙ sym y.same_family) (x.same_key ∙ sym y.same_key)

-- the same sequences
bare_top : (p r : List Version) (c : Family) (key : List ℕ) (t : Ts) (s : Seq) (g : ℕ) (d : Version) → Rising (p ++ r) → ((b : Version) → In b p → b.ts.0 < g) → g ≤ t.0 → IsBest (p ++ r) (fits c key t s) d → (u : Version) → In u (map without_ts p ++ r) → fits c key t s u ≡ true → u.seq.0 ≤ d.seq.0
bare_top p r c key t s g d rise low le best u i h =
    elim (In-append u (map without_ts p) r i) [
      | inl j ↦
          let x = map-In without_ts u p j in
          let e : u.seq.0 ≡ x.0.seq.0 = sym (ap (λ (y : Version). y.seq.0) x.2) in
          let fx : fits c key t s x.0 ≡ true = fits_bare c key t s x.0 (let l = low x.0 x.1 in omega (arith, l, le)) (ap (fits c key t s) x.2 ∙ h) in
          let k = not_newer-seq (p ++ r) x.0 d rise (In-left x.0 p r x.1) best.there (same_kind c key t s x.0 d fx best.fit) (best.top x.0 (In-left x.0 p r x.1) fx) in
          omega (arith, k, e)
      | inr j ↦ not_newer-seq (p ++ r) u d rise (In-right u p r j) best.there (same_kind c key t s u d h best.fit) (best.top u (In-right u p r j) h)
    ]

bare_best : (p r : List Version) (c : Family) (key : List ℕ) (t : Ts) (s : Seq) (g : ℕ) (o : Option Version) → Rising (p ++ r) → Apart p r → ((b : Version) → In b p → b.ts.0 < g) → g ≤ t.0 → Best (p ++ r) (fits c key t s) o → (q : Option Version) × Best (map without_ts p ++ r) (fits c key t s) q × Left p o q
bare_best p r c key t s g None rise apart low le best = (
  None,
  (λ u i h. elim (In-append u (map without_ts p) r i) [
    | inl j ↦
        let x = map-In without_ts u p j in
        best x.0 (In-left x.0 p r x.1) (fits_bare c key t s x.0 (let l = low x.0 x.1 in omega (arith, l, le)) (ap (fits c key t s) x.2 ∙ h))
    | inr j ↦ best u (In-right u p r j) h
  ]),
  Same refl,
)
bare_best p r c key t s g (Some d) rise apart low le best =
    elim (In-append d p r best.there) [
      | inl i ↦ (
        Some (without_ts d),
        record {
          there = In-left (without_ts d) (map without_ts p) r (In-map without_ts d p i);
          fit = bare_fits c key t s d best.fit;
          top = λ u j h.
              let sq = bare_top p r c key t s g d rise low le best u j h in
              elim (In-append u (map without_ts p) r j) [
                | inl k ↦ let x = map-In without_ts u p k in low_seq u (without_ts d) (sym (ap (λ (y : Version). y.ts.0) x.2)) sq
                | inr k ↦ elim (apart d u i k) [ inl a ↦ low_seq u (without_ts d) a.1 sq | inr a ↦ absurd (omega (arith, sq, a)) ]
              ];
        },
        Cut d i refl refl,
      )
      | inr i ↦ (
        Some d,
        record {
          there = In-right d (map without_ts p) r i;
          fit = best.fit;
          top = λ u j h.
              let sq = bare_top p r c key t s g d rise low le best u j h in
              elim (In-append u (map without_ts p) r j) [
                | inl k ↦ let x = map-In without_ts u p k in low_seq u d (sym (ap (λ (y : Version). y.ts.0) x.2)) sq
                | inr k ↦ best.top u (In-right u p r k) h
              ];
        },
        Same refl,
      )
    ]

Rising-bare : (p r : List Version) → Apart p r → Rising (p ++ r) → Rising (map without_ts p ++ r)
Rising-bare p r apart rise a b i j k q =
    elim (In-append a (map without_ts p) r i) [
      | inl m ↦ let x = map-In without_ts a p m in let e : 0 ≡ a.ts.0 = ap (λ (z : Version). z.ts.0) x.2 in omega (arith, e)
      | inr m ↦ elim (In-append b (map without_ts p) r j) [
        | inl n ↦
            let y = map-In without_ts b p n in
            let e : y.0.seq.0 ≡ b.seq.0 = ap (λ (z : Version). z.seq.0) y.2 in
            elim (apart y.0 a y.1 m) [ inl z ↦ let l = z.1 in omega (arith, l) | inr z ↦ absurd (omega (arith, z, e, q)) ]
        | inr n ↦ rise a b (In-right a p r m) (In-right b p r n) k q
      ]
    ]

image_bare : (f g : Ts) (a d : Version) → f.0 ≤ g.0 → d.ts.0 < g.0 → IsVersionImage Strip f d a → IsVersionImage Strip g (without_ts d) a
image_bare f g a d le low (inl q) = let e : d.ts.0 ≡ a.ts.0 = ap (λ (z : Version). z.ts.0) q in inr (omega (arith, e, low), ap without_ts q)
image_bare f g a d le low (inr q) = inr (let l = q.0 in omega (arith, l, le), ap without_ts q.1)

alike_bare : (f g : Ts) (p : List Version) (a o q : Option Version) → f.0 ≤ g.0 → ((d : Version) → In d p → d.ts.0 < g.0) → Left p o q → AreAlike Strip f a o → AreAlike Strip g a q
alike_bare f g p a o q le low (Same e) h = rw e (alike_raise Strip f g a o le h)
alike_bare f g p None o q le low (Cut d i e e2) h = absurd (subst (λ x. AreAlike Strip f None x) e h)
alike_bare f g p (Some a) o q le low (Cut d i e e2) h = rw e2 (image_bare f g a d le (low d i) (subst (λ x. AreAlike Strip f (Some a) x) e h))

pub standing_strip : (c : Family) (p r w : List Version) (f g : Ts) (ss : List Seq) → f.0 ≤ g.0 → ((d : Version) → In d p → d.ts.0 < g.0) → Apart p r → Distinct (map without_ts p ++ r) → Standing Strip c (p ++ r) w f ss → Standing Strip c (map without_ts p ++ r) w g ss
standing_strip c p r w f g ss le low apart one h = record {
  images = λ b i. elim (In-append b (map without_ts p) r i) [
    | inl j ↦
        let x = map-In without_ts b p j in
        let y = h.images x.0 (In-left x.0 p r x.1) in
        (y.0, y.1, y.2, subst (λ z. IsVersionImage Strip g z y.0) x.2 (image_bare f g y.0 x.0 le (low x.0 x.1) y.3))
    | inr j ↦
        let y = h.images b (In-right b p r j) in
        (y.0, y.1, y.2, image_raise Strip f g b y.0 le y.3)
  ];
  distinct = one;
  rising = Rising-bare p r apart h.rising;
  reads = λ key t s lt see.
      let b = bare_best p r c key t s g.0 (visible (p ++ r) c key t s) h.rising apart low lt (visible_best (p ++ r) c key t s) in
      rw (visible_is (map without_ts p ++ r) c key t s b.0 (distinct_single (map without_ts p ++ r) one) b.1)
      (alike_bare f g p (visible w c key t s) (visible (p ++ r) c key t s) b.0 le low b.2 (h.reads key t s (omega (arith, le, lt)) see));
}
