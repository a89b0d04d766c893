-- Tables that stand for the versions up to a sequence stand, with the later ones beside them, for all.
use Rattle.std.proofs.Common.{◌≡◌, ℕ, ◌<◌, ◌≤◌, Bool, true, List, [], ◌++◌, Option, Some, None, sym, ◌∙◌, arith, inl, inr}
use Rattle.std.specs.Prelude.{nat_le}
use Rattle.std.proofs.lemmas.Bool.{cases_lt, le-leb, leb-true}
use Rattle.ts_key.specs.declared.numbers.Family.{Family}
use Rattle.ts_key.specs.declared.numbers.Ts.{Ts}
use Rattle.ts_key.specs.declared.numbers.Seq.{Seq}
use Rattle.ts_key.specs.declared.version.Form.{Form}
use Rattle.ts_key.specs.declared.version.Version.{Version}
use Rattle.udt_model.specs.Versions.{is_of, visible, up_to}
use Rattle.udt_model.specs.Standing.{AreAlike}
use Rattle.floor_laws.proofs.Members.{In, In-left, In-right, In-append, filter-In, In-filter}
use Rattle.floor_laws.proofs.Best.{Single, IsBest, Best}
use Rattle.floor_laws.proofs.Counts.{Distinct, distinct_single}
use Rattle.floor_laws.proofs.Kept.{fits, fits-true, is_of-true, is_of-from, visible_best}
use Rattle.floor_laws.proofs.Stripping.{same_kind}
use Rattle.floor_laws.proofs.Standing.{Rising, Standing, visible_is, older, kin, image_itself}

pub In-up_to : (n : ℕ) (w : List Version) (v : Version) → In v w → v.seq.0 ≤ n → In v (up_to n w)
In-up_to n w v i le = In-filter (λ (x : Version). nat_le x.seq.0 n) v w i (le-leb v.seq.0 n le)

pub up_to-In : (n : ℕ) (w : List Version) (v : Version) → In v (up_to n w) → In v w × (v.seq.0 ≤ n)
up_to-In n w v i = let r = filter-In (λ (x : Version). nat_le x.seq.0 n) v w i in (r.0, leb-true v.seq.0 n r.1)

-- the versions above n are the family's in a, those up to it in t
pub record Parts (i : Family) (a t w : List Version) (n : ℕ) : Type 0 where
  pub has : (v : Version) → In v w → v.family ≡ i → n < v.seq.0 → In v a
  pub only : (v : Version) → In v a → In v w × (v.family ≡ i) × (n < v.seq.0)
  pub bounded : (v : Version) → In v t → v.seq.0 ≤ n
  pub under : (u d : Version) → In u t → In d a → is_of d.family d.key u ≡ true → u.ts.0 ≤ d.ts.0

-- a later version that fits is visible in both
open_some : (form : Form) (i : Family) (a t w : List Version) (f : Ts) (n : ℕ) (key : List ℕ) (t' : Ts) (s : Seq) (d : Version) → Single w → Single (a ++ t) → Rising w → Parts i a t w n → IsBest a (fits i key t' s) d → AreAlike form f (visible w i key t' s) (visible (a ++ t) i key t' s)
open_some form i a t w f n key t' s d one one2 rise p best =
    let dw = p.only d best.there in
    let bw : IsBest w (fits i key t' s) d = record {
      there = dw.0;
      fit = best.fit;
      top = λ u j h. elim (cases_lt n u.seq.0) [
        | inl lt ↦ best.top u (p.has u j (fits-true i key t' s u h).same_family lt) h
        | inr le ↦
            let lt : u.seq.0 < d.seq.0 = let l = dw.2 in omega (arith, l, le) in
            let fu = fits-true i key t' s u h in
            let fd = fits-true i key t' s d best.fit in
            older u d (rise u d j dw.0 (is_of-from u.family u.key d (fd.same_family ∙ sym fu.same_family) (fd.same_key ∙ sym fu.same_key)) lt) lt
      ];
    } in
    let bv : IsBest (a ++ t) (fits i key t' s) d = record {
      there = In-left d a t best.there;
      fit = best.fit;
      top = λ u j h. elim (In-append u a t j) [
        | inl k ↦ best.top u k h
        | inr k ↦ older u d (p.under u d k best.there (same_kind i key t' s u d h best.fit)) (let l = p.bounded u k in let m = dw.2 in omega (arith, l, m))
      ];
    } in
    rw (visible_is w i key t' s (Some d) one bw, visible_is (a ++ t) i key t' s (Some d) one2 bv) (image_itself form f d)

none_go : (i : Family) (w : List Version) (n : ℕ) (key : List ℕ) (t' : Ts) (s : Seq) (o : Option Version) → ((u : Version) → In u w → fits i key t' s u ≡ true → In u (up_to n w)) → Best (up_to n w) (fits i key t' s) o → Best w (fits i key t' s) o
none_go i w n key t' s None early b = λ u j h. b u (early u j h) h
none_go i w n key t' s (Some d) early b = record { there = (up_to-In n w d b.there).0; fit = b.fit; top = λ u j h. b.top u (early u j h) h }

-- where no later version fits, the earlier ones decide
none_first : (i : Family) (a t w : List Version) (n : ℕ) (key : List ℕ) (t' : Ts) (s : Seq) (o : Option Version) → Parts i a t w n → ((u : Version) → In u a → fits i key t' s u ≡ true → ⊥) → Best (up_to n w) (fits i key t' s) o → Best w (fits i key t' s) o
none_first i a t w n key t' s o p not_a b =
    let early : (u : Version) → In u w → fits i key t' s u ≡ true → In u (up_to n w) = λ u j h. elim (cases_lt n u.seq.0) [
      | inl lt ↦ absurd (not_a u (p.has u j (fits-true i key t' s u h).same_family lt) h)
      | inr le ↦ In-up_to n w u j le
    ] in
    none_go i w n key t' s o early b

none_right : (a t : List Version) (p : Version → Bool) (o : Option Version) → ((u : Version) → In u a → p u ≡ true → ⊥) → Best t p o → Best (a ++ t) p o
none_right a t p None not_a b = λ u j h. elim (In-append u a t j) [ inl k ↦ not_a u k h | inr k ↦ b u k h ]
none_right a t p (Some d) not_a b = record { there = In-right d a t b.there; fit = b.fit; top = λ u j h. elim (In-append u a t j) [ inl k ↦ absurd (not_a u k h) | inr k ↦ b.top u k h ] }

-- every version up to n is below what sees all
open_alike : (form : Form) (i : Family) (a t w : List Version) (f : Ts) (n : ℕ) (key : List ℕ) (t' : Ts) (s : Seq) (o : Option Version) → Single w → Single (a ++ t) → Rising w → Parts i a t w n → f.0 ≤ t'.0 → ((v : Version) → In v w → v.seq.0 ≤ s.0) → Standing form i t (up_to n w) f [] → Best a (fits i key t' s) o → AreAlike form f (visible w i key t' s) (visible (a ++ t) i key t' s)
open_alike form i a t w f n key t' s (Some d) one one2 rise p le see h b = open_some form i a t w f n key t' s d one one2 rise p b
open_alike form i a t w f n key t' s None one one2 rise p le see h b =
    rw (
      visible_is w i key t' s (visible (up_to n w) i key t' s) one (none_first i a t w n key t' s (visible (up_to n w) i key t' s) p b (visible_best (up_to n w) i key t' s)),
      visible_is (a ++ t) i key t' s (visible t i key t' s) one2 (none_right a t (fits i key t' s) (visible t i key t' s) b (visible_best t i key t' s)),
    )
    (h.reads key t' s le (inl (λ v j. see v (up_to-In n w v j).0)))

open_under : (form : Form) (i : Family) (t w : List Version) (f : Ts) (n : ℕ) (u d : Version) → Rising w → Standing form i t (up_to n w) f [] → In u t → In d w → n < d.seq.0 → is_of d.family d.key u ≡ true → u.ts.0 ≤ d.ts.0
open_under form i t w f n u d rise h j k lt q =
    let x = h.images u j in
    let e = kin form f x.0 u x.3 in
    let z = is_of-true d.family d.key u q in
    let y = up_to-In n w x.0 x.1 in
    let l : x.0.ts.0 ≤ d.ts.0 = rise x.0 d y.0 k (is_of-from x.0.family x.0.key d (sym z.0 ∙ e.family) (sym z.1 ∙ e.key)) (let m = y.1 in omega (arith, m, lt)) in
    let m = e.ts in
    omega (arith, l, m)

pub standing_open : (form : Form) (i : Family) (a t w : List Version) (f : Ts) (n : ℕ) → Single w → Rising w → ((v : Version) → In v w → v.family ≡ i → n < v.seq.0 → In v a) → ((v : Version) → In v a → In v w × (v.family ≡ i) × (n < v.seq.0)) → Distinct (a ++ t) → Standing form i t (up_to n w) f [] → Standing form i (a ++ t) w f []
standing_open form i a t w f n one rise has only dist h =
    let bounded : (v : Version) → In v t → v.seq.0 ≤ n = λ v j. let x = h.images v j in let k = (kin form f x.0 v x.3).seq in let l = (up_to-In n w x.0 x.1).1 in omega (arith, k, l) in
    let under : (u d : Version) → In u t → In d a → is_of d.family d.key u ≡ true → u.ts.0 ≤ d.ts.0 = λ u d j k q. open_under form i t w f n u d rise h j (only d k).0 (only d k).2 q in
    let p : Parts i a t w n = record { has = has; only = only; bounded = bounded; under = under } in
    record {
      images = λ b j. elim (In-append b a t j) [
        | inl k ↦ (b, (only b k).0, (only b k).1, image_itself form f b)
        | inr k ↦ let x = h.images b k in (x.0, (up_to-In n w x.0 x.1).0, x.2, x.3)
      ];
      distinct = dist;
      rising = λ x y j k q lt. elim (In-append x a t j) [
        | inl jx ↦ elim (In-append y a t k) [
          | inl ky ↦ rise x y (only x jx).0 (only y ky).0 q lt
          | inr ky ↦ let l = bounded y ky in let m = (only x jx).2 in absurd (omega (arith, l, m, lt))
        ]
        | inr jx ↦ elim (In-append y a t k) [
          | inl ky ↦ under x y jx ky (let z = is_of-true x.family x.key y q in is_of-from y.family y.key x (sym z.0) (sym z.1))
          | inr ky ↦ h.rising x y jx ky q lt
        ]
      ];
      reads = λ key t' s le see. open_alike form i a t w f n key t' s (visible a i key t' s) one (distinct_single (a ++ t) dist) rise p le
          (elim see [ inl l ↦ l | inr z ↦ absurd z ]) h (visible_best a i key t' s);
    }
