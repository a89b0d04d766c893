-- Stripping a list that stands in the stored order, key by key.
use Rattle.std.proofs.Common.{◌≡◌, ℕ, zero, suc, ◌-◌, ◌<◌, Bool, true, false, List, [], ◌∷◌, ◌++◌, length, get_or, Option, Some, None, refl, sym, ap, subst, ◌∙◌, ◌⊎◌, inl, inr, arith, append_assoc}
use Rattle.std.specs.Prelude.{All, map, slice_get, ◌&&◌, ◌||◌, Contains}
use Rattle.std.specs.List.{AllByRecursion}
use Rattle.std.specs.Str.{bytes_eq}
use Rattle.std.specs.Cmp.Lexicographic.{slice_cmp}
use Rattle.std.specs.Ordering.{nat_cmp, is_lt}
use Rattle.std.specs.declared.cmp.Ordering.{Ordering}
use Rattle.std.specs.declared.cmp.Ordering.TheVariants.{Less, Equal, Greater}
use Rattle.std.proofs.lemmas.Cmp.{nat_list_cmp_total}
use Rattle.std.proofs.lemmas.List.Elements.{All-from_recursion}
use Rattle.std.proofs.lemmas.List.Kept.{AllPairs-cons}
use Rattle.std.proofs.lemmas.Slice.Eq.{bytes_eq-Decides}
use Rattle.ts_key.specs.declared.version.Version.{Version}
use Rattle.udt_model.specs.Versions.{is_newer}
use Rattle.udt_model.specs.Orders.{is_version_before, is_below}
use Rattle.udt_model.specs.Collecting.{stripped, without_ts}
use Rattle.collection_laws.specs.Places.{AreApart, AreStored, HaveOnePlace}
use Rattle.collection_laws.proofs.Storing.{HoldSame, In, all_in, before_itself, contains_from, in_all, same_stored, stored_by_holding, stored_sorted}
use Rattle.flush_job.specs.Stripping.{AreToldBySequence, ends_in_key, is_of_key}
use Rattle.flush_job.proofs.Keeping.{at_contained, front_stored, in_back, in_front}

clash : (b : Bool) → b ≡ true → b ≡ false → ⊥
clash b x y = cc

-- ---- what stripping leaves apart

abbrev Among : List Version → List Version → Type 0
Among vs all = (v : Version) → In v vs → Contains all v

map_in : (vs : List Version) (v : Version) → In v (map without_ts vs) → (u : Version) × In u vs × (v ≡ without_ts u)
map_in [] v i = absurd i
map_in (x ∷ xs) v (inl e) = (x, inl refl, e)
map_in (x ∷ xs) v (inr i) = let r = map_in xs v i in (r.0, inr r.1, r.2)

got_in : (vs : List Version) (k : ℕ) (d : Version) → k < length vs → In (get_or vs k d) vs
got_in [] k d l = absurd (omega (arith, l))
got_in (x ∷ xs) zero d l = inl refl
got_in (x ∷ xs) (suc k) d l = inr (got_in xs k d (omega (arith, l)))

pub apart_stripped : (all vs : List Version) → AreToldBySequence all → Among vs all → AreStored vs → AreApart (map without_ts vs)
apart_stripped all [] told among s = λ i j d a b. absurd (omega (arith, b))
apart_stripped all (v ∷ vs) told among s =
    AllPairs-cons (λ (x y : Version). HaveOnePlace x y → ⊥) (without_ts v) (map without_ts vs)
    (λ k d l p.
    let u = map_in vs (get_or (map without_ts vs) k d) (got_in (map without_ts vs) k d l) in
    let seqs : v.seq.0 ≡ u.0.seq.0 = p.2 ∙ ap (λ (w : Version). w.seq.0) u.2 in
    let one : v ≡ u.0 = told v u.0 (among v (inl refl)) (among u.0 (inr u.1)) seqs in
    clash (is_version_before v u.0) (in_all (λ w. is_version_before v w ≡ true) vs u.0 s.0 u.1) (ap (is_version_before v) (sym one) ∙ before_itself v))
    (apart_stripped all vs told (λ w i. among w (inr i)) s.1)

-- ---- two parts with no key in common

back_stored : (xs ys : List Version) → AreStored (xs ++ ys) → AreStored ys
back_stored [] ys s = s
back_stored (x ∷ xs) ys s = back_stored xs ys s.1

all_join : (P : Version → Type 0) (xs ys : List Version) → AllByRecursion P xs → AllByRecursion P ys → AllByRecursion P (xs ++ ys)
all_join P [] ys h g = g
all_join P (x ∷ xs) ys h g = (h.0, all_join P xs ys h.1 g)

stored_join : (xs ys : List Version) → AreStored xs → AreStored ys → ((u w : Version) → In u xs → In w ys → is_version_before u w ≡ true) → AreStored (xs ++ ys)
stored_join [] ys s t h = t
stored_join (x ∷ xs) ys s t h =
    (all_join (λ w. is_version_before x w ≡ true) xs ys s.0 (all_in (λ w. is_version_before x w ≡ true) ys (λ w i. h x w (inl refl) i)), stored_join xs ys s.1 t (λ u w i j. h u w (inr i) j))

in_either : (xs ys : List Version) (v : Version) → In v (xs ++ ys) → In v xs ⊎ In v ys
in_either [] ys v i = inr i
in_either (x ∷ xs) ys v (inl e) = inl (inl e)
in_either (x ∷ xs) ys v (inr i) = more (in_either xs ys v i)
  where
    more : In v xs ⊎ In v ys → In v (x ∷ xs) ⊎ In v ys
    more (inl k) = inl (inr k)
    more (inr k) = inr k

same_join : (a b c d : List Version) → HoldSame a c → HoldSame b d → HoldSame (a ++ b) (c ++ d)
same_join a b c d h g = record {
  to = λ v i. pick (in_either a b v i) (λ k. in_front c d v (h.to v k)) (λ k. in_back c d v (g.to v k));
  back = λ v i. pick (in_either c d v i) (λ k. in_front a b v (h.back v k)) (λ k. in_back a b v (g.back v k));
}
  where
    pick : {A B C : Type 0} → A ⊎ B → (A → C) → (B → C) → C
    pick (inl x) f g = f x
    pick (inr y) f g = g y

map_join : (xs ys : List Version) → map without_ts (xs ++ ys) ≡ map without_ts xs ++ map without_ts ys
map_join [] ys = refl
map_join (x ∷ xs) ys = ap (λ (r : List Version). without_ts x ∷ r) (map_join xs ys)

abbrev AllBelow : List ℕ → List Version → Type 0
AllBelow key vs = AllByRecursion (λ u. is_below u.key key ≡ true) vs

below_before : (u w : Version) → is_below u.key w.key ≡ true → is_version_before u w ≡ true
below_before u w h = ap (λ b. b || (bytes_eq u.key w.key && is_newer u w)) h

-- those of one key, behind those of lower keys
pub record IsCut (done of_key : List Version) : Type 0 where
  pub key : List ℕ
  pub of_one : AllByRecursion (λ w. w.key ≡ key) of_key
  pub below : AllBelow key done
  pub begun : of_key ≡ [] → done ≡ []

stripped_in : (vs : List Version) (v : Version) → In v (stripped vs) → (u : Version) × In u vs × (v ≡ without_ts u)
stripped_in vs v i = map_in vs v ((same_stored (map without_ts vs)).back v i)

pub stripped_parts : (all done of_key : List Version) → AreToldBySequence all → Among (done ++ of_key) all → AreStored (done ++ of_key) → IsCut done of_key → stripped (done ++ of_key) ≡ stripped done ++ stripped of_key
stripped_parts all done of_key told among s cut =
    let apart = apart_stripped all (done ++ of_key) told among s in
    let front = stored_sorted (map without_ts done) (apart_stripped all done told (λ v i. among v (in_front done of_key v i)) (front_stored done of_key s)) in
    let back = stored_sorted (map without_ts of_key) (apart_stripped all of_key told (λ v i. among v (in_back done of_key v i)) (back_stored done of_key s)) in
    stored_by_holding (map without_ts (done ++ of_key)) (stripped done ++ stripped of_key) apart
    (stored_join (stripped done) (stripped of_key) front back (λ u w i j.
    let x = stripped_in done u i in
    let y = stripped_in of_key w j in
    let low : is_below x.0.key cut.key ≡ true = in_all (λ o. is_below o.key cut.key ≡ true) done x.0 cut.below x.1 in
    let own : y.0.key ≡ cut.key = in_all (λ o. o.key ≡ cut.key) of_key y.0 cut.of_one y.1 in
    below_before u w (ap (λ (o : Version). is_below o.key w.key) x.2 ∙ ap (λ (o : Version). is_below x.0.key o.key) y.2 ∙ ap (is_below x.0.key) own ∙ low)))
    (subst (λ (vs : List Version). HoldSame vs (stripped done ++ stripped of_key)) (sym (map_join done of_key))
    (same_join (map without_ts done) (map without_ts of_key) (stripped done) (stripped of_key) (same_stored (map without_ts done)) (same_stored (map without_ts of_key))))

-- ---- one version more

pub no_cut : IsCut [] []
no_cut = record { key = []; of_one = tt; below = tt; begun = λ e. refl }

all_snoc : (P : Version → Type 0) (xs : List Version) (v : Version) → AllByRecursion P xs → P v → AllByRecursion P (xs ++ v ∷ [])
all_snoc P [] v h p = (p, tt)
all_snoc P (x ∷ xs) v h p = (h.0, all_snoc P xs v h.1 p)

last_in : (vs : List Version) (n : ℕ) (v : Version) → slice_get vs n ≡ Some v → In v vs
last_in [] n v e = absurd cc
last_in (x ∷ xs) zero v e = inl (let q : x ≡ v = cc in sym q)
last_in (x ∷ xs) (suc n) v e = inr (last_in xs n v e)

no_more : (xs : List Version) (v : Version) → xs ++ v ∷ [] ≡ [] → ⊥
no_more [] v e = cc
no_more (x ∷ xs) v e = cc

-- another one of the key
pub cut_same : (done of_key : List Version) (v : Version) → IsCut done of_key → ends_in_key of_key v.key ≡ true → IsCut done (of_key ++ v ∷ [])
cut_same done [] v cut e = record { key = v.key; of_one = (refl, tt); below = subst (AllBelow v.key) (sym (cut.begun refl)) tt; begun = λ q. absurd (no_more [] v q) }
cut_same done (x ∷ xs) v cut e = on (slice_get (x ∷ xs) (length xs)) refl (let a : suc (length xs) - 1 ≡ length xs = omega arith in ap (λ n. is_of_key (slice_get (x ∷ xs) n) v.key) (sym a) ∙ e)
  where
    on : (o : Option Version) → slice_get (x ∷ xs) (length xs) ≡ o → is_of_key o v.key ≡ true → IsCut done ((x ∷ xs) ++ v ∷ [])
    on None q e = absurd (past xs x q)
      where
        past : (xs : List Version) (x : Version) → slice_get (x ∷ xs) (length xs) ≡ None → ⊥
        past [] x e = cc
        past (y ∷ ys) x e = past ys y e
    on (Some l) q e =
        let own : l.key ≡ cut.key = in_all (λ w. w.key ≡ cut.key) (x ∷ xs) l cut.of_one (last_in (x ∷ xs) (length xs) l q) in
        let same : v.key ≡ cut.key = sym ((bytes_eq-Decides l.key v.key).0 e) ∙ own in
        record {
          key = cut.key;
          of_one = all_snoc (λ w. w.key ≡ cut.key) (x ∷ xs) v cut.of_one same;
          below = cut.below;
          begun = λ p. absurd (no_more (x ∷ xs) v p);
        }

less_is : (o : Ordering) → is_lt o ≡ true → o ≡ Less
less_is Less h = refl
less_is Equal h = absurd cc
less_is Greater h = absurd cc

below_trans : (a b c : List ℕ) → is_below a b ≡ true → is_below b c ≡ true → is_below a c ≡ true
below_trans a b c h k = ap is_lt (nat_list_cmp_total.trans a b c (less_is (slice_cmp nat_cmp a b) h) (less_is (slice_cmp nat_cmp b c) k))

other_below : (u v : Version) → is_version_before u v ≡ true → bytes_eq u.key v.key ≡ false → is_below u.key v.key ≡ true
other_below u v h n = on (is_below u.key v.key) (sym (ap (λ b. is_below u.key v.key || (b && is_newer u v)) n) ∙ h)
  where
    on : (b : Bool) → (b || (false && is_newer u v)) ≡ true → b ≡ true
    on true h = refl
    on false h = absurd cc

before_last : (xs : List Version) (v u : Version) → AreStored (xs ++ v ∷ []) → In u xs → is_version_before u v ≡ true
before_last [] v u s i = absurd i
before_last (x ∷ xs) v u s (inl e) = ap (λ (w : Version). is_version_before w v) e ∙ in_all (λ w. is_version_before x w ≡ true) (xs ++ v ∷ []) v s.0 (in_back xs (v ∷ []) v (inl refl))
before_last (x ∷ xs) v u s (inr i) = before_last xs v u s.1 i

-- the first one of another key
pub cut_other : (done of_key : List Version) (v : Version) → IsCut done of_key → AreStored ((done ++ of_key) ++ v ∷ []) → ends_in_key of_key v.key ≡ false → IsCut (done ++ of_key) (v ∷ [])
cut_other done of_key v cut s e = on (slice_get of_key (length of_key - 1)) refl e
  where
    on : (o : Option Version) → slice_get of_key (length of_key - 1) ≡ o → is_of_key o v.key ≡ false → IsCut (done ++ of_key) (v ∷ [])
    on None q e = absurd cc
    on (Some l) q e =
        let there = last_in of_key (length of_key - 1) l q in
        let own : l.key ≡ cut.key = in_all (λ w. w.key ≡ cut.key) of_key l cut.of_one there in
        let low : is_below cut.key v.key ≡ true = ap (λ k. is_below k v.key) (sym own) ∙ other_below l v (before_last (done ++ of_key) v l s (in_back done of_key l there)) e in
        record {
          key = v.key;
          of_one = (refl, tt);
          below = all_join (λ u. is_below u.key v.key ≡ true) done of_key
              (all_in (λ u. is_below u.key v.key ≡ true) done (λ u i. below_trans u.key cut.key v.key (in_all (λ w. is_below w.key cut.key ≡ true) done u cut.below i) low))
              (all_in (λ u. is_below u.key v.key ≡ true) of_key (λ u i. ap (λ k. is_below k v.key) (in_all (λ w. w.key ≡ cut.key) of_key u cut.of_one i) ∙ low));
          begun = λ p. absurd (no_more [] v p);
        }

-- ---- a step of the loop

all_of_part : (P : Version → Type 0) (all done of_key : List Version) → ((v : Version) → Contains (done ++ of_key) v → Contains all v) → All P all → (v : Version) → In v of_key → P v
all_of_part P all done of_key among h v i = at_contained P all v h (among v (contains_from (done ++ of_key) v (in_back done of_key v i)))

pub part_all : (P : Version → Type 0) (all done of_key : List Version) → ((v : Version) → Contains (done ++ of_key) v → Contains all v) → All P all → All P of_key
part_all P all done of_key among h = All-from_recursion P of_key (all_in P of_key (all_of_part P all done of_key among h))

pub part_apart : (all done of_key : List Version) → AreToldBySequence all → ((v : Version) → Contains (done ++ of_key) v → Contains all v) → AreStored (done ++ of_key) → AreApart (map without_ts of_key)
part_apart all done of_key told among s =
    apart_stripped all of_key told (λ v i. among v (contains_from (done ++ of_key) v (in_back done of_key v i))) (back_stored done of_key s)

-- one more version was given: of the key, or the first of another
pub strip_step : (K Q Q1 : List Version → Type 0) (done of_key kept more : List Version) (v : Version) (same : Bool) → ends_in_key of_key v.key ≡ same → IsCut done of_key → AreStored ((done ++ of_key) ++ v ∷ []) → K ((done ++ of_key) ++ v ∷ [])
    → (same ≡ true → (kept ≡ of_key) × (Q done → Q1 done)) → (same ≡ false → (kept ≡ []) × (Q done → Q1 (done ++ of_key))) → more ≡ kept ++ v ∷ [] → Q done
    → (now : List Version) × (K (now ++ more) × (IsCut now more × Q1 now))
strip_step K Q Q1 done of_key kept more v true e cut s k yes_ no_ is q =
    let a = yes_ refl in
    let m : of_key ++ v ∷ [] ≡ more = sym (is ∙ ap (λ (vs : List Version). vs ++ v ∷ []) a.0) in
    (done, (subst K (append_assoc done of_key (v ∷ []) ∙ ap (λ (vs : List Version). done ++ vs) m) k, (subst (IsCut done) m (cut_same done of_key v cut e), a.1 q)))
strip_step K Q Q1 done of_key kept more v false e cut s k yes_ no_ is q =
    let a = no_ refl in
    let m : v ∷ [] ≡ more = sym (is ∙ ap (λ (vs : List Version). vs ++ v ∷ []) a.0) in
    (done ++ of_key, (subst (λ (vs : List Version). K ((done ++ of_key) ++ vs)) m k, (subst (IsCut (done ++ of_key)) m (cut_other done of_key v cut s e), a.1 q)))
