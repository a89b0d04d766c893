-- The decision version by version is the definition's.
use Rattle.std.proofs.Common.{◌≡◌, ℕ, ◌≤◌, Bool, true, false, cond, not, ◌&&◌, ◌||◌, List, [], ◌∷◌, ◌++◌, Option, Some, None, max, min, refl, sym, ap, subst, ◌∙◌, ◌⊎◌, inl, inr, arith, append_assoc, eq-eqb}
use Rattle.std.specs.Prelude.{filter, map, if◌then◌else◌, nat_le, nat_lt, ◌==◌}
use Rattle.std.specs.List.{list_any, AllByRecursion}
use Rattle.std.specs.Str.{bytes_eq}
use Rattle.std.specs.Ordering.{nat_cmp, is_lt}
use Rattle.std.specs.Cmp.Lexicographic.{slice_cmp}
use Rattle.std.specs.declared.cmp.Ordering.{Ordering}
use Rattle.std.specs.declared.cmp.Ordering.TheVariants.{Less, Equal, Greater}
use Rattle.std.proofs.lemmas.Bool.{cases_Bool, and_parts, and_from}
use Rattle.std.proofs.lemmas.Bool.Decides.{nat_tests}
use Rattle.std.proofs.lemmas.Cmp.{nat_list_cmp_total, tied_itself}
use Rattle.std.proofs.lemmas.Slice.Eq.{bytes_eq-Decides}
use Rattle.ts_key.specs.declared.numbers.Seq.{Seq}
use Rattle.ts_key.specs.declared.numbers.Ts.{Ts}
use Rattle.ts_key.specs.declared.version.Version.{Version}
use Rattle.udt_model.specs.Versions.{is_newer, is_of, up_to}
use Rattle.udt_model.specs.Orders.{is_below, is_version_before}
use Rattle.udt_model.specs.Collecting.{hides, is_hidden, is_seen_at, is_ever_seen, seen_of}
use Rattle.history_gc.specs.Pushed.{StandsBefore, MayFollow, AreInOrder}
use Rattle.history_gc.specs.Streaming.{Last, class_of, is_in_last_class, least_sequence, next_last, is_snapshot_between, is_kept, kept_from}

clash : (b : Bool) → b ≡ true → b ≡ false → ⊥
clash b x y = cc

or_false : (b : Bool) → (b || false) ≡ b
or_false true = refl
or_false false = refl

pub any_append : (p : Version → Bool) (xs ys : List Version) → list_any p (xs ++ ys) ≡ (list_any p xs || list_any p ys)
any_append p [] ys = refl
any_append p (x ∷ xs) ys = ap (λ b. p x || b) (any_append p xs ys) ∙ or_assoc (p x) (list_any p xs) (list_any p ys)
  where
    or_assoc : (a b c : Bool) → (a || (b || c)) ≡ ((a || b) || c)
    or_assoc true b c = refl
    or_assoc false b c = refl

-- ---- of two versions of one key the later in the stored order is the older

not_below_itself : (k : List ℕ) → is_below k k ≡ false
not_below_itself k = ap is_lt (tied_itself nat_list_cmp_total k)

-- the earlier is newer
pub earlier_newer : (v w : Version) → v.key ≡ w.key → StandsBefore v w → is_newer v w ≡ true
earlier_newer v w same h =
    let n : is_below v.key w.key ≡ false = ap (is_below v.key) (sym same) ∙ not_below_itself v.key in
    (and_parts (bytes_eq v.key w.key) (is_newer v w) (sym (ap (λ b. b || (bytes_eq v.key w.key && is_newer v w)) n) ∙ h.1)).1

turned : (a b c d : ℕ) → (nat_lt b a || (a == b && nat_lt d c)) ≡ true → (nat_lt a b || (b == a && nat_lt c d)) ≡ false
turned a b c d h = grind (arith, nat_tests)

-- the later isn't
pub later_not_newer : (v w : Version) → v.key ≡ w.key → StandsBefore v w → is_newer w v ≡ false
later_not_newer v w same h = turned v.ts.0 w.ts.0 v.seq.0 w.seq.0 (earlier_newer v w same h)

falls : (a b c d : ℕ) → (nat_lt b a || (a == b && nat_lt d c)) ≡ true → b ≤ a
falls a b c d h = grind (arith, nat_tests)

pub later_ts : (v w : Version) → v.key ≡ w.key → StandsBefore v w → w.ts.0 ≤ v.ts.0
later_ts v w same h = falls v.ts.0 w.ts.0 v.seq.0 w.seq.0 (earlier_newer v w same h)

-- ---- keys between two equal keys

below_less : (a b : List ℕ) → is_below a b ≡ true → slice_cmp nat_cmp a b ≡ Less
below_less a b h = less_is (slice_cmp nat_cmp a b) h
  where
    less_is : (o : Ordering) → is_lt o ≡ true → o ≡ Less
    less_is Less h = refl
    less_is Equal h = absurd cc
    less_is Greater h = absurd cc

key_upto : (v w : Version) → StandsBefore v w → (slice_cmp nat_cmp v.key w.key ≡ Less) ⊎ (v.key ≡ w.key)
key_upto v w h =
    elim (cases_Bool (is_below v.key w.key)) [
      | inl y ↦ inl (below_less v.key w.key y)
      | inr n ↦ inr ((bytes_eq-Decides v.key w.key).0 (and_parts (bytes_eq v.key w.key) (is_newer v w) (sym (ap (λ b. b || (bytes_eq v.key w.key && is_newer v w)) n) ∙ h.1)).0)
    ]

no_less : (k : List ℕ) → slice_cmp nat_cmp k k ≡ Less → ⊥
no_less k e = let q = tied_itself nat_list_cmp_total k in lessless (slice_cmp nat_cmp k k) e q
  where
    lessless : (o : Ordering) → o ≡ Less → o ≡ Equal → ⊥
    lessless o a b = cc

pub between_keys : (v x w : Version) → StandsBefore v x → StandsBefore x w → v.key ≡ w.key → v.key ≡ x.key
between_keys v x w a b e =
    elim (key_upto v x a) [
      | inl l ↦ elim (key_upto x w b) [
        | inl m ↦ absurd (no_less w.key (subst (λ k. slice_cmp nat_cmp k w.key ≡ Less) e (nat_list_cmp_total.trans v.key x.key w.key l m)))
        | inr q ↦ absurd (no_less x.key (subst (λ k. slice_cmp nat_cmp k x.key ≡ Less) (e ∙ sym q) l))
      ]
      | inr q ↦ q
    ]

-- ---- what hides a version

-- up to this sequence, or up to the end
abbrev upto : Option ℕ → ℕ → Bool
upto None seq = true
upto (Some s) seq = nat_le seq s

-- u hides v from a read up to this end
abbrev masks : Ts → Version → Option ℕ → Version → Bool
masks f v e u = upto e u.seq.0 && hides f u v

-- u is of v's key and class, and not above the end
abbrev in_class : Ts → Version → Option ℕ → Version → Bool
in_class f v e u = bytes_eq u.key v.key && (upto e u.seq.0 && class_of f u == class_of f v)

class_test : (a b f : ℕ) → b ≤ a → nat_le a (max b f) ≡ (max a f == max b f)
class_test a b f h = grind (arith, nat_tests)

other_key_hides : (a b c d : Bool) → (a && (((b && false) && c) && d)) ≡ false
other_key_hides true true c d = refl
other_key_hides true false c d = refl
other_key_hides false b c d = refl

-- an earlier version hides where it is of the class
masks_is : (f : Ts) (v : Version) (e : Option ℕ) (u : Version) → StandsBefore u v → masks f v e u ≡ in_class f v e u
masks_is f v e u l =
    let family : (u.family.0 == v.family.0) ≡ true = eq-eqb u.family.0 v.family.0 l.0 in
    elim (cases_Bool (bytes_eq u.key v.key)) [
      | inl y ↦
          let k : u.key ≡ v.key = (bytes_eq-Decides u.key v.key).0 y in
          let h : hides f u v ≡ (class_of f u == class_of f v) =
          (λ i. ((family i && y i) && earlier_newer u v k l i) && class_test u.ts.0 v.ts.0 f.0 (later_ts u v k l) i) in
          ap (λ b. upto e u.seq.0 && b) h ∙ sym (ap (λ b. b && (upto e u.seq.0 && class_of f u == class_of f v)) y)
      | inr n ↦
          ap (λ b. upto e u.seq.0 && (((u.family.0 == v.family.0 && b) && is_newer u v) && nat_le u.ts.0 (max v.ts.0 f.0))) n
          ∙ other_key_hides (upto e u.seq.0) (u.family.0 == v.family.0) (is_newer u v) (nat_le u.ts.0 (max v.ts.0 f.0))
          ∙ sym (ap (λ b. b && (upto e u.seq.0 && class_of f u == class_of f v)) n)
    ]

any_masks : (f : Ts) (v : Version) (e : Option ℕ) (ps : List Version) → MayFollow ps v → list_any (masks f v e) ps ≡ list_any (in_class f v e) ps
any_masks f v e [] h = refl
any_masks f v e (u ∷ us) h = λ i. masks_is f v e u h.0 i || any_masks f v e us h.1 i

-- a version that isn't newer hides nothing of it
older_masks : (f : Ts) (v : Version) (e : Option ℕ) (u : Version) → is_newer u v ≡ false → masks f v e u ≡ false
older_masks f v e u n = ap (λ b. upto e u.seq.0 && ((is_of v.family v.key u && b) && nat_le u.ts.0 (max v.ts.0 f.0))) n ∙ nothing (upto e u.seq.0) (is_of v.family v.key u) (nat_le u.ts.0 (max v.ts.0 f.0))
  where
    nothing : (a b c : Bool) → (a && ((b && false) && c)) ≡ false
    nothing true true c = refl
    nothing true false c = refl
    nothing false b c = refl

later_masks : (f : Ts) (v : Version) (e : Option ℕ) (u : Version) → StandsBefore v u → masks f v e u ≡ false
later_masks f v e u l =
    elim (cases_Bool (bytes_eq u.key v.key)) [
      | inl y ↦ older_masks f v e u (later_not_newer v u (sym ((bytes_eq-Decides u.key v.key).0 y)) l)
      | inr n ↦
          ap (λ b. upto e u.seq.0 && (((u.family.0 == v.family.0 && b) && is_newer u v) && nat_le u.ts.0 (max v.ts.0 f.0))) n
          ∙ other_key_hides (upto e u.seq.0) (u.family.0 == v.family.0) (is_newer u v) (nat_le u.ts.0 (max v.ts.0 f.0))
    ]

none_later : (f : Ts) (v : Version) (e : Option ℕ) (us : List Version) → AllByRecursion (λ u. StandsBefore v u) us → list_any (masks f v e) us ≡ false
none_later f v e [] h = refl
none_later f v e (u ∷ us) h = λ i. later_masks f v e u h.0 i || none_later f v e us h.1 i

pub not_newer_itself : (v : Version) → is_newer v v ≡ false
not_newer_itself v = grind (arith, nat_tests)

-- only the ones before it can hide a version
hidden_by : (f : Ts) (v : Version) (e : Option ℕ) (ps vs : List Version) → MayFollow ps v → AreInOrder (v ∷ vs) → list_any (masks f v e) (ps ++ v ∷ vs) ≡ list_any (in_class f v e) ps
hidden_by f v e ps vs b s =
    let own : list_any (masks f v e) (v ∷ vs) ≡ false = λ i. older_masks f v e v (not_newer_itself v) i || none_later f v e vs s.0 i in
    any_append (masks f v e) ps (v ∷ vs) ∙ ap (λ b. list_any (masks f v e) ps || b) own ∙ or_false (list_any (masks f v e) ps) ∙ any_masks f v e ps b

-- ---- what is remembered of the versions so far

pub record Sums (f : Ts) (ps : List Version) (o : Option Last) : Type 0 where
  pub any : (v : Version) (e : Option ℕ) → MayFollow ps v → list_any (in_class f v e) ps ≡ (is_in_last_class f o v && upto e (least_sequence o))
  pub close : (v w : Version) → MayFollow ps v → StandsBefore v w → is_in_last_class f o w ≡ true → is_in_last_class f o v ≡ true

sums_none : (f : Ts) → Sums f [] None
sums_none f = record { any = λ v e b. refl; close = λ v w b l h. h }

next_front : (ps : List Version) (v w : Version) → MayFollow (ps ++ v ∷ []) w → MayFollow ps w
next_front [] v w h = tt
next_front (u ∷ us) v w h = (h.0, next_front us v w h.1)

last_before : (ps : List Version) (v w : Version) → MayFollow (ps ++ v ∷ []) w → StandsBefore v w
last_before [] v w h = h.0
last_before (u ∷ us) v w h = last_before us v w h.1

pub next_both : (ps : List Version) (v w : Version) → MayFollow ps w → StandsBefore v w → MayFollow (ps ++ v ∷ []) w
next_both [] v w h l = (l, tt)
next_both (u ∷ us) v w h l = (h.0, next_both us v w h.1 l)

upto_min : (e : Option ℕ) (a b : ℕ) → upto e (min a b) ≡ (upto e a || upto e b)
upto_min None a b = refl
upto_min (Some s) a b = grind (arith, nat_tests)

join_same : (a c x y : Bool) → (((a && c) && x) || (a && (y && c))) ≡ ((a && c) && (x || y))
join_same true true x y = and_end x y
  where
    and_end : (x y : Bool) → (x || (y && true)) ≡ (x || y)
    and_end true y = refl
    and_end false true = refl
    and_end false false = refl
join_same true false x true = refl
join_same true false x false = refl
join_same false c x y = refl

swap_last : (a u c : Bool) → (a && (u && c)) ≡ ((a && c) && u)
swap_last true true true = refl
swap_last true true false = refl
swap_last true false true = refl
swap_last true false false = refl
swap_last false u c = refl

any_one : (p : Version → Bool) (xs : List Version) (x : Version) → list_any p (xs ++ x ∷ []) ≡ (list_any p xs || p x)
any_one p xs x = any_append p xs (x ∷ []) ∙ ap (λ b. list_any p xs || b) (or_false (p x))

-- the last one is of the same key and class: then another one is of both where it is of v's
same_through : (f : Ts) (o : Option Last) (v w : Version) → is_in_last_class f o v ≡ true → is_in_last_class f o w ≡ (bytes_eq v.key w.key && class_of f v == class_of f w)
same_through f None v w e = absurd cc
same_through f (Some l) v w e =
    let r = and_parts (bytes_eq l.key v.key) (l.class == class_of f v) e in
    let k : l.key ≡ v.key = (bytes_eq-Decides l.key v.key).0 r.0 in
    let c : l.class ≡ class_of f v = equal_from l.class (class_of f v) r.1 in
    (λ i. bytes_eq (k i) w.key && c i == class_of f w)
  where
    equal_from : (x y : ℕ) → (x == y) ≡ true → x ≡ y
    equal_from x y e = grind (arith, nat_tests)

middle : (a b c f : ℕ) → b ≤ a → c ≤ b → (max a f == max c f) ≡ true → (max a f == max b f) ≡ true
middle a b c f x y e = grind (arith, nat_tests)

close_more : (f : Ts) (v x w : Version) → StandsBefore v x → StandsBefore x w → (bytes_eq v.key w.key && class_of f v == class_of f w) ≡ true → (bytes_eq v.key x.key && class_of f v == class_of f x) ≡ true
close_more f v x w a b e =
    let r = and_parts (bytes_eq v.key w.key) (class_of f v == class_of f w) e in
    let k : v.key ≡ w.key = (bytes_eq-Decides v.key w.key).0 r.0 in
    let q : v.key ≡ x.key = between_keys v x w a b k in
    and_from (bytes_eq v.key x.key) (class_of f v == class_of f x) ((bytes_eq-Decides v.key x.key).1 q)
    (middle v.ts.0 x.ts.0 w.ts.0 f.0 (later_ts v x q a) (later_ts x w (sym q ∙ k) b) r.1)

any_more : (f : Ts) (ps : List Version) (o : Option Last) (s : Sums f ps o) (v w : Version) (e : Option ℕ) → MayFollow ps v → StandsBefore v w → (b : Bool) → is_in_last_class f o v ≡ b
    → ((is_in_last_class f o w && upto e (least_sequence o)) || in_class f w e v) ≡ ((bytes_eq v.key w.key && class_of f v == class_of f w) && upto e (if b then min (least_sequence o) v.seq.0 else v.seq.0))
any_more f ps o s v w e bv l true y =
    ap (λ c. (c && upto e (least_sequence o)) || in_class f w e v) (same_through f o v w y)
    ∙ join_same (bytes_eq v.key w.key) (class_of f v == class_of f w) (upto e (least_sequence o)) (upto e v.seq.0)
    ∙ ap (λ c. (bytes_eq v.key w.key && class_of f v == class_of f w) && c) (sym (upto_min e (least_sequence o) v.seq.0))
any_more f ps o s v w e bv l false y =
    let n : is_in_last_class f o w ≡ false = none (is_in_last_class f o w) refl in
    ap (λ c. (c && upto e (least_sequence o)) || in_class f w e v) n ∙ swap_last (bytes_eq v.key w.key) (upto e v.seq.0) (class_of f v == class_of f w)
  where
    none : (c : Bool) → is_in_last_class f o w ≡ c → c ≡ false
    none true z = absurd (clash (is_in_last_class f o v) (s.close v w bv l z) y)
    none false z = refl

sums_more : (f : Ts) (ps : List Version) (o : Option Last) (v : Version) → Sums f ps o → MayFollow ps v → Sums f (ps ++ v ∷ []) (Some (next_last f o v))
sums_more f ps o v s b = record {
  any = λ w e h. any_one (in_class f w e) ps v ∙ ap (λ c. c || in_class f w e v) (s.any w e (next_front ps v w h)) ∙ any_more f ps o s v w e b (last_before ps v w h) (is_in_last_class f o v) refl;
  close = λ x w h l e. close_more f v x w (last_before ps v x h) l e;
}

-- ---- the decision

not_le : (a b : ℕ) → not (nat_le a b) ≡ nat_lt b a
not_le a b = grind (arith, nat_tests)

any_filter : (p q : Version → Bool) (xs : List Version) → list_any p (filter q xs) ≡ list_any (λ x. q x && p x) xs
any_filter p q [] = refl
any_filter p q (x ∷ xs) = on (q x) (any_filter p q xs)
  where
    on : (b : Bool) → list_any p (filter q xs) ≡ list_any (λ x. q x && p x) xs → list_any p (cond b (x ∷ filter q xs) (filter q xs)) ≡ ((b && p x) || list_any (λ x. q x && p x) xs)
    on true r = ap (λ b. p x || b) r
    on false r = r

seen_at_is : (f : Ts) (w : List Version) (v : Version) (least : ℕ) → ((e : Option ℕ) → list_any (masks f v e) w ≡ upto e least) → (ss : List Seq) → list_any (is_seen_at w f v) ss ≡ list_any (is_snapshot_between v.seq.0 least) ss
seen_at_is f w v least h [] = refl
seen_at_is f w v least h (s ∷ ss) =
    let one : is_seen_at w f v s ≡ is_snapshot_between v.seq.0 least s =
    ap (λ b. nat_le v.seq.0 s.0 && not b) (any_filter (λ o. hides f o v) (λ u. nat_le u.seq.0 s.0) w ∙ h (Some s.0)) ∙ ap (λ b. nat_le v.seq.0 s.0 && b) (not_le least s.0) in
    λ i. one i || seen_at_is f w v least h ss i

seen_on : (f : Ts) (ss : List Seq) (w : List Version) (v : Version) (least : ℕ) (b : Bool) → ((e : Option ℕ) → list_any (masks f v e) w ≡ (b && upto e least)) → is_ever_seen w f ss v ≡ (not b || list_any (is_snapshot_between v.seq.0 least) ss)
seen_on f ss w v least true h =
    let n : is_hidden w f v ≡ true = h None in
    ap (λ c. not c || list_any (is_seen_at w f v) ss) n ∙ seen_at_is f w v least h ss
seen_on f ss w v least false h =
    let n : is_hidden w f v ≡ false = h None in
    ap (λ c. not c || list_any (is_seen_at w f v) ss) n

pub seen_is : (f : Ts) (ss : List Seq) (ps vs : List Version) (o : Option Last) (v : Version) → Sums f ps o → MayFollow ps v → AreInOrder (v ∷ vs) → is_ever_seen (ps ++ v ∷ vs) f ss v ≡ is_kept f ss o v
seen_is f ss ps vs o v s b so = seen_on f ss (ps ++ v ∷ vs) v (least_sequence o) (is_in_last_class f o v) (λ e. hidden_by f v e ps vs b so ∙ s.any v e b)

abbrev pub AllNext : List Version → List Version → Type 0
AllNext ps vs = AllByRecursion (λ v. MayFollow ps v) vs

pub next_more : (ps : List Version) (v : Version) (vs : List Version) → AllNext ps vs → AllByRecursion (λ w. StandsBefore v w) vs → AllNext (ps ++ v ∷ []) vs
next_more ps v [] h l = tt
next_more ps v (w ∷ ws) h l = (next_both ps v w h.0 l.0, next_more ps v ws h.1 l.1)

kept_is : (f : Ts) (ss : List Seq) (ps : List Version) (o : Option Last) (vs : List Version) → Sums f ps o → AllNext ps vs → AreInOrder vs → kept_from f ss o vs ≡ filter (is_ever_seen (ps ++ vs) f ss) vs
kept_is f ss ps o [] s a so = refl
kept_is f ss ps o (v ∷ vs) s a so =
    let r : kept_from f ss (Some (next_last f o v)) vs ≡ filter (is_ever_seen (ps ++ v ∷ vs) f ss) vs =
    kept_is f ss (ps ++ v ∷ []) (Some (next_last f o v)) vs (sums_more f ps o v s a.0) (next_more ps v vs a.1 so.0) so.1 ∙ ap (λ ws. filter (is_ever_seen ws f ss) vs) (append_assoc ps (v ∷ []) vs) in
    let k = seen_is f ss ps vs o v s a.0 so in
    (λ i. cond (sym k i) (v ∷ r i) (r i))

pub all_free : (vs : List Version) → AllNext [] vs
all_free [] = tt
all_free (v ∷ vs) = (tt, all_free vs)

-- versions in order are decided one by one
pub kept_is_seen : (f : Ts) (ss : List Seq) (w : List Version) → AreInOrder w → kept_from f ss None w ≡ seen_of w f ss
kept_is_seen f ss w so = kept_is f ss [] None w (sums_none f) (all_free w) so
