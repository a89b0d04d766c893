-- Walks over runs: what they pass, and where they stand.
use Rattle.std.proofs.Common.{◌≡◌, ℕ, zero, suc, ◌+◌, ◌-◌, ◌<◌, ◌≤◌, Bool, true, false, List, [], ◌∷◌, ◌++◌, get_or, length, Option, Some, None, refl, sym, ap, subst, ◌∙◌, ◌⊎◌, inl, inr, arith, append_assoc}
use Rattle.std.specs.Prelude.{All, drop, if◌then◌else◌, map, nat_le, option_map, slice_get, take, ◌&&◌, ◌||◌}
use Rattle.std.specs.List.{AllByRecursion, flat_map}
use Rattle.std.specs.Str.{bytes_eq}
use Rattle.std.specs.Cmp.Lexicographic.{slice_cmp}
use Rattle.std.specs.Ordering.{nat_cmp, is_lt, is_le}
use Rattle.std.specs.declared.cmp.Ordering.{Ordering}
use Rattle.std.specs.declared.cmp.Ordering.TheVariants.{Less, Equal, Greater}
use Rattle.std.proofs.lemmas.Bool.{le-leb}
use Rattle.std.proofs.lemmas.Cmp.{nat_list_cmp_total, tied_itself}
use Rattle.std.proofs.lemmas.List.{append-nil, length-map}
use Rattle.std.proofs.lemmas.Slice.Eq.{bytes_eq-Decides}
use Rattle.ts_key.specs.declared.numbers.Family.{Family}
use Rattle.ts_key.specs.declared.version.Version.{Version}
use Rattle.ts_key.specs.Items.{Item, item_of, items_of}
use Rattle.ts_key.specs.Lists as lists
use Rattle.ts_key.specs.Lists.{below, onward, standing}
use Rattle.ts_key.specs.Order as order
use Rattle.ts_key.specs.Ordered.{none_low}
use Rattle.sorted_run.specs.Sorts as sorts
use Rattle.sorted_run.specs.Sorts.{sorted}
use Rattle.sorted_run.proofs.Sorting.{items-sorted, sorted-left, sorted-right}
use Rattle.memtable.specs.Memtables.{Memtable, joined, versions_of_memtable}
use Rattle.merge_cursor.specs.Sides.{all, sides}
use Rattle.merge_cursor.specs.Shows.{lists_are}
use Rattle.merge_cursor.specs.declared.slice.SliceCursor.{SliceCursor}
use Rattle.udt_model.specs.declared.reply.KeySpan.{KeySpan}
use Rattle.udt_model.specs.Versions.{is_newer}
use Rattle.udt_model.specs.Orders as orders
use Rattle.udt_model.specs.Orders.{is_at_most, is_version_before, is_below, is_in, stored}
use Rattle.collection_laws.specs.Places.{AreStored}
use Rattle.collection_laws.proofs.Storing.{In, before_back, before_is, before_itself, in_all, same_stored}
use Rattle.flush_job.specs.Walks.{Covers, IsSpanOf, runs_of, versions_of_all, walked}
use Rattle.flush_job.proofs.Keeping.{in_back, in_front}

-- ---- the order of runs and that of the definitions

with_same : (v : Version) (os : List Version) → sorts.with_sorted v os ≡ orders.with_version v os
with_same v [] = refl
with_same v (o ∷ os) = λ i. if sym (before_is o v) i then o ∷ with_same v os i else v ∷ o ∷ os

pub sorted_stored : (vs : List Version) → sorted vs ≡ stored vs
sorted_stored [] = refl
sorted_stored (v ∷ vs) = with_same v (sorted vs) ∙ ap (orders.with_version v) (sorted_stored vs)

pub in_sorted : (vs : List Version) (v : Version) → In v vs → In v (sorted vs)
in_sorted vs v i = subst (In v) (sym (sorted_stored vs)) ((same_stored vs).to v i)

-- ---- what is walked

items_more : (xs ys : List Version) → items_of (xs ++ ys) ≡ items_of xs ++ items_of ys
items_more [] ys = refl
items_more (x ∷ xs) ys = ap (λ (r : List Item). item_of x ∷ r) (items_more xs ys)

joined_items : (cs : List SliceCursor) → lists.joined_lists (map (λ (c : SliceCursor). items_of c.versions.now) cs) ≡ items_of (joined (runs_of cs))
joined_items [] = refl
joined_items (c ∷ cs) = ap (λ (r : List Item). items_of c.versions.now ++ r) (joined_items cs) ∙ sym (items_more c.versions.now (joined (runs_of cs)))

pub all_is : (cs : List SliceCursor) → all (sides (λ (c : SliceCursor). items_of c.versions.now) (λ (c : SliceCursor). c.place) cs) ≡ items_of (walked cs)
all_is cs =
    ap (λ (ls : List (List Item)). lists.stored_items (lists.joined_lists ls)) (lists_are (λ (c : SliceCursor). items_of c.versions.now) (λ (c : SliceCursor). c.place) cs)
    ∙ ap lists.stored_items (joined_items cs)
    ∙ sym (items-sorted (joined (runs_of cs)))

pub walked_length : (cs : List SliceCursor) → length (all (sides (λ (c : SliceCursor). items_of c.versions.now) (λ (c : SliceCursor). c.place) cs)) ≡ length (walked cs)
walked_length cs = ap length (all_is cs) ∙ length-map (walked cs) item_of

joined_more : (xs ys : List (List Version)) → joined (xs ++ ys) ≡ joined xs ++ joined ys
joined_more [] ys = refl
joined_more (x ∷ xs) ys = ap (λ r. x ++ r) (joined_more xs ys) ∙ sym (append_assoc x (joined xs) (joined ys))

-- the runs of memtables hold what these hold
pub walked_is : (ms : List Memtable) → sorted (joined (flat_map (λ (m : Memtable). m.runs) ms)) ≡ sorted (versions_of_all ms)
walked_is [] = refl
walked_is (m ∷ ms) =
    let rest = joined (flat_map (λ (m : Memtable). m.runs) ms) in
    let own = versions_of_memtable m in
    ap sorted (joined_more m.runs (flat_map (λ (m : Memtable). m.runs) ms))
    ∙ sym (sorted-left (joined m.runs) rest)
    ∙ sym (sorted-right own rest)
    ∙ ap (λ r. sorted (own ++ r)) (walked_is ms)
    ∙ sorted-right own (versions_of_all ms)

-- ---- places

get_items : (vs : List Version) (n : ℕ) → slice_get (items_of vs) n ≡ option_map item_of (slice_get vs n)
get_items [] n = refl
get_items (v ∷ vs) zero = refl
get_items (v ∷ vs) (suc n) = get_items vs n

pub standing_items : (vs : List Version) (p : ℕ) → standing (items_of vs) p ≡ option_map item_of (standing vs p)
standing_items vs zero = refl
standing_items vs (suc n) = get_items vs n

get_in : (vs : List Version) (n : ℕ) (v : Version) → slice_get vs n ≡ Some v → In v vs
get_in [] n v e = absurd cc
get_in (x ∷ xs) zero v e = inl (let q : x ≡ v = cc in sym q)
get_in (x ∷ xs) (suc n) v e = inr (get_in xs n v e)

standing_in : (vs : List Version) (p : ℕ) (v : Version) → standing vs p ≡ Some v → In v vs
standing_in vs zero v e = absurd cc
standing_in vs (suc n) v e = get_in vs n v e

cursor_in : (cs : List SliceCursor) (n : ℕ) (c : SliceCursor) (v : Version) → slice_get cs n ≡ Some c → In v c.versions.now → In v (joined (runs_of cs))
cursor_in [] n c v e i = absurd cc
cursor_in (x ∷ xs) zero c v e i =
    let q : x ≡ c = cc in
    in_front x.versions.now (joined (runs_of xs)) v (subst (λ (y : SliceCursor). In v y.versions.now) (sym q) i)
cursor_in (x ∷ xs) (suc n) c v e i = in_back x.versions.now (joined (runs_of xs)) v (cursor_in xs n c v e i)

clash : (b : Bool) → b ≡ true → b ≡ false → ⊥
clash b x y = cc

-- of a stored list two with one item are one
same_item : (x v : Version) → item_of x ≡ item_of v → is_version_before x v ≡ true → ⊥
same_item x v e h =
    clash (is_version_before x v) h (before_is x v ∙ ap (λ (i : Item). is_lt (order.sort_cmp (item_of x).sort_key i.sort_key)) (sym e) ∙ sym (before_is x x) ∙ before_itself x)

stored_one : (ys : List Version) (v w : Version) → AreStored ys → In v ys → In w ys → item_of v ≡ item_of w → v ≡ w
stored_one [] v w s i j e = absurd i
stored_one (x ∷ xs) v w s (inl p) (inl q) e = p ∙ sym q
stored_one (x ∷ xs) v w s (inl p) (inr j) e =
    absurd (same_item x w (ap item_of (sym p) ∙ e) (in_all (λ u. is_version_before x u ≡ true) xs w s.0 j))
stored_one (x ∷ xs) v w s (inr i) (inl q) e =
    absurd (same_item x v (ap item_of (sym q) ∙ sym e) (in_all (λ u. is_version_before x u ≡ true) xs v s.0 i))
stored_one (x ∷ xs) v w s (inr i) (inr j) e = stored_one xs v w s.1 i j e

one_of : (a b : Option Version) → option_map item_of a ≡ option_map item_of b → ((v w : Version) → a ≡ Some v → b ≡ Some w → item_of v ≡ item_of w → v ≡ w) → a ≡ b
one_of None None e h = refl
one_of None (Some w) e h = absurd cc
one_of (Some v) None e h = absurd cc
one_of (Some v) (Some w) e h = ap Some (h v w refl refl cc)

-- the version of the cursor whose item is shown
pub cursor_version : (cs : List SliceCursor) (n : ℕ) (c : SliceCursor) (p : ℕ) (o : Option Version) → AreStored (walked cs) → slice_get cs n ≡ Some c
    → standing (items_of c.versions.now) c.place ≡ standing (all (sides (λ (c : SliceCursor). items_of c.versions.now) (λ (c : SliceCursor). c.place) cs)) p
    → o ≡ standing c.versions.now c.place → o ≡ standing (walked cs) p
cursor_version cs n c p o s e h is =
    is ∙ one_of (standing c.versions.now c.place) (standing (walked cs) p)
    (sym (standing_items c.versions.now c.place) ∙ h ∙ ap (λ is. standing is p) (all_is cs) ∙ standing_items (walked cs) p)
    (λ v w a b q. stored_one (walked cs) v w s (in_sorted (joined (runs_of cs)) v (cursor_in cs n c v e (standing_in c.versions.now c.place v a))) (standing_in (walked cs) p w b) q)

none_of : (o : Option Version) → option_map item_of o ≡ None → None ≡ o
none_of None e = refl
none_of (Some v) e = absurd cc

pub no_version : (cs : List SliceCursor) (p : ℕ) → standing (all (sides (λ (c : SliceCursor). items_of c.versions.now) (λ (c : SliceCursor). c.place) cs)) p ≡ None → None ≡ standing (walked cs) p
no_version cs p e = none_of (standing (walked cs) p) (sym (standing_items (walked cs) p) ∙ sym (ap (λ is. standing is p) (all_is cs)) ∙ e)

-- ---- one place on

got_on : (ys : List Version) (n : ℕ) (v : Version) → slice_get ys n ≡ Some v → (n < length ys) × (drop n ys ≡ v ∷ drop (suc n) ys) × (take (suc n) ys ≡ take n ys ++ v ∷ [])
got_on [] n v e = absurd cc
got_on (x ∷ xs) zero v e = let q : x ≡ v = cc in (omega arith, ap (λ (y : Version). y ∷ xs) q, ap (λ (y : Version). y ∷ []) q)
got_on (x ∷ xs) (suc n) v e = let r = got_on xs n v e in let l = r.0 in (omega (arith, l), r.1, ap (λ (ys : List Version). x ∷ ys) r.2)

pub walk_on : (ys : List Version) (p q : ℕ) (v : Version) → standing ys p ≡ Some v → q ≡ onward (length ys) p → (drop (p - 1) ys ≡ v ∷ drop (q - 1) ys) × (take (q - 1) ys ≡ take (p - 1) ys ++ v ∷ [])
walk_on ys zero q v e on = absurd cc
walk_on ys (suc n) q v e on =
    let r = got_on ys n v e in
    let l = r.0 in
    let t : nat_le (suc n) (length ys) ≡ true = le-leb (suc n) (length ys) (omega (arith, l)) in
    let q_is : q ≡ suc n + 1 = on ∙ ap (λ (b : Bool). if b then suc n + 1 else suc n) t in
    let a : suc n - 1 ≡ n = omega arith in
    let b : q - 1 ≡ suc n = omega (arith, q_is) in (
      ap (λ k. drop k ys) a ∙ r.1 ∙ ap (λ k. v ∷ drop k ys) (sym b),
      ap (λ k. take k ys) b ∙ r.2 ∙ ap (λ k. take k ys ++ v ∷ []) (sym a),
    )

got_none : (ys : List Version) (n : ℕ) → None ≡ slice_get ys n → drop n ys ≡ []
got_none [] zero e = refl
got_none [] (suc n) e = refl
got_none (x ∷ xs) zero e = absurd cc
got_none (x ∷ xs) (suc n) e = got_none xs n e

pub walk_ends : (ys : List Version) (p : ℕ) → 1 ≤ p → None ≡ standing ys p → drop (p - 1) ys ≡ []
walk_ends ys zero l e = absurd (omega (arith, l))
walk_ends ys (suc n) l e = let a : suc n - 1 ≡ n = omega arith in ap (λ k. drop k ys) a ∙ got_none ys n e

pub on_from : (len p q : ℕ) → 1 ≤ p → q ≡ onward len p → 1 ≤ q
on_from len p q l on = more (nat_le p len) on
  where
    more : (b : Bool) → q ≡ (if b then p + 1 else p) → 1 ≤ q
    more true e = omega (arith, l, e)
    more false e = omega (arith, l, e)

-- ---- the span of all keys

le_itself : (k : List ℕ) → is_at_most k k ≡ true
le_itself k = ap is_le (tied_itself nat_list_cmp_total k)

lt_le : (o : Ordering) → is_lt o ≡ true → is_le o ≡ true
lt_le Less h = refl
lt_le Equal h = absurd cc
lt_le Greater h = absurd cc

either : (a b c : Bool) → (a || (b && c)) ≡ true → (a ≡ true) ⊎ (b ≡ true)
either true b c e = inl refl
either false true c e = inr refl
either false false c e = absurd cc

at_most : (a b : Version) → is_version_before a b ≡ true → is_at_most a.key b.key ≡ true
at_most a b h =
    elim (either (is_below a.key b.key) (bytes_eq a.key b.key) (is_newer a b) h) [
      | inl l ↦ lt_le (slice_cmp nat_cmp a.key b.key) l
      | inr e ↦ ap (is_at_most a.key) (sym ((bytes_eq-Decides a.key b.key).0 e)) ∙ le_itself a.key
    ]

both : (a b : Bool) → a ≡ true → b ≡ true → (a && b) ≡ true
both true true a b = refl
both true false a b = absurd cc
both false b a c = absurd cc

last_there : (v : Version) (vs : List Version) (last : Version) → slice_get (v ∷ vs) (length vs) ≡ Some last → AreStored (v ∷ vs) → is_at_most v.key last.key ≡ true
last_there v [] last e s = let q : v ≡ last = cc in ap (λ (w : Version). is_at_most v.key w.key) (sym q) ∙ le_itself v.key
last_there v (w ∷ ws) last e s = at_most v last (in_all (λ u. is_version_before v u ≡ true) (w ∷ ws) last s.0 (get_in (w ∷ ws) (length ws) last e))

-- each lies between a key that is no higher than the first one's, and the last one's
all_between : (low : List ℕ) (v : Version) (vs : List Version) (last : Version) → AllByRecursion (λ w. is_at_most low w.key ≡ true) (v ∷ vs) → slice_get (v ∷ vs) (length vs) ≡ Some last → AreStored (v ∷ vs)
    → AllByRecursion (λ w. is_in (record { low = low; high = last.key }) w.key ≡ true) (v ∷ vs)
all_between low v [] last h e s = (both (is_at_most low v.key) (is_at_most v.key last.key) h.0 (last_there v [] last e s), tt)
all_between low v (w ∷ ws) last h e s = (both (is_at_most low v.key) (is_at_most v.key last.key) h.0 (last_there v (w ∷ ws) last e s), all_between low w ws last h.1 e s.1)

all_from_first : (v : Version) (vs : List Version) → AllByRecursion (λ w. is_version_before v w ≡ true) vs → AllByRecursion (λ w. is_at_most v.key w.key ≡ true) vs
all_from_first v [] h = tt
all_from_first v (w ∷ ws) h = (at_most v w h.0, all_from_first v ws h.1)

-- the span from the first key to the last one holds all
pub span_is : (ys : List Version) (first last : Version) (low high : List ℕ) → Some first ≡ standing ys 1 → Some last ≡ standing ys (length ys) → low ≡ first.key → high ≡ last.key → AreStored ys
    → IsSpanOf ys (Some (first.family, record { low = low; high = high }))
span_is [] first last low high a b l h s = absurd cc
span_is (v ∷ vs) first last low high a b l h s =
    let q : first ≡ v = cc in
    let covers : Covers (record { low = v.key; high = last.key }) (v ∷ vs) = all_between v.key v vs last (le_itself v.key, all_from_first v vs s.0) (sym b) s in (
      ap (λ (w : Version). w.family) q,
      subst (λ (k : List ℕ). Covers (record { low = k; high = high }) (v ∷ vs)) (sym (l ∙ ap (λ (w : Version). w.key) q))
          (subst (λ (k : List ℕ). Covers (record { low = v.key; high = k }) (v ∷ vs)) (sym h) covers),
    )

none_before : (v : Version) (vs : List Version) → AllByRecursion (λ w. is_version_before v w ≡ true) vs → AllByRecursion (λ (i : Item). order.is_before i.sort_key (item_of v).sort_key ≡ false) (items_of vs)
none_before v [] h = tt
none_before v (w ∷ ws) h = (sym (before_is w v) ∙ before_back v w h.0, none_before v ws h.1)

none_counted : (b : Bool) (n : ℕ) → b ≡ false → n ≡ 0 → (if b then 1 else 0) + n ≡ 0
none_counted true n e z = absurd cc
none_counted false n e z = omega (arith, z)

-- none stands before the first
pub below_first : (ys : List Version) (first : Version) → Some first ≡ standing ys 1 → AreStored ys → below (item_of first).sort_key (items_of ys) ≡ 0
below_first [] first a s = absurd cc
below_first (v ∷ vs) first a s =
    let q : first ≡ v = cc in
    let own : order.is_before (item_of v).sort_key (item_of v).sort_key ≡ false = sym (before_is v v) ∙ before_itself v in
    let rest : below (item_of v).sort_key (items_of vs) ≡ 0 = none_low (item_of v).sort_key (item_of v) (items_of vs) (none_before v vs s.0) own in
    ap (λ (w : Version). below (item_of w).sort_key (items_of (v ∷ vs))) q ∙ none_counted (order.is_before (item_of v).sort_key (item_of v).sort_key) (below (item_of v).sort_key (items_of vs)) own rest

pub none_first : (ys : List Version) → None ≡ standing ys 1 → ys ≡ []
none_first [] e = refl
none_first (v ∷ vs) e = absurd cc

pub last_some : (ys : List Version) (v : Version) → Some v ≡ standing ys 1 → None ≡ standing ys (length ys) → ⊥
last_some [] v a e = cc
last_some (x ∷ xs) v a e = past x xs e
  where
    past : (x : Version) (xs : List Version) → None ≡ slice_get (x ∷ xs) (length xs) → ⊥
    past x [] e = cc
    past x (y ∷ ys) e = past y ys e

-- ---- runs of memtables, one more

pub run_got : (rs : List (List Version)) (i : ℕ) (r : List Version) → Some r ≡ slice_get rs i → take (i + 1) rs ≡ take i rs ++ r ∷ []
run_got rs i r e = let n : i + 1 ≡ suc i = omega arith in ap (λ k. take k rs) n ∙ on rs i e
  where
    on : (rs : List (List Version)) (i : ℕ) → Some r ≡ slice_get rs i → take (suc i) rs ≡ take i rs ++ r ∷ []
    on [] i e = absurd cc
    on (x ∷ xs) zero e = let q : r ≡ x = cc in ap (λ (y : List Version). y ∷ []) (sym q)
    on (x ∷ xs) (suc i) e = ap (λ (ys : List (List Version)). x ∷ ys) (on xs i e)

pub run_there : (rs : List (List Version)) (i : ℕ) → None ≡ slice_get rs i → i < length rs → ⊥
run_there [] i e l = omega (arith, l)
run_there (x ∷ xs) zero e l = cc
run_there (x ∷ xs) (suc i) e l = run_there xs i e (omega (arith, l))

pub one_first : (c : SliceCursor) → c.place ≡ 1 → All (λ (k : SliceCursor). k.place ≡ 1) (c ∷ [])
one_first c e zero d l = e
one_first c e (suc k) d l = absurd (omega (arith, l))

pub runs_more : (cs more : List SliceCursor) → runs_of (cs ++ more) ≡ runs_of cs ++ runs_of more
runs_more [] more = refl
runs_more (c ∷ cs) more = ap (λ (r : List (List Version)). c.versions.now ∷ r) (runs_more cs more)

flat_on : {A M X : Type 0} (f : A → M) (h : M → List X) (xs : List A) (i : ℕ) (x : A) → i < length xs → x ≡ get_or xs i x → flat_map h (map f (take (suc i) xs)) ≡ flat_map h (map f (take i xs)) ++ h (f x)
flat_on f h [] i x l is = absurd (omega (arith, l))
flat_on f h (y ∷ ys) zero x l is = append-nil (h (f y)) ∙ ap (λ z. h (f z)) (sym is)
flat_on f h (y ∷ ys) (suc i) x l is = ap (λ r. h (f y) ++ r) (flat_on f h ys i x (omega (arith, l)) is) ∙ sym (append_assoc (h (f y)) (flat_map h (map f (take i ys))) (h (f x)))

-- of a list of lists, one more
pub flat_more : {A M X : Type 0} (f : A → M) (h : M → List X) (xs : List A) (i : ℕ) (x : A) → i < length xs → x ≡ get_or xs i x → flat_map h (map f (take (i + 1) xs)) ≡ flat_map h (map f (take i xs)) ++ h (f x)
flat_more f h xs i x l is = let n : i + 1 ≡ suc i = omega arith in ap (λ k. flat_map h (map f (take k xs))) n ∙ flat_on f h xs i x l is

-- ---- the walk of a flush

pub place_one : (b : Bool) (n : ℕ) → b ≡ false → n ≡ 0 → (if b then 0 else n + 1) ≡ 1
place_one true n e z = absurd cc
place_one false n e z = omega (arith, z)

pub walked_of : (cs : List SliceCursor) (ms : List Memtable) → runs_of cs ≡ flat_map (λ (m : Memtable). m.runs) ms → walked cs ≡ sorted (versions_of_all ms)
walked_of cs ms e = ap (λ (rs : List (List Version)). sorted (joined rs)) e ∙ walked_is ms

pub passed_and_left : (n : ℕ) (ys : List Version) → take n ys ++ drop n ys ≡ ys
passed_and_left zero ys = refl
passed_and_left (suc n) [] = refl
passed_and_left (suc n) (y ∷ ys) = ap (λ (r : List Version). y ∷ r) (passed_and_left n ys)

pub span_family : (family : Family) (ys : List Version) (found : Family × KeySpan) → IsSpanOf ys (Some found) → AllByRecursion (λ v. v.family ≡ family) ys → found.0 ≡ family
span_family family [] found h a = absurd h
span_family family (v ∷ vs) found h a = h.0 ∙ a.0

pub span_holds : (ys : List Version) (found : Family × KeySpan) → IsSpanOf ys (Some found) → Covers found.1 ys
span_holds [] found h = absurd h
span_holds (v ∷ vs) found h = h.1
