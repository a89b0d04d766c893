-- A collector's queue.
use Rattle.std.proofs.Common.{◌≡◌, ℕ, zero, suc, ◌-◌, ◌<◌, ◌≤◌, Bool, true, false, cond, List, [], ◌∷◌, ◌++◌, length, get_or, take, drop, Option, Some, None, refl, sym, ap, subst, ◌∙◌, ◌⊎◌, inl, inr, max, min, not, ◌&&◌, ◌||◌, arith, length-append, append_assoc}
use Rattle.std.specs.Prelude.{if◌then◌else◌, slice_get, MatchOption, MatchResult, Result, Ok, Err, IsSome, filter, ◌↔◌, ◌==◌, nat_le, nat_lt}
use Rattle.std.specs.Option.{option_to_list}
use Rattle.std.specs.Result.{is_ok}
use Rattle.std.specs.List.{list_any, AllByRecursion, AllWithin}
use Rattle.std.specs.List.Sorted.{IsPermutation, IsNonDecreasingBy, IsPartitionPoint}
use Rattle.std.proofs.lemmas.Bool.{cases_Bool}
use Rattle.std.proofs.lemmas.Bool.Decides.{nat_tests}
use Rattle.std.proofs.lemmas.List.{take-append-drop, drop-append-le, take-append-le, append-nil, take_at, drop_at}
use Rattle.std.proofs.lemmas.List.Sorted.{list_any-IsPermutation}
use Rattle.std.proofs.lemmas.Slice.Eq.{bytes_eq-Decides}
use Rattle.ts_key.specs.declared.numbers.Seq.{Seq}
use Rattle.ts_key.specs.declared.numbers.Ts.{Ts}
use Rattle.ts_key.specs.declared.version.Version.{Version}
use Rattle.udt_model.specs.declared.reply.KeySpan.{KeySpan}
use Rattle.udt_model.specs.Orders.{is_version_before, is_in_some}
use Rattle.collection_laws.specs.Places.{AreStored}
use Rattle.udt_model.specs.Collecting.{is_hidden, is_ever_seen, is_seen_at, collect, without_useless, seen_of}
use Rattle.udt_model.specs.Orders.{stored}
use Rattle.history_gc.specs.Pushed.{StandsBefore, MayFollow, AreInOrder, BeginsWith, of_last_key, of_other_keys}
use Rattle.ts_key.specs.Ascending.{AreAscending}
use Rattle.history_gc.specs.Streaming.{Last, is_in_last_class, next_last, is_kept, is_snapshot_between, least_sequence, is_old_delete, is_low, trim, trim_on, ends_so}
use Rattle.history_gc.specs.States.{CollectorState, AccountsFor, is_key, AllOf}
use Rattle.history_gc.specs.Collecting.{CollectsAlike, remembered, last_of_run, state_at, HasCollected, HasFinished, HasGiven, HasGivenSettled, HasGivenAll, collection_floor, collection_snapshots, collection_spans, held_of}
use Rattle.history_gc.specs.declared.collector.Collector.{Collector}
use Rattle.history_gc.proofs.Steps.{filter_same, one_if, start_has, pop_has, none_ready, push_other, push_same, of_last_is, settled_front, given_front}

-- ---- the snapshots, by halving

no_seq_between : (seq least : ℕ) (xs : List Seq) → ((k : ℕ) (d : Seq) → k < length xs → least ≤ (get_or xs k d).0) → list_any (is_snapshot_between seq least) xs ≡ false
no_seq_between seq least [] h = refl
no_seq_between seq least (x ∷ xs) h =
    λ i. above x.0 (h 0 x (omega arith)) i || no_seq_between seq least xs (λ k d l. h (suc k) d (omega (arith, l))) i
  where
    above : (e : ℕ) → least ≤ e → (nat_le seq e && nat_lt e least) ≡ false
    above e l = grind (arith, nat_tests)

-- the first sequence from seq on decides
pub first_decides : (seq least : ℕ) (xs : List Seq) (i : ℕ) → IsNonDecreasingBy (λ s. s.0) xs
    → AllWithin (λ (x : Seq). nat_lt x.0 seq ≡ true) xs 0 i → AllWithin (λ (x : Seq). nat_lt x.0 seq ≡ false) xs i (length xs)
    → list_any (is_snapshot_between seq least) xs ≡ (if nat_lt i (length xs) then nat_lt (get_or xs i (record { 0 = 0 })).0 least else false)
first_decides seq least [] i up low high = sym (ap (λ b. if b then nat_lt 0 least else false) (none_in i))
  where
    none_in : (i : ℕ) → nat_lt i 0 ≡ false
    none_in i = grind (arith, nat_tests)
first_decides seq least (x ∷ xs) zero up low high =
    let n : nat_lt x.0 seq ≡ false = high 0 x (omega arith) (omega arith) in
    let first : nat_lt 0 (length (x ∷ xs)) ≡ true = some_in (length xs) in
    elim (cases_Bool (nat_lt x.0 least)) [
      | inl y ↦ ap (λ b. b || list_any (is_snapshot_between seq least) xs) (between x.0 n y) ∙ sym ((λ i. if first i then y i else false))
      | inr m ↦
          ap (λ b. b || list_any (is_snapshot_between seq least) xs) (not_between x.0 m)
          ∙ no_seq_between seq least xs (λ k d l. let u = up 0 (suc k) d (omega arith) (omega (arith, l)) in above x.0 (get_or xs k d).0 m u)
          ∙ sym ((λ i. if first i then m i else false))
    ]
  where
    some_in : (n : ℕ) → nat_lt 0 (suc n) ≡ true
    some_in n = grind (arith, nat_tests)

    between : (e : ℕ) → nat_lt e seq ≡ false → nat_lt e least ≡ true → (nat_le seq e && nat_lt e least) ≡ true
    between e a b = grind (arith, nat_tests)

    not_between : (e : ℕ) → nat_lt e least ≡ false → (nat_le seq e && nat_lt e least) ≡ false
    not_between e a = grind (arith, nat_tests)

    above : (e g : ℕ) → nat_lt e least ≡ false → e ≤ g → least ≤ g
    above e g a b = grind (arith, nat_tests)
first_decides seq least (x ∷ xs) (suc i) up low high =
    let y : nat_lt x.0 seq ≡ true = low 0 x (omega arith) (omega arith) in
    ap (λ b. b || list_any (is_snapshot_between seq least) xs) (not_between x.0 y)
    ∙ first_decides seq least xs i (λ a b d l m. up (suc a) (suc b) d (omega (arith, l)) (omega (arith, m)))
    (λ k d a b. low (suc k) d (omega arith) (omega (arith, b))) (λ k d a b. high (suc k) d (omega (arith, a)) (omega (arith, b)))
    ∙ ap (λ b. if b then nat_lt (get_or xs i (record { 0 = 0 })).0 least else false) (step i (length xs))
  where
    not_between : (e : ℕ) → nat_lt e seq ≡ true → (nat_le seq e && nat_lt e least) ≡ false
    not_between e a = grind (arith, nat_tests)

    step : (i n : ℕ) → nat_lt i n ≡ nat_lt (suc i) (suc n)
    step i n = grind (arith, nat_tests)

default_free : (xs : List Seq) (i : ℕ) (d e : Seq) → i < length xs → get_or xs i d ≡ get_or xs i e
default_free [] i d e l = absurd (omega (arith, l))
default_free (x ∷ xs) zero d e l = refl
default_free (x ∷ xs) (suc i) d e l = default_free xs i d e (omega (arith, l))

is_lt_from : (i n : ℕ) → i < n → nat_lt i n ≡ true
is_lt_from i n l = grind (arith, nat_tests)

is_ge_from : (i n : ℕ) → n ≤ i → nat_lt i n ≡ false
is_ge_from i n l = grind (arith, nat_tests)

pub some_decides : (seq least : ℕ) (xs : List Seq) (i : ℕ) (x : Seq) → AreAscending xs
    → IsPartitionPoint (λ (y : Seq). nat_lt y.0 seq ≡ true) (λ (y : Seq). nat_lt y.0 seq ≡ false) xs i
    → i < length xs → x ≡ get_or xs i x → nat_lt x.0 least ≡ list_any (is_snapshot_between seq least) xs
some_decides seq least xs i x up p l is =
    let z : Seq = record { 0 = 0 } in
    sym (first_decides seq least xs i up p.0 p.1 ∙ (λ j. if is_lt_from i (length xs) l j then nat_lt ((default_free xs i z x l ∙ sym is) j).0 least else false))

pub none_decides : (seq least : ℕ) (xs : List Seq) (i : ℕ) → AreAscending xs
    → IsPartitionPoint (λ (y : Seq). nat_lt y.0 seq ≡ true) (λ (y : Seq). nat_lt y.0 seq ≡ false) xs i
    → length xs ≤ i → false ≡ list_any (is_snapshot_between seq least) xs
none_decides seq least xs i up p l = sym (first_decides seq least xs i up p.0 p.1 ∙ ap (λ b. if b then nat_lt (get_or xs i (record { 0 = 0 })).0 least else false) (is_ge_from i (length xs) l))

-- ---- trimming at the end

pub trim_snoc : (p : Version → Bool) (xs : List Version) (v : Version) → p v ≡ true → trim p (xs ++ v ∷ []) ≡ trim p xs
trim_snoc p [] v e = ap (λ c. if c then [] else v ∷ []) e
trim_snoc p (y ∷ ys) v e = ap (trim_on p y) (trim_snoc p ys v e)

pub trim_stays : (p : Version → Bool) (q : List Version) (d n : ℕ) (x : Version) → d < length q → length q ≡ suc n → x ≡ get_or q n x → p x ≡ false → trim p (drop d q) ≡ drop d q
trim_stays p [] d n x l e is h = absurd (omega arith)
trim_stays p (y ∷ []) zero zero x l e is h = ap (λ c. if c then [] else y ∷ []) (ap p (sym is) ∙ h)
trim_stays p (y ∷ []) zero (suc n) x l e is h = absurd (omega (arith, e))
trim_stays p (y ∷ []) (suc d) n x l e is h = absurd (omega arith)
trim_stays p (y ∷ z ∷ zs) d zero x l e is h = absurd (omega (arith, e))
trim_stays p (y ∷ z ∷ zs) zero (suc n) x l e is h = ap (trim_on p y) (trim_stays p (z ∷ zs) zero n x (omega arith) (omega (arith, e)) is h)
trim_stays p (y ∷ z ∷ zs) (suc d) (suc n) x l e is h = trim_stays p (z ∷ zs) d n x (omega arith) (omega (arith, e)) is h

-- where the last fails the test nothing goes
pub trim_none : (p : Version → Bool) (vs : List Version) → ends_so p vs ≡ false → trim p vs ≡ vs
trim_none p [] h = refl
trim_none p (v ∷ []) h = ap (λ c. if c then [] else v ∷ []) h
trim_none p (v ∷ w ∷ vs) h = ap (trim_on p v) (trim_none p (w ∷ vs) h)

pub ends_drop : (p : Version → Bool) (q : List Version) (d : ℕ) → ends_so p q ≡ false → ends_so p (drop d q) ≡ false
ends_drop p q zero h = h
ends_drop p [] (suc d) h = refl
ends_drop p (v ∷ []) (suc zero) h = refl
ends_drop p (v ∷ []) (suc (suc d)) h = refl
ends_drop p (v ∷ w ∷ vs) (suc d) h = ends_drop p (w ∷ vs) d h

-- tests that agree on all of a list trim it alike
pub trim_alike : (p q : Version → Bool) (vs : List Version) → AllByRecursion (λ v. p v ≡ q v) vs → trim p vs ≡ trim q vs
trim_alike p q [] h = refl
trim_alike p q (v ∷ vs) h = ap (trim_on p v) (trim_alike p q vs h.1) ∙ on (trim q vs)
  where
    on : (ts : List Version) → trim_on p v ts ≡ trim_on q v ts
    on [] = ap (λ c. if c then [] else v ∷ []) h.0
    on (x ∷ xs) = refl

and_right : (a b : Bool) → (a && b) ≡ true → b ≡ true
and_right true b h = h
and_right false b h = absurd cc

flip : (b : Bool) → not b ≡ true → b ≡ false
flip true h = sym h
flip false h = refl

-- in a run of one key whose last lies in no deeper span none does
uncovered : (f : Ts) (deeper : List KeySpan) (k : List ℕ) (vs : List Version) → AllOf k vs → ends_so (is_low f deeper) vs ≡ true → is_in_some deeper k ≡ false
uncovered f deeper k [] a h = absurd cc
uncovered f deeper k (v ∷ []) a h = ap (is_in_some deeper) (sym a.0) ∙ flip (is_in_some deeper v.key) (and_right (is_old_delete f v) (not (is_in_some deeper v.key)) h)
uncovered f deeper k (v ∷ w ∷ vs) a h = uncovered f deeper k (w ∷ vs) a.1 h

low_alike : (f : Ts) (deeper : List KeySpan) (k : List ℕ) (vs : List Version) → AllOf k vs → is_in_some deeper k ≡ false → AllByRecursion (λ v. is_old_delete f v ≡ is_low f deeper v) vs
low_alike f deeper k [] a n = tt
low_alike f deeper k (v ∷ vs) a n = (sym (ap (λ b. is_old_delete f v && not b) (ap (is_in_some deeper) a.0 ∙ n) ∙ and_true (is_old_delete f v)), low_alike f deeper k vs a.1 n)
  where
    and_true : (b : Bool) → (b && true) ≡ b
    and_true true = refl
    and_true false = refl

ends_in_run : (p : Version → Bool) (q : List Version) (d : ℕ) → ends_so p q ≡ true → (drop d q ≡ []) ⊎ (ends_so p (drop d q) ≡ true)
ends_in_run p q zero h = inr h
ends_in_run p [] (suc d) h = inl refl
ends_in_run p (v ∷ []) (suc zero) h = inl refl
ends_in_run p (v ∷ []) (suc (suc d)) h = inl refl
ends_in_run p (v ∷ w ∷ vs) (suc d) h = ends_in_run p (w ∷ vs) d h

-- a run that ends low loses its deletes up to the floor
pub closed_low : (f : Ts) (deeper : List KeySpan) (k : List ℕ) (q : List Version) (d : ℕ) → AllOf k (drop d q) → ends_so (is_low f deeper) q ≡ true → trim (is_old_delete f) (drop d q) ≡ trim (is_low f deeper) (drop d q)
closed_low f deeper k q d a h =
    elim (ends_in_run (is_low f deeper) q d h) [
      | inl e ↦ ap (trim (is_old_delete f)) e ∙ sym (ap (trim (is_low f deeper)) e)
      | inr m ↦ trim_alike (is_old_delete f) (is_low f deeper) (drop d q) (low_alike f deeper k (drop d q) a (uncovered f deeper k (drop d q) a m))
    ]

-- one that doesn't stays
pub closed_not : (f : Ts) (deeper : List KeySpan) (q : List Version) (d : ℕ) → ends_so (is_low f deeper) q ≡ false → q ≡ take d q ++ trim (is_low f deeper) (drop d q)
closed_not f deeper q d h = sym (take-append-drop d q) ∙ ap (λ xs. take d q ++ xs) (sym (trim_none (is_low f deeper) (drop d q) (ends_drop (is_low f deeper) q d h)))

-- what the last one of a list says
pub ends_at : (p : Version → Bool) (q : List Version) (n : ℕ) (x : Version) → length q ≡ suc n → x ≡ get_or q n x → p x ≡ ends_so p q
ends_at p [] n x e is = absurd (omega (arith, e))
ends_at p (y ∷ []) zero x e is = ap p is
ends_at p (y ∷ []) (suc n) x e is = absurd (omega (arith, e))
ends_at p (y ∷ z ∷ zs) zero x e is = absurd (omega (arith, e))
ends_at p (y ∷ z ∷ zs) (suc n) x e is = ends_at p (z ∷ zs) n x (omega (arith, e)) is

pub ends_none : (p : Version → Bool) (q : List Version) → length q ≡ 0 → false ≡ ends_so p q
ends_none p [] e = refl
ends_none p (x ∷ xs) e = absurd (omega (arith, e))

-- the last one left
pub popped : (q r : List Version) (o : Option Version) (x : Version) → q ≡ r ++ option_to_list o → o ≡ Some x → q ≡ r ++ x ∷ []
popped q r o x e s = e ∙ ap (λ p. r ++ option_to_list p) s

none_some : IsSome {T = Version} None → ⊥
none_some h = cc

-- ---- states

module _ (f : Ts) (ss : List Seq) (deeper : List KeySpan) where
  pub start_is : (q : List Version) → q ≡ [] → AccountsFor f ss deeper (state_at 0 0 0 q) [] []
  start_is q e = subst (λ xs. AccountsFor f ss deeper (state_at 0 0 0 xs) [] []) (sym e) (start_has f ss deeper)

  pop_some : (class least d : ℕ) (x : Version) (xs : List Version) (ps qs : List Version) → 0 < d → AccountsFor f ss deeper (state_at class least d (x ∷ xs)) ps qs → AccountsFor f ss deeper (state_at class least (d - 1) xs) ps (qs ++ x ∷ [])
  pop_some class least zero x xs ps qs l h = absurd (omega arith)
  pop_some class least (suc n) x xs ps qs l h =
      let e : suc n - 1 ≡ n = omega arith in
      subst (λ m. AccountsFor f ss deeper (state_at class least m xs) ps (qs ++ x ∷ [])) (sym e)
      (pop_has f ss deeper (state_at class least (suc n) (x ∷ xs)) ps qs x (take n xs) refl h)

  pub pop_is : (class least d : ℕ) (q r : List Version) (o : Option Version) (ps qs : List Version) (P : Type 0) → 0 < d → q ≡ option_to_list o ++ r → IsSome o → AccountsFor f ss deeper (state_at class least d q) ps qs
      → MatchOption o P (λ v. AccountsFor f ss deeper (state_at class least (d - 1) r) ps (qs ++ v ∷ []))
  pop_is class least d q r None ps qs P l e n h = absurd (none_some n)
  pop_is class least d q r (Some x) ps qs P l e n h = pop_some class least d x r ps qs l (subst (λ xs. AccountsFor f ss deeper (state_at class least d xs) ps qs) e h)

  pub pop_none : (class least d : ℕ) (q : List Version) (ps qs : List Version) → d ≡ 0 → AccountsFor f ss deeper (state_at class least d q) ps qs → qs ≡ collect (of_other_keys ps) f ss deeper
  pop_none class least zero q ps qs z h = none_ready f ss deeper (state_at class least zero q) ps qs refl h
  pop_none class least (suc d) q ps qs z h = absurd (omega (arith, z))

  pub run_within : (class least d : ℕ) (q : List Version) (ps qs : List Version) → d ≡ 0 → AccountsFor f ss deeper (state_at class least d q) ps qs → length q ≤ length (of_last_key ps)
  run_within class least zero q ps qs z h =
      let b = h.bound in
      let e = ap length (of_last_is f ps (remembered class least (last_of_run q)) h.last) in
      omega (arith, b, e)
  run_within class least (suc d) q ps qs z h = absurd (omega (arith, z))

-- ---- a version more

last_one : (xs : List Version) (v : Version) → last_of_run (xs ++ v ∷ []) ≡ Some v
last_one xs v = ap (slice_get (xs ++ v ∷ [])) (omega (arith, length-append xs (v ∷ []))) ∙ at_end xs v
  where
    at_end : (xs : List Version) (v : Version) → slice_get (xs ++ v ∷ []) (length xs) ≡ Some v
    at_end [] v = refl
    at_end (x ∷ xs) v = at_end xs v

not_same : (f : Ts) (o : Option Last) (v : Version) → is_key o v ≡ false → is_in_last_class f o v ≡ false
not_same f None v e = refl
not_same f (Some l) v e = rw e refl

module _ (f : Ts) (ss : List Seq) (deeper : List KeySpan) (class least d : ℕ) (q : List Version) (ps qs : List Version) (v : Version)
    (h : AccountsFor f ss deeper (state_at class least d q) ps qs) (b : MayFollow ps v)
  where
    abbrev st : CollectorState
    st = state_at class least d q

    -- of another key
    pub push_new : (q1 : List Version) → is_key st.last v ≡ false → q1 ≡ take d q ++ trim (is_low f deeper) (drop d q) → AccountsFor f ss deeper (state_at (max v.ts.0 f.0) v.seq.0 (length q1) (q1 ++ v ∷ [])) (ps ++ v ∷ []) qs
    push_new q1 k e =
        let front : take (length q1) (q1 ++ v ∷ []) ≡ q1 = take_at q1 (v ∷ []) (length q1) refl in
        let back : drop (length q1) (q1 ++ v ∷ []) ≡ v ∷ [] = drop_at q1 (v ∷ []) (length q1) refl in
        let n : is_in_last_class f st.last v ≡ false = not_same f st.last v k in
        let last : remembered (max v.ts.0 f.0) v.seq.0 (last_of_run (drop (length q1) (q1 ++ v ∷ []))) ≡ Some (next_last f st.last v) =
        ap (λ xs. remembered (max v.ts.0 f.0) v.seq.0 (last_of_run xs)) back ∙ sym (ap (λ c. Some (record { key = v.key; class = max v.ts.0 f.0; least = if c then min (least_sequence st.last) v.seq.0 else v.seq.0 })) n) in
        let same : state_at (max v.ts.0 f.0) v.seq.0 (length q1) (q1 ++ v ∷ []) ≡ record { ready = st.ready ++ trim (is_low f deeper) st.run; run = v ∷ []; last = Some (next_last f st.last v) } =
        λ i. record { ready = (front ∙ e) i; run = back i; last = last i } in
        subst (λ x. AccountsFor f ss deeper x (ps ++ v ∷ []) qs) (sym same) (push_other f ss deeper st ps qs v h b k)

    -- of the last key: what is remembered
    keyed : (o : Option Version) → is_key (remembered class least o) v ≡ true → (u : Version) × (o ≡ Some u) × (u.key ≡ v.key)
    keyed None k = absurd cc
    keyed (Some u) k = (u, refl, (bytes_eq-Decides u.key v.key).0 k)

    same_is : (o : Option Version) → is_key (remembered class least o) v ≡ true → is_in_last_class f (remembered class least o) v ≡ (class == max v.ts.0 f.0)
    same_is None k = absurd cc
    same_is (Some u) k = ap (λ c. c && class == max v.ts.0 f.0) k

    least_is : (o : Option Version) → is_key (remembered class least o) v ≡ true → least_sequence (remembered class least o) ≡ least
    least_is None k = absurd cc
    least_is (Some u) k = refl

    abbrev kept_test : Bool
    kept_test = not (class == max v.ts.0 f.0) || list_any (is_snapshot_between v.seq.0 least) ss

    kept_same : is_key st.last v ≡ true → is_kept f ss st.last v ≡ kept_test
    kept_same k =
        let o = last_of_run (drop d q) in
        ap (λ c. not c || list_any (is_snapshot_between v.seq.0 (least_sequence st.last)) ss) (same_is o k) ∙ ap (λ m. not (class == max v.ts.0 f.0) || list_any (is_snapshot_between v.seq.0 m) ss) (least_is o k)

    abbrev least_next : ℕ
    least_next = if class == max v.ts.0 f.0 then min least v.seq.0 else v.seq.0

    next_same : is_key st.last v ≡ true → next_last f st.last v ≡ record { key = v.key; class = max v.ts.0 f.0; least = least_next }
    next_same k =
        let o = last_of_run (drop d q) in
        ap (λ c. record { key = v.key; class = max v.ts.0 f.0; least = if c then min (least_sequence st.last) v.seq.0 else v.seq.0 }) (same_is o k)
        ∙ ap (λ m. record { key = v.key; class = max v.ts.0 f.0; least = if class == max v.ts.0 f.0 then min m v.seq.0 else v.seq.0 }) (least_is o k)

    pub push_kept : d ≤ length q → is_key st.last v ≡ true → kept_test ≡ true → AccountsFor f ss deeper (state_at (max v.ts.0 f.0) least_next d (q ++ v ∷ [])) (ps ++ v ∷ []) qs
    push_kept l k y =
        let front : take d (q ++ v ∷ []) ≡ take d q = take-append-le d q (v ∷ []) l in
        let back : drop d (q ++ v ∷ []) ≡ drop d q ++ v ∷ [] = drop-append-le d q (v ∷ []) l in
        let last : remembered (max v.ts.0 f.0) least_next (last_of_run (drop d (q ++ v ∷ []))) ≡ Some (next_last f st.last v) =
        ap (λ xs. remembered (max v.ts.0 f.0) least_next (last_of_run xs)) back ∙ ap (remembered (max v.ts.0 f.0) least_next) (last_one (drop d q) v) ∙ sym (ap Some (next_same k)) in
        let run : drop d (q ++ v ∷ []) ≡ st.run ++ one_if (is_kept f ss st.last v) v =
        back ∙ sym (ap (λ c. st.run ++ one_if c v) (kept_same k ∙ y)) in
        let same : state_at (max v.ts.0 f.0) least_next d (q ++ v ∷ []) ≡ record { ready = st.ready; run = st.run ++ one_if (is_kept f ss st.last v) v; last = Some (next_last f st.last v) } =
        λ i. record { ready = front i; run = run i; last = last i } in
        subst (λ x. AccountsFor f ss deeper x (ps ++ v ∷ []) qs) (sym same) (push_same f ss deeper st ps qs v h b k)

    pub push_left : is_key st.last v ≡ true → kept_test ≡ false → AccountsFor f ss deeper (state_at (max v.ts.0 f.0) least_next d q) (ps ++ v ∷ []) qs
    push_left k y =
        let u = keyed (last_of_run (drop d q)) k in
        let last : remembered (max v.ts.0 f.0) least_next (last_of_run (drop d q)) ≡ Some (next_last f st.last v) =
        ap (remembered (max v.ts.0 f.0) least_next) u.1 ∙ ap (λ m. Some (record { key = m; class = max v.ts.0 f.0; least = least_next })) u.2 ∙ sym (ap Some (next_same k)) in
        let run : st.run ≡ st.run ++ one_if (is_kept f ss st.last v) v = sym (append-nil st.run) ∙ sym (ap (λ c. st.run ++ one_if c v) (kept_same k ∙ y)) in
        let same : state_at (max v.ts.0 f.0) least_next d q ≡ record { ready = st.ready; run = st.run ++ one_if (is_kept f ss st.last v) v; last = Some (next_last f st.last v) } =
        λ i. record { ready = st.ready; run = run i; last = last i } in
        subst (λ x. AccountsFor f ss deeper x (ps ++ v ∷ []) qs) (sym same) (push_same f ss deeper st ps qs v h b k)

pub push_is : (f : Ts) (ss : List Seq) (deeper : List KeySpan) (class least d : ℕ) (q : List Version) (ps qs : List Version) (v : Version)
    → AccountsFor f ss deeper (state_at class least d q) ps qs → MayFollow ps v → d ≤ length q
    → (same_key : Bool) → same_key ≡ is_key (state_at class least d q).last v
    → (q1 : List Version) (d1 : ℕ) → (same_key ≡ true → (q1 ≡ q) × (d1 ≡ d))
    → (same_key ≡ false → (k : List ℕ) → AllOf k (drop d q) → (q1 ≡ take d q ++ trim (is_low f deeper) (drop d q)) × (d1 ≡ length q1))
    → (kept : Bool) → kept ≡ (not (same_key && class == max v.ts.0 f.0) || list_any (is_snapshot_between v.seq.0 least) ss)
    → (class1 least1 : ℕ) → class1 ≡ max v.ts.0 f.0 → least1 ≡ (if same_key && class == max v.ts.0 f.0 then min least v.seq.0 else v.seq.0)
    → (q2 : List Version) → q2 ≡ (if kept then q1 ++ v ∷ [] else q1)
    → AccountsFor f ss deeper (state_at class1 least1 d1 q2) (ps ++ v ∷ []) qs
push_is f ss deeper class least d q ps qs v h b l true k q1 d1 t n true y class1 least1 ce le q2 qe =
    let s = t refl in
    let path : state_at class1 least1 d1 q2 ≡ state_at (max v.ts.0 f.0) (least_next f ss deeper class least d q ps qs v h b) d (q ++ v ∷ []) = λ i. state_at (ce i) (le i) (s.1 i) ((qe ∙ ap (λ xs. xs ++ v ∷ []) s.0) i) in
    subst (λ x. AccountsFor f ss deeper x (ps ++ v ∷ []) qs) (sym path) (push_kept f ss deeper class least d q ps qs v h b l (sym k) (sym y))
push_is f ss deeper class least d q ps qs v h b l true k q1 d1 t n false y class1 least1 ce le q2 qe =
    let s = t refl in
    let path : state_at class1 least1 d1 q2 ≡ state_at (max v.ts.0 f.0) (least_next f ss deeper class least d q ps qs v h b) d q = λ i. state_at (ce i) (le i) (s.1 i) ((qe ∙ s.0) i) in
    subst (λ x. AccountsFor f ss deeper x (ps ++ v ∷ []) qs) (sym path) (push_left f ss deeper class least d q ps qs v h b (sym k) (sym y))
push_is f ss deeper class least d q ps qs v h b l false k q1 d1 t n true y class1 least1 ce le q2 qe =
    let s = n refl h.key h.of_run in
    let path : state_at class1 least1 d1 q2 ≡ state_at (max v.ts.0 f.0) v.seq.0 (length q1) (q1 ++ v ∷ []) = λ i. state_at (ce i) (le i) (s.1 i) (qe i) in
    subst (λ x. AccountsFor f ss deeper x (ps ++ v ∷ []) qs) (sym path) (push_new f ss deeper class least d q ps qs v h b q1 (sym k) s.0)
push_is f ss deeper class least d q ps qs v h b l false k q1 d1 t n false y class1 least1 ce le q2 qe = absurd cc

pub moved : (f g : Ts) (ss rr : List Seq) (dd ee : List KeySpan) (st : CollectorState) (ps qs : List Version) → f ≡ g → ss ≡ rr → dd ≡ ee → AccountsFor f ss dd st ps qs → AccountsFor g rr ee st ps qs
moved f g ss rr dd ee st ps qs a b c h =
    subst (λ x. AccountsFor g rr x st ps qs) c (subst (λ x. AccountsFor g x dd st ps qs) b (subst (λ x. AccountsFor x ss dd st ps qs) a h))

-- ---- a collector

pub collected_from : (c : Collector) (ps qs : List Version) → AccountsFor (collection_floor c) (collection_snapshots c) (collection_spans c) (state_at c.class c.least c.decided c.queue.items) ps qs → HasCollected c ps qs
collected_from c ps qs h = record { front = given_front (collection_floor c) (collection_snapshots c) (collection_spans c) (state_at c.class c.least c.decided c.queue.items) ps qs h; inside = h }

pub none_popped : (c : Collector) (ps qs : List Version) → c.decided ≡ 0 → HasCollected c ps qs → HasGivenSettled c ps qs
none_popped c ps qs z h = record {
  given = pop_none (collection_floor c) (collection_snapshots c) (collection_spans c) c.class c.least c.decided c.queue.items ps qs z h.inside;
  held = run_within (collection_floor c) (collection_snapshots c) (collection_spans c) c.class c.least c.decided c.queue.items ps qs z h.inside;
  collected = h;
}

pub match_map : (o : Option Version) (P : Type 0) (A B : Version → Type 0) → ((v : Version) → A v → B v) → MatchOption o P A → MatchOption o P B
match_map None P A B h m = m
match_map (Some v) P A B h m = h v m

pub given_from : (c : Collector) (ps qs : List Version) (v : Version) → AccountsFor (collection_floor c) (collection_snapshots c) (collection_spans c) (state_at c.class c.least c.decided c.queue.items) ps (qs ++ v ∷ []) → HasGiven c ps qs v
given_from c ps qs v h = record {
  others = settled_front (collection_floor c) (collection_snapshots c) (collection_spans c) (state_at c.class c.least c.decided c.queue.items) ps (qs ++ v ∷ []) h;
  collected = collected_from c ps (qs ++ v ∷ []) h;
}

-- after the end
all_on : (qs q r : List Version) (v : Version) (ws : List Version) → q ≡ v ∷ r → qs ++ q ≡ ws → (qs ++ v ∷ []) ++ r ≡ ws
all_on qs q r v ws e h = append_assoc qs (v ∷ []) r ∙ ap (λ (xs : List Version). qs ++ xs) (sym e) ∙ h

pub popped_finished : (c : Collector) (r : List Version) (o : Option Version) (ps qs : List Version) (P : Type 0) → c.queue.items ≡ option_to_list o ++ r → IsSome o → HasFinished c ps qs
    → MatchOption o P (λ v. ((qs ++ v ∷ []) ++ r ≡ collect ps (collection_floor c) (collection_snapshots c) (collection_spans c)) × (c.decided - 1 ≡ length r))
popped_finished c r None ps qs P e n h = absurd (none_some n)
popped_finished c r (Some v) ps qs P e n h = (
  all_on qs c.queue.items r v (collect ps (collection_floor c) (collection_snapshots c) (collection_spans c)) e h.all,
  let d = h.decided in let l = ap length e in omega (arith, d, l),
)

pub none_finished : (c : Collector) (ps qs : List Version) → c.decided ≡ 0 → HasFinished c ps qs → HasGivenAll c ps qs
none_finished c ps qs z h = record {
  given = sym (append-nil qs) ∙ ap (λ (xs : List Version). qs ++ xs) (sym (no_more c.queue.items (sym h.decided ∙ z))) ∙ h.all;
  none = sym h.decided ∙ z;
}
  where
    no_more : (xs : List Version) → length xs ≡ 0 → xs ≡ []
    no_more [] e = refl
    no_more (x ∷ xs) e = absurd (omega (arith, e))

-- ---- a list in stored order, version by version

mid_all : (P : Version → Type 0) (us : List Version) (v : Version) (vs : List Version) → AllByRecursion P (us ++ v ∷ vs) → P v
mid_all P [] v vs h = h.0
mid_all P (u ∷ us) v vs h = mid_all P us v vs h.1

mid_next : (us : List Version) (v : Version) (vs : List Version) → AreInOrder (us ++ v ∷ vs) → MayFollow us v
mid_next [] v vs s = tt
mid_next (u ∷ us) v vs s = (mid_all (λ w. StandsBefore u w) us v vs s.0, mid_next us v vs s.1)

pub next_of : (front : List Version) (v : Version) (rest all : List Version) → front ++ v ∷ rest ≡ all → AreInOrder all → MayFollow front v
next_of front v rest all e s = mid_next front v rest (subst AreInOrder (sym e) s)

pub one_on : (front rest more all : List Version) (o : Option Version) (v : Version) → o ≡ Some v → rest ≡ option_to_list o ++ more → front ++ rest ≡ all → front ++ v ∷ more ≡ all
one_on front rest more all o v e f h = ap (λ (l : List Version). front ++ l) (sym (f ∙ ap (λ p. option_to_list p ++ more) e)) ∙ h

pub fewer_left : (rest more : List Version) (o : Option Version) (v : Version) → o ≡ Some v → rest ≡ option_to_list o ++ more → length rest ≡ suc (length more)
fewer_left rest more o v e f = let q : rest ≡ v ∷ more = f ∙ ap (λ p. option_to_list p ++ more) e in ap length q

pub none_left : (front rest all : List Version) (n : ℕ) (o : Option Version) → length rest ≡ n → o ≡ None → (IsSome o ↔ (0 < n)) → front ++ rest ≡ all → front ≡ all
none_left front [] all n o q e f h = sym (append-nil front) ∙ h
none_left front (x ∷ rest) all n o q e f h = absurd (none_some (subst IsSome e (f.1 (omega (arith, q)))))

-- versions of one family in the stored order
pub order_from : (family : ℕ) (vs : List Version) → AreStored vs → AllByRecursion (λ v. v.family.0 ≡ family) vs → AreInOrder vs
order_from family [] s a = tt
order_from family (v ∷ vs) s a = (each v vs a.0 s.0 a.1, order_from family vs s.1 a.1)
  where
    each : (v : Version) (ws : List Version) → v.family.0 ≡ family → AllByRecursion (λ w. is_version_before v w ≡ true) ws → AllByRecursion (λ w. w.family.0 ≡ family) ws → AllByRecursion (λ w. StandsBefore v w) ws
    each v [] e b a = tt
    each v (w ∷ ws) e b a = ((e ∙ sym a.0, b.0), each v ws e b.1 a.1)

-- ---- the order of the snapshots doesn't matter

pub snapshots_moved : (ps : List Version) (f : Ts) (ss rr : List Seq) (deeper : List KeySpan) → IsPermutation ss rr → collect ps f ss deeper ≡ collect ps f rr deeper
snapshots_moved ps f ss rr deeper m =
    ap (λ ks. stored (without_useless f deeper ks)) (filter_same (is_ever_seen ps f ss) (is_ever_seen ps f rr) ps (λ v. ap (λ b. not (is_hidden ps f v) || b) (list_any-IsPermutation (is_seen_at ps f v) ss rr m)))

-- ---- from one collector to the next

pub alike_through : (a b c : Collector) → CollectsAlike a b → CollectsAlike b c → CollectsAlike a c
alike_through a b c x y = record { floor = y.floor ∙ x.floor; snapshots = y.snapshots ∙ x.snapshots; spans = y.spans ∙ x.spans }

pub ok_of : {T E : Type 0} (r : Result T E) (A B : Type 0) → is_ok r ≡ true → MatchResult r (λ _. A) (λ _. B) → A
ok_of (Ok x) A B e m = m
ok_of (Err x) A B e m = absurd cc

pub lt_from : (a b : ℕ) → true ≡ nat_lt a b → a < b
lt_from a b h = grind (arith, nat_tests)

pub ge_from : (a b : ℕ) → false ≡ nat_lt a b → b ≤ a
ge_from a b h = grind (arith, nat_tests)
