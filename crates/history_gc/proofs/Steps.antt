-- What a collector knows, step by step.
use Rattle.std.proofs.Common.{◌≡◌, ℕ, ◌+◌, ◌≤◌, Bool, true, false, cond, not, List, [], ◌∷◌, ◌++◌, length, Option, Some, None, refl, sym, ap, subst, ◌∙◌, inl, inr, arith, append_assoc, length-append}
use Rattle.std.specs.Prelude.{filter, if◌then◌else◌}
use Rattle.std.specs.List.{AllByRecursion}
use Rattle.std.specs.Str.{bytes_eq}
use Rattle.std.proofs.lemmas.Bool.{cases_Bool}
use Rattle.std.proofs.lemmas.List.{append-nil}
use Rattle.std.proofs.lemmas.List.Elements.{filter-append}
use Rattle.std.proofs.lemmas.Slice.Eq.{bytes_eq-Decides}
use Rattle.ts_key.specs.declared.numbers.Seq.{Seq}
use Rattle.ts_key.specs.declared.numbers.Ts.{Ts}
use Rattle.ts_key.specs.declared.version.Version.{Version}
use Rattle.udt_model.specs.declared.reply.KeySpan.{KeySpan}
use Rattle.udt_model.specs.Orders.{is_version_before}
use Rattle.collection_laws.specs.Places.{AreStored}
use Rattle.udt_model.specs.Collecting.{is_ever_seen, is_useless, seen_of, without_useless, collect}
use Rattle.collection_laws.proofs.Storing.{stored_filter, stored_is}
use Rattle.history_gc.specs.Pushed.{StandsBefore, MayFollow, AreInOrder, BeginsWith, last_from, has_key_of, of_last_key, of_other_keys}
use Rattle.history_gc.specs.Streaming.{Last, next_last, is_low, is_kept, kept_from, kept_versions, trim}
use Rattle.history_gc.specs.States.{CollectorState, AccountsFor, is_key, last_after, AllOf, NoneOf}
use Rattle.history_gc.proofs.Kept.{AllNext, next_more, all_free, kept_is_seen, between_keys}
use Rattle.history_gc.proofs.Spent.{all_snoc, useless_more}

abbrev pub one_if : Bool → Version → List Version
one_if b v = if b then v ∷ [] else []

-- the state after a version more
abbrev pub pushed : Ts → List Seq → List KeySpan → CollectorState → Version → CollectorState
pushed f ss deeper st v =
    if is_key st.last v
    then record { ready = st.ready; run = st.run ++ one_if (is_kept f ss st.last v) v; last = Some (next_last f st.last v) }
    else record { ready = st.ready ++ trim (is_low f deeper) st.run; run = v ∷ []; last = Some (next_last f st.last v) }

-- ---- the collection of versions in order

ordered_all : (v : Version) (vs : List Version) → AllByRecursion (λ w. StandsBefore v w) vs → AllByRecursion (λ w. is_version_before v w ≡ true) vs
ordered_all v [] h = tt
ordered_all v (w ∷ ws) h = (h.0.1, ordered_all v ws h.1)

pub in_order_stored : (vs : List Version) → AreInOrder vs → AreStored vs
in_order_stored [] h = tt
in_order_stored (v ∷ vs) h = (ordered_all v vs h.0, in_order_stored vs h.1)

pub collect_is : (f : Ts) (ss : List Seq) (deeper : List KeySpan) (ps : List Version) → AreInOrder ps → collect ps f ss deeper ≡ kept_versions f ss deeper ps
collect_is f ss deeper ps s =
    stored_is (kept_versions f ss deeper ps) (stored_filter (λ v. not (is_useless (seen_of ps f ss) f deeper v)) (seen_of ps f ss) (stored_filter (is_ever_seen ps f ss) ps (in_order_stored ps s)))

-- ---- lists with one more

kept_snoc : (f : Ts) (ss : List Seq) (o : Option Last) (ps : List Version) (v : Version) → kept_from f ss o (ps ++ v ∷ []) ≡ kept_from f ss o ps ++ one_if (is_kept f ss (last_after f o ps) v) v
kept_snoc f ss o [] v = refl
kept_snoc f ss o (u ∷ us) v =
    ap (λ r. if is_kept f ss o u then u ∷ r else r) (kept_snoc f ss (Some (next_last f o u)) us v)
    ∙ front (is_kept f ss o u) u (kept_from f ss (Some (next_last f o u)) us) (one_if (is_kept f ss (last_after f (Some (next_last f o u)) us) v) v)
  where
    front : (b : Bool) (u : Version) (xs ys : List Version) → (if b then u ∷ (xs ++ ys) else xs ++ ys) ≡ (if b then u ∷ xs else xs) ++ ys
    front true u xs ys = refl
    front false u xs ys = refl

last_snoc : (f : Ts) (o : Option Last) (ps : List Version) (v : Version) → last_after f o (ps ++ v ∷ []) ≡ Some (next_last f (last_after f o ps) v)
last_snoc f o [] v = refl
last_snoc f o (u ∷ us) v = last_snoc f (Some (next_last f o u)) us v

last_is : (o : Option Version) (ps : List Version) (v : Version) → last_from o (ps ++ v ∷ []) ≡ Some v
last_is o [] v = refl
last_is o (u ∷ us) v = last_is (Some u) us v

-- the key that is remembered is the last one's
key_on : (f : Ts) (o : Option Last) (p : Option Version) (ps : List Version) → ((u : Version) → is_key o u ≡ has_key_of p u) → (u : Version) → is_key (last_after f o ps) u ≡ has_key_of (last_from p ps) u
key_on f o p [] h u = h u
key_on f o p (v ∷ vs) h u = key_on f (Some (next_last f o v)) (Some v) vs (λ w. refl) u

key_is : (f : Ts) (ps : List Version) (u : Version) → is_key (last_after f None ps) u ≡ has_key_of (last_from None ps) u
key_is f ps u = key_on f None None ps (λ w. refl) u

after_snoc : (u v : Version) (us : List Version) → AllByRecursion (λ w. StandsBefore u w) us → StandsBefore u v → AllByRecursion (λ w. StandsBefore u w) (us ++ v ∷ [])
after_snoc u v [] h l = (l, tt)
after_snoc u v (w ∷ ws) h l = (h.0, after_snoc u v ws h.1 l)

pub order_snoc : (ps : List Version) (v : Version) → AreInOrder ps → MayFollow ps v → AreInOrder (ps ++ v ∷ [])
order_snoc [] v s b = (tt, tt)
order_snoc (u ∷ us) v s b = (after_snoc u v us s.0 b.0, order_snoc us v s.1 b.1)

none_snoc : (k : List ℕ) (ps : List Version) (v : Version) → NoneOf k ps → (v.key ≡ k → ⊥) → NoneOf k (ps ++ v ∷ [])
none_snoc k [] v h n = (n, tt)
none_snoc k (u ∷ us) v h n = (h.0, none_snoc k us v h.1 n)

none_filter : (k : List ℕ) (p : Version → Bool) (ps : List Version) → NoneOf k ps → NoneOf k (filter p ps)
none_filter k p [] h = tt
none_filter k p (u ∷ us) h =
    elim (cases_Bool (p u)) [
      | inl y ↦ rw y (h.0, none_filter k p us h.1)
      | inr y ↦ rw y (none_filter k p us h.1)
    ]

next_filter : (p : Version → Bool) (v : Version) (ps : List Version) → MayFollow ps v → MayFollow (filter p ps) v
next_filter p v [] h = tt
next_filter p v (u ∷ us) h =
    elim (cases_Bool (p u)) [
      | inl y ↦ rw y (h.0, next_filter p v us h.1)
      | inr y ↦ rw y (next_filter p v us h.1)
    ]

next_tail : (xs ys : List Version) (v : Version) → MayFollow (xs ++ ys) v → MayFollow ys v
next_tail [] ys v h = h
next_tail (x ∷ xs) ys v h = next_tail xs ys v h.1

-- v stands between u and w: then u of w's key is of v's key
none_of_between : (ps : List Version) (v w : Version) → MayFollow ps v → StandsBefore v w → (v.key ≡ w.key → ⊥) → NoneOf w.key ps
none_of_between [] v w b l n = tt
none_of_between (u ∷ us) v w b l n = ((λ e. n (sym (between_keys u v w b.0 l e) ∙ e)), none_of_between us v w b.1 l n)

split_front : (ps : List Version) (v w : Version) → MayFollow (ps ++ v ∷ []) w → MayFollow ps w × StandsBefore v w
split_front [] v w h = (tt, h.0)
split_front (u ∷ us) v w h = let r = split_front us v w h.1 in ((h.0, r.0), r.1)

same_bytes : (a b : List ℕ) → bytes_eq a b ≡ true → a ≡ b
same_bytes a b e = (bytes_eq-Decides a b).0 e

own_key : (v : Version) → bytes_eq v.key v.key ≡ true
own_key v = (bytes_eq-Decides v.key v.key).1 refl

-- all of them are of other keys
filter_others : (v : Version) (ps : List Version) → NoneOf v.key ps → filter (λ u. not (has_key_of (Some v) u)) ps ≡ ps
filter_others v [] h = refl
filter_others v (u ∷ us) h =
    elim (cases_Bool (bytes_eq v.key u.key)) [
      | inl y ↦ absurd (h.0 (sym (same_bytes v.key u.key y)))
      | inr y ↦ rw y (ap (λ xs. u ∷ xs) (filter_others v us h.1))
    ]

-- ---- the settled ones with one more

settled_other : (ps : List Version) (v : Version) → NoneOf v.key ps → of_other_keys (ps ++ v ∷ []) ≡ ps
settled_other ps v n =
    ap (λ l. filter (λ u. not (has_key_of l u)) (ps ++ v ∷ [])) (last_is None ps v)
    ∙ filter-append (λ u. not (has_key_of (Some v) u)) ps (v ∷ [])
    ∙ ap (λ xs. xs ++ filter (λ u. not (has_key_of (Some v) u)) (v ∷ [])) (filter_others v ps n)
    ∙ ap (λ b. ps ++ cond (not b) (v ∷ []) []) (own_key v)
    ∙ append-nil ps

key_alike : (o : Option Version) (v u : Version) → has_key_of o v ≡ true → has_key_of (Some v) u ≡ has_key_of o u
key_alike None v u e = absurd cc
key_alike (Some l) v u e = ap (λ k. bytes_eq k u.key) (sym (same_bytes l.key v.key e))

filter_alike : (o : Option Version) (v : Version) (ps : List Version) → has_key_of o v ≡ true → filter (λ u. not (has_key_of (Some v) u)) ps ≡ filter (λ u. not (has_key_of o u)) ps
filter_alike o v [] e = refl
filter_alike o v (u ∷ us) e = λ i. cond (not (key_alike o v u e i)) (u ∷ filter_alike o v us e i) (filter_alike o v us e i)

settled_same : (ps : List Version) (v : Version) → has_key_of (last_from None ps) v ≡ true → of_other_keys (ps ++ v ∷ []) ≡ of_other_keys ps
settled_same ps v e =
    let o = last_from None ps in
    ap (λ l. filter (λ u. not (has_key_of l u)) (ps ++ v ∷ [])) (last_is None ps v)
    ∙ filter-append (λ u. not (has_key_of (Some v) u)) ps (v ∷ [])
    ∙ ap (λ xs. xs ++ filter (λ u. not (has_key_of (Some v) u)) (v ∷ [])) (filter_alike o v ps e)
    ∙ ap (λ b. of_other_keys ps ++ cond (not b) (v ∷ []) []) (own_key v)
    ∙ append-nil (of_other_keys ps)

-- ---- how many are of the last key

remembered_alike : (f : Ts) (o : Option Last) (v u : Version) → is_key o v ≡ true → is_key (Some (next_last f o v)) u ≡ is_key o u
remembered_alike f None v u e = absurd cc
remembered_alike f (Some l) v u e = ap (λ k. bytes_eq k u.key) (sym (same_bytes l.key v.key e))

of_key_snoc : (o : Option Last) (ps : List Version) (v : Version) → is_key o v ≡ true → length (filter (is_key o) (ps ++ v ∷ [])) ≡ length (filter (is_key o) ps) + 1
of_key_snoc o ps v e =
    ap length (filter-append (is_key o) ps (v ∷ []))
    ∙ ap (λ b. length (filter (is_key o) ps ++ cond b (v ∷ []) [])) e
    ∙ omega (arith, length-append (filter (is_key o) ps) (v ∷ []))

of_key_alike : (f : Ts) (o : Option Last) (v : Version) (ps : List Version) → is_key o v ≡ true → filter (is_key (Some (next_last f o v))) ps ≡ filter (is_key o) ps
of_key_alike f o v [] e = refl
of_key_alike f o v (u ∷ us) e = λ i. cond (remembered_alike f o v u e i) (u ∷ of_key_alike f o v us e i) (of_key_alike f o v us e i)

one_more : (b : Bool) (xs : List Version) (v : Version) → length (xs ++ one_if b v) ≤ length xs + 1
one_more true xs v = omega (arith, length-append xs (v ∷ []))
one_more false xs v = omega (arith, length-append xs [])

pub filter_same : (p q : Version → Bool) (xs : List Version) → ((v : Version) → p v ≡ q v) → filter p xs ≡ filter q xs
filter_same p q [] h = refl
filter_same p q (x ∷ xs) h = λ i. cond (h x i) (x ∷ filter_same p q xs h i) (filter_same p q xs h i)

-- what is remembered finds the versions of the last key
pub of_last_is : (f : Ts) (ps : List Version) (o : Option Last) → last_after f None ps ≡ o → filter (is_key o) ps ≡ of_last_key ps
of_last_is f ps o e = ap (λ l. filter (is_key l) ps) (sym e) ∙ filter_same (is_key (last_after f None ps)) (has_key_of (last_from None ps)) ps (key_is f ps)

-- ---- a step

run_key : (c : Bool) (xs : List Version) (v : Version) (k : List ℕ) → AllOf k xs → v.key ≡ k → AllOf k (xs ++ one_if c v)
run_key true xs v k h e = all_snoc k xs v h e
run_key false xs v k h e = subst (AllOf k) (sym (append-nil xs)) h

run_sorted : (c : Bool) (xs : List Version) (v : Version) → AreInOrder xs → MayFollow xs v → AreInOrder (xs ++ one_if c v)
run_sorted true xs v h b = order_snoc xs v h b
run_sorted false xs v h b = subst AreInOrder (sym (append-nil xs)) h

module _ (f : Ts) (ss : List Seq) (deeper : List KeySpan) where
  kept_more : (ps : List Version) (v : Version) → AreInOrder ps → MayFollow ps v → seen_of (ps ++ v ∷ []) f ss ≡ seen_of ps f ss ++ one_if (is_kept f ss (last_after f None ps) v) v
  kept_more ps v s b =
      sym (kept_is_seen f ss (ps ++ v ∷ []) (order_snoc ps v s b))
      ∙ kept_snoc f ss None ps v
      ∙ ap (λ xs. xs ++ one_if (is_kept f ss (last_after f None ps) v) v) (kept_is_seen f ss ps s)

  -- what all of ps give is what was given, what is ready, and the run without its end
  pub whole : (st : CollectorState) (ps qs : List Version) → AccountsFor f ss deeper st ps qs → (qs ++ st.ready) ++ trim (is_low f deeper) st.run ≡ kept_versions f ss deeper ps
  whole st ps qs h =
      ap (λ xs. xs ++ trim (is_low f deeper) st.run) h.out
      ∙ sym (ap (without_useless f deeper) h.kept ∙ useless_more f deeper h.key (seen_of (of_other_keys ps) f ss) st.run h.of_old h.of_run h.sorted_run)

  not_same_key : (o : Option Last) (v : Version) → is_key o v ≡ false → is_kept f ss o v ≡ true
  not_same_key None v e = refl
  not_same_key (Some l) v e = rw e refl

  others_more : (ps : List Version) (v : Version) → MayFollow ps v → (o : Option Last) (w : Version) → MayFollow (ps ++ v ∷ []) w → is_key (Some (next_last f o v)) w ≡ false → NoneOf w.key (ps ++ v ∷ [])
  others_more ps v b o w bw e =
      let r = split_front ps v w bw in
      let n : v.key ≡ w.key → ⊥ = λ q. falls (bytes_eq v.key w.key) ((bytes_eq-Decides v.key w.key).1 q) e in
      none_snoc w.key ps v (none_of_between ps v w b r.1 n) n
    where
      falls : (b : Bool) → b ≡ true → b ≡ false → ⊥
      falls b x y = cc

  pub push_other : (st : CollectorState) (ps qs : List Version) (v : Version) → AccountsFor f ss deeper st ps qs → MayFollow ps v → is_key st.last v ≡ false
      → AccountsFor f ss deeper (record { ready = st.ready ++ trim (is_low f deeper) st.run; run = v ∷ []; last = Some (next_last f st.last v) }) (ps ++ v ∷ []) qs
  push_other st ps qs v h b e =
      let n = h.others v b e in
      let old : of_other_keys (ps ++ v ∷ []) ≡ ps = settled_other ps v n in
      let k : is_kept f ss (last_after f None ps) v ≡ true = ap (λ o. is_kept f ss o v) h.last ∙ not_same_key st.last v e in
      record {
        sorted = order_snoc ps v h.sorted b;
        last = last_snoc f None ps v ∙ ap (λ o. Some (next_last f o v)) h.last;
        out = sym (append_assoc qs st.ready (trim (is_low f deeper) st.run)) ∙ whole st ps qs h ∙ sym (ap (kept_versions f ss deeper) old);
        kept = kept_more ps v h.sorted b ∙ ap (λ c. seen_of ps f ss ++ one_if c v) k ∙ ap (λ xs. seen_of xs f ss ++ v ∷ []) (sym old);
        key = v.key;
        of_run = (refl, tt);
        of_old = subst (λ xs. NoneOf v.key (seen_of xs f ss)) (sym old) (none_filter v.key (is_ever_seen ps f ss) ps n);
        sorted_run = (tt, tt);
        others = λ w bw x. others_more ps v b st.last w bw x;
        same = λ w bw x. sym (same_bytes v.key w.key x);
        bound = omega (arith, of_key_snoc (Some (next_last f st.last v)) ps v (own_key v));
      }

  pub push_same : (st : CollectorState) (ps qs : List Version) (v : Version) → AccountsFor f ss deeper st ps qs → MayFollow ps v → is_key st.last v ≡ true
      → AccountsFor f ss deeper (record { ready = st.ready; run = st.run ++ one_if (is_kept f ss st.last v) v; last = Some (next_last f st.last v) }) (ps ++ v ∷ []) qs
  push_same st ps qs v h b e =
      let old : of_other_keys (ps ++ v ∷ []) ≡ of_other_keys ps = settled_same ps v (sym (key_is f ps v) ∙ ap (λ o. is_key o v) h.last ∙ e) in
      let key : v.key ≡ h.key = h.same v b e in
      let run_next : MayFollow st.run v = next_tail (seen_of (of_other_keys ps) f ss) st.run v (subst (λ xs. MayFollow xs v) h.kept (next_filter (is_ever_seen ps f ss) v ps b)) in
      record {
        sorted = order_snoc ps v h.sorted b;
        last = last_snoc f None ps v ∙ ap (λ o. Some (next_last f o v)) h.last;
        out = h.out ∙ sym (ap (kept_versions f ss deeper) old);
        kept = kept_more ps v h.sorted b ∙ ap (λ o. seen_of ps f ss ++ one_if (is_kept f ss o v) v) h.last ∙ ap (λ xs. xs ++ one_if (is_kept f ss st.last v) v) h.kept
            ∙ append_assoc (seen_of (of_other_keys ps) f ss) st.run (one_if (is_kept f ss st.last v) v)
            ∙ ap (λ xs. seen_of xs f ss ++ (st.run ++ one_if (is_kept f ss st.last v) v)) (sym old);
        key = h.key;
        of_run = run_key (is_kept f ss st.last v) st.run v h.key h.of_run key;
        of_old = subst (λ xs. NoneOf h.key (seen_of xs f ss)) (sym old) h.of_old;
        sorted_run = run_sorted (is_kept f ss st.last v) st.run v h.sorted_run run_next;
        others = λ w bw x. others_more ps v b st.last w bw x;
        same = λ w bw x. sym (same_bytes v.key w.key x) ∙ key;
        bound = let x = one_more (is_kept f ss st.last v) st.run v in let y = h.bound in
            let z = of_key_snoc (Some (next_last f st.last v)) ps v (own_key v) in
            let w = ap length (of_key_alike f st.last v ps e) in
            omega (arith, x, y, z, w);
      }

  -- a version more: the state after it has what was pushed
  pub push_has : (st : CollectorState) (ps qs : List Version) (v : Version) → AccountsFor f ss deeper st ps qs → MayFollow ps v → AccountsFor f ss deeper (pushed f ss deeper st v) (ps ++ v ∷ []) qs
  push_has st ps qs v h b =
      elim (cases_Bool (is_key st.last v)) [
        | inl y ↦ rw y (push_same st ps qs v h b y)
        | inr y ↦ rw y (push_other st ps qs v h b y)
      ]

  -- at the beginning
  pub start_has : AccountsFor f ss deeper (record { ready = []; run = []; last = None }) [] []
  start_has = record {
    sorted = tt;
    last = refl;
    out = refl;
    kept = refl;
    key = [];
    of_run = tt;
    of_old = tt;
    sorted_run = tt;
    others = λ v b e. tt;
    same = λ v b e. absurd cc;
    bound = omega arith;
  }

  -- one of the ready ones is given
  pub pop_has : (st : CollectorState) (ps qs : List Version) (x : Version) (xs : List Version) → st.ready ≡ x ∷ xs → AccountsFor f ss deeper st ps qs → AccountsFor f ss deeper (record { ready = xs; run = st.run; last = st.last }) ps (qs ++ x ∷ [])
  pop_has st ps qs x xs e h = record {
    sorted = h.sorted;
    last = h.last;
    out = append_assoc qs (x ∷ []) xs ∙ ap (λ ys. qs ++ ys) (sym e) ∙ h.out;
    kept = h.kept;
    key = h.key;
    of_run = h.of_run;
    of_old = h.of_old;
    sorted_run = h.sorted_run;
    others = h.others;
    same = h.same;
    bound = h.bound;
  }

  -- ---- against the collection

  stored_settled : (ps : List Version) → AreInOrder ps → collect (of_other_keys ps) f ss deeper ≡ kept_versions f ss deeper (of_other_keys ps)
  stored_settled ps s =
      let t = stored_filter (λ u. not (has_key_of (last_from None ps) u)) ps (in_order_stored ps s) in
      stored_is (kept_versions f ss deeper (of_other_keys ps)) (stored_filter (λ v. not (is_useless (seen_of (of_other_keys ps) f ss) f deeper v)) (seen_of (of_other_keys ps) f ss) (stored_filter (is_ever_seen (of_other_keys ps) f ss) (of_other_keys ps) t))

  -- where none is ready all of the settled keys is given
  pub none_ready : (st : CollectorState) (ps qs : List Version) → st.ready ≡ [] → AccountsFor f ss deeper st ps qs → qs ≡ collect (of_other_keys ps) f ss deeper
  none_ready st ps qs e h = sym (append-nil qs) ∙ ap (λ ys. qs ++ ys) (sym e) ∙ h.out ∙ sym (stored_settled ps h.sorted)

  -- what was given is a front of what the settled keys give
  pub settled_front : (st : CollectorState) (ps qs : List Version) → AccountsFor f ss deeper st ps qs → BeginsWith qs (collect (of_other_keys ps) f ss deeper)
  settled_front st ps qs h = (st.ready, h.out ∙ sym (stored_settled ps h.sorted))

  -- and of what all give
  pub given_front : (st : CollectorState) (ps qs : List Version) → AccountsFor f ss deeper st ps qs → BeginsWith qs (collect ps f ss deeper)
  given_front st ps qs h = (st.ready ++ trim (is_low f deeper) st.run, sym (append_assoc qs st.ready (trim (is_low f deeper) st.run)) ∙ whole st ps qs h ∙ sym (collect_is f ss deeper ps h.sorted))

  -- all that is given and held, once the end of the run is trimmed
  pub finished_is : (st : CollectorState) (ps qs : List Version) → AccountsFor f ss deeper st ps qs → qs ++ (st.ready ++ trim (is_low f deeper) st.run) ≡ collect ps f ss deeper
  finished_is st ps qs h = sym (append_assoc qs st.ready (trim (is_low f deeper) st.run)) ∙ whole st ps qs h ∙ sym (collect_is f ss deeper ps h.sorted)
