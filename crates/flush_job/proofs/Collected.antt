-- What a flush collects of memtables.
use Rattle.std.proofs.Common.{◌≡◌, ℕ, zero, suc, ◌+◌, ◌<◌, ◌≤◌, Bool, true, false, List, [], ◌∷◌, length, get_or, refl, sym, ap, subst, ◌∙◌, ◌⊎◌, inl, inr, arith}
use Rattle.std.specs.Prelude.{All, Contains, filter, map, not, ◌||◌}
use Rattle.std.specs.List.{AllByRecursion}
use Rattle.std.proofs.lemmas.Bool.{cases_lt}
use Rattle.std.proofs.lemmas.List.{length-map}
use Rattle.std.proofs.lemmas.List.Elements.{All-from_recursion}
use Rattle.std.proofs.lemmas.List.Kept.{AllPairs-filter}
use Rattle.ts_key.specs.Items.{item_of, items_of}
use Rattle.ts_key.specs.Lists.{IsSorted}
use Rattle.ts_key.specs.StoredKeys.{IsStamp}
use Rattle.ts_key.specs.declared.limits.TheConstants.{STAMP_LIMIT}
use Rattle.ts_key.specs.declared.numbers.Family.{Family}
use Rattle.ts_key.specs.declared.numbers.Seq.{Seq}
use Rattle.ts_key.specs.declared.numbers.Ts.{Ts}
use Rattle.ts_key.specs.declared.version.Form.{Form}
use Rattle.ts_key.specs.declared.version.Form.TheVariants.{Persist, Strip}
use Rattle.ts_key.specs.declared.version.Version.{Version}
use Rattle.sorted_run.specs.Runs.{latest_of}
use Rattle.sorted_run.specs.Sorts.{sorted}
use Rattle.memtable.proofs.Sums.{all-sorted, length-sorted}
use Rattle.udt_model.specs.declared.reply.KeySpan.{KeySpan}
use Rattle.udt_model.specs.Collecting.{collect, collect_all, cutoff, is_ever_seen, is_useless, seen_of, stripped, without_ts}
use Rattle.udt_model.specs.Jobs.{in_form}
use Rattle.udt_model.specs.Orders.{is_in, is_in_some, stored}
use Rattle.udt_model.proofs.Laws.{deeper_stays}
use Rattle.floor_laws.specs.Lists.{HaveOwnSequences}
use Rattle.collection_laws.specs.Places.{AreApart, AreStored, HaveOnePlace}
use Rattle.collection_laws.proofs.Storing.{HoldSame, In, all_from, contains_from, in_all, in_filter, in_from, same_stored, seen_same, sorted_from_stored, stored_by_holding, stored_filter, stored_is, stored_sorted}
use Rattle.history_gc.specs.Pushed.{AreInOrder}
use Rattle.history_gc.proofs.Kept.{kept_is_seen}
use Rattle.history_gc.proofs.Queues.{order_from}
use Rattle.flush_job.specs.Stripping.{AreToldBySequence}
use Rattle.flush_job.specs.Walks.{Covers}
use Rattle.flush_job.proofs.Stripping.{apart_stripped}
use Rattle.flush_job.proofs.Walking.{sorted_stored}

-- ---- versions with sequences of their own

pub apart_from_own : (vs : List Version) → HaveOwnSequences vs → AreApart vs
apart_from_own vs own = λ i j d a b p. own i j d a b p.2

pub told_from_own : (vs : List Version) → HaveOwnSequences vs → AreToldBySequence vs
told_from_own vs own v w a b e = at (cases_lt a.0 b.0) (cases_lt b.0 a.0)
  where
    seq_at : (i : ℕ) (d u x : Version) → i < length vs → get_or vs i d ≡ u → get_or vs i x ≡ u
    seq_at i d u x l e = get_any vs i d x l ∙ e
      where
        get_any : (vs : List Version) (i : ℕ) (d x : Version) → i < length vs → get_or vs i x ≡ get_or vs i d
        get_any [] i d x l = absurd (omega (arith, l))
        get_any (y ∷ ys) zero d x l = refl
        get_any (y ∷ ys) (suc i) d x l = get_any ys i d x (omega (arith, l))

    at : (a.0 < b.0) ⊎ (b.0 ≤ a.0) → (b.0 < a.0) ⊎ (a.0 ≤ b.0) → v ≡ w
    at (inl l) q = absurd (own a.0 b.0 v l b.1 (ap (λ (u : Version). u.seq.0) a.2 ∙ e ∙ sym (ap (λ (u : Version). u.seq.0) (seq_at b.0 w w v b.1 b.2))))
    at (inr m) (inl l) = absurd (own b.0 a.0 v l a.1 (ap (λ (u : Version). u.seq.0) (seq_at b.0 w w v b.1 b.2) ∙ sym e ∙ sym (ap (λ (u : Version). u.seq.0) a.2)))
    at (inr m) (inr n) = let same : a.0 ≡ b.0 = omega (arith, m, n) in sym a.2 ∙ ap (λ k. get_or vs k v) same ∙ seq_at b.0 w w v b.1 b.2

sorted_back : (vs : List Version) (v : Version) → Contains (sorted vs) v → Contains vs v
sorted_back vs v i = contains_from vs v ((same_stored vs).back v (subst (In v) (sorted_stored vs) (in_from (sorted vs) v i)))

pub told_sorted : (vs : List Version) → HaveOwnSequences vs → AreToldBySequence (sorted vs)
told_sorted vs own v w a b e = told_from_own vs own v w (sorted_back vs v a) (sorted_back vs w b) e

pub all_over : (P : Version → Type 0) (vs : List Version) → All P vs → All P (sorted vs)
all_over P vs h = All-from_recursion P (sorted vs) (all-sorted P vs (all_from P vs h))

pub sorted_is_stored : (vs : List Version) → HaveOwnSequences vs → AreStored (sorted vs)
sorted_is_stored vs own = subst AreStored (sym (sorted_stored vs)) (stored_sorted vs (apart_from_own vs own))

pub sorted_in_order : (family : Family) (vs : List Version) → All (λ v. v.family ≡ family) vs → HaveOwnSequences vs → AreInOrder (sorted vs)
sorted_in_order family vs one own =
    order_from family.0 (sorted vs) (sorted_is_stored vs own) (all_from (λ v. v.family.0 ≡ family.0) (sorted vs) (λ k d l. ap (λ (f : Family). f.0) (all_over (λ v. v.family ≡ family) vs one k d l)))

-- ---- a collection with spans that hold all keys

module _ (floor : Ts) (seqs : List Seq) where
  every : (p : Version → Bool) (vs : List Version) → ((v : Version) → In v vs → p v ≡ true) → filter p vs ≡ vs
  every p [] h = refl
  every p (v ∷ vs) h = rw (h v (inl refl)) (ap (λ (r : List Version). v ∷ r) (every p vs (λ u i. h u (inr i))))

  in_span : (span : KeySpan) (v : Version) → is_in span v.key ≡ true → is_in_some (span ∷ []) v.key ≡ true
  in_span span v e = ap (λ b. b || false) e

  seen_stored : (ys : List Version) → AreStored ys → AreStored (seen_of ys floor seqs)
  seen_stored ys s = stored_filter (is_ever_seen ys floor seqs) ys s

  pub collect_seen : (ys : List Version) (span : KeySpan) → AreStored ys → Covers span ys → collect ys floor seqs (span ∷ []) ≡ seen_of ys floor seqs
  collect_seen ys span s covers =
      let seen = seen_of ys floor seqs in
      ap stored (every (λ v. not (is_useless seen floor (span ∷ []) v)) seen (λ v i.
      let there = (in_filter (is_ever_seen ys floor seqs) ys v i).0 in
      ap not (deeper_stays seen floor (span ∷ []) v (in_span span v (in_all (λ u. is_in span u.key ≡ true) ys v covers there)))))
      ∙ stored_is seen (seen_stored ys s)

  pub all_seen : (vs : List Version) → HaveOwnSequences vs → collect_all vs floor seqs ≡ seen_of (sorted vs) floor seqs
  all_seen vs own =
      let apart = apart_from_own vs own in
      let same : HoldSame vs (sorted vs) = subst (HoldSame vs) (sym (sorted_stored vs)) (same_stored vs) in
      stored_by_holding (seen_of vs floor seqs) (seen_of (sorted vs) floor seqs)
      (AllPairs-filter (λ x y. HaveOnePlace x y → ⊥) (is_ever_seen vs floor seqs) vs apart)
      (seen_stored (sorted vs) (sorted_is_stored vs own))
      (seen_same floor seqs [] vs (sorted vs) same)

  -- what the flush keeps is what its definition says
  pub kept_all : (vs : List Version) (span : KeySpan) → HaveOwnSequences vs → Covers span (sorted vs) → collect (sorted vs) floor seqs (span ∷ []) ≡ collect_all vs floor seqs
  kept_all vs span own covers = collect_seen (sorted vs) span (sorted_is_stored vs own) covers ∙ sym (all_seen vs own)

  -- of versions in order the first is kept
  first_kept : (v : Version) (vs : List Version) → AreInOrder (v ∷ vs) → In v (seen_of (v ∷ vs) floor seqs)
  first_kept v vs order = subst (In v) (kept_is_seen floor seqs (v ∷ vs) order) (inl refl)

  some_seen : (ys : List Version) → AreInOrder ys → 0 < length ys → (v : Version) × In v (seen_of ys floor seqs)
  some_seen [] order l = absurd (omega (arith, l))
  some_seen (v ∷ vs) order l = (v, first_kept v vs order)

in_some : (vs : List Version) (v : Version) → In v vs → 0 < length vs
in_some [] v i = absurd i
in_some (x ∷ xs) v i = omega arith

map_there : (vs : List Version) (v : Version) → In v vs → In (without_ts v) (map without_ts vs)
map_there [] v i = absurd i
map_there (x ∷ xs) v (inl e) = inl (ap without_ts e)
map_there (x ∷ xs) v (inr i) = inr (map_there xs v i)

form_some : (form : Form) (vs : List Version) (v : Version) → In v vs → 0 < length (in_form form vs)
form_some Persist vs v i = in_some vs v i
form_some Strip vs v i = in_some (stripped vs) (without_ts v) ((same_stored (map without_ts vs)).to (without_ts v) (map_there vs v i))

form_stored : (form : Form) (all vs : List Version) → AreToldBySequence all → ((v : Version) → In v vs → Contains all v) → AreStored vs → AreStored (in_form form vs)
form_stored Persist all vs told among s = s
form_stored Strip all vs told among s = stored_sorted (map without_ts vs) (apart_stripped all vs told among s)

-- the table of a flush has a version, and its versions are sorted
pub flush_some : (family : Family) (form : Form) (floor : Ts) (seqs : List Seq) (vs : List Version) → All (λ v. v.family ≡ family) vs → HaveOwnSequences vs → 0 < length vs
    → 0 < length (items_of (in_form form (collect_all vs floor seqs)))
flush_some family form floor seqs vs one own l =
    let len = length-sorted vs in
    let some = some_seen floor seqs (sorted vs) (sorted_in_order family vs one own) (omega (arith, l, len)) in
    let there : In some.0 (collect_all vs floor seqs) = subst (In some.0) (sym (all_seen floor seqs vs own)) some.1 in
    let n = form_some form (collect_all vs floor seqs) some.0 there in
    let m = length-map (in_form form (collect_all vs floor seqs)) item_of in
    omega (arith, n, m)

pub flush_sorted : (form : Form) (floor : Ts) (seqs : List Seq) (vs : List Version) → HaveOwnSequences vs → IsSorted (items_of (in_form form (collect_all vs floor seqs)))
flush_sorted form floor seqs vs own =
    let kept = seen_of (sorted vs) floor seqs in
    let e = all_seen floor seqs vs own in
    sorted_from_stored (in_form form (collect_all vs floor seqs))
    (form_stored form (sorted vs) (collect_all vs floor seqs) (told_sorted vs own)
    (λ v i. contains_from (sorted vs) v ((in_filter (is_ever_seen (sorted vs) floor seqs) (sorted vs) v (subst (In v) e i)).0))
    (subst AreStored (sym e) (stored_filter (is_ever_seen (sorted vs) floor seqs) (sorted vs) (sorted_is_stored vs own))))

-- ---- the floor

cutoff_is : (v : Version) (vs : List Version) → cutoff (v ∷ vs) ≡ latest_of (v ∷ vs) + 1
cutoff_is v [] = omega arith
cutoff_is v (w ∷ ws) = let r = cutoff_is w ws in omega (arith, r)

pub cutoff_of : (vs : List Version) → 0 < length vs → cutoff vs ≡ latest_of vs + 1
cutoff_of [] l = absurd (omega (arith, l))
cutoff_of (v ∷ vs) l = cutoff_is v vs

latest_on : (vs : List Version) → AllByRecursion (λ v. IsStamp Persist v.ts.0) vs → latest_of vs ≤ STAMP_LIMIT
latest_on [] h = omega arith
latest_on (v ∷ vs) h = let a = h.0 in let r = latest_on vs h.1 in omega (arith, a, r)

pub latest_most : (vs : List Version) → All (λ v. IsStamp Persist v.ts.0) vs → latest_of vs ≤ STAMP_LIMIT
latest_most vs h = latest_on vs (all_from (λ v. IsStamp Persist v.ts.0) vs h)
