-- A folder is refused in one way at most.
use Rattle.std.proofs.Common.{◌≡◌, ◌⊎◌, ℕ, ◌<◌, ◌≤◌, List, [], ◌∷◌, ◌++◌, length, None, refl, sym, ap, ◌∙◌, subst, arith, inl, inr, append_assoc}
use Rattle.std.specs.Prelude.{Contains}
use Rattle.std.proofs.lemmas.Bool.{cases_order}
use Rattle.std.proofs.lemmas.List.{length-map}
use Rattle.ts_key.specs.declared.numbers.Family.{Family}
use Rattle.udt_disk.specs.Joint.{Folder}
use Rattle.udt_disk.specs.declared.name.FileName.TheVariants.{Log, Table}
use Rattle.wal.specs.declared.numbered.Numbered.{Numbered}
use Rattle.wal.specs.Replays.{ReadsAs}
use Rattle.wal.specs.Sequences.{IsInSequence}
use Rattle.manifest_edit.specs.declared.edit.TableAt.{TableAt}
use Rattle.manifest_fold.specs.declared.fold.FamilyFold.{FamilyFold}
use Rattle.manifest_fold.specs.declared.fold.Folded.{Folded}
use Rattle.manifest.specs.Folders.{Means, chosen}
use Rattle.manifest.specs.Folders.Meaning.{bad_at, store}
use Rattle.manifest.specs.Folds.{sizes_of}
use Rattle.manifest.proofs.Meanings.{means_once}
use Rattle.floor_laws.proofs.Members.{In, In-contains, In-left, In-right}
use Rattle.engine_laws.specs.Logs.{batches_of}
use Rattle.engine_laws.proofs.Batches.{batches_append, batches_same}
use Rattle.recovery.specs.Laws.{OneRefusal}
use Rattle.recovery.specs.Refusals.{AreRefused, AreReplayed, IsAhead, IsBadLog, IsBadLogFile, IsBadTable, IsFirstBadLog, IsFirstGap, IsMissingTable, IsReached}
use Rattle.recovery.specs.Tables.{AreTablesInOrder, IsTableInOrder}
use Rattle.recovery.specs.declared.fault.OpenFault.TheVariants.{NoStore, BadManifest, MissingTable, BadTable, BadLog, DiskFault, NoMemory}
use Rattle.recovery.proofs.FirstBad.{bad_file_holds_none, bad_file_once}
use Rattle.recovery.proofs.Openings.{usable_from}
use Rattle.recovery.proofs.Unrefused.{goes_front, is_fold, no_table, one_log, store_once}

-- ---- a list cut at two places

-- the cuts are one, or each is in front of the other's end
data Cuts (a b c d : List ℕ) (n m : ℕ) : Type 0 where
  same : a ≡ c → n ≡ m → Cuts a b c d n m
  sooner : (r : List ℕ) → c ≡ a ++ n ∷ r → Cuts a b c d n m
  later : (r : List ℕ) → a ≡ c ++ m ∷ r → Cuts a b c d n m

cuts_more : (x y : ℕ) (a b c d : List ℕ) (n m : ℕ) → x ≡ y → Cuts a b c d n m → Cuts (x ∷ a) b (y ∷ c) d n m
cuts_more x y a b c d n m is (same e o) = same (ap (λ (z : ℕ). z ∷ a) is ∙ ap (λ (l : List ℕ). y ∷ l) e) o
cuts_more x y a b c d n m is (sooner r e) = sooner r (ap (λ (l : List ℕ). y ∷ l) e ∙ ap (λ (z : ℕ). z ∷ (a ++ n ∷ r)) (sym is))
cuts_more x y a b c d n m is (later r e) = later r (ap (λ (l : List ℕ). x ∷ l) e ∙ ap (λ (z : ℕ). z ∷ (c ++ m ∷ r)) is)

cuts_of : (a b c d : List ℕ) (n m : ℕ) → a ++ n ∷ b ≡ c ++ m ∷ d → Cuts a b c d n m
cuts_of [] b [] d n m e = same refl cc
cuts_of [] b (y ∷ c) d n m e = let first : n ≡ y = cc in sooner c (ap (λ (z : ℕ). z ∷ c) (sym first))
cuts_of (x ∷ a) b [] d n m e = let first : x ≡ m = cc in later a (ap (λ (z : ℕ). z ∷ a) first)
cuts_of (x ∷ a) b (y ∷ c) d n m e =
    let first : x ≡ y = cc in
    let rest : a ++ n ∷ b ≡ c ++ m ∷ d = cc in
    cuts_more x y a b c d n m first (cuts_of a b c d n m rest)

-- ---- tables

module _ (folder : Folder) (fold : Folded) where
  -- the first table of either refusal
  record IsFirst (n : ℕ) : Type 0 where
    family : Family
    f : FamilyFold
    table : TableAt
    number : table.number ≡ n
    reached : IsReached fold folder family f table
    bad : IsTableInOrder folder family f table → ⊥

  missing_first : (n : ℕ) → IsMissingTable fold folder n → IsFirst n
  missing_first n missing = record {
    family = missing.family;
    f = missing.f;
    table = missing.table;
    number = missing.number;
    reached = missing.reached;
    bad = λ order. no_table (folder (Table missing.table.number)) order.says order.reads (subst (λ (k : ℕ). folder (Table k) ≡ None) (sym missing.number) missing.missing);
  }

  bad_first : (n : ℕ) → IsBadTable fold folder n → IsFirst n
  bad_first n bad = record { family = bad.family; f = bad.f; table = bad.table; number = bad.number; reached = bad.reached; bad = bad.bad }

  not_before : (n m : ℕ) → IsFirst n → IsFirst m → n < m → ⊥
  not_before n m p q less = p.bad (q.reached.below p.family p.f p.table p.reached.live (omega (arith, p.number, q.number, less)))

  first_once : (n m : ℕ) → IsFirst n → IsFirst m → n ≡ m
  first_once n m p q = elim (cases_order n m) [
    | inl alike ↦ alike
    | inr rest ↦ elim rest [ inl less ↦ absurd (not_before n m p q less) | inr more ↦ absurd (not_before m n q p more) ]
  ]

  no_first_in_order : (n : ℕ) → IsFirst n → AreTablesInOrder fold folder → ⊥
  no_first_in_order n p order = p.bad (order p.family p.f p.table p.reached.live)

  -- ---- logs

  not_read : (n at : ℕ) (logs : ℕ → List Numbered) → ReadsAs (sizes_of fold) (logs n) (folder (Log n)) → IsBadLogFile (sizes_of fold) (folder (Log n)) at → ⊥
  not_read n at logs reads bad = bad_file_holds_none (sizes_of fold) (folder (Log n)) at (logs n) bad reads

  in_front : (c a r : List ℕ) (n : ℕ) → c ≡ a ++ n ∷ r → Contains c n
  in_front c a r n is = In-contains c n (subst (In n) (sym is) (In-right n a (n ∷ r) (inl refl)))

  first_bad_once : (n m i j : ℕ) (p : IsFirstBadLog fold folder n i) (q : IsFirstBadLog fold folder m j) → Cuts p.before p.after q.before q.after n m → (n ≡ m) × (i ≡ j)
  first_bad_once n m i j p q (same e is) = (is, bad_file_once (sizes_of fold) (folder (Log m)) i j (subst (λ (k : ℕ). IsBadLogFile (sizes_of fold) (folder (Log k)) i) is p.bad) q.bad)
  first_bad_once n m i j p q (sooner r e) = absurd (not_read n i q.logs (q.read n (in_front q.before p.before r n e)) p.bad)
  first_bad_once n m i j p q (later r e) = absurd (not_read m j p.logs (p.read m (in_front p.before q.before r m e)) q.bad)

  bad_not_refused : (n m i j : ℕ) → IsFirstBadLog fold folder n i → AreRefused fold folder m j → ⊥
  bad_not_refused n m i j p q = not_read n i q.logs (q.read n (in_front fold.logs p.before p.after n p.is)) p.bad

  module _ (few : length (sizes_of fold) ≤ 16) where
    same_batches : (p q : ℕ → List Numbered) → AreReplayed (sizes_of fold) folder p fold.logs → AreReplayed (sizes_of fold) folder q fold.logs → (ns rest : List ℕ) → fold.logs ≡ ns ++ rest → batches_of q ns ≡ batches_of p ns
    same_batches p q is_p is_q ns rest are = batches_same p q ns (λ n held.
        let live = In-contains fold.logs n (subst (In n) (sym are) (In-left n ns rest held)) in
        one_log (sizes_of fold) (q n) (p n) (folder (Log n)) few (is_q n live) (is_p n live))

    -- no gap is in front of another one
    no_sooner : (p q : ℕ → List Numbered) (n m : ℕ) → AreReplayed (sizes_of fold) folder p fold.logs → AreReplayed (sizes_of fold) folder q fold.logs → (a : IsFirstGap p fold.logs n) (b : IsFirstGap q fold.logs m) (r : List ℕ) → b.before ≡ a.before ++ n ∷ r → ⊥
    no_sooner p q n m is_p is_q a b r e =
        let front = a.before ++ n ∷ [] in
        let parts : b.before ≡ front ++ r = e ∙ sym (append_assoc a.before (n ∷ []) r) in
        let whole : IsInSequence (batches_of q front ++ batches_of q r) = subst IsInSequence (ap (batches_of q) parts ∙ batches_append q front r) b.sequence in
        a.gap (subst IsInSequence (same_batches p q is_p is_q front a.after (a.is ∙ sym (append_assoc a.before (n ∷ []) a.after))) (goes_front None (batches_of q front) (batches_of q r) whole))

    gap_once : (p q : ℕ → List Numbered) (n m : ℕ) → AreReplayed (sizes_of fold) folder p fold.logs → AreReplayed (sizes_of fold) folder q fold.logs → (a : IsFirstGap p fold.logs n) (b : IsFirstGap q fold.logs m) → Cuts a.before a.after b.before b.after n m → n ≡ m
    gap_once p q n m is_p is_q a b (same e is) = is
    gap_once p q n m is_p is_q a b (sooner r e) = absurd (no_sooner p q n m is_p is_q a b r e)
    gap_once p q n m is_p is_q a b (later r e) = absurd (no_sooner q p m n is_q is_p b a r e)

    gap_not_ahead : (p q : ℕ → List Numbered) (n m : ℕ) → AreReplayed (sizes_of fold) folder p fold.logs → AreReplayed (sizes_of fold) folder q fold.logs → IsFirstGap p fold.logs n → IsAhead fold q m → ⊥
    gap_not_ahead p q n m is_p is_q a b =
        let front = a.before ++ n ∷ [] in
        let parts : fold.logs ≡ front ++ a.after = a.is ∙ sym (append_assoc a.before (n ∷ []) a.after) in
        let whole : IsInSequence (batches_of q front ++ batches_of q a.after) = subst IsInSequence (ap (batches_of q) parts ∙ batches_append q front a.after) b.sequence in
        a.gap (subst IsInSequence (same_batches p q is_p is_q front a.after parts) (goes_front None (batches_of q front) (batches_of q a.after) whole))

    together_once : (n m i j : ℕ) (p : AreRefused fold folder n i) (q : AreRefused fold folder m j) → n ≡ m
    together_once n m i j p q = why_once p.why q.why
      where
        why_once : IsFirstGap p.logs fold.logs n ⊎ IsAhead fold p.logs n → IsFirstGap q.logs fold.logs m ⊎ IsAhead fold q.logs m → n ≡ m
        why_once (inl a) (inl b) = gap_once p.logs q.logs n m p.read q.read a b (cuts_of a.before a.after b.before b.after n m (sym a.is ∙ b.is))
        why_once (inl a) (inr b) = absurd (gap_not_ahead p.logs q.logs n m p.read q.read a b)
        why_once (inr a) (inl b) = absurd (gap_not_ahead q.logs p.logs m n q.read p.read b a)
        why_once (inr a) (inr b) = a.newest ∙ sym b.newest

    bad_log_once : (n m i j : ℕ) → IsBadLog fold folder n i → IsBadLog fold folder m j → (n ≡ m) × (i ≡ j)
    bad_log_once n m i j p q = why_once p.why q.why
      where
        why_once : IsFirstBadLog fold folder n i ⊎ AreRefused fold folder n i → IsFirstBadLog fold folder m j ⊎ AreRefused fold folder m j → (n ≡ m) × (i ≡ j)
        why_once (inl a) (inl b) = first_bad_once n m i j a b (cuts_of a.before a.after b.before b.after n m (sym a.is ∙ b.is))
        why_once (inl a) (inr b) = absurd (bad_not_refused n m i j a b)
        why_once (inr a) (inl b) = absurd (bad_not_refused m n j i b a)
        why_once (inr a) (inr b) = (together_once n m i j a b, a.place ∙ sym b.place)

-- ---- folders

few_of : (folder : Folder) (fold : Folded) → Means folder (store fold) → length (sizes_of fold) ≤ 16
few_of folder fold means =
    let count : length (sizes_of fold) ≡ length fold.families = simp length-map in
    let usable = usable_from fold (is_fold (folder (chosen folder)) fold means.1) in
    omega (arith, count, usable.few)

fold_same : (folder : Folder) (a b : Folded) → Means folder (store a) → Means folder (store b) → b ≡ a
fold_same folder a b p q = store_once b a (means_once folder (store b) (store a) q p)

store_isn't_bad : (folder : Folder) (fold : Folded) (at : ℕ) → Means folder (store fold) → Means folder (bad_at at) → ⊥
store_isn't_bad folder fold at p q = let same : store fold ≡ bad_at at = means_once folder (store fold) (bad_at at) p q in cc

bad_manifest_once : (folder : Folder) (i j : ℕ) → Means folder (bad_at i) → Means folder (bad_at j) → i ≡ j
bad_manifest_once folder i j p q = let same : bad_at i ≡ bad_at j = means_once folder (bad_at i) (bad_at j) p q in cc

pub one_refusal : OneRefusal
one_refusal folder NoStore NoStore x y p q = refl
one_refusal folder NoStore (BadManifest j) x y p q = absurd (q.0 p)
one_refusal folder NoStore (MissingTable k) x y p q = absurd (q.1.0 p)
one_refusal folder NoStore (BadTable k) x y p q = absurd (q.1.0 p)
one_refusal folder NoStore (BadLog k j) x y p q = absurd (q.1.0 p)
one_refusal folder (BadManifest i) NoStore x y p q = absurd (p.0 q)
one_refusal folder (BadManifest i) (BadManifest j) x y p q = ap (λ (k : ℕ). BadManifest k) (bad_manifest_once folder i j p q)
one_refusal folder (BadManifest i) (MissingTable k) x y p q = absurd (store_isn't_bad folder q.0 i q.1 p)
one_refusal folder (BadManifest i) (BadTable k) x y p q = absurd (store_isn't_bad folder q.0 i q.1 p)
one_refusal folder (BadManifest i) (BadLog k j) x y p q = absurd (store_isn't_bad folder q.0 i q.1 p)
one_refusal folder (MissingTable n) NoStore x y p q = absurd (p.1.0 q)
one_refusal folder (MissingTable n) (BadManifest j) x y p q = absurd (store_isn't_bad folder p.0 j p.1 q)
one_refusal folder (MissingTable n) (MissingTable k) x y p q =
    let other = subst (λ (z : Folded). IsMissingTable z folder k) (fold_same folder p.0 q.0 p.1 q.1) q.2 in
    ap (λ (z : ℕ). MissingTable z) (first_once folder p.0 n k (missing_first folder p.0 n p.2) (missing_first folder p.0 k other))
one_refusal folder (MissingTable n) (BadTable k) x y p q =
    let other = subst (λ (z : Folded). IsBadTable z folder k) (fold_same folder p.0 q.0 p.1 q.1) q.2 in
    let same = first_once folder p.0 n k (missing_first folder p.0 n p.2) (bad_first folder p.0 k other) in
    absurd (other.there (subst (λ (z : ℕ). folder (Table z) ≡ None) same p.2.missing))
one_refusal folder (MissingTable n) (BadLog k j) x y p q =
    let other = subst (λ (z : Folded). IsBadLog z folder k j) (fold_same folder p.0 q.0 p.1 q.1) q.2 in
    absurd (no_first_in_order folder p.0 n (missing_first folder p.0 n p.2) other.tables)
one_refusal folder (BadTable n) NoStore x y p q = absurd (p.1.0 q)
one_refusal folder (BadTable n) (BadManifest j) x y p q = absurd (store_isn't_bad folder p.0 j p.1 q)
one_refusal folder (BadTable n) (MissingTable k) x y p q =
    let other = subst (λ (z : Folded). IsMissingTable z folder k) (fold_same folder p.0 q.0 p.1 q.1) q.2 in
    let same = first_once folder p.0 k n (missing_first folder p.0 k other) (bad_first folder p.0 n p.2) in
    absurd (p.2.there (subst (λ (z : ℕ). folder (Table z) ≡ None) same other.missing))
one_refusal folder (BadTable n) (BadTable k) x y p q =
    let other = subst (λ (z : Folded). IsBadTable z folder k) (fold_same folder p.0 q.0 p.1 q.1) q.2 in
    ap (λ (z : ℕ). BadTable z) (first_once folder p.0 n k (bad_first folder p.0 n p.2) (bad_first folder p.0 k other))
one_refusal folder (BadTable n) (BadLog k j) x y p q =
    let other = subst (λ (z : Folded). IsBadLog z folder k j) (fold_same folder p.0 q.0 p.1 q.1) q.2 in
    absurd (no_first_in_order folder p.0 n (bad_first folder p.0 n p.2) other.tables)
one_refusal folder (BadLog n i) NoStore x y p q = absurd (p.1.0 q)
one_refusal folder (BadLog n i) (BadManifest j) x y p q = absurd (store_isn't_bad folder p.0 j p.1 q)
one_refusal folder (BadLog n i) (MissingTable k) x y p q =
    let other = subst (λ (z : Folded). IsMissingTable z folder k) (fold_same folder p.0 q.0 p.1 q.1) q.2 in
    absurd (no_first_in_order folder p.0 k (missing_first folder p.0 k other) p.2.tables)
one_refusal folder (BadLog n i) (BadTable k) x y p q =
    let other = subst (λ (z : Folded). IsBadTable z folder k) (fold_same folder p.0 q.0 p.1 q.1) q.2 in
    absurd (no_first_in_order folder p.0 k (bad_first folder p.0 k other) p.2.tables)
one_refusal folder (BadLog n i) (BadLog k j) x y p q =
    let other = subst (λ (z : Folded). IsBadLog z folder k j) (fold_same folder p.0 q.0 p.1 q.1) q.2 in
    let one = bad_log_once folder p.0 (few_of folder p.0 p.1) n k i j p.2 other in
    ap (λ (z : ℕ). BadLog z i) one.0 ∙ ap (λ (z : ℕ). BadLog k z) one.1
one_refusal folder DiskFault b x y p q = absurd (x tt)
one_refusal folder NoMemory b x y p q = absurd (x tt)
one_refusal folder a DiskFault x y p q = absurd (y tt)
one_refusal folder a NoMemory x y p q = absurd (y tt)
