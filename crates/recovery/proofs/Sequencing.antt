-- One log more behind those that were read.
use Rattle.std.proofs.Common.{◌≡◌, ℕ, Bool, true, false, ◌==◌, List, [], ◌∷◌, ◌++◌, Option, Some, None, refl, sym, ap, ◌∙◌, subst, append_assoc, append-nil, inl, inr, ⊎_elim}
use Rattle.std.specs.Prelude.{if◌then◌else◌}
use Rattle.std.proofs.lemmas.Bool.{cases_Bool, eq-eqb, eqb-true, false≢true}
use Rattle.std.proofs.lemmas.List.Elements.{filter-append}
use Rattle.ts_key.specs.declared.version.Version.{Version}
use Rattle.udt_disk.specs.Joint.{Folder}
use Rattle.udt_disk.specs.declared.name.FileName.TheVariants.{Log}
use Rattle.wal.specs.declared.numbered.Numbered.{Numbered}
use Rattle.wal.specs.Replays.{ReadsAs}
use Rattle.wal.specs.Sequences.{GoesOn, IsInSequence, next_sequence, sequence_after}
use Rattle.manifest_fold.specs.declared.fold.Folded.{Folded}
use Rattle.floor_laws.proofs.Members.{In, In-append, In-left, contains_In, In-contains}
use Rattle.manifest.specs.Folds.{sizes_of}
use Rattle.engine_laws.specs.Logs.{batches_of, versions_of}
use Rattle.engine_laws.proofs.Batches.{batches_append, batches_same, versions_append}
use Rattle.recovery.specs.Refusals.{IsFirstGap}
use Rattle.recovery.specs.Replayed.{IsGap, IsGathered, gap_behind, is_unflushed, next_behind, starts_at, above_through}
use Rattle.recovery.specs.declared.gathered.Gathered.{Gathered}

-- ---- sequences

goes_append : (next : Option ℕ) (a b : List Numbered) → GoesOn next a → GoesOn (next_behind next a) b → GoesOn next (a ++ b)
goes_append next [] b first second = second
goes_append next (x ∷ a) b first second = (first.0, goes_append (Some (sequence_after x)) a b first.1 second)

goes_rest : (next : Option ℕ) (a b : List Numbered) → GoesOn next (a ++ b) → GoesOn (next_behind next a) b
goes_rest next [] b goes = goes
goes_rest next (x ∷ a) b goes = goes_rest (Some (sequence_after x)) a b goes.1

starts_goes : (next : Option ℕ) (b : List Numbered) → IsInSequence b → starts_at next b ≡ true → GoesOn next b
starts_goes None b sequence starts = sequence
starts_goes (Some n) [] sequence starts = tt
starts_goes (Some n) (x ∷ b) sequence starts = (eqb-true x.first.0 n starts, sequence.1)

goes_starts : (next : Option ℕ) (b : List Numbered) → GoesOn next b → starts_at next b ≡ true
goes_starts None b goes = refl
goes_starts (Some n) [] goes = refl
goes_starts (Some n) (x ∷ b) goes = eq-eqb x.first.0 n goes.0

next_cons : (next : Option ℕ) (x : Numbered) (b : List Numbered) → next_behind next (x ∷ b) ≡ next_sequence (x ∷ b)
next_cons next x [] = refl
next_cons next x (y ∷ b) = next_cons (Some (sequence_after x)) y b

next_all : (b : List Numbered) → next_behind None b ≡ next_sequence b
next_all [] = refl
next_all (x ∷ b) = next_cons None x b

next_append : (next : Option ℕ) (a b : List Numbered) → next_behind next (a ++ b) ≡ next_behind (next_behind next a) b
next_append next [] b = refl
next_append next (x ∷ a) b = next_append (Some (sequence_after x)) a b

-- ---- one log more

pub nothing_read : (fold : Folded) (folder : Folder) (g : Gathered) → g.versions.items ≡ [] → g.next ≡ None → g.gap ≡ None → IsGathered fold folder [] g
nothing_read fold folder g versions next gap = record {
  logs = λ n. [];
  read = λ n held. absurd (contains_In [] n held);
  versions = versions;
  next = next;
  gap = subst (IsGap (λ n. []) []) (sym gap) tt;
}

module _ (logs : ℕ → List Numbered) (ns : List ℕ) (n : ℕ) (b : List Numbered) (new : In n ns → ⊥) where
  abbrev more : ℕ → List Numbered
  more k = if k == n then b else logs k

  more_here : more n ≡ b
  more_here = ap (λ (t : Bool). if t then b else logs n) (eq-eqb n n refl)

  more_there : (k : ℕ) → In k ns → more k ≡ logs k
  more_there k held = elim (cases_Bool (k == n)) [
    | inl same ↦ absurd (new (subst (λ (m : ℕ). In m ns) (eqb-true k n same) held))
    | inr other ↦ ap (λ (t : Bool). if t then b else logs k) other
  ]

  more_front : (front : List ℕ) → ((k : ℕ) → In k front → In k ns) → batches_of more front ≡ batches_of logs front
  more_front front within = batches_same logs more front (λ k held. more_there k (within k held))

  more_all : batches_of more (ns ++ n ∷ []) ≡ batches_of logs ns ++ b
  more_all =
      batches_append more ns (n ∷ []) ∙ ap (λ (x : List Numbered). x ++ (more n ++ [])) (more_front ns (λ k held. held))
      ∙ ap (λ (x : List Numbered). batches_of logs ns ++ x) (append-nil (more n) ∙ more_here)

  gap_later : (m : ℕ) → IsFirstGap logs ns m → IsFirstGap more (ns ++ n ∷ []) m
  gap_later m first =
      let in_front : (k : ℕ) → In k (first.before ++ m ∷ []) → In k ns = λ k held. subst (In k) (append_assoc first.before (m ∷ []) first.after ∙ sym first.is) (In-left k (first.before ++ m ∷ []) first.after held) in
      record {
        before = first.before;
        after = first.after ++ n ∷ [];
        is = ap (λ (x : List ℕ). x ++ n ∷ []) first.is ∙ append_assoc first.before (m ∷ first.after) (n ∷ []);
        sequence = subst IsInSequence (sym (more_front first.before (λ k held. in_front k (In-left k first.before (m ∷ []) held)))) first.sequence;
        gap = λ goes. first.gap (subst IsInSequence (more_front (first.before ++ m ∷ []) in_front) goes);
      }

  gap_here : (s : Bool) → IsInSequence (batches_of logs ns) → IsInSequence b → starts_at (next_behind None (batches_of logs ns)) b ≡ s → IsGap more (ns ++ n ∷ []) (if s then None else Some n)
  gap_here true before sequence starts = subst IsInSequence (sym more_all) (goes_append None (batches_of logs ns) b before (starts_goes (next_behind None (batches_of logs ns)) b sequence starts))
  gap_here false before sequence starts = record {
    before = ns;
    after = [];
    is = refl;
    sequence = subst IsInSequence (sym (more_front ns (λ k held. held))) before;
    gap = λ goes. false≢true (sym starts ∙ goes_starts (next_behind None (batches_of logs ns)) b (goes_rest None (batches_of logs ns) b (subst IsInSequence more_all goes)));
  }

  gap_more : (gap : Option ℕ) → IsGap logs ns gap → IsInSequence b → IsGap more (ns ++ n ∷ []) (gap_behind gap (next_behind None (batches_of logs ns)) n b)
  gap_more None so_far sequence = gap_here (starts_at (next_behind None (batches_of logs ns)) b) so_far sequence refl
  gap_more (Some m) so_far sequence = gap_later m so_far

  pub gathered_more : (fold : Folded) (folder : Folder) (old g : Gathered) → (so_far : IsGathered fold folder ns old) → logs ≡ so_far.logs → ReadsAs (sizes_of fold) b (folder (Log n)) → IsInSequence b
      → g.versions.items ≡ old.versions.items ++ above_through fold.families (versions_of b) → g.next ≡ next_behind old.next b → g.gap ≡ gap_behind old.gap old.next n b → IsGathered fold folder (ns ++ n ∷ []) g
  gathered_more fold folder old g so_far are reads sequence versions next gap =
      let bs = batches_of logs ns in
      let before : old.next ≡ next_behind None bs = so_far.next ∙ ap (λ (l : ℕ → List Numbered). next_sequence (batches_of l ns)) (sym are) ∙ sym (next_all bs) in
      record {
        logs = more;
        read = λ k held. ⊎_elim
            (λ there. subst (λ (x : List Numbered). ReadsAs (sizes_of fold) x (folder (Log k))) (sym (more_there k there ∙ ap (λ (l : ℕ → List Numbered). l k) are)) (so_far.read k (In-contains ns k there)))
            (λ here. read_here k (last_in k here) reads) (In-append k ns (n ∷ []) (contains_In (ns ++ n ∷ []) k held));
        versions = versions ∙ ap (λ (vs : List Version). vs ++ above_through fold.families (versions_of b)) (so_far.versions ∙ ap (λ (l : ℕ → List Numbered). above_through fold.families (versions_of (batches_of l ns))) (sym are))
            ∙ sym (filter-append (is_unflushed fold.families) (versions_of bs) (versions_of b)) ∙ ap (above_through fold.families) (sym (versions_append bs b)) ∙ ap (λ (x : List Numbered). above_through fold.families (versions_of x)) (sym more_all);
        next = next ∙ ap (λ (x : Option ℕ). next_behind x b) before ∙ sym (next_append None bs b) ∙ next_all (bs ++ b) ∙ ap next_sequence (sym more_all);
        gap = subst (IsGap more (ns ++ n ∷ [])) (sym (gap ∙ ap (λ (x : Option ℕ). gap_behind old.gap x n b) before)) (gap_more old.gap (subst (λ (l : ℕ → List Numbered). IsGap l ns old.gap) (sym are) so_far.gap) sequence);
      }
    where
      last_in : (k : ℕ) → In k (n ∷ []) → n ≡ k
      last_in k (inl is) = is
      last_in k (inr none) = absurd none

      read_here : (k : ℕ) → n ≡ k → ReadsAs (sizes_of fold) b (folder (Log n)) → ReadsAs (sizes_of fold) (more k) (folder (Log k))
      read_here k is reads = subst (λ (m : ℕ). ReadsAs (sizes_of fold) (more m) (folder (Log m))) is (subst (λ (x : List Numbered). ReadsAs (sizes_of fold) x (folder (Log n))) (sym more_here) reads)
