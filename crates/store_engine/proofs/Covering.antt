-- What is known of the older logs, behind the steps of a call.
use Rattle.std.proofs.Common.{◌≡◌, ℕ, ◌<◌, ◌≤◌, ◌==◌, List, [], ◌∷◌, ◌++◌, length, Some, refl, sym, ap, ◌∙◌, subst, arith, inl, inr}
use Rattle.std.specs.Prelude.{All, Contains, drop, find}
use Rattle.std.proofs.lemmas.Bool.{cases_Bool, cases_lt, eq-eqb, ne_eqb}
use Rattle.std.proofs.lemmas.List.{append-nil}
use Rattle.std.proofs.lemmas.List.Elements.{All-nil}
use Rattle.ts_key.specs.declared.numbers.Seq.{Seq}
use Rattle.ts_key.specs.declared.version.Version.{Version}
use Rattle.wal.specs.declared.numbered.Numbered.{Numbered}
use Rattle.wal.specs.Records.{IsLoggedBatch}
use Rattle.wal.specs.Sequences.{IsInSequence}
use Rattle.manifest_edit.specs.declared.edit.Edit.{Edit}
use Rattle.manifest_fold.specs.Folds.{fold_with, newest_log}
use Rattle.floor_laws.proofs.Members.{All-In, All-from, In, In-append, In-contains, contains_In}
use Rattle.engine_laws.specs.Logs.{batches_of, last_of, versions_of}
use Rattle.engine_laws.specs.Standing.{Says}
use Rattle.engine_laws.specs.Engine.{newest_log_of, with_batches, with_edit, with_new_log}
use Rattle.engine_laws.specs.Manifests.{IsWell}
use Rattle.engine_laws.proofs.Ascending.{Newest, newest_of, rising_sorted}
use Rattle.engine_laws.proofs.Batches.{above_sequence, batches_from, versions_upto}
use Rattle.store_engine.specs.Older.{CoversOlder, last_in, last_rolled}
use Rattle.store_engine.specs.declared.older.OlderLogs.{OlderLogs}
use Rattle.store_engine.specs.declared.older.RolledLog.{RolledLog}

-- an opened store rolled no log, and its logs have nothing above its last sequence
pub covers_opened : (older : OlderLogs) (s : Says) (last : ℕ) → older.rolled.items ≡ [] → older.opened.0 ≡ last → last ≡ last_of s.fold.last.0 (batches_of s.logs s.fold.logs)
    → IsInSequence (batches_of s.logs s.fold.logs) → All (IsLoggedBatch (length s.fold.families)) (batches_of s.logs s.fold.logs) → CoversOlder older s
covers_opened older s last none opened is sequence logged = record {
  within = λ n v i low j.
      let live = batches_of s.logs s.fold.logs in
      let up : v.seq.0 ≤ last_of s.fold.last.0 live = versions_upto s.fold.last.0 live v (above_sequence (length s.fold.families) live sequence logged) (batches_from s.logs s.fold.logs n v (contains_In s.fold.logs n i) (contains_In (versions_of (s.logs n)) v j)) in
      let at : last_in older n ≡ older.opened.0 = rw none refl in
      omega (arith, up, is, opened, at);
  rolled = subst (All (λ (log : RolledLog). log.number < newest_log_of s)) (sym none) (All-nil (λ (log : RolledLog). log.number < newest_log_of s));
}

-- a sync adds batches to the newest log alone
pub covers_synced : (older next : OlderLogs) (s : Says) (batches : List Numbered) → next ≡ older → CoversOlder older s → CoversOlder next (with_batches s batches)
covers_synced older next s batches is covers = subst (λ o. CoversOlder o (with_batches s batches)) (sym is) (record {
  within = λ n v i low j. covers.within n v i low (subst (λ bs. Contains (versions_of bs) v) (other n low) j);
  rolled = covers.rolled;
}) where
  other : (n : ℕ) → n < newest_log_of s → (with_batches s batches).logs n ≡ s.logs n
  other n low = let e = ne_eqb n (newest_log_of s) (λ q. omega (arith, low, q)) in rw e refl

-- an edit that adds no log and leaves the newest
pub covers_edited : (older next : OlderLogs) (s : Says) (edit : Edit) → next ≡ older → newest_log (fold_with s.fold edit).logs ≡ newest_log_of s → ((n : ℕ) → Contains (fold_with s.fold edit).logs n → Contains s.fold.logs n)
    → CoversOlder older s → CoversOlder next (with_edit s edit)
covers_edited older next s edit is newest live covers = subst (λ o. CoversOlder o (with_edit s edit)) (sym is) (record {
  within = λ n v i low j. covers.within n v (live n i) (subst (λ k. n < k) newest low) j;
  rolled = subst (λ k. All (λ (log : RolledLog). log.number < k) older.rolled.items) (sym newest) covers.rolled;
})

-- so it is where no log is added or dropped
pub covers_same_logs : (older next : OlderLogs) (s : Says) (edit : Edit) → next ≡ older → edit.add_logs ≡ [] → edit.drop_logs ≡ [] → CoversOlder older s → CoversOlder next (with_edit s edit)
covers_same_logs older next s edit is add gone covers =
    let same : (fold_with s.fold edit).logs ≡ s.fold.logs = ap (λ (z : List ℕ). drop (length z) s.fold.logs ++ edit.add_logs) gone ∙ ap (λ z. s.fold.logs ++ z) add ∙ append-nil s.fold.logs in
    covers_edited older next s edit is (ap newest_log same) (λ n i. subst (λ (ns : List ℕ). Contains ns n) same i) covers

-- ---- a roll

find_other : (logs : List RolledLog) (log : RolledLog) (k : ℕ) → (log.number ≡ k → ⊥) → find (λ (l : RolledLog). l.number == k) (logs ++ log ∷ []) ≡ find (λ (l : RolledLog). l.number == k) logs
find_other [] log k ne = let e = ne_eqb log.number k ne in rw e refl
find_other (l ∷ logs) log k ne = elim (cases_Bool (l.number == k)) [ inl y ↦ rw y refl | inr y ↦ rw y (find_other logs log k ne) ]

find_new : (logs : List RolledLog) (log : RolledLog) (k : ℕ) → ((l : RolledLog) → In l logs → l.number < k) → log.number ≡ k → find (λ (l : RolledLog). l.number == k) (logs ++ log ∷ []) ≡ Some log
find_new [] log k low is = let e = eq-eqb log.number k is in rw e refl
find_new (l ∷ logs) log k low is =
    let ne = ne_eqb l.number k (λ q. let a = low l (inl refl) in omega (arith, a, q)) in
    rw ne (find_new logs log k (λ x i. low x (inr i)) is)

-- the newest log, which holds nothing above a sequence, was rolled: there is a newer one now
pub covers_rolled : (older next : OlderLogs) (s : Says) (edit : Edit) (n : ℕ) (last : Seq) → IsWell s.fold → edit.add_logs ≡ n ∷ [] → edit.drop_logs ≡ [] → newest_log (fold_with s.fold edit).logs ≡ n → newest_log_of s < n
    → next.opened ≡ older.opened → next.rolled.items ≡ older.rolled.items ++ record { number = newest_log_of s; last = last } ∷ []
    → ((v : Version) → Contains (versions_of (s.logs (newest_log_of s))) v → v.seq.0 ≤ last.0) → CoversOlder older s → CoversOlder next (with_edit s edit)
covers_rolled older next s edit n last well add gone newest high opened logs up covers = record {
  within = λ k v i low j. elim (In-append k s.fold.logs (n ∷ []) (contains_In (s.fold.logs ++ n ∷ []) k (subst (λ (ns : List ℕ). Contains ns k) same i))) [
    | inl old ↦ elim (cases_lt k (newest_log_of s)) [
      | inl below ↦ let a = covers.within k v (In-contains s.fold.logs k old) below j in let b = elsewhere k below in omega (arith, a, b)
      | inr above ↦
          let t = top.top k old in
          let is : k ≡ newest_log_of s = omega (arith, above, t) in
          let a = up v (subst (λ z. Contains (versions_of (s.logs z)) v) is j) in
          let b : last_in next k ≡ last.0 = ap (last_in next) is ∙ here in
          omega (arith, a, b)
    ]
    | inr new ↦ elim new [ inl q ↦ absurd (omega (arith, low, q, newest)) | inr none ↦ absurd none ]
  ];
  rolled = subst (λ z. All (λ (l : RolledLog). l.number < z) next.rolled.items) (sym newest) (subst (All (λ (l : RolledLog). l.number < n)) (sym logs) (All-from (λ (l : RolledLog). l.number < n) (older.rolled.items ++ log ∷ []) (λ l i.
      elim (In-append l older.rolled.items (log ∷ []) i) [
        | inl old ↦ let a = low_old l old in omega (arith, a, high)
        | inr new ↦ elim new [ inl q ↦ let e = ap (λ (x : RolledLog). x.number) q in omega (arith, e, high) | inr none ↦ absurd none ]
      ])));
} where
  log : RolledLog
  log = record { number = newest_log_of s; last = last }

  same : (fold_with s.fold edit).logs ≡ s.fold.logs ++ n ∷ []
  same = ap (λ (z : List ℕ). drop (length z) s.fold.logs ++ edit.add_logs) gone ∙ ap (λ z. s.fold.logs ++ z) add

  top : Newest s.fold.logs
  top = newest_of s.fold.logs well.some (rising_sorted s.fold.logs well.sorted)

  low_old : (l : RolledLog) → In l older.rolled.items → l.number < newest_log_of s
  low_old l i = All-In (λ (x : RolledLog). x.number < newest_log_of s) older.rolled.items l covers.rolled i

  elsewhere : (k : ℕ) → k < newest_log_of s → last_in next k ≡ last_in older k
  elsewhere k below =
      ap (λ ls. last_rolled next.opened.0 (find (λ (l : RolledLog). l.number == k) ls)) logs
      ∙ ap (last_rolled next.opened.0) (find_other older.rolled.items log k (λ e. omega (arith, e, below)))
      ∙ ap (λ (q : Seq). last_rolled q.0 (find (λ (l : RolledLog). l.number == k) older.rolled.items)) opened

  here : last_in next (newest_log_of s) ≡ last.0
  here = ap (λ ls. last_rolled next.opened.0 (find (λ (l : RolledLog). l.number == newest_log_of s) ls)) logs ∙ ap (last_rolled next.opened.0) (find_new older.rolled.items log (newest_log_of s) low_old refl)

-- and what is said of a log that isn't live doesn't count
pub covers_new_log : (older : OlderLogs) (s : Says) (n : ℕ) → (Contains s.fold.logs n → ⊥) → CoversOlder older s → CoversOlder older (with_new_log s n [])
covers_new_log older s n dead covers = record {
  within = λ k v i low j. covers.within k v i low (subst (λ bs. Contains (versions_of bs) v) (other k (λ q. dead (subst (λ z. Contains s.fold.logs z) q i))) j);
  rolled = covers.rolled;
} where
  other : (k : ℕ) → (k ≡ n → ⊥) → (with_new_log s n []).logs k ≡ s.logs k
  other k ne = let e = ne_eqb k n ne in rw e refl
