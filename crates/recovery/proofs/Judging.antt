-- All live logs together: in line, or refused.
use Rattle.std.proofs.Common.{◌≡◌, ℕ, ◌+◌, ◌-◌, ◌≤◌, true, false, List, [], ◌∷◌, ◌++◌, length, Some, None, refl, sym, ap, ◌∙◌, subst, arith, inl, inr}
use Rattle.std.specs.Prelude.{IsTrue}
use Rattle.std.proofs.lemmas.Bool.{ltb-false, ltb-true}
use Rattle.udt_disk.specs.Joint.{Folder}
use Rattle.udt_disk.specs.declared.name.FileName.{FileName}
use Rattle.udt_disk.specs.declared.name.FileName.TheVariants.{Log}
use Rattle.udt_disk.specs.declared.file.DiskFile as file
use Rattle.udt_disk.specs.declared.disk.Disk as disk
use Rattle.udt_disk.proofs.Moments.{leaves_all}
use Rattle.wal.specs.declared.numbered.Numbered.{Numbered}
use Rattle.wal.specs.declared.wal.Wal.{Wal}
use Rattle.wal.specs.Replays.{ReadsAs}
use Rattle.wal.specs.Sequences.{IsInSequence, next_sequence, sequence_after}
use Rattle.manifest_fold.specs.declared.fold.Folded.{Folded}
use Rattle.manifest_fold.specs.Folds.{newest_log}
use Rattle.manifest.specs.Folds.{sizes_of}
use Rattle.floor_laws.proofs.Members.{In}
use Rattle.floor_laws.proofs.Tables.{Sorted}
use Rattle.engine_laws.specs.Logs.{batches_of, last_of, versions_of}
use Rattle.engine_laws.proofs.Ascending.{newest_last, rising_sorted, sorted_apart}
use Rattle.recovery.specs.Replayed.{AreInLine, IsGap, IsGathered, IsJudged, IsNewestLog, IsNewestOf, IsReplayed, RefusesLog, RefusesLogs, RefusesOldest, gap_behind, is_last_ahead, next_behind, above_through}
use Rattle.recovery.specs.declared.fault.OpenFault.{OpenFault}
use Rattle.recovery.specs.declared.fault.OpenFault.TheVariants.{NoStore, BadManifest, MissingTable, BadTable, BadLog, DiskFault, NoMemory}
use Rattle.recovery.specs.declared.gathered.Gathered.{Gathered}
use Rattle.recovery.specs.Looks.{Looks}
use Rattle.recovery.proofs.Logging.{oldest_refused}
use Rattle.recovery.proofs.Looking.{looks_stands}
use Rattle.recovery.proofs.Sequencing.{gathered_more}

-- ---- last sequences

pub next_last : (last : ℕ) (bs : List Numbered) (n : ℕ) → next_sequence bs ≡ Some n → n - 1 ≡ last_of last bs
next_last last [] n is = absurd cc
next_last last (b ∷ []) n is = let same : sequence_after b ≡ n = cc in omega (arith, same)
next_last last (b ∷ c ∷ bs) n is = next_last (b.first.0 + length b.batch - 1) (c ∷ bs) n is

some_next : (b : Numbered) (bs : List Numbered) → (n : ℕ) × (next_sequence (b ∷ bs) ≡ Some n)
some_next b [] = (sequence_after b, refl)
some_next b (c ∷ bs) = some_next c bs

behind_from : (last : ℕ) (bs : List Numbered) → is_last_ahead last (next_sequence bs) ≡ false → last ≤ last_of last bs
behind_from last [] clear = omega arith
behind_from last (b ∷ bs) clear =
    let n = some_next b bs in
    omega (arith, next_last last (b ∷ bs) n.0 n.1, ltb-false (n.0 - 1) last (ap (is_last_ahead last) (sym n.1) ∙ clear))

ahead_from : (last : ℕ) (bs : List Numbered) → is_last_ahead last (next_sequence bs) ≡ true → last ≤ last_of last bs → ⊥
ahead_from last [] ahead behind = absurd cc
ahead_from last (b ∷ bs) ahead behind =
    let n = some_next b bs in
    absurd (omega (arith, behind, next_last last (b ∷ bs) n.0 n.1, ltb-true (n.0 - 1) last (ap (is_last_ahead last) (sym n.1) ∙ ahead)))

-- ---- the newest log

module _ (fold : Folded) (folder : Folder) (oldest : List ℕ) (newest : ℕ) (batches : List Numbered) (old g : Gathered) (all : IsNewestOf fold folder oldest newest batches old)
    (versions : g.versions.items ≡ old.versions.items ++ above_through fold.families (versions_of batches)) (next : g.next ≡ next_behind old.next batches) (gap : g.gap ≡ gap_behind old.gap old.next newest batches) where
  last_is_new : In newest oldest → ⊥
  last_is_new held = sorted_apart oldest (newest ∷ []) newest (subst Sorted all.logs (rising_sorted fold.logs all.rising)) held (inl refl)

  gathered_all : IsGathered fold folder fold.logs g
  gathered_all = subst (λ (ns : List ℕ). IsGathered fold folder ns g) (sym all.logs) (gathered_more all.so_far.logs oldest newest batches last_is_new fold folder old g all.so_far refl all.held all.sequence versions next gap)

  sequence_all : g.gap ≡ None → IsInSequence (batches_of gathered_all.logs fold.logs)
  sequence_all none = subst (IsGap gathered_all.logs fold.logs) none gathered_all.gap

  pub in_line : g.gap ≡ None → is_last_ahead fold.last.0 g.next ≡ false → AreInLine fold folder g
  in_line none clear = record {
    gathered = gathered_all;
    sequence = sequence_all none;
    behind = behind_from fold.last.0 (batches_of gathered_all.logs fold.logs) (ap (is_last_ahead fold.last.0) (sym gathered_all.next) ∙ clear);
  }

  pub judged_refused : (e : OpenFault) → IsJudged fold.last.0 newest g e → RefusesLogs fold folder e
  judged_refused NoStore judged = judged
  judged_refused (BadManifest at) judged = judged
  judged_refused (MissingTable k) judged = judged
  judged_refused (BadTable k) judged = judged
  judged_refused (BadLog k at) (place, inl is) = inr (record { logs = gathered_all.logs; read = gathered_all.read; why = inl (subst (IsGap gathered_all.logs fold.logs) is gathered_all.gap); place = place })
  judged_refused (BadLog k at) (place, inr ahead) = inr (record {
    logs = gathered_all.logs;
    read = gathered_all.read;
    why = inr (record {
      sequence = sequence_all ahead.0;
      ahead = ahead_from fold.last.0 (batches_of gathered_all.logs fold.logs) (ap (is_last_ahead fold.last.0) (sym gathered_all.next) ∙ ahead.1);
      newest = ahead.2 ∙ sym (newest_last oldest newest) ∙ ap newest_log (sym all.logs);
    });
    place = place;
  })
  judged_refused DiskFault judged = absurd judged
  judged_refused NoMemory judged = absurd judged

-- ---- faults of one log

pub oldest_logs : (fold : Folded) (folder : Folder) (e : OpenFault) → RefusesOldest fold folder e → RefusesLogs fold folder e
oldest_logs fold folder NoStore refused = refused
oldest_logs fold folder (BadManifest at) refused = refused
oldest_logs fold folder (MissingTable k) refused = refused
oldest_logs fold folder (BadTable k) refused = refused
oldest_logs fold folder (BadLog n at) refused = inl refused
oldest_logs fold folder DiskFault refused = tt
oldest_logs fold folder NoMemory refused = tt

pub newest_refused : (fold : Folded) (folder : Folder) (oldest : List ℕ) (newest : ℕ) (g : Gathered) → fold.logs ≡ oldest ++ newest ∷ [] → IsGathered fold folder oldest g → (e : OpenFault) → RefusesLog (sizes_of fold) (folder (Log newest)) newest e → RefusesLogs fold folder e
newest_refused fold folder oldest newest g are so_far e refused = oldest_logs fold folder e (oldest_refused fold folder oldest [] newest so_far.logs are so_far.read e refused)

-- ---- before other logs were looked at

pub replayed_before : {D F : Type 0} (d : disk.Ghosts D F) (f : file.Ghosts F) (T : FileName → Type 0) (old mid : D) (sizes : List ℕ) (n number : ℕ) (wal : Wal F f) (batches : List Numbered) → Looks d f T old mid → IsTrue (d.is_told old) → n ≡ number
    → IsReplayed d f mid sizes n wal batches → IsReplayed d f old sizes number wal batches
replayed_before d f T old mid sizes n number wal batches looks told is replayed =
    let same = looks_stands d f T old mid looks told (Log n) in
    subst (λ (m : ℕ). IsReplayed d f old sizes m wal batches) is (record {
      held = subst (ReadsAs sizes batches) same replayed.held;
      sequence = replayed.sequence;
      shown = replayed.shown;
      rests = λ clean. replayed.rests (λ c left. clean c (leaves_all d f old mid (looks [] (λ m log x held. absurd held)) (Log n) c left) ∙ sym same);
    })

pub newest_before : {D F : Type 0} (d : disk.Ghosts D F) (f : file.Ghosts F) (T : FileName → Type 0) (old mid : D) (fold : Folded) (wal : Wal F f) → Looks d f T old mid → IsTrue (d.is_told old) → IsNewestLog d f mid fold wal → IsNewestLog d f old fold wal
newest_before d f T old mid fold wal looks told newest = record {
  batches = newest.batches;
  replayed = replayed_before d f T old mid (sizes_of fold) (newest_log fold.logs) (newest_log fold.logs) wal newest.batches looks told refl newest.replayed;
}
