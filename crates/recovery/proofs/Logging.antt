-- Logs one after another: each is new, and the first that isn't read is told.
use Rattle.std.proofs.Common.{◌≡◌, ℕ, suc, ◌+◌, ◌<◌, List, [], ◌∷◌, ◌++◌, length, take, drop, get_or, refl, sym, ap, ◌∙◌, subst, arith, inl, append_assoc, drop-cons}
use Rattle.std.specs.List.Sorted.{IsStrictlyIncreasing}
use Rattle.std.proofs.lemmas.List.{take-append-drop, take_more}
use Rattle.udt_disk.specs.Joint.{Folder}
use Rattle.udt_disk.specs.declared.name.FileName.TheVariants.{Log}
use Rattle.wal.specs.declared.numbered.Numbered.{Numbered}
use Rattle.manifest_fold.specs.declared.fold.Folded.{Folded}
use Rattle.manifest.specs.Folds.{sizes_of}
use Rattle.floor_laws.proofs.Members.{In}
use Rattle.floor_laws.proofs.Tables.{Sorted}
use Rattle.engine_laws.proofs.Ascending.{rising_sorted, sorted_apart}
use Rattle.recovery.specs.Refusals.{AreReplayed, IsBadLogFile}
use Rattle.recovery.specs.Replayed.{RefusesLog, RefusesOldest}
use Rattle.recovery.specs.declared.fault.OpenFault.{OpenFault}
use Rattle.recovery.specs.declared.fault.OpenFault.TheVariants.{NoStore, BadManifest, MissingTable, BadTable, BadLog, DiskFault, NoMemory}

module _ (logs oldest rest : List ℕ) (i n : ℕ) (are : logs ≡ oldest ++ rest) (within : i < length oldest) (at : n ≡ get_or oldest i n) where
  left_at : drop i oldest ≡ n ∷ drop (i + 1) oldest
  left_at =
      let next : suc i ≡ i + 1 = omega arith in
      drop-cons oldest i n within ∙ ap (λ (x : ℕ). x ∷ drop (suc i) oldest) (sym at) ∙ ap (λ (m : ℕ). n ∷ drop m oldest) next

  -- this log, those before it, and those after
  pub logs_around : logs ≡ take i oldest ++ n ∷ (drop (i + 1) oldest ++ rest)
  logs_around =
      are ∙ ap (λ (x : List ℕ). x ++ rest) (sym (take-append-drop i oldest)) ∙ append_assoc (take i oldest) (drop i oldest) rest ∙ ap (λ (x : List ℕ). take i oldest ++ (x ++ rest)) left_at

  pub is_new : IsStrictlyIncreasing logs → In n (take i oldest) → ⊥
  is_new rising held = sorted_apart (take i oldest) (n ∷ (drop (i + 1) oldest ++ rest)) n (subst Sorted logs_around (rising_sorted logs rising)) held (inl refl)

  pub taken_more : take (i + 1) oldest ≡ take i oldest ++ n ∷ []
  taken_more = take_more oldest i n within ∙ ap (λ (x : ℕ). take i oldest ++ x ∷ []) (sym at)

-- the first log that isn't read
pub oldest_refused : (fold : Folded) (folder : Folder) (before after : List ℕ) (n : ℕ) (logs : ℕ → List Numbered) → fold.logs ≡ before ++ n ∷ after → AreReplayed (sizes_of fold) folder logs before
    → (e : OpenFault) → RefusesLog (sizes_of fold) (folder (Log n)) n e → RefusesOldest fold folder e
oldest_refused fold folder before after n logs is read NoStore refused = refused
oldest_refused fold folder before after n logs is read (BadManifest at) refused = refused
oldest_refused fold folder before after n logs is read (MissingTable k) refused = refused
oldest_refused fold folder before after n logs is read (BadTable k) refused = refused
oldest_refused fold folder before after n logs is read (BadLog k at) refused = record {
  before = before;
  after = after;
  is = is ∙ ap (λ (m : ℕ). before ++ m ∷ after) (sym refused.0);
  logs = logs;
  read = read;
  bad = subst (λ (m : ℕ). IsBadLogFile (sizes_of fold) (folder (Log m)) at) (sym refused.0) refused.1;
}
oldest_refused fold folder before after n logs is read DiskFault refused = tt
oldest_refused fold folder before after n logs is read NoMemory refused = tt
