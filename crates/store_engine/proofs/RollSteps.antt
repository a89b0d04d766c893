-- The steps of a roll together: a sync, a new log, and the edit that adds it.
use Rattle.std.proofs.Common.{◌≡◌, ℕ, ◌+◌, ◌<◌, ◌≤◌, List, [], ◌∷◌, Result, Ok, Err, None, refl, sym, ap, ◌∙◌, subst, arith}
use Rattle.std.specs.Prelude.{Contains, IfErr, OnErr, OnOk, Option}
use Rattle.udt_disk.specs.Causes.{HasCause, plus_faults}
use Rattle.udt_disk.specs.Runs.{IsSameFile}
use Rattle.udt_disk.specs.Touches.{Touches}
use Rattle.udt_disk.specs.declared.file.DiskFile as file
use Rattle.udt_disk.specs.declared.disk.Disk as disk
use Rattle.udt_disk.specs.declared.name.FileName.TheVariants.{Log}
use Rattle.udt_disk.proofs.Joints.{ran_on}
use Rattle.udt_disk.proofs.TouchLemmas.{touches_nothing}
use Rattle.wal.specs.declared.numbered.Numbered.{Numbered}
use Rattle.wal.specs.Wals.{MayGoOn, wal_file, wal_pending}
use Rattle.udt_model.specs.State.{State}
use Rattle.udt_model.specs.Crashes.{Course, IsOutcome}
use Rattle.manifest_edit.specs.declared.edit.Edit.{Edit}
use Rattle.manifest_edit.specs.declared.edit.FamilyEdit.{FamilyEdit}
use Rattle.manifest_edit.specs.declared.edit.TableAt.{TableAt}
use Rattle.manifest_fold.specs.declared.fold.Folded.{Folded}
use Rattle.manifest_fold.specs.declared.limits.TheConstants.{FILE_NUMBER_LIMIT}
use Rattle.manifest_fold.specs.Folds.{families_with, fold_with, is_live, newest_log}
use Rattle.manifest.specs.Folders.{IsManifestName}
use Rattle.manifest.specs.Manifest.{manifest_file, manifest_folded}
use Rattle.floor_laws.proofs.Members.{contains_In}
use Rattle.engine_laws.specs.Engine.{HoldsState, MayEdit, with_batches, with_edit}
use Rattle.engine_laws.specs.Installs.{roll_edit}
use Rattle.engine_laws.specs.Joints.{IsNowLast}
use Rattle.engine_laws.specs.Moves.{added_tables}
use Rattle.engine_laws.specs.Standing.{Says, StandsForSome}
use Rattle.engine_laws.proofs.Ascending.{newest_last}
use Rattle.engine_laws.proofs.Editing.{newest_not}
use Rattle.engine_laws.proofs.Installing.{roll_may}
use Rattle.engine_laws.proofs.Moving.{other_log}
use Rattle.engine_laws.proofs.Syncing.{sync_unasked}
use Rattle.recovery.specs.Replayed.{IsLogName}
use Rattle.recovery.specs.Tables.{ReadsAsTable}
use Rattle.store_engine.specs.Calls.{RanOn, is_disk_failure}
use Rattle.store_engine.specs.Engines.{IsEngineOf, IsOneFolder, IsRunning, engine_faults, has_failed, held}
use Rattle.store_engine.specs.Sealing.{IsLogRolled, IsRolled, IsRolledName}
use Rattle.store_engine.specs.Sealing.IsRolled.{edited, unrolled, unsynced}
use Rattle.store_engine.specs.Steps.{IsLogSynced}
use Rattle.store_engine.specs.declared.engine.Engine.{Engine}
use Rattle.store_engine.specs.declared.fault.EngineFault.{EngineFault}
use Rattle.store_engine.specs.declared.fault.EngineFault.TheVariants.{DiskFault}
use Rattle.store_engine.specs.declared.older.OlderLogs.{OlderLogs}
use Rattle.store_engine.proofs.Answering.{ok_on, on_ok}
use Rattle.store_engine.proofs.Counts.{cause_third}
use Rattle.store_engine.proofs.Rolling.{added_of, added_ran, rolled_cause, rolled_ran}
use Rattle.store_engine.proofs.Synced.{synced_cause, synced_of, synced_one, synced_ran}

module _ {D F : Type 0} (d : disk.Ghosts D F) (f : file.Ghosts F) (now_last : IsNowLast d f) (edit : Edit) (older : OlderLogs) (mid new : Engine D F f) where
  -- ---- whether or not the disk tells

  pub rolls_next : (result : Result (Unit {0}) EngineFault) → IsRolled d f edit older mid new result → OnOk result (new.next ≡ mid.next + 1)
  rolls_next result (unsynced fault e) = tt
  rolls_next result (unrolled two fault e r) = tt
  rolls_next result (edited two three r1 e r ed) = ok_on result (new.next ≡ mid.next + 1) (let a = ed.next in let b = r.next in let k = e.next in omega (arith, a, b, k))

  pub rolls_older : (result : Result (Unit {0}) EngineFault) → IsRolled d f edit older mid new result → OnOk result (new.older ≡ older)
  rolls_older result (unsynced fault e) = tt
  rolls_older result (unrolled two fault e r) = tt
  rolls_older result (edited two three r1 e r ed) = ok_on result (new.older ≡ older) (ed.older ∙ r.older_is)

  pub rolls_pending : (result : Result (Unit {0}) EngineFault) → IsRolled d f edit older mid new result → OnOk result (wal_pending new.wal ≡ 0)
  rolls_pending result (unsynced fault e) = tt
  rolls_pending result (unrolled two fault e r) = tt
  rolls_pending result (edited two three r1 e r ed) = ok_on result (wal_pending new.wal ≡ 0) (ap (λ w. wal_pending w) ed.wal ∙ r.pending)

  pub rolls_goes : (result : Result (Unit {0}) EngineFault) → IsRolled d f edit older mid new result → OnOk result ((first : ℕ) → MayGoOn f new.wal first)
  rolls_goes result (unsynced fault e) = tt
  rolls_goes result (unrolled two fault e r) = tt
  rolls_goes result (edited two three r1 e r ed) = ok_on result ((first : ℕ) → MayGoOn f new.wal first) (λ first. subst (λ w. MayGoOn f w first) (sym ed.wal) (r.goes_on first))

  pub rolls_fold : (result : Result (Unit {0}) EngineFault) → IsRolled d f edit older mid new result → OnOk result (manifest_folded new.manifest ≡ fold_with (manifest_folded mid.manifest) edit)
  rolls_fold result (unsynced fault e) = tt
  rolls_fold result (unrolled two fault e r) = tt
  rolls_fold result (edited two three r1 e r ed) =
      on_ok result (manifest_folded new.manifest ≡ fold_with (manifest_folded three.manifest) edit) (manifest_folded new.manifest ≡ fold_with (manifest_folded mid.manifest) edit)
      (λ is. is ∙ ap (λ k. fold_with (manifest_folded k) edit) (r.manifest ∙ e.manifest)) ed.fold

  -- the number of the next file rises by one or not, the manifest stays in its file, and a log that is added makes no table live
  pub rolls_more : (result : Result (Unit {0}) EngineFault) → IsRolled d f edit older mid new result → (mid.next ≤ new.next) × (new.next ≤ mid.next + 1)
  rolls_more result (unsynced fault e) = let k = e.next in (omega (arith, k), omega (arith, k))
  rolls_more result (unrolled two fault e r) = let b = r.next_is in let k = e.next in (omega (arith, b, k), omega (arith, b, k))
  rolls_more result (edited two three r1 e r ed) = let a = ed.next in let b = r.next in let k = e.next in (omega (arith, a, b, k), omega (arith, a, b, k))

  same_file : (two : Engine D F f) → two.manifest ≡ mid.manifest → IsSameFile f (manifest_file mid.manifest) (manifest_file two.manifest)
  same_file two is = record { name = ap (λ k. f.name (manifest_file k)) is; told = ap (λ k. f.is_told (manifest_file k)) is; model = ap (λ k. f.keeps_model (manifest_file k)) is }

  pub rolls_file : (result : Result (Unit {0}) EngineFault) → IsRolled d f edit older mid new result → IsSameFile f (manifest_file mid.manifest) (manifest_file new.manifest)
  rolls_file result (unsynced fault e) = same_file new e.manifest
  rolls_file result (unrolled two fault e r) = same_file new (r.manifest ∙ e.manifest)
  rolls_file result (edited two three r1 e r ed) =
      let before = same_file three (r.manifest ∙ e.manifest) in
      record { name = ed.same.name ∙ before.name; told = ed.same.told ∙ before.told; model = ed.same.model ∙ before.model }

  -- the log is that of the new file
  pub rolls_name : (result : Result (Unit {0}) EngineFault) → IsRolled d f edit older mid new result → OnOk result (f.name (wal_file new.wal) ≡ Log mid.next)
  rolls_name result (unsynced fault e) = tt
  rolls_name result (unrolled two fault e r) = tt
  rolls_name result (edited two three r1 e r ed) = ok_on result (f.name (wal_file new.wal) ≡ Log mid.next) (ap (λ w. f.name (wal_file w)) ed.wal ∙ r.name ∙ ap Log e.next)

  pub rolls_live : (result : Result (Unit {0}) EngineFault) → IsRolled d f edit older mid new result → edit.family ≡ None → (n : ℕ) → is_live (manifest_folded new.manifest).families n ≡ is_live (manifest_folded mid.manifest).families n
  rolls_live result (unsynced fault e) none n = ap (λ k. is_live (manifest_folded k).families n) e.manifest
  rolls_live result (unrolled two fault e r) none n = ap (λ k. is_live (manifest_folded k).families n) (r.manifest ∙ e.manifest)
  rolls_live result (edited two three r1 e r ed) none n =
      let before : is_live (manifest_folded three.manifest).families n ≡ is_live (manifest_folded mid.manifest).families n = ap (λ k. is_live (manifest_folded k).families n) (r.manifest ∙ e.manifest) in
      elim result as (λ k. OnOk k (manifest_folded new.manifest ≡ fold_with (manifest_folded three.manifest) edit) → OnErr k (manifest_folded new.manifest ≡ manifest_folded three.manifest) → is_live (manifest_folded new.manifest).families n ≡ is_live (manifest_folded mid.manifest).families n) [
        | Ok u ↦ λ fold same. ap (λ (z : Folded). is_live z.families n) fold ∙ ap (λ (o : Option FamilyEdit). is_live (families_with (manifest_folded three.manifest).families o) n) none ∙ before
        | Err x ↦ λ fold same. ap (λ (z : Folded). is_live z.families n) same ∙ before
      ] ed.fold ed.unchanged

  pub rolls_running : (result : Result (Unit {0}) EngineFault) → IsRolled d f edit older mid new result → OnOk result (IsRunning new)
  rolls_running result (unsynced fault e) = tt
  rolls_running result (unrolled two fault e r) = tt
  rolls_running result (edited two three r1 e r ed) = ed.running

  pub rolls_failed : (result : Result (Unit {0}) EngineFault) → IsRolled d f edit older mid new result → has_failed new ≡ is_disk_failure result
  rolls_failed result (unsynced fault e) = e.failed
  rolls_failed result (unrolled two fault e r) = r.failed
  rolls_failed result (edited two three r1 e r ed) = ed.failed

  pub rolls_fault : (result : Result (Unit {0}) EngineFault) → IsRolled d f edit older mid new result → IfErr result (λ fault. fault ≡ DiskFault)
  rolls_fault result (unsynced fault e) = e.fault
  rolls_fault result (unrolled two fault e r) = r.fault
  rolls_fault result (edited two three r1 e r ed) = ed.fault

  pub rolls_cause : (result : Result (Unit {0}) EngineFault) → IsRolled d f edit older mid new result → HasCause (engine_faults d f mid) (engine_faults d f new) result
  rolls_cause result (unsynced fault e) = synced_cause d f now_last mid new (Err fault) e
  rolls_cause result (unrolled two fault e r) = subst (λ n. HasCause n (engine_faults d f new) result) (synced_cause d f now_last mid two (Ok tt) e).kept (rolled_cause d f older two new (Err fault) r)
  rolls_cause result (edited two three r1 e r ed) =
      let a = plus_faults (d.faults three.disk) (f.faults (wal_file three.wal)) in
      let cause = cause_third a (f.faults (manifest_file three.manifest)) (f.faults (manifest_file new.manifest)) result ed.cause in
      let same : plus_faults a (f.faults (manifest_file new.manifest)) ≡ engine_faults d f new =
      ap (λ k. plus_faults (plus_faults (d.faults k) (f.faults (wal_file three.wal))) (f.faults (manifest_file new.manifest))) (sym ed.disk)
      ∙ ap (λ w. plus_faults (plus_faults (d.faults new.disk) (f.faults (wal_file w))) (f.faults (manifest_file new.manifest))) (sym ed.wal) in
      let before : engine_faults d f three ≡ engine_faults d f mid = (rolled_cause d f older two three (Ok tt) r).kept ∙ (synced_cause d f now_last mid two (Ok tt) e).kept in
      subst (λ n. HasCause n (engine_faults d f new) result) before (subst (λ n. HasCause (engine_faults d f three) n result) same cause)

  rolled_name : (two : Engine D F f) → IsLogSynced f mid two (Ok tt) → (after : D) → Touches d (IsRolledName (f.name (wal_file two.wal)) two.next) two.disk after → Touches d (IsRolledName (f.name (wal_file mid.wal)) mid.next) mid.disk after
  rolled_name two e after t =
      subst (λ x. Touches d (IsRolledName (f.name (wal_file mid.wal)) mid.next) x after) e.disk
      (subst (λ n. Touches d (IsRolledName (f.name (wal_file mid.wal)) n) two.disk after) e.next (subst (λ n. Touches d (IsRolledName n two.next) two.disk after) e.same.name t))

  pub rolls_touches : (result : Result (Unit {0}) EngineFault) → IsRolled d f edit older mid new result → Touches d (IsRolledName (f.name (wal_file mid.wal)) mid.next) mid.disk new.disk
  rolls_touches result (unsynced fault e) = subst (λ x. Touches d (IsRolledName (f.name (wal_file mid.wal)) mid.next) mid.disk x) (sym e.disk) (touches_nothing d (IsRolledName (f.name (wal_file mid.wal)) mid.next) mid.disk)
  rolls_touches result (unrolled two fault e r) = rolled_name two e new.disk r.touches
  rolls_touches result (edited two three r1 e r ed) = subst (λ x. Touches d (IsRolledName (f.name (wal_file mid.wal)) mid.next) mid.disk x) (sym ed.disk) (rolled_name two e three.disk r.touches)

  rolled_one : (two three : Engine D F f) (result : Result (Unit {0}) EngineFault) → IsLogRolled d f older two three result → IsOneFolder d f two → IsOneFolder d f three
  rolled_one two three result r one =
      elim result as (λ k. OnOk k (f.name (wal_file three.wal) ≡ Log two.next) → OnOk k (f.is_told (wal_file three.wal) ≡ d.is_told two.disk) → OnOk k (f.keeps_model (wal_file three.wal) ≡ d.keeps_model two.disk) → OnErr k (three.wal ≡ two.wal) → IsOneFolder d f three) [
        | Ok u ↦ λ name told model still. record {
          named = record { of_manifest = subst (λ k. IsManifestName (f.name (manifest_file k))) (sym r.manifest) one.named.of_manifest; of_log = (two.next, name) };
          wal_told = told ∙ sym r.touches.told;
          wal_model = model ∙ sym r.touches.model;
          manifest_told = ap (λ k. f.is_told (manifest_file k)) r.manifest ∙ one.manifest_told ∙ sym r.touches.told;
          manifest_model = ap (λ k. f.keeps_model (manifest_file k)) r.manifest ∙ one.manifest_model ∙ sym r.touches.model;
        }
        | Err x ↦ λ name told model still. record {
          named = record { of_manifest = subst (λ k. IsManifestName (f.name (manifest_file k))) (sym r.manifest) one.named.of_manifest; of_log = subst (λ w. IsLogName (f.name (wal_file w))) (sym still) one.named.of_log };
          wal_told = ap (λ w. f.is_told (wal_file w)) still ∙ one.wal_told ∙ sym r.touches.told;
          wal_model = ap (λ w. f.keeps_model (wal_file w)) still ∙ one.wal_model ∙ sym r.touches.model;
          manifest_told = ap (λ k. f.is_told (manifest_file k)) r.manifest ∙ one.manifest_told ∙ sym r.touches.told;
          manifest_model = ap (λ k. f.keeps_model (manifest_file k)) r.manifest ∙ one.manifest_model ∙ sym r.touches.model;
        }
      ] r.name r.wal_told r.wal_model r.still

  pub rolls_one : (result : Result (Unit {0}) EngineFault) → IsRolled d f edit older mid new result → IsOneFolder d f mid → IsOneFolder d f new
  rolls_one result (unsynced fault e) one = synced_one d f now_last mid new (Err fault) e one
  rolls_one result (unrolled two fault e r) one = rolled_one two new (Err fault) r (synced_one d f now_last mid two (Ok tt) e one)
  rolls_one result (edited two three r1 e r ed) one =
      let three_one = rolled_one two three (Ok tt) r (synced_one d f now_last mid two (Ok tt) e one) in
      let told : d.is_told new.disk ≡ d.is_told three.disk = ap d.is_told ed.disk in
      let model : d.keeps_model new.disk ≡ d.keeps_model three.disk = ap d.keeps_model ed.disk in
      record {
        named = record { of_manifest = subst IsManifestName (sym ed.same.name) three_one.named.of_manifest; of_log = subst (λ w. IsLogName (f.name (wal_file w))) (sym ed.wal) three_one.named.of_log };
        wal_told = ap (λ w. f.is_told (wal_file w)) ed.wal ∙ three_one.wal_told ∙ sym told;
        wal_model = ap (λ w. f.keeps_model (wal_file w)) ed.wal ∙ three_one.wal_model ∙ sym model;
        manifest_told = ed.same.told ∙ three_one.manifest_told ∙ sym told;
        manifest_model = ed.same.model ∙ three_one.manifest_model ∙ sym model;
      }

  -- ---- what the engine holds

  module _ (m : State) (c : Course) (s : Says) (waiting : List Numbered) (h : HoldsState m c s waiting) (of : IsEngineOf d f mid s waiting) (run : IsRunning mid) (low : mid.next < FILE_NUMBER_LIMIT) (empty : s.logs mid.next ≡ []) (edit_is : edit ≡ roll_edit m.last mid.next) where
    abbrev s1 : Says
    s1 = with_batches s waiting

    h1 : HoldsState m c s1 []
    h1 = sync_unasked m c s waiting h

    pub above_next : s.fold.next_file ≤ mid.next
    above_next = subst (λ fold. fold.next_file ≤ mid.next) of.fold run.together.more

    empty1 : s1.logs mid.next ≡ []
    empty1 = other_log s waiting mid.next (newest_not s.fold mid.next h.well above_next) ∙ empty

    may : MayEdit m s1 edit m
    may = subst (λ e. MayEdit m s1 e m) (sym edit_is) (roll_may m m c s1 mid.next h1 above_next (let l = low in omega (arith, l)) empty1 (record { families = refl; versions = refl; last = refl }) h.sound)

    no_tables : (t : TableAt) → Contains (added_tables edit.family) t → ⊥
    no_tables t held = contains_In [] t (subst (λ o. Contains (added_tables o) t) (ap (λ (e : Edit). e.family) edit_is) held)

    adds : (n : ℕ) → n ≡ mid.next → edit.add_logs ≡ n ∷ []
    adds n is = ap (λ (e : Edit). e.add_logs) edit_is ∙ ap (λ k. k ∷ []) (sym is)

    of_two : (two : Engine D F f) → IsLogSynced f mid two (Ok tt) → IsEngineOf d f two s1 []
    of_two two e = synced_of d f now_last mid two (Ok tt) e m c s waiting h of run.together

    abbrev Stands : Type 0
    Stands = RanOn d f m c mid new

    first : (two : Engine D F f) (result : Result (Unit {0}) EngineFault) → IsLogSynced f mid two result → RanOn d f m c mid two
    first two result e = synced_ran d f now_last mid two result e m c s waiting h of run.together

    pub rolls_ran : (result : Result (Unit {0}) EngineFault) → IsRolled d f edit older mid new result → RanOn d f m c mid new
    rolls_ran result (unsynced fault e) = first new (Err fault) e
    rolls_ran result (unrolled two fault e r) =
        ran_on d f (λ folder. StandsForSome ReadsAsTable folder (IsOutcome m c)) (held mid) (held two) (held new) (first two (Ok tt) e)
        (rolled_ran d f now_last older two m c s1 h1 (of_two two e) e.running.together new (Err fault) r)
    rolls_ran result (edited two three r1 e r ed) =
        ran_on d f (λ folder. StandsForSome ReadsAsTable folder (IsOutcome m c)) (held mid) (held three) (held new)
        (ran_on d f (λ folder. StandsForSome ReadsAsTable folder (IsOutcome m c)) (held mid) (held two) (held three) (first two (Ok tt) e)
        (rolled_ran d f now_last older two m c s1 h1 (of_two two e) e.running.together three (Ok tt) r))
        (added_ran d f now_last older two m c s1 h1 (of_two two e) e.running.together three r (subst (λ n. s1.logs n ≡ []) (sym e.next) empty1) edit new result ed may (adds two.next e.next) no_tables)

    pub rolls_of : (result : Result (Unit {0}) EngineFault) → IsRolled d f edit older mid new result → OnOk result (IsEngineOf d f new (with_edit s1 edit) [])
    rolls_of result (unsynced fault e) = tt
    rolls_of result (unrolled two fault e r) = tt
    rolls_of result (edited two three r1 e r ed) =
        added_of d f now_last older two m c s1 h1 (of_two two e) e.running.together three r (subst (λ n. s1.logs n ≡ []) (sym e.next) empty1) edit new result ed may (adds two.next e.next) no_tables
        (ap (λ (x : Edit). newest_log (fold_with s1.fold x).logs) edit_is ∙ newest_last s.fold.logs mid.next ∙ sym e.next)
