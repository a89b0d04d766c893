-- A call of a seal: its answers, and what the engine holds behind it.
use Rattle.std.proofs.Common.{◌≡◌, ℕ, ◌+◌, ◌<◌, ◌≤◌, true, false, List, [], ◌∷◌, ◌++◌, length, Result, Ok, Err, Some, None, refl, sym, ap, ◌∙◌, subst, arith, inl, inr}
use Rattle.std.specs.Prelude.{Contains, IfErr, IfOk, slice_get}
use Rattle.std.specs.Arc.{arc_value}
use Rattle.std.specs.List.{flat_map}
use Rattle.std.proofs.lemmas.Bool.{eq-eqb, false≢true, ne_eqb}
use Rattle.std.proofs.lemmas.List.{append-nil, length-append}
use Rattle.ts_key.specs.declared.numbers.Family.{Family}
use Rattle.ts_key.specs.declared.numbers.Seq.{Seq}
use Rattle.ts_key.specs.declared.version.Version.{Version}
use Rattle.udt_disk.specs.Causes.{HasCause}
use Rattle.udt_disk.specs.Joint.{Ran}
use Rattle.udt_disk.specs.Joint.Ran.{rests}
use Rattle.udt_disk.specs.Moments.{MayLeave}
use Rattle.udt_disk.specs.Runs.{IsSameFile}
use Rattle.udt_disk.specs.Touches.{Touches}
use Rattle.udt_disk.proofs.TouchLemmas.{touches_nothing}
use Rattle.udt_disk.specs.declared.file.DiskFile as file
use Rattle.udt_disk.specs.declared.disk.Disk as disk
use Rattle.udt_disk.specs.declared.name.FileName.TheVariants.{Log}
use Rattle.wal.specs.Wals as log
use Rattle.wal.specs.Wals.{MayGoOn, wal_file, wal_pending}
use Rattle.memtable.specs.Memtables.{versions_of_memtable}
use Rattle.udt_model.specs.declared.reply.Reply.TheVariants as replies
use Rattle.udt_model.specs.Acts.Act.{flush_start}
use Rattle.udt_model.specs.Jobs.{unflushed_of}
use Rattle.udt_model.specs.State.{State}
use Rattle.udt_model.specs.Crashes.{Course, IsOutcome, course_after}
use Rattle.udt_model.specs.Steps.{IsReplyTo, after}
use Rattle.manifest_edit.specs.declared.edit.Edit.{Edit}
use Rattle.manifest_fold.specs.declared.fold.Folded.{Folded}
use Rattle.manifest_fold.specs.declared.limits.TheConstants.{FILE_NUMBER_LIMIT}
use Rattle.manifest_fold.specs.Folds.{fold_with, is_live, newest_log}
use Rattle.manifest.specs.Manifest.{manifest_file, manifest_folded}
use Rattle.super_version.specs.Changes.{ChangesFamily, family_with_seal}
use Rattle.super_version.specs.declared.family.FamilyState.{FamilyState}
use Rattle.super_version.specs.declared.version.SuperVersion.{SuperVersion}
use Rattle.floor_laws.proofs.Members.{All-In, All-from, contains_In}
use Rattle.engine_laws.specs.Engine.{HoldsState, newest_log_of, with_batches, with_edit, with_new_log}
use Rattle.engine_laws.specs.Installs.{roll_edit}
use Rattle.engine_laws.specs.Joints.{IsNowLast}
use Rattle.engine_laws.specs.Logs.{last_of, versions_of}
use Rattle.engine_laws.specs.Standing.{Says, StandsForSome, live_batches}
use Rattle.engine_laws.proofs.Acting.{seal_holds}
use Rattle.engine_laws.proofs.Ascending.{newest_last}
use Rattle.engine_laws.proofs.Batches.{batches_from, versions_upto}
use Rattle.engine_laws.proofs.Editing.{newest_live, newest_not}
use Rattle.engine_laws.proofs.Joined.{now_leaves}
use Rattle.engine_laws.proofs.Keeping.{fixed_log, keeps_holds, same_holds}
use Rattle.engine_laws.proofs.Moving.{same_rests}
use Rattle.engine_laws.proofs.Resting.{front_above, whole_is}
use Rattle.engine_laws.proofs.Syncing.{sync_unasked}
use Rattle.floor_laws.proofs.Courses.{course_sound}
use Rattle.floor_laws.proofs.Told.{sound_after}
use Rattle.recovery.specs.Tables.{ReadsAsTable}
use Rattle.recovery.specs.Versions.{FitsFold}
use Rattle.store_engine.specs.Calls.{RanOn}
use Rattle.store_engine.specs.Engines.{HoldsAsBefore, HoldsNow, IsCurrent, IsEngineOf, IsOneFolder, IsRunning, engine_faults, held}
use Rattle.store_engine.specs.Now.{IsNow, versions_held}
use Rattle.store_engine.specs.Older.{CoversOlder}
use Rattle.store_engine.specs.Replies.{is_disk_fault}
use Rattle.store_engine.specs.Jobs.{IsJobNumber}
use Rattle.store_engine.specs.Sealing.{IsRolled, IsRolledAs, IsRolledName, IsSealOf, IsSealed, PreparesRoll, SealsActive, ShowsSealed, TellsSeal, after_seal, course_after_seal, rolled_count, version_after}
use Rattle.store_engine.specs.Sealing.SealsActive.{sealed, stopped, unmade, unreserved}
use Rattle.store_engine.specs.declared.engine.Engine.{Engine}
use Rattle.store_engine.specs.declared.fault.EngineFault.{EngineFault}
use Rattle.store_engine.specs.declared.older.OlderLogs.{OlderLogs}
use Rattle.store_engine.specs.declared.seal.Sealed.{Sealed}
use Rattle.store_engine.specs.declared.seal.Sealed.TheVariants as seals
use Rattle.store_engine.proofs.Answering.{as_before, disk_cause, disk_disk, none_cause, none_disk, one_stays}
use Rattle.store_engine.proofs.Besides.{holds_beside}
use Rattle.store_engine.proofs.Covering.{covers_new_log, covers_rolled, covers_synced}
use Rattle.store_engine.proofs.Current.{get_changed, length_changed}
use Rattle.store_engine.proofs.NowRaised.{same_or_not}
use Rattle.store_engine.proofs.NowSealed.{held_count, now_sealed, now_waiting, seal_fails, seal_full, seal_not_there, seal_nothing, seal_some, seal_there, seal_unknown}
use Rattle.store_engine.proofs.Raised.{reserved_held, reserved_of}
use Rattle.store_engine.proofs.Raising.{kept_before, kept_faults, kept_folder}
use Rattle.store_engine.proofs.RollSteps.{rolls_cause, rolls_failed, rolls_fault, rolls_file, rolls_fold, rolls_goes, rolls_live, rolls_more, rolls_name, rolls_next, rolls_of, rolls_older, rolls_one, rolls_pending, rolls_ran, rolls_running, rolls_touches}

-- ---- the manifest and the next version

sealed_fits : (fold : Folded) (now version : SuperVersion) (family : Family) (n : ℕ) → ChangesFamily family.0 family_with_seal now version → FitsFold fold now → FitsFold (fold_with fold (roll_edit now.last n)) version
sealed_fits fold now version family n changes fits =
    let last : version.last.0 ≡ now.last.0 = ap (λ (q : Seq). q.0) changes.last in
    let high = fits.within in
    record {
      last = omega (arith, last);
      within = omega (arith, last, high);
      all = ap length changes.families ∙ length_changed family.0 family_with_seal now.families ∙ fits.all;
      each = λ i f state there at.
          let o = get_changed family.0 i family_with_seal now.families state (subst (λ l. slice_get l i ≡ Some state) changes.families at) in
          let e = fits.each i f o.0 there o.1 in
          elim (same_or_not i family.0) [
            | inl q ↦
                let is : state ≡ family_with_seal o.0 = o.2.0 q in
                record { form = ap (λ (h : FamilyState). h.form) is ∙ e.form; floor = ap (λ (h : FamilyState). h.floor) is ∙ e.floor; through = ap (λ (h : FamilyState). h.through) is ∙ e.through }
            | inr ne ↦
                let is : state ≡ o.0 = o.2.1 ne in
                record { form = ap (λ (h : FamilyState). h.form) is ∙ e.form; floor = ap (λ (h : FamilyState). h.floor) is ∙ e.floor; through = ap (λ (h : FamilyState). h.through) is ∙ e.through }
          ];
    }

module _ {D F : Type 0} (d : disk.Ghosts D F) (f : file.Ghosts F) (now_last : IsNowLast d f) where
  -- ---- where nothing was done

  pub still_ran : (old new : Engine D F f) (now : SuperVersion) (m : State) (c : Course) → HoldsNow d f old now m c → held new ≡ held old → RanOn d f m c old new
  still_ran old new now m c h same =
      subst (λ j. Ran d f (λ folder. StandsForSome ReadsAsTable folder (IsOutcome m c)) (held old) j) (sym same)
      (rests (λ folder image. now_leaves d f now_last ReadsAsTable (f.name (manifest_file old.manifest)) m c h.says h.waiting (held old) h.holds h.engine_of.rests folder image))

  -- the engine holds the state in which the flush runs, where it takes what is sealed already
  pub waiting_now : (engine : Engine D F f) (now : SuperVersion) (m : State) (c : Course) (number : ℕ) (family : Family) → HoldsNow d f engine now m c → IsReplyTo m (flush_start family) (replies.OkAt m.last.0)
      → IsNow now (after m number (flush_start family) (replies.OkAt m.last.0)) → HoldsNow d f engine now (after m number (flush_start family) (replies.OkAt m.last.0)) (course_after m number c (flush_start family) (replies.OkAt m.last.0))
  waiting_now engine now m c number family h told shows = record {
    says = h.says;
    waiting = h.waiting;
    engine_of = h.engine_of;
    holds = keeps_holds m (after m number (flush_start family) (replies.OkAt m.last.0)) c (course_after m number c (flush_start family) (replies.OkAt m.last.0)) h.says h.waiting (record { families = refl; versions = refl; last = refl })
        (sound_after m number (flush_start family) (replies.OkAt m.last.0) h.holds.sound told) (course_sound m c number (flush_start family) (replies.OkAt m.last.0) h.holds.sound h.holds.course.sound told) refl refl h.holds;
    shows = shows;
    used = h.used;
    covers = h.covers;
    runs = h.runs;
    unfailed = h.unfailed;
  }

  module _ (last : Seq) (old : Engine D F f) (run : IsRunning old) where
    same_manifest : IsSameFile f (manifest_file old.manifest) (manifest_file old.manifest)
    same_manifest = record { name = refl; told = refl; model = refl }

    -- a refusal
    pub refused_called : (fault : EngineFault) → is_disk_fault fault ≡ false → IsSealed d f last old old (Err fault)
    refused_called fault no_disk = record {
      one = λ one. one;
      manifest = same_manifest;
      next = λ not. omega arith;
      numbers = (omega arith, omega arith);
      jobs = λ n job. job;
      untouched = λ not none. record { held_is = refl; wal = refl; older = refl };
      rolled = λ one. absurd (omega (arith, one));
      touches = touches_nothing d (IsRolledName (f.name (wal_file old.wal)) old.next) old.disk;
      running = λ not. run;
      failed = run.runs ∙ sym no_disk;
      counted = none_cause fault (engine_faults d f old) (engine_faults d f old) no_disk refl;
    }

    -- and a seal without a roll
    pub unrolled_called : (done : Sealed) → rolled_count (Ok done) ≡ 0 → IsSealed d f last old old (Ok done)
    unrolled_called done none = record {
      one = λ one. one;
      manifest = same_manifest;
      next = λ not. omega (arith, none);
      numbers = (omega arith, omega arith);
      jobs = λ n job. job;
      untouched = λ not is. record { held_is = refl; wal = refl; older = refl };
      rolled = λ one. absurd (omega (arith, one, none));
      touches = touches_nothing d (IsRolledName (f.name (wal_file old.wal)) old.next) old.disk;
      running = λ not. run;
      failed = run.runs;
      counted = refl;
    }

  -- ---- the answers without a roll

  module _ (engine : Engine D F f) (now : SuperVersion) (m : State) (c : Course) (family : Family) (h : HoldsNow d f engine now m c) (idle : m.flush ≡ None) where
    pub unknown_tells : slice_get now.families family.0 ≡ None → IsReplyTo m (flush_start family) replies.Unknown
    unknown_tells there = seal_unknown m family h.runs idle (seal_not_there now m h.shows family there)

    module _ (g : FamilyState) (there : slice_get now.families family.0 ≡ Some g) where
      pub nothing_tells : versions_held g ≡ [] → IsReplyTo m (flush_start family) replies.Nothing
      nothing_tells none =
          let of = seal_there now m h.shows family g there in
          seal_nothing m family h.runs idle of.0 of.1 (sym (held_count now m h.shows family g there) ∙ ap (λ (vs : List Version). length vs) none)

      pub nothing_holds : (number : ℕ) → versions_held g ≡ [] → HoldsNow d f engine now (after m number (flush_start family) replies.Nothing) (course_after m number c (flush_start family) replies.Nothing)
      nothing_holds number none = holds_beside m c number (flush_start family) replies.Nothing refl d f engine now h (nothing_tells none)

      full_known : 1 ≤ length (versions_held g) → 1 ≤ length (unflushed_of m family)
      full_known some = let count = held_count now m h.shows family g there in omega (arith, count, some)

      pub full_tells : (next : ℕ) → next ≡ FILE_NUMBER_LIMIT → 1 ≤ length (versions_held g) → IsReplyTo m (flush_start family) (replies.Files next)
      full_tells next is some =
          let of = seal_there now m h.shows family g there in
          subst (λ n. IsReplyTo m (flush_start family) (replies.Files n)) (sym is) (seal_full m family h.runs idle of.0 of.1 (full_known some))

      pub waiting_tells : 1 ≤ length (versions_held g) → IsReplyTo m (flush_start family) (replies.OkAt m.last.0)
      waiting_tells some = let of = seal_there now m h.shows family g there in seal_some m family h.runs idle of.0 of.1 (full_known some)

      pub waiting_holds : (number : ℕ) → versions_of_memtable g.active ≡ [] → 1 ≤ length (versions_held g) → HoldsNow d f engine now (after m number (flush_start family) (replies.OkAt m.last.0)) (course_after m number c (flush_start family) (replies.OkAt m.last.0))
      waiting_holds number empty some = waiting_now engine now m c number family h (waiting_tells some) (now_waiting now m h.shows family number g there empty)

  module _ (now : SuperVersion) (family : Family) (old new : Engine D F f) (run : IsRunning old) (current : IsCurrent old now) (g : FamilyState) (there : slice_get now.families family.0 ≡ Some g) (some : 1 ≤ length (versions_of_memtable g.active)) (low : old.next < FILE_NUMBER_LIMIT) where
    rolled_answer : (done : Sealed) → IsRolledAs family now done → IsSealOf g old.next (Ok done)
    rolled_answer seals.Nothing shows = absurd shows
    rolled_answer seals.Waiting shows = absurd shows
    rolled_answer (seals.Rolled version mems) shows = (some, low)

    pub active_answers : (result : Result Sealed EngineFault) → SealsActive d f now family old new result → IsSealOf g old.next result
    active_answers result (unmade fault is same) = subst (λ x. IsSealOf g old.next (Err x)) (sym is) (some, low)
    active_answers result (unreserved edit fault r) = subst (λ x. IsSealOf g old.next (Err x)) (sym r.fault) (some, low)
    active_answers result (stopped edit older mid fault p r) = subst (λ x. IsSealOf g old.next (Err x)) (sym (rolls_fault d f now_last edit older mid new (Err fault) r)) (some, low)
    active_answers result (sealed edit older mid done p r shows) = rolled_answer done shows

    shown_by : (done : Sealed) → IsRolledAs family now done → ShowsSealed family now done
    shown_by seals.Nothing shows = absurd shows
    shown_by seals.Waiting shows = absurd shows
    shown_by (seals.Rolled version mems) shows = shows

    pub active_shown : (result : Result Sealed EngineFault) → SealsActive d f now family old new result → IfOk result (ShowsSealed family now)
    active_shown result (unmade fault is same) = tt
    active_shown result (unreserved edit fault r) = tt
    active_shown result (stopped edit older mid fault p r) = tt
    active_shown result (sealed edit older mid done p r shows) = shown_by done shows

    once : (done : Sealed) → IsRolledAs family now done → rolled_count (Ok done) ≡ 0 → ⊥
    once seals.Nothing shows none = shows
    once seals.Waiting shows none = shows
    once (seals.Rolled version mems) shows none = omega (arith, none)

    pub active_still : (result : Result Sealed EngineFault) → SealsActive d f now family old new result → IfOk result (λ done. rolled_count result ≡ 0 → new ≡ old)
    active_still result (unmade fault is same) = tt
    active_still result (unreserved edit fault r) = tt
    active_still result (stopped edit older mid fault p r) = tt
    active_still result (sealed edit older mid done p r shows) = λ none. absurd (once done shows none)

    stops_disk : (edit : Edit) (older : OlderLogs) (mid : Engine D F f) (fault : EngineFault) → IsRolled d f edit older mid new (Err fault) → is_disk_fault fault ≡ true
    stops_disk edit older mid fault r = disk_disk fault (rolls_fault d f now_last edit older mid new (Err fault) r)

    pub active_refused : (result : Result Sealed EngineFault) → SealsActive d f now family old new result → IfErr result (λ fault. is_disk_fault fault ≡ false → HoldsAsBefore d f old new)
    active_refused result (unmade fault is same) = λ not. subst (λ e. HoldsAsBefore d f old e) (sym same) (as_before d f now_last old)
    active_refused result (unreserved edit fault r) = λ not. kept_before d f now_last old new edit (Err fault) r
    active_refused result (stopped edit older mid fault p r) = λ not. absurd (false≢true (sym not ∙ stops_disk edit older mid fault r))
    active_refused result (sealed edit older mid done p r shows) = tt

    current_by : (edit : Edit) (older : OlderLogs) (mid : Engine D F f) (done : Sealed) → PreparesRoll f now edit older old mid → IsRolled d f edit older mid new (Ok tt) → IsRolledAs family now done → IsCurrent new (version_after now done)
    current_by edit older mid seals.Nothing p r shows = absurd shows
    current_by edit older mid seals.Waiting p r shows = absurd shows
    current_by edit older mid (seals.Rolled version mems) p r shows =
        let fold : manifest_folded new.manifest ≡ fold_with (manifest_folded old.manifest) (roll_edit now.last old.next) =
        rolls_fold d f now_last edit older mid new (Ok tt) r ∙ ap (λ z. fold_with z edit) p.reserves.fold ∙ ap (fold_with (manifest_folded old.manifest)) p.edit_is in
        record {
          fits = subst (λ z. FitsFold z (arc_value version)) (sym fold) (sealed_fits (manifest_folded old.manifest) now (arc_value version) family old.next shows.changes current.fits);
          goes_on = rolls_goes d f now_last edit older mid new (Ok tt) r ((arc_value version).last.0 + 1);
          room = let none = rolls_pending d f now_last edit older mid new (Ok tt) r in omega (arith, none);
        }

    pub active_current : (result : Result Sealed EngineFault) → SealsActive d f now family old new result → IfOk result (λ done. IsCurrent new (version_after now done))
    active_current result (unmade fault is same) = tt
    active_current result (unreserved edit fault r) = tt
    active_current result (stopped edit older mid fault p r) = tt
    active_current result (sealed edit older mid done p r shows) = current_by edit older mid done p r shows

    -- ---- what it leaves

    module _ (edit : Edit) (older : OlderLogs) (mid : Engine D F f) (ended : Result (Unit {0}) EngineFault) (p : PreparesRoll f now edit older old mid) (r : IsRolled d f edit older mid new ended) where
      prepared_one : IsOneFolder d f old → IsOneFolder d f new
      prepared_one one = rolls_one d f now_last edit older mid new ended r (one_stays d f old mid (kept_folder d f now_last old mid edit (Ok tt) p.reserves) one)

      prepared_file : IsSameFile f (manifest_file old.manifest) (manifest_file new.manifest)
      prepared_file = subst (λ x. IsSameFile f x (manifest_file new.manifest)) p.reserves.file (rolls_file d f now_last edit older mid new ended r)

      prepared_numbers : (old.next ≤ new.next) × (new.next ≤ old.next + 1)
      prepared_numbers = let a = rolls_more d f now_last edit older mid new ended r in let low = a.0 in let high = a.1 in let b = p.reserves.next in (omega (arith, low, b), omega (arith, high, b))

      prepared_jobs : (n : ℕ) → IsJobNumber old n → IsJobNumber new n
      prepared_jobs n job = record {
        given = let a = (rolls_more d f now_last edit older mid new ended r).0 in let b = p.reserves.next in let l = job.given in omega (arith, a, b, l);
        free = rolls_live d f now_last edit older mid new ended r (ap (λ (e : Edit). e.family) p.edit_is) n ∙ ap (λ (z : Folded). is_live z.families n) p.reserves.fold ∙ job.free;
      }

      prepared_touches : Touches d (IsRolledName (f.name (wal_file old.wal)) old.next) old.disk new.disk
      prepared_touches =
          subst (λ x. Touches d (IsRolledName (f.name (wal_file old.wal)) old.next) x new.disk) p.reserves.disk
          (subst (λ n. Touches d (IsRolledName (f.name (wal_file old.wal)) n) mid.disk new.disk) p.reserves.next
          (subst (λ w. Touches d (IsRolledName (f.name (wal_file w)) mid.next) mid.disk new.disk) p.reserves.wal (rolls_touches d f now_last edit older mid new ended r)))

      prepared_cause : HasCause (engine_faults d f old) (engine_faults d f new) ended
      prepared_cause = subst (λ n. HasCause n (engine_faults d f new) ended) (kept_faults d f now_last old mid edit (Ok tt) p.reserves) (rolls_cause d f now_last edit older mid new ended r)

    counts_one : (done : Sealed) → IsRolledAs family now done → rolled_count (Ok done) ≡ 1
    counts_one seals.Nothing shows = absurd shows
    counts_one seals.Waiting shows = absurd shows
    counts_one (seals.Rolled version mems) shows = refl

    pub active_called : (result : Result Sealed EngineFault) → SealsActive d f now family old new result → IsSealed d f now.last old new result
    active_called result (unmade fault is same) = subst (λ e. IsSealed d f now.last old e (Err fault)) (sym same) (refused_called now.last old run fault (none_disk fault is))
    active_called result (unreserved edit fault r) =
        let no_disk = none_disk fault r.fault in
        record {
          one = one_stays d f old new (kept_folder d f now_last old new edit (Err fault) r);
          manifest = (kept_folder d f now_last old new edit (Err fault) r).manifest;
          next = λ not. let e = r.next in omega (arith, e);
          numbers = let e = r.next in (omega (arith, e), omega (arith, e));
          jobs = λ n job. record { given = let e = r.next in let l = job.given in omega (arith, e, l); free = ap (λ (z : Folded). is_live z.families n) r.fold ∙ job.free };
          untouched = λ not none. record { held_is = reserved_held d f now_last old new edit (Err fault) r; wal = r.wal; older = r.older };
          rolled = λ one. absurd (omega (arith, one));
          touches = subst (λ x. Touches d (IsRolledName (f.name (wal_file old.wal)) old.next) old.disk x) (sym r.disk) (touches_nothing d (IsRolledName (f.name (wal_file old.wal)) old.next) old.disk);
          running = λ not. r.running;
          failed = r.running.runs ∙ sym no_disk;
          counted = none_cause fault (engine_faults d f old) (engine_faults d f new) no_disk (kept_faults d f now_last old new edit (Err fault) r);
        }
    active_called result (stopped edit older mid fault p r) =
        let disk_fault = stops_disk edit older mid fault r in
        record {
          one = prepared_one edit older mid (Err fault) p r;
          manifest = prepared_file edit older mid (Err fault) p r;
          next = λ not. absurd (false≢true (sym not ∙ disk_fault));
          numbers = prepared_numbers edit older mid (Err fault) p r;
          jobs = prepared_jobs edit older mid (Err fault) p r;
          untouched = λ not none. absurd (false≢true (sym not ∙ disk_fault));
          rolled = λ one. absurd (omega (arith, one));
          touches = prepared_touches edit older mid (Err fault) p r;
          running = λ not. absurd (false≢true (sym not ∙ disk_fault));
          failed = rolls_failed d f now_last edit older mid new (Err fault) r;
          counted = disk_cause fault (engine_faults d f old) (engine_faults d f new) (rolls_fault d f now_last edit older mid new (Err fault) r) (prepared_cause edit older mid (Err fault) p r).failed;
        }
    active_called result (sealed edit older mid done p r shows) =
        let one = counts_one done shows in
        record {
          one = prepared_one edit older mid (Ok tt) p r;
          manifest = prepared_file edit older mid (Ok tt) p r;
          next = λ not. let a = rolls_next d f now_last edit older mid new (Ok tt) r in let b = p.reserves.next in omega (arith, a, b, one);
          numbers = prepared_numbers edit older mid (Ok tt) p r;
          jobs = prepared_jobs edit older mid (Ok tt) p r;
          untouched = λ not none. absurd (omega (arith, one, none));
          rolled = λ is.
              let a = rolls_older d f now_last edit older mid new (Ok tt) r in
              record {
                name = rolls_name d f now_last edit older mid new (Ok tt) r ∙ ap Log p.reserves.next;
                fold = rolls_fold d f now_last edit older mid new (Ok tt) r ∙ ap (λ z. fold_with z edit) p.reserves.fold ∙ ap (fold_with (manifest_folded old.manifest)) p.edit_is;
                opened = ap (λ (o : OlderLogs). o.opened) a ∙ p.opened;
                logs = ap (λ (o : OlderLogs). o.rolled.items) a ∙ p.logs;
                pending = rolls_pending d f now_last edit older mid new (Ok tt) r;
              };
          touches = prepared_touches edit older mid (Ok tt) p r;
          running = λ not. rolls_running d f now_last edit older mid new (Ok tt) r;
          failed = rolls_failed d f now_last edit older mid new (Ok tt) r;
          counted = (prepared_cause edit older mid (Ok tt) p r).kept;
        }

    -- ---- what it holds

    module _ (m : State) (c : Course) (h : HoldsNow d f old now m c) where
      abbrev s0 : Says
      s0 = with_new_log h.says old.next []

      high : h.says.fold.next_file ≤ old.next
      high = subst (λ fold. fold.next_file ≤ old.next) h.engine_of.fold run.together.more

      dead : Contains h.says.fold.logs old.next → ⊥
      dead i = let l = All-In (λ k. k < h.says.fold.next_file) h.says.fold.logs old.next h.holds.well.logs (contains_In h.says.fold.logs old.next i) in let u = high in omega (arith, l, u)

      h0 : HoldsState m c s0 h.waiting
      h0 = same_holds m c h.says s0 h.waiting (fixed_log h.says old.next [] dead) h.holds

      empty0 : s0.logs old.next ≡ []
      empty0 = let e = eq-eqb old.next old.next refl in rw e refl

      newest0 : s0.logs (newest_log_of h.says) ≡ h.says.logs (newest_log_of h.says)
      newest0 = let e = ne_eqb (newest_log_of h.says) old.next (λ q. newest_not h.says.fold old.next h.holds.well high (sym q)) in rw e refl

      of_old : IsEngineOf d f old s0 h.waiting
      of_old = record {
        rests = same_rests ReadsAsTable (MayLeave d f (held old)) (f.name (manifest_file old.manifest)) h.says s0 (fixed_log h.says old.next [] dead) h.engine_of.rests;
        fold = h.engine_of.fold;
        edits = h.engine_of.edits;
        log = subst (λ bs. log.Holds f old.wal bs h.waiting) (sym newest0) h.engine_of.log;
        one = h.engine_of.one;
      }

      module _ (edit : Edit) (older : OlderLogs) (mid : Engine D F f) (p : PreparesRoll f now edit older old mid) where
        of_mid : IsEngineOf d f mid s0 h.waiting
        of_mid = reserved_of d f now_last old mid edit (Ok tt) p.reserves s0 h.waiting of_old

        low_mid : mid.next < FILE_NUMBER_LIMIT
        low_mid = let e = p.reserves.next in omega (arith, e, low)

        empty_mid : s0.logs mid.next ≡ []
        empty_mid = ap s0.logs p.reserves.next ∙ empty0

        edit_mid : edit ≡ roll_edit m.last mid.next
        edit_mid = p.edit_is ∙ ap (λ q. roll_edit q old.next) h.shows.last ∙ ap (roll_edit m.last) (sym p.reserves.next)

        pub prepared_ran : (result : Result (Unit {0}) EngineFault) → IsRolled d f edit older mid new result → RanOn d f m c old new
        prepared_ran result r =
            subst (λ j. Ran d f (λ folder. StandsForSome ReadsAsTable folder (IsOutcome m c)) j (held new)) (reserved_held d f now_last old mid edit (Ok tt) p.reserves)
            (rolls_ran d f now_last edit older mid new m c s0 h.waiting h0 of_mid p.reserves.running low_mid empty_mid edit_mid result r)

        abbrev s1 : Says
        s1 = with_batches s0 h.waiting

        -- the log that was rolled has nothing above the last sequence
        rolled_low : (v : Version) → Contains (versions_of (s1.logs (newest_log_of s1))) v → v.seq.0 ≤ now.last.0
        rolled_low v i =
            let h1 = sync_unasked m c s0 h.waiting h0 in
            let live = live_batches s1 in
            let n = newest_log_of s1 in
            let up : v.seq.0 ≤ last_of s1.fold.last.0 live = versions_upto s1.fold.last.0 live v (front_above m c s1 [] h1) (batches_from s1.logs s1.fold.logs n v (contains_In s1.fold.logs n (newest_live s1.fold h.holds.well)) (contains_In (versions_of (s1.logs n)) v i)) in
            let is : m.last.0 ≡ last_of s1.fold.last.0 live = whole_is m c s1 [] h1 ∙ ap (last_of s1.fold.last.0) (append-nil live) in
            let last : now.last.0 ≡ m.last.0 = ap (λ (q : Seq). q.0) h.shows.last in
            omega (arith, up, is, last)

        newest_low : newest_log_of s1 < old.next
        newest_low = let l = All-In (λ k. k < h.says.fold.next_file) h.says.fold.logs (newest_log_of s1) h.holds.well.logs (contains_In h.says.fold.logs (newest_log_of s1) (newest_live h.says.fold h.holds.well)) in let u = high in omega (arith, l, u)

        covers_next : IsRolled d f edit older mid new (Ok tt) → CoversOlder new.older (with_edit s1 edit)
        covers_next r =
            let a = rolls_older d f now_last edit older mid new (Ok tt) r in
            let covers = covers_synced old.older old.older s0 h.waiting refl (covers_new_log old.older h.says old.next dead h.covers) in
            covers_rolled old.older new.older s1 edit old.next now.last h.holds.well (ap (λ (e : Edit). e.add_logs) p.edit_is) (ap (λ (e : Edit). e.drop_logs) p.edit_is)
            (ap (λ (x : Edit). newest_log (fold_with s1.fold x).logs) p.edit_is ∙ newest_last h.says.fold.logs old.next) newest_low
            (ap (λ (o : OlderLogs). o.opened) a ∙ p.opened) (ap (λ (o : OlderLogs). o.rolled.items) a ∙ p.logs ∙ ap (λ (z : Folded). old.older.rolled.items ++ record { number = newest_log z.logs; last = now.last } ∷ []) h.engine_of.fold)
            rolled_low covers

        holds_by : (number : ℕ) (done : Sealed) → m.flush ≡ None → IsRolled d f edit older mid new (Ok tt) → IsRolledAs family now done → HoldsNow d f new (version_after now done) (after_seal m number family done) (course_after_seal m number c family done)
        holds_by number seals.Nothing idle r shows = absurd shows
        holds_by number seals.Waiting idle r shows = absurd shows
        holds_by number (seals.Rolled version mems) idle r shows =
            let ff = seal_there now m h.shows family g there in
            let count = held_count now m h.shows family g there in
            let more = length-append (versions_of_memtable g.active) (flat_map versions_of_memtable g.sealed) in
            let told : IsReplyTo m (flush_start family) (replies.OkAt m.last.0) = seal_some m family h.runs idle ff.0 ff.1 (omega (arith, count, more, some)) in
            let next = after_seal m number family (seals.Rolled version mems) in
            let course = course_after_seal m number c family (seals.Rolled version mems) in
            record {
              says = with_edit s1 edit;
              waiting = [];
              engine_of = rolls_of d f now_last edit older mid new m c s0 h.waiting h0 of_mid p.reserves.running low_mid empty_mid edit_mid (Ok tt) r;
              holds = subst (λ e. HoldsState next course (with_edit s1 e) []) (sym (p.edit_is ∙ ap (λ q. roll_edit q old.next) h.shows.last)) (seal_holds m c s0 h.waiting number family old.next h0 told high (let l = low in omega (arith, l)) empty0);
              shows = now_sealed now m h.shows (arc_value version) family number shows.changes;
              used = All-from (λ n. n < new.next) m.used (λ n i. let l = All-In (λ k. k < old.next) m.used n h.used i in let a = rolls_next d f now_last edit older mid new (Ok tt) r in let b = p.reserves.next in omega (arith, l, a, b));
              covers = covers_next r;
              runs = h.runs;
              unfailed = h.unfailed;
            }

      pub active_ran : (result : Result Sealed EngineFault) → SealsActive d f now family old new result → RanOn d f m c old new
      active_ran result (unmade fault is same) = still_ran old new now m c h (ap (λ e. held e) same)
      active_ran result (unreserved edit fault r) = still_ran old new now m c h (reserved_held d f now_last old new edit (Err fault) r)
      active_ran result (stopped edit older mid fault p r) = prepared_ran edit older mid p (Err fault) r
      active_ran result (sealed edit older mid done p r shows) = prepared_ran edit older mid p (Ok tt) r

      pub active_holds : (number : ℕ) (result : Result Sealed EngineFault) → m.flush ≡ None → SealsActive d f now family old new result → IfOk result (λ done. HoldsNow d f new (version_after now done) (after_seal m number family done) (course_after_seal m number c family done))
      active_holds number result idle (unmade fault is same) = tt
      active_holds number result idle (unreserved edit fault r) = tt
      active_holds number result idle (stopped edit older mid fault p r) = tt
      active_holds number result idle (sealed edit older mid done p r shows) = holds_by edit older mid p number done idle r shows

      told_by : (done : Sealed) → m.flush ≡ None → IsRolledAs family now done → TellsSeal m family (Ok done)
      told_by seals.Nothing idle shows = absurd shows
      told_by seals.Waiting idle shows = absurd shows
      told_by (seals.Rolled version mems) idle shows =
          let ff = seal_there now m h.shows family g there in
          let count = held_count now m h.shows family g there in
          let more = length-append (versions_of_memtable g.active) (flat_map versions_of_memtable g.sealed) in
          seal_some m family h.runs idle ff.0 ff.1 (omega (arith, count, more, some))

      pub active_tells : (result : Result Sealed EngineFault) → m.flush ≡ None → SealsActive d f now family old new result → TellsSeal m family result
      active_tells result idle (unmade fault is same) = subst (λ x. TellsSeal m family (Err x)) (sym is) tt
      active_tells result idle (unreserved edit fault r) = subst (λ x. TellsSeal m family (Err x)) (sym r.fault) tt
      active_tells result idle (stopped edit older mid fault p r) =
          let ff = seal_there now m h.shows family g there in
          subst (λ x. TellsSeal m family (Err x)) (sym (rolls_fault d f now_last edit older mid new (Err fault) r)) (seal_fails m family h.runs idle ff.0 ff.1)
      active_tells result idle (sealed edit older mid done p r shows) = told_by done idle shows
