-- A sync of the log: what the engine holds behind it.
use Rattle.std.proofs.Common.{◌≡◌, ℕ, ◌+◌, ◌<◌, List, [], ◌∷◌, ◌++◌, Result, Ok, Err, refl, sym, ap, ◌∙◌, subst, arith}
use Rattle.std.specs.Prelude.{All, IfErr, None, OnOk}
use Rattle.std.proofs.lemmas.Bool.{false≢true}
use Rattle.udt_disk.specs.Causes.{HasCause, plus_faults}
use Rattle.udt_disk.specs.Crash.{Image}
use Rattle.udt_disk.specs.Joint.{Ran}
use Rattle.udt_disk.specs.Moments.{MayLeave, holding}
use Rattle.udt_disk.specs.Runs.{Leaves}
use Rattle.udt_disk.specs.declared.file.DiskFile as file
use Rattle.udt_disk.specs.declared.disk.Disk as disk
use Rattle.udt_disk.specs.declared.name.FileName.{FileName}
use Rattle.udt_disk.specs.declared.name.FileName.TheVariants.{Log}
use Rattle.wal.specs.declared.numbered.Numbered.{Numbered}
use Rattle.wal.specs.Replays.{IsBeforeOrAfter, ReadsAs}
use Rattle.wal.specs.Wals as log
use Rattle.wal.specs.Wals.{MayGoOn, wal_file, wal_pending, wal_sizes}
use Rattle.wal.proofs.Showing.{images_read}
use Rattle.udt_model.specs.State.{State}
use Rattle.udt_model.specs.Acts.Act.{sync_all}
use Rattle.udt_model.specs.declared.reply.Reply.TheVariants.{Done}
use Rattle.udt_model.specs.Steps.{IsReplyTo, after}
use Rattle.udt_model.specs.Crashes.{Course, IsOutcome, course_after}
use Rattle.super_version.specs.declared.version.SuperVersion.{SuperVersion}
use Rattle.manifest.specs.Folds.{sizes_of}
use Rattle.manifest.specs.Manifest.{FoldRests, manifest_file, manifest_folded}
use Rattle.engine_laws.specs.Joints.{IsNowLast, OneRan}
use Rattle.engine_laws.specs.JointLaws.{RestIn}
use Rattle.engine_laws.specs.Standing.{Says, StandsForSome}
use Rattle.engine_laws.specs.Engine.{HoldsState, newest_log_of, with_batches}
use Rattle.engine_laws.proofs.Joined.{newest_rests, ran_sync, sync_rests}
use Rattle.engine_laws.proofs.Moving.{newest_log_is}
use Rattle.engine_laws.proofs.Syncing.{sync_holds}
use Rattle.recovery.specs.Tables.{ReadsAsTable}
use Rattle.recovery.specs.Versions.{FitsFold}
use Rattle.store_engine.specs.Engines.{HoldsNow, IsCurrent, IsEngineOf, IsOneFolder, IsRunning, engine_faults, has_failed, held}
use Rattle.store_engine.specs.Jobs.{IsJobNumber}
use Rattle.store_engine.specs.Now.{IsNow}
use Rattle.store_engine.specs.Older.{CoversOlder}
use Rattle.store_engine.specs.Steps.{IsCalled, IsLogSynced, IsSameFolder}
use Rattle.store_engine.specs.Together.{AreTogether}
use Rattle.store_engine.specs.declared.engine.Engine.{Engine}
use Rattle.store_engine.specs.declared.fault.EngineFault.{EngineFault}
use Rattle.store_engine.specs.declared.fault.EngineFault.TheVariants.{DiskFault}
use Rattle.store_engine.specs.Calls.{is_disk_failure}
use Rattle.store_engine.specs.Replies.{is_disk_fault}
use Rattle.store_engine.proofs.Answering.{disk_cause, on_ok, one_stays}
use Rattle.store_engine.proofs.Counts.{cause_second}
use Rattle.store_engine.proofs.Covering.{covers_synced}
use Rattle.store_engine.proofs.JobNumbers.{jobs_kept}
use Rattle.store_engine.proofs.Files.{first_ran, same_joint}

module _ {D F : Type 0} (d : disk.Ghosts D F) (f : file.Ghosts F) (now_last : IsNowLast d f) where
  -- the sizes are those of the fold
  pub sizes_are : (engine : Engine D F f) (s : Says) (waiting : List Numbered) → IsEngineOf d f engine s waiting → AreTogether engine.manifest engine.wal engine.next → wal_sizes engine.wal ≡ sizes_of s.fold
  sizes_are engine s waiting of together = together.sizes ∙ ap sizes_of of.fold

  -- the log is the newest of the fold
  pub log_is : (engine : Engine D F f) (s : Says) (waiting : List Numbered) → IsEngineOf d f engine s waiting → AreTogether engine.manifest engine.wal engine.next → f.name (wal_file engine.wal) ≡ Log (newest_log_of s)
  log_is engine s waiting of together = together.name ∙ ap (λ fold. Log (newest_log_of (record s { fold = fold }))) of.fold

  module _ (old new : Engine D F f) (result : Result (Unit {0}) EngineFault) (synced : IsLogSynced f old new result) where
    -- its files behind the sync
    pub synced_held : held new ≡ holding old.disk (wal_file new.wal ∷ manifest_file old.manifest ∷ [])
    synced_held = same_joint new.disk old.disk (wal_file new.wal) (wal_file new.wal) (manifest_file new.manifest) (manifest_file old.manifest) synced.disk refl (ap (λ m. manifest_file m) synced.manifest)

    pub synced_folder : IsSameFolder f old new
    synced_folder = record {
      disk = synced.disk;
      wal = synced.same;
      manifest = record { name = ap (λ m. f.name (manifest_file m)) synced.manifest; told = ap (λ m. f.is_told (manifest_file m)) synced.manifest; model = ap (λ m. f.keeps_model (manifest_file m)) synced.manifest };
    }

    pub synced_one : IsOneFolder d f old → IsOneFolder d f new
    synced_one = one_stays d f old new synced_folder

    module _ (m : State) (c : Course) (s : Says) (waiting : List Numbered) (h : HoldsState m c s waiting) (of : IsEngineOf d f old s waiting) (together : AreTogether old.manifest old.wal old.next) where
      abbrev name : FileName
      name = f.name (manifest_file old.manifest)

      abbrev before : List F
      before = wal_file old.wal ∷ manifest_file old.manifest ∷ []

      abbrev after_it : List F
      after_it = wal_file new.wal ∷ manifest_file old.manifest ∷ []

      ran_one : OneRan f before after_it (wal_file old.wal) (wal_file new.wal)
      ran_one = first_ran f (wal_file old.wal) (wal_file new.wal) (manifest_file old.manifest) synced.same.name

      newest_now : (i : Image) → MayLeave d f (holding old.disk before) (Log (newest_log_of s)) i → ReadsAs (sizes_of s.fold) (s.logs (newest_log_of s)) i
      newest_now = newest_rests d f now_last ReadsAsTable name s (holding old.disk before) h.well of.rests

      leaves : Leaves f (wal_file old.wal) (wal_file new.wal) (IsBeforeOrAfter (sizes_of s.fold) (s.logs (newest_log_of s)) waiting)
      leaves = subst (λ sizes. Leaves f (wal_file old.wal) (wal_file new.wal) (IsBeforeOrAfter sizes (s.logs (newest_log_of s)) waiting)) (sizes_are old s waiting of together) (synced.moments (s.logs (newest_log_of s)) waiting of.log)

      -- while it ran a crash left only folders that stand for outcomes
      pub synced_ran : Ran d f (λ folder. StandsForSome ReadsAsTable folder (IsOutcome m c)) (held old) (held new)
      synced_ran = subst (λ j. Ran d f (λ folder. StandsForSome ReadsAsTable folder (IsOutcome m c)) (held old) j) (sym synced_held)
          (ran_sync d f now_last ReadsAsTable name of.one.named.of_manifest s waiting old.disk before after_it (wal_file old.wal) (wal_file new.wal) ran_one (log_is old s waiting of together) newest_now m c h of.rests leaves)

      -- and where it ended well all that waited is on the disk
      pub synced_of : OnOk result (IsEngineOf d f new (with_batches s waiting) [])
      synced_of = elim result as (λ r. OnOk r (log.Holds f new.wal (s.logs (newest_log_of s) ++ waiting) []) → OnOk r (IsEngineOf d f new (with_batches s waiting) [])) [
        | Ok u ↦ λ holds. record {
          rests = subst (λ j. RestIn d f ReadsAsTable j (f.name (manifest_file new.manifest)) (with_batches s waiting)) (sym synced_held)
              (subst (λ n. RestIn d f ReadsAsTable (holding old.disk after_it) n (with_batches s waiting)) (ap (λ m. f.name (manifest_file m)) (sym synced.manifest))
              (sync_rests d f now_last ReadsAsTable name of.one.named.of_manifest s waiting old.disk before after_it (wal_file old.wal) (wal_file new.wal) ran_one (log_is old s waiting of together) newest_now of.rests
              (λ i left. subst (λ sizes. ReadsAs sizes (s.logs (newest_log_of s) ++ waiting) i) (synced.sizes ∙ sizes_are old s waiting of together) (images_read f new.wal (s.logs (newest_log_of s) ++ waiting) [] holds i left))));
          fold = ap manifest_folded synced.manifest ∙ of.fold;
          edits = subst (FoldRests f) (sym synced.manifest) of.edits;
          log = subst (λ bs. log.Holds f new.wal bs []) (sym (newest_log_is s waiting)) holds;
          one = synced_one of.one;
        }
        | Err e ↦ λ holds. tt
      ] (synced.holds (s.logs (newest_log_of s)) waiting of.log)

      -- it goes on with what it held
      pub synced_now : (number : ℕ) (now : SuperVersion) → IsReplyTo m sync_all Done → IsNow now m → All (λ n. n < old.next) m.used → CoversOlder old.older s → m.halted ≡ None → c.failing ≡ None
          → OnOk result (HoldsNow d f new now (after m number sync_all Done) (course_after m number c sync_all Done))
      synced_now number now told shows used covers runs unfailed =
          on_ok result (IsEngineOf d f new (with_batches s waiting) []) (HoldsNow d f new now (after m number sync_all Done) (course_after m number c sync_all Done))
          (λ of_new. record {
            says = with_batches s waiting;
            waiting = [];
            engine_of = of_new;
            holds = sync_holds m c s waiting h number told;
            shows = shows;
            used = subst (λ k. All (λ n. n < k) m.used) (sym synced.next) used;
            covers = covers_synced old.older new.older s waiting synced.older covers;
            runs = runs;
            unfailed = unfailed;
          }) synced_of

    -- a version goes on with it
    pub synced_goes : (next : SuperVersion) → FitsFold (manifest_folded old.manifest) next → MayGoOn f old.wal (next.last.0 + 1) → OnOk result (IsCurrent new next)
    synced_goes next fits goes = elim result as (λ r. OnOk r (MayGoOn f new.wal (next.last.0 + 1)) → OnOk r (wal_pending new.wal ≡ 0) → OnOk r (IsCurrent new next)) [
      | Ok u ↦ λ goes_on none. record {
        fits = subst (λ m. FitsFold (manifest_folded m) next) (sym synced.manifest) fits;
        goes_on = goes_on;
        room = let e = none in omega (arith, e);
      }
      | Err e ↦ λ goes_on none. tt
    ] (synced.goes_on (next.last.0 + 1) goes) synced.pending

    pub synced_cause : HasCause (engine_faults d f old) (engine_faults d f new) result
    synced_cause =
        let a = d.faults old.disk in
        let b = f.faults (manifest_file old.manifest) in
        let y = f.faults (wal_file new.wal) in
        subst (λ k. HasCause (engine_faults d f old) (plus_faults (plus_faults (d.faults k) y) (f.faults (manifest_file new.manifest))) result) (sym synced.disk)
        (subst (λ k. HasCause (engine_faults d f old) (plus_faults (plus_faults a y) (f.faults (manifest_file k))) result) (sym synced.manifest)
        (cause_second a (f.faults (wal_file old.wal)) y b result synced.cause))

    synced_jobs : (n : ℕ) → IsJobNumber old n → IsJobNumber new n
    synced_jobs = jobs_kept f old new synced.next (ap manifest_folded synced.manifest)

    pub synced_called : IsCalled d f old new result
    synced_called = elim result as (λ r. HasCause (engine_faults d f old) (engine_faults d f new) r → OnOk r (IsRunning new) → has_failed new ≡ is_disk_failure r → IfErr r (λ fault. fault ≡ DiskFault) → IsCalled d f old new r) [
      | Ok u ↦ λ cause running failed fault. record { same = synced_folder; one = synced_one; next = synced.next; older = synced.older; jobs = synced_jobs; untouched = tt; running = λ not. running; failed = failed; counted = cause.kept }
      | Err e ↦ λ cause running failed fault. record {
        same = synced_folder;
        one = synced_one;
        next = synced.next;
        older = synced.older;
        jobs = synced_jobs;
        untouched = λ not. absurd (false≢true (sym not ∙ ap is_disk_fault fault));
        running = λ not. absurd (false≢true (sym not ∙ ap is_disk_fault fault));
        failed = failed;
        counted = disk_cause e (engine_faults d f old) (engine_faults d f new) fault cause.failed;
      }
    ] synced_cause synced.running synced.failed synced.fault
