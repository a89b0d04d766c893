-- The steps of the end of a flush, by what the calls of the engine left.
use Rattle.std.proofs.Common.{◌≡◌, ◌⊎◌, ℕ, ◌+◌, ◌<◌, ◌≤◌, false, List, length, Some, None, refl, sym, ap, ◌∙◌, subst, arith, inl, inr}
use Rattle.std.specs.Prelude.{All, IsTrue, Result, Ok, Err}
use Rattle.std.proofs.lemmas.Bool.{false≢true}
use Rattle.udt_disk.specs.Causes.{Rose, plus_faults}
use Rattle.udt_disk.specs.declared.file.DiskFile as file
use Rattle.udt_disk.specs.declared.disk.Disk as disk
use Rattle.udt_model.specs.declared.event.Event.TheVariants.{FlushEnd}
use Rattle.udt_model.specs.declared.reply.Reply.{Reply}
use Rattle.udt_model.specs.declared.reply.Reply.TheVariants as replies
use Rattle.udt_model.specs.Acts.Act.{flush_end}
use Rattle.udt_model.specs.Crashes.{Course, course_after}
use Rattle.udt_model.specs.State.{Flush, State}
use Rattle.udt_model.specs.Steps.{IsReplyTo, after}
use Rattle.manifest_fold.specs.declared.limits.TheConstants.{FILE_NUMBER_LIMIT}
use Rattle.super_version.specs.Changes.{ChangesFamily, family_with_flush}
use Rattle.super_version.specs.declared.jobs.JobCause.{JobCause}
use Rattle.super_version.specs.declared.jobs.JobCause.TheVariants.{Fault, Memory, Files, Halted}
use Rattle.super_version.specs.declared.jobs.TableOut.{TableOut}
use Rattle.super_version.specs.declared.version.SuperVersion.{SuperVersion}
use Rattle.engine_laws.specs.Joints.{IsNowLast}
use Rattle.store_engine.specs.Asides.{IsGivenBack}
use Rattle.store_engine.specs.Calls.{RanOn, RanUnder, Tells}
use Rattle.store_engine.specs.Engines.{HoldsAsBefore, HoldsNow, IsCurrent, IsOneFolder, IsRunning, engine_faults}
use Rattle.store_engine.specs.Installing.{EndsFlushBy, IsInstallCalled, flush_end_reply, floor_over_now, live_with}
use Rattle.store_engine.specs.JobCalls.{AnswersJobFile, IsDiscarded, IsJobFile, IsJobFileCalled}
use Rattle.store_engine.specs.Replies.{is_disk_fault}
use Rattle.store_engine.specs.declared.engine.Engine.{Engine}
use Rattle.store_engine.specs.declared.fault.EngineFault.{EngineFault}
use Rattle.store_engine.specs.declared.fault.EngineFault.TheVariants as faults
use Rattle.store_engine.proofs.Current.{length_changed}
use Rattle.solo_store.specs.Flushing.{IsFlushWritten, WritesFlush, dropped_told, sealed_in, told_undone, told_without_file}
use Rattle.solo_store.specs.Names.{family_named}
use Rattle.solo_store.specs.Replies.{halted_behind}
use Rattle.solo_store.specs.Steps.{IsSameDisk, IsStep}
use Rattle.solo_store.specs.Stores.{HoldsStore, IsStoreReady, engine_of, job_of, now_of, store_faults, store_next}
use Rattle.solo_store.specs.declared.store.RunningFlush.{RunningFlush}
use Rattle.solo_store.specs.declared.store.Store.{Store}
use Rattle.solo_store.proofs.Ending.{before_then, drop_step, drops_fault, drops_files, drops_memory, end_failed, install_step, job_runs, on_then, plus_none, plus_rose, under_then}
use Rattle.solo_store.proofs.Holding.{live_of, on_under, store_shows, store_sound}
use Rattle.solo_store.proofs.Taken.{ends_by}

module _ {D F : Type 0} (d : disk.Ghosts D F) (f : file.Ghosts F) (last : IsNowLast d f) (store : Store D F f) (ready : IsStoreReady d f store) (number : ℕ)
    (flush : RunningFlush) (runs : store.flush ≡ Some flush) (works : store.halted ≡ None) (name : List ℕ) (named : flush.family ≡ family_named store.names.items name) where
  -- ---- where there is no file

  pub no_file_step : (engine : Engine D F f) (fault : EngineFault) (reply : Reply) → HoldsAsBefore d f (engine_of store) engine
      → ((now : SuperVersion) (m : State) (c : Course) → HoldsNow d f (engine_of store) now m c → RanOn d f m c (engine_of store) engine)
      → AnswersJobFile {F = F} (store_next store) (Err fault) → IsJobFileCalled d f (engine_of store) engine (Err fault) → reply ≡ told_without_file fault
      → IsStep d f store (record store { engine = engine; flush = None }) number (FlushEnd name flush.start) reply
  no_file_step engine fault reply before moments answers called told =
      subst (λ (r : Reply). IsStep d f store (record store { engine = engine; flush = None }) number (FlushEnd name flush.start) r) (sym told) (by fault answers called)
    where
      by : (fault : EngineFault) → AnswersJobFile {F = F} (store_next store) (Err fault) → IsJobFileCalled d f (engine_of store) engine (Err fault)
          → IsStep d f store (record store { engine = engine; flush = None }) number (FlushEnd name flush.start) (told_without_file fault)
      by (faults.FilesFull n) answers called =
          let full : n ≡ FILE_NUMBER_LIMIT = answers.0 ∙ answers.1 in
          let at = answers.1 in
          let next = called.next in
          drop_step d f last store ready number flush runs name named works engine (replies.DroppedFiles n) (drops_files d f last store ready number flush runs name named works n full) before
          (λ m c h. on_under d f (engine_of store) engine m c number (flush_end flush.family flush.start) (moments (now_of store) m c (live_of d f store m c works h))) called.one called.counted
          (λ says. omega (arith, at)) (omega (arith, next), omega (arith, next)) (record { told = called.touches.told; model = called.touches.model })
      by faults.DiskFault answers called =
          let next = called.next in
          drop_step d f last store ready number flush runs name named works engine replies.DroppedFault (drops_fault d f last store ready number flush runs name named works) before
          (λ m c h. on_under d f (engine_of store) engine m c number (flush_end flush.family flush.start) (moments (now_of store) m c (live_of d f store m c works h))) called.one called.counted
          (λ says. absurd (false≢true says)) (omega (arith, next), omega (arith, next)) (record { told = called.touches.told; model = called.touches.model })
      by fault answers called = absurd answers

  -- ---- where there is one

  module _ (mid : Engine D F f) (pair : ℕ × F) (before : HoldsAsBefore d f (engine_of store) mid)
      (moments : (now : SuperVersion) (m : State) (c : Course) → HoldsNow d f (engine_of store) now m c → RanOn d f m c (engine_of store) mid)
      (made : IsJobFile d f (engine_of store) mid pair.0 pair.1) (called : IsJobFileCalled d f (engine_of store) mid (Ok pair)) where
    mid_next : mid.next ≡ store_next store + 1
    mid_next = called.next

    mid_faults : engine_faults d f mid ≡ store_faults d f store
    mid_faults = called.counted

    -- no table was written
    pub discard_step : (engine : Engine D F f) (given : F) (cause : JobCause) (reply : Reply) → IsFlushWritten f (now_of store) flush pair.1 given (Err cause) → HoldsAsBefore d f mid engine
        → ((now : SuperVersion) (m : State) (c : Course) → HoldsNow d f mid now m c → RanOn d f m c mid engine) → IsGivenBack d f given mid engine → IsDiscarded d f given mid engine
        → reply ≡ dropped_told cause → IsStep d f store (record store { engine = engine; flush = None }) number (FlushEnd name flush.start) reply
    discard_step engine given cause reply written back ran given_back discarded told =
        subst (λ (r : Reply). IsStep d f store (record store { engine = engine; flush = None }) number (FlushEnd name flush.start) r) (sym told) (by cause written)
      where
        joined : HoldsAsBefore d f (engine_of store) engine
        joined = before_then d f (engine_of store) mid engine before back

        under : (m : State) (c : Course) → HoldsStore d f store m c → RanUnder d f m c number (flush_end flush.family flush.start) (engine_of store) engine
        under m c h =
            let live = live_of d f store m c works h in
            on_under d f (engine_of store) engine m c number (flush_end flush.family flush.start)
            (on_then d f m c (engine_of store) mid engine (moments (now_of store) m c live) (ran (now_of store) m c (before.holds (now_of store) m c live)))

        same : IsSameDisk d (engine_of store).disk engine.disk
        same = record { told = given_back.aside.touches.told ∙ called.touches.told; model = given_back.aside.touches.model ∙ called.touches.model }

        next_is : engine.next ≡ store_next store + 1
        next_is = given_back.aside.next ∙ mid_next

        by : (cause : JobCause) → IsFlushWritten f (now_of store) flush pair.1 given (Err cause) → IsStep d f store (record store { engine = engine; flush = None }) number (FlushEnd name flush.start) (dropped_told cause)
        by Fault written =
            let rose = written.1.2.1.cause.failed in
            let fresh = made.fresh in
            let some : 1 ≤ f.faults given = omega (arith, rose, fresh) in
            let all : engine_faults d f engine ≡ plus_faults (store_faults d f store) (f.faults given) = discarded.counted ∙ ap (λ (n : ℕ). plus_faults n (f.faults given)) mid_faults in
            drop_step d f last store ready number flush runs name named works engine replies.DroppedFault (drops_fault d f last store ready number flush runs name named works) joined under
            (λ one. discarded.one (called.one one)) (subst (λ (n : ℕ). Rose (store_faults d f store) n) (sym all) (plus_rose (store_faults d f store) (f.faults given) some))
            (λ says. absurd (false≢true says)) (let e = next_is in (omega (arith, e), omega (arith, e))) same
        by Memory written =
            let fresh : f.faults given ≡ 0 = ap f.faults written ∙ made.fresh in
            let all : engine_faults d f engine ≡ plus_faults (store_faults d f store) (f.faults given) = discarded.counted ∙ ap (λ (n : ℕ). plus_faults n (f.faults given)) mid_faults in
            drop_step d f last store ready number flush runs name named works engine replies.DroppedMemory (drops_memory d f last store ready number flush runs name named works) joined under
            (λ one. discarded.one (called.one one)) (all ∙ plus_none _ _ (f.faults given) fresh)
            (λ says. absurd (false≢true says)) (let e = next_is in (omega (arith, e), omega (arith, e))) same
        by (Files n) written = absurd written
        by (Halted since) written = absurd written

    -- ---- where its table was written

    module _ (given : F) (out : TableOut) (gone : ℕ) (gone_is : gone ≡ length (sealed_in (now_of store) flush.family)) (written : WritesFlush f (now_of store) flush pair.1 given out) where
      ends : (m : State) (c : Course) → HoldsStore d f store m c → EndsFlushBy f m (now_of store) (job_of flush) flush.family gone flush.through pair.0 given out
      ends m c h =
          let live = live_of d f store m c works h in
          let tells : IsTrue (d.is_told (engine_of store).disk) = subst IsTrue ready.one.wal_told live.engine_of.log.shown.logged.told in
          ends_by f m (now_of store) flush pair.1 given out pair.0 gone (store_shows d f store m c h) (store_sound d f store m c h) (job_runs d f last store ready number flush runs name named m c h)
          (subst (λ (n : ℕ). All (λ k. k < n) m.used) (sym made.number_is) live.used) gone_is (subst IsTrue (sym made.told) tells) (made.empty tells) written

      mid_now : (m : State) (c : Course) → HoldsStore d f store m c → HoldsNow d f mid (now_of store) m c
      mid_now m c h = before.holds (now_of store) m c (live_of d f store m c works h)

      no_faults : f.faults given ≡ 0
      no_faults = written.flushes.0.2.cause.kept ∙ made.fresh

      abbrev told : Reply
      told = flush_end_reply (now_of store) flush.family pair.0 out

      module _ (engine : Engine D F f)
          (moves : (m : State) (c : Course) (event : ℕ) (job : Flush) → HoldsNow d f mid (now_of store) m c → EndsFlushBy f m (now_of store) job flush.family gone flush.through pair.0 given out
          → RanUnder d f m c event (flush_end flush.family job.start) mid engine) where
        under : (m : State) (c : Course) → HoldsStore d f store m c → RanUnder d f m c number (flush_end flush.family flush.start) (engine_of store) engine
        under m c h =
            under_then d f m c number (flush_end flush.family flush.start) (engine_of store) mid engine
            (on_under d f (engine_of store) mid m c number (flush_end flush.family flush.start) (moments (now_of store) m c (live_of d f store m c works h)))
            (moves m c number (job_of flush) (mid_now m c h) (ends m c h))

        module _ {A : Type 0} (result : Result A EngineFault) (left : IsInstallCalled d f pair.0 given mid engine result) where
          same : IsSameDisk d (engine_of store).disk engine.disk
          same = record { told = left.touches.told ∙ called.touches.told; model = left.touches.model ∙ called.touches.model }

          draws : (store_next store ≤ engine.next) × (engine.next ≤ store_next store + 1)
          draws = let a = left.next in let b = mid_next in (omega (arith, a, b), omega (arith, a, b))

          one : IsOneFolder d f (engine_of store) → IsOneFolder d f engine
          one is = left.one (called.one is)

          before_is : plus_faults (engine_faults d f mid) (f.faults given) ≡ store_faults d f store
          before_is = plus_none _ _ (f.faults given) no_faults ∙ mid_faults

      pub installed_step : {A : Type 0} (engine : Engine D F f) (new : Store D F f) (next : A) (reply : Reply)
          → ((m : State) (c : Course) (event : ℕ) (job : Flush) → HoldsNow d f mid (now_of store) m c → EndsFlushBy f m (now_of store) job flush.family gone flush.through pair.0 given out
          → RanUnder d f m c event (flush_end flush.family job.start) mid engine)
          → IsInstallCalled d f pair.0 given mid engine (Ok next)
          → new.names.items ≡ store.names.items → new.halted ≡ store.halted → new.flush ≡ None → engine_of new ≡ engine
          → ((m : State) (c : Course) (job : Flush) → HoldsNow d f mid (now_of store) m c → EndsFlushBy f m (now_of store) job flush.family gone flush.through pair.0 given out → IsReplyTo m (flush_end flush.family job.start) told)
          → ((m : State) (c : Course) (event : ℕ) (job : Flush) → HoldsNow d f mid (now_of store) m c → EndsFlushBy f m (now_of store) job flush.family gone flush.through pair.0 given out
          → HoldsNow d f engine (now_of new) (after m event (flush_end flush.family job.start) told) (course_after m event c (flush_end flush.family job.start) told))
          → IsCurrent engine (now_of new)
          → ChangesFamily flush.family.0 (family_with_flush gone flush.through (floor_over_now (now_of store) flush.family out.floor) (live_with pair.0 out.table)) (now_of store) (now_of new)
          → reply ≡ told → IsStep d f store new number (FlushEnd name flush.start) reply
      installed_step engine new next reply moves left names halted idle is legal holds current changes reply_is =
          subst (λ (r : Reply). IsStep d f store new number (FlushEnd name flush.start) r) (sym reply_is)
          (install_step d f last store ready number flush runs name named works engine new pair.0 out.kept (floor_over_now (now_of store) flush.family out.floor) names halted idle is
          (λ m c h. legal m c (job_of flush) (mid_now m c h) (ends m c h))
          (λ m c h. subst (λ (e : Engine D F f). HoldsNow d f e (now_of new) (after m number (flush_end flush.family flush.start) told) (course_after m number c (flush_end flush.family flush.start) told)) (sym is)
          (holds m c number (job_of flush) (mid_now m c h) (ends m c h)))
          (λ m c h. subst (λ (e : Engine D F f). RanUnder d f m c number (flush_end flush.family flush.start) (engine_of store) e) (sym is) (under engine moves m c h))
          (subst (λ (e : Engine D F f). IsRunning e) (sym is) (left.running refl))
          (subst (λ (e : Engine D F f). IsCurrent e (now_of new)) (sym is) current)
          (subst (λ (e : Engine D F f). IsOneFolder d f (engine_of store) → IsOneFolder d f e) (sym is) (one engine moves (Ok next) left))
          (ap length changes.families ∙ length_changed flush.family.0 _ (now_of store).families)
          (subst (λ (e : Engine D F f). store_faults d f store ≤ engine_faults d f e) (sym is) (subst (λ (n : ℕ). n ≤ engine_faults d f engine) (before_is engine moves (Ok next) left) left.counted))
          (subst (λ (e : Engine D F f). (store_next store ≤ e.next) × (e.next ≤ store_next store + 1)) (sym is) (draws engine moves (Ok next) left))
          (subst (λ (e : Engine D F f). IsSameDisk d (engine_of store).disk e.disk) (sym is) (same engine moves (Ok next) left)))

      -- there was no memory for the install
      pub unmade_step : {A : Type 0} (engine : Engine D F f)
          → ((m : State) (c : Course) (event : ℕ) (job : Flush) → HoldsNow d f mid (now_of store) m c → EndsFlushBy f m (now_of store) job flush.family gone flush.through pair.0 given out
          → RanUnder d f m c event (flush_end flush.family job.start) mid engine)
          → IsInstallCalled {A = A} d f pair.0 given mid engine (Err faults.NoMemory) → HoldsAsBefore d f mid engine → IsStep d f store (record store { engine = engine; flush = None }) number (FlushEnd name flush.start) replies.DroppedMemory
      unmade_step {A} engine moves left back =
          drop_step d f last store ready number flush runs name named works engine replies.DroppedMemory (drops_memory d f last store ready number flush runs name named works)
          (before_then d f (engine_of store) mid engine before back) (under engine moves) (one engine moves {A = A} (Err faults.NoMemory) left)
          (left.counted ∙ before_is engine moves {A = A} (Err faults.NoMemory) left) (λ says. absurd (false≢true says)) (draws engine moves {A = A} (Err faults.NoMemory) left) (same engine moves {A = A} (Err faults.NoMemory) left)

      -- the disk failed in it
      stopped_step : {A : Type 0} (engine : Engine D F f) (new : Store D F f)
          → ((m : State) (c : Course) (event : ℕ) (job : Flush) → HoldsNow d f mid (now_of store) m c → EndsFlushBy f m (now_of store) job flush.family gone flush.through pair.0 given out
          → RanUnder d f m c event (flush_end flush.family job.start) mid engine)
          → IsInstallCalled {A = A} d f pair.0 given mid engine (Err faults.DiskFault)
          → ((m : State) (c : Course) (job : Flush) → HoldsNow d f mid (now_of store) m c → EndsFlushBy f m (now_of store) job flush.family gone flush.through pair.0 given out → IsReplyTo m (flush_end flush.family job.start) replies.Fault)
          → new ≡ record store { engine = engine; flush = None; halted = Some number } → IsStep d f store new number (FlushEnd name flush.start) replies.Fault
      stopped_step {A} engine new moves left tells new_is =
          end_failed d f last store ready number flush runs name named works engine new (λ m c h. tells m c (job_of flush) (mid_now m c h) (ends m c h))
          (under engine moves) (one engine moves {A = A} (Err faults.DiskFault) left)
          (subst (λ (n : ℕ). Rose n (engine_faults d f engine)) (before_is engine moves {A = A} (Err faults.DiskFault) left) left.counted)
          (draws engine moves {A = A} (Err faults.DiskFault) left) (same engine moves {A = A} (Err faults.DiskFault) left) new_is

      pub undone_step : {A : Type 0} (engine : Engine D F f) (new : Store D F f) (fault : EngineFault) (reply : Reply)
          → ((m : State) (c : Course) (event : ℕ) (job : Flush) → HoldsNow d f mid (now_of store) m c → EndsFlushBy f m (now_of store) job flush.family gone flush.through pair.0 given out
          → RanUnder d f m c event (flush_end flush.family job.start) mid engine)
          → IsInstallCalled {A = A} d f pair.0 given mid engine (Err fault)
          → ((m : State) (c : Course) (job : Flush) → HoldsNow d f mid (now_of store) m c → EndsFlushBy f m (now_of store) job flush.family gone flush.through pair.0 given out → Tells {A = A} m (flush_end flush.family job.start) told (Err fault))
          → (is_disk_fault fault ≡ false → HoldsAsBefore d f mid engine)
          → (fault ≡ faults.NoMemory) ⊎ (fault ≡ faults.DiskFault) → reply ≡ told_undone fault → new ≡ record store { engine = engine; flush = None; halted = halted_behind store.halted number fault }
          → IsStep d f store new number (FlushEnd name flush.start) reply
      undone_step {A} engine new fault reply moves left tells refused (inl is) reply_is new_is =
          let left_is : IsInstallCalled {A = A} d f pair.0 given mid engine (Err faults.NoMemory) = subst (λ (x : EngineFault). IsInstallCalled {A = A} d f pair.0 given mid engine (Err x)) is left in
          let store_is : new ≡ record store { engine = engine; flush = None } = new_is ∙ ap (λ (x : EngineFault). let s : Store D F f = record store { engine = engine; flush = None; halted = halted_behind store.halted number x } in s) is in
          subst (λ (r : Reply). IsStep d f store new number (FlushEnd name flush.start) r) (sym (reply_is ∙ ap told_undone is))
          (subst (λ (s : Store D F f). IsStep d f store s number (FlushEnd name flush.start) replies.DroppedMemory) (sym store_is) (unmade_step {A = A} engine moves left_is (refused (ap is_disk_fault is))))
      undone_step {A} engine new fault reply moves left tells refused (inr is) reply_is new_is =
          let left_is : IsInstallCalled {A = A} d f pair.0 given mid engine (Err faults.DiskFault) = subst (λ (x : EngineFault). IsInstallCalled {A = A} d f pair.0 given mid engine (Err x)) is left in
          let store_is : new ≡ record store { engine = engine; flush = None; halted = Some number } = new_is ∙ ap (λ (x : EngineFault). let s : Store D F f = record store { engine = engine; flush = None; halted = halted_behind store.halted number x } in s) is in
          subst (λ (r : Reply). IsStep d f store new number (FlushEnd name flush.start) r) (sym (reply_is ∙ ap told_undone is))
          (stopped_step {A = A} engine new moves left_is (λ m c job h by. subst (λ (x : EngineFault). Tells {A = A} m (flush_end flush.family job.start) told (Err x)) is (tells m c job h by)) store_is)
