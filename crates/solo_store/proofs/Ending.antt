-- The steps of ends of flushes.
use Rattle.std.proofs.Common.{◌≡◌, ℕ, ◌+◌, ◌≤◌, false, List, length, Option, Some, None, refl, sym, ap, ◌∙◌, subst, arith, inl}
use Rattle.std.specs.Prelude.{IsTrue, option_map}
use Rattle.std.proofs.lemmas.Bool.{eq-eqb, false≢true}
use Rattle.ts_key.specs.declared.limits.TheConstants.{FAMILY_LIMIT}
use Rattle.ts_key.specs.declared.numbers.Family.{Family}
use Rattle.ts_key.specs.declared.numbers.Ts.{Ts}
use Rattle.udt_disk.specs.Causes.{Rose, plus_faults}
use Rattle.udt_disk.specs.declared.file.DiskFile as file
use Rattle.udt_disk.specs.declared.disk.Disk as disk
use Rattle.udt_disk.proofs.Joints.{ran_on}
use Rattle.udt_model.specs.declared.event.Event.TheVariants.{FlushEnd}
use Rattle.udt_model.specs.declared.reply.Reply.{Reply}
use Rattle.udt_model.specs.declared.reply.Reply.TheVariants as replies
use Rattle.udt_model.specs.Acts.{Act}
use Rattle.udt_model.specs.Acts.Act.{flush_end}
use Rattle.udt_model.specs.Crashes.{Course, IsOutcome, IsOutcomeUnder, course_after}
use Rattle.udt_model.specs.Jobs.{runs_flush}
use Rattle.udt_model.specs.Lines.{steps_with, says_files}
use Rattle.udt_model.specs.State.{Flush, State}
use Rattle.udt_model.specs.Steps.{IsEnd, IsReplyTo, after, is_running, with_flush}
use Rattle.floor_laws.proofs.Told.{sound_after}
use Rattle.manifest_fold.specs.declared.limits.TheConstants.{FILE_NUMBER_LIMIT}
use Rattle.super_version.specs.declared.version.SuperVersion.{SuperVersion}
use Rattle.engine_laws.specs.Joints.{IsNowLast}
use Rattle.engine_laws.specs.Standing.{StandsForSome}
use Rattle.recovery.specs.Tables.{ReadsAsTable}
use Rattle.store_engine.specs.Calls.{RanOn, RanUnder}
use Rattle.store_engine.specs.Engines.{HoldsAsBefore, HoldsNow, IsCurrent, IsOneFolder, IsRunning, engine_faults, held}
use Rattle.store_engine.specs.Laws.{is_beside}
use Rattle.store_engine.specs.Now.{IsNow}
use Rattle.store_engine.specs.declared.engine.Engine.{Engine}
use Rattle.store_engine.proofs.Besides.{holds_beside}
use Rattle.store_engine.proofs.Leaving.{beside_leave, failed_leave}
use Rattle.solo_store.specs.Names.{family_named}
use Rattle.solo_store.specs.Replies.{is_given}
use Rattle.solo_store.specs.Steps.{IsHaltedSince, IsReplyCause, IsSameDisk, IsStep, halted_by}
use Rattle.solo_store.specs.Stores.{HoldsHalted, HoldsSince, HoldsStore, IsStoreReady, engine_of, job_of, now_of, store_faults, store_next}
use Rattle.solo_store.specs.declared.store.RunningFlush.{RunningFlush}
use Rattle.solo_store.specs.declared.store.Store.{Store}
use Rattle.solo_store.proofs.Asking.{Asks, asks_flush_end}
use Rattle.solo_store.proofs.Holding.{goes_on_live, goes_on_of, live_of, rests_under, since_live, store_halted, store_shows, store_sound}
use Rattle.solo_store.proofs.Stepping.{IsActed, acted_step}

-- ---- counts of faults

pub plus_none : (a b n : ℕ) → n ≡ 0 → plus_faults (plus_faults a b) n ≡ plus_faults a b
plus_none a b n none = omega (arith, none)

pub plus_rose : (a n : ℕ) → 1 ≤ n → Rose a (plus_faults a n)
plus_rose a n some = omega (arith, some)

pub rose_plus : (a n now : ℕ) → Rose (plus_faults a n) now → Rose a now
rose_plus a n now rose = omega (arith, rose)

pub plus_later : (a b n now : ℕ) → plus_faults (plus_faults a b) n ≤ now → plus_faults a b ≤ now
plus_later a b n now le = omega (arith, le)

-- ---- engines one after the other

pub before_then : {D F : Type 0} (d : disk.Ghosts D F) (f : file.Ghosts F) (a b c : Engine D F f) → HoldsAsBefore d f a b → HoldsAsBefore d f b c → HoldsAsBefore d f a c
before_then d f a b c x y = record {
  current = λ now is. y.current now (x.current now is);
  holds = λ now m co h. y.holds now m co (x.holds now m co h);
  running = λ is. y.running (x.running is);
}

module _ {D F : Type 0} (d : disk.Ghosts D F) (f : file.Ghosts F) where
  pub on_then : (m : State) (c : Course) (x y z : Engine D F f) → RanOn d f m c x y → RanOn d f m c y z → RanOn d f m c x z
  on_then m c x y z a b = ran_on d f (λ folder. StandsForSome ReadsAsTable folder (IsOutcome m c)) (held x) (held y) (held z) a b

  pub under_then : (m : State) (c : Course) (number : ℕ) (act : Act) (x y z : Engine D F f) → RanUnder d f m c number act x y → RanUnder d f m c number act y z → RanUnder d f m c number act x z
  under_then m c number act x y z a b = ran_on d f (λ folder. StandsForSome ReadsAsTable folder (IsOutcomeUnder m c number act)) (held x) (held y) (held z) a b

-- ---- what the super version shows behind the end of a flush

now_ended : (now : SuperVersion) (m : State) (number : ℕ) → IsNow now m → IsNow now (record m { flush = None; halted = Some number })
now_ended now m number shows = record {
  last = shows.last;
  count = shows.count;
  families = λ i g h at there. shows.families i g h at there;
  flush = λ job g is there. absurd (none_some job is);
}
  where
    none_some : (job : Flush) → None ≡ Some job → ⊥
    none_some job e = absurd (cc)

now_taken_off : (now : SuperVersion) (m : State) → IsNow now m → IsNow now (record m { flush = None })
now_taken_off now m shows = record {
  last = shows.last;
  count = shows.count;
  families = λ i g h at there. shows.families i g h at there;
  flush = λ job g is there. absurd (none_some job is);
}
  where
    none_some : (job : Flush) → None ≡ Some job → ⊥
    none_some job e = absurd (cc)

module _ {D F : Type 0} (d : disk.Ghosts D F) (f : file.Ghosts F) (last : IsNowLast d f) (store : Store D F f) (ready : IsStoreReady d f store) (number : ℕ)
    (flush : RunningFlush) (runs : store.flush ≡ Some flush) (name : List ℕ) (named : flush.family ≡ family_named store.names.items name) where
  abbrev act : Act
  act = flush_end flush.family flush.start

  asks : Asks store.names.items (FlushEnd name flush.start) act
  asks = subst (λ (j : Family). Asks store.names.items (FlushEnd name flush.start) (flush_end j flush.start)) (sym named) (asks_flush_end store.names.items name flush.start)

  pub job_runs : (m : State) (c : Course) → HoldsStore d f store m c → m.flush ≡ Some (job_of flush)
  job_runs m c h = h.flush ∙ ap (option_map job_of) runs

  running_of : (m : State) (c : Course) → HoldsStore d f store m c → IsTrue (is_running m act)
  running_of m c h =
      let a = eq-eqb flush.start flush.start refl in
      let b = eq-eqb flush.family.0 flush.family.0 refl in
      subst (λ (o : Option Flush). IsTrue (runs_flush o flush.family flush.start)) (sym (job_runs m c h)) (rw (a, b) refl)

  -- ---- where the store is halted

  pub end_halted : (since : ℕ) → store.halted ≡ Some since → IsStep d f store (record store { flush = None }) number (FlushEnd name flush.start) (replies.Halted since)
  end_halted since halted =
      let acted : IsActed d f store (record store { flush = None }) number act (replies.Halted since) = record {
        legal = λ m c h. record { running = running_of m c h; is = inl (store_halted d f store m c h ∙ halted) };
        flush = λ m c h. refl;
        holds = λ m c h. since_ended m c h;
        moments = λ m c h. rests_under d f last store (engine_of store) m c number act h refl;
        ready = record { goes_on = ready.goes_on; one = ready.one; families = ready.families; few = ready.few; may_end = tt };
        names = refl;
        counted = refl;
        given = refl;
        halted = refl;
        since = halted;
        files = λ is. absurd (false≢true is);
        draws = (omega arith, omega arith);
        same = record { told = refl; model = refl };
      } in
      acted_step d f store (record store { flush = None }) number (FlushEnd name flush.start) act (replies.Halted since) asks refl refl (λ keeps. absurd (false≢true keeps)) acted
    where
      since_ended : (m : State) (c : Course) → HoldsStore d f store m c → HoldsSince d f store.halted (engine_of store) (now_of store) (after m number act (replies.Halted since)) (course_after m number c act (replies.Halted since))
      since_ended m c h =
          let was = subst (λ (o : Option ℕ). HoldsSince d f o (engine_of store) (now_of store) m c) halted h.holds in
          let told : IsReplyTo m act (replies.Halted since) = record { running = running_of m c h; is = inl (store_halted d f store m c h ∙ halted) } in
          let ended : HoldsHalted d f since (engine_of store) (now_of store) (after m number act (replies.Halted since)) (course_after m number c act (replies.Halted since)) = record {
            halted = was.halted;
            shows = now_taken_off (now_of store) m was.shows;
            sound = sound_after m number act (replies.Halted since) was.sound told;
            leaves = beside_leave d f last (held (engine_of store)) m c number act (replies.Halted since) refl was.leaves;
          } in
          subst (λ (o : Option ℕ). HoldsSince d f o (engine_of store) (now_of store) (after m number act (replies.Halted since)) (course_after m number c act (replies.Halted since))) (sym halted) ended

  module _ (works : store.halted ≡ None) where
    goes : IsRunning (engine_of store) × IsCurrent (engine_of store) (now_of store)
    goes = goes_on_of d f store works ready

    -- ---- where the flush is dropped

    -- the replies that drop it
    pub record IsDrop (reply : Reply) : Type 0 where
      pub told : (m : State) → m.halted ≡ None → IsEnd m act reply
      pub beside : IsTrue (is_beside act reply)
      pub ended : (m : State) → (after m number act reply).flush ≡ None
      pub steps : IsTrue (steps_with false reply)
      pub given : IsTrue (is_given reply)
      pub halts : (before : Option ℕ) → before ≡ halted_by before number reply
      pub since : IsHaltedSince store.halted reply

    pub drops_memory : IsDrop replies.DroppedMemory
    drops_memory = record { told = λ m r. tt; beside = refl; ended = λ m. refl; steps = refl; given = refl; halts = λ o. refl; since = tt }

    pub drops_fault : IsDrop replies.DroppedFault
    drops_fault = record { told = λ m r. r; beside = refl; ended = λ m. refl; steps = refl; given = refl; halts = λ o. refl; since = tt }

    pub drops_files : (next : ℕ) → next ≡ FILE_NUMBER_LIMIT → IsDrop (replies.DroppedFiles next)
    drops_files next full = record { told = λ m r. (r, full); beside = refl; ended = λ m. refl; steps = refl; given = refl; halts = λ o. refl; since = tt }

    pub drop_step : (engine : Engine D F f) (reply : Reply) → IsDrop reply → HoldsAsBefore d f (engine_of store) engine
        → ((m : State) (c : Course) → HoldsStore d f store m c → RanUnder d f m c number act (engine_of store) engine)
        → (IsOneFolder d f (engine_of store) → IsOneFolder d f engine) → IsReplyCause reply (store_faults d f store) (engine_faults d f engine) → (IsTrue (says_files reply) → FILE_NUMBER_LIMIT ≤ store_next store)
        → (store_next store ≤ engine.next) × (engine.next ≤ store_next store + 1) → IsSameDisk d (engine_of store).disk engine.disk
        → IsStep d f store (record store { engine = engine; flush = None }) number (FlushEnd name flush.start) reply
    drop_step engine reply drop before moments one counted files draws same =
        let new : Store D F f = record store { engine = engine; flush = None } in
        let legal : (m : State) (c : Course) → HoldsStore d f store m c → IsReplyTo m act reply = λ m c h. record { running = running_of m c h; is = inl (drop.told m (store_halted d f store m c h ∙ works)) } in
        let acted : IsActed d f store new number act reply = record {
          legal = legal;
          flush = λ m c h. drop.ended m;
          holds = λ m c h. since_live d f store.halted engine (now_of store) (after m number act reply) (course_after m number c act reply) works
              (holds_beside m c number act reply drop.beside d f engine (now_of store) (before.holds (now_of store) m c (live_of d f store m c works h)) (legal m c h));
          moments = moments;
          ready = record {
            goes_on = goes_on_live d f store.halted engine (now_of store) works (before.running goes.0) (before.current (now_of store) goes.1);
            one = one ready.one;
            families = ready.families;
            few = ready.few;
            may_end = tt;
          };
          names = refl;
          counted = counted;
          given = drop.given;
          halted = drop.halts store.halted;
          since = drop.since;
          files = files;
          draws = draws;
          same = same;
        } in
        acted_step d f store new number (FlushEnd name flush.start) act reply asks refl drop.steps (λ keeps. absurd (false≢true keeps)) acted

    -- ---- where its table is installed

    pub install_step : (engine : Engine D F f) (new : Store D F f) (table kept : ℕ) (floor : Ts) → new.names.items ≡ store.names.items → new.halted ≡ store.halted → new.flush ≡ None → engine_of new ≡ engine
        → ((m : State) (c : Course) → HoldsStore d f store m c → IsReplyTo m act (replies.Table table kept floor))
        → ((m : State) (c : Course) → HoldsStore d f store m c → HoldsNow d f (engine_of new) (now_of new) (after m number act (replies.Table table kept floor)) (course_after m number c act (replies.Table table kept floor)))
        → ((m : State) (c : Course) → HoldsStore d f store m c → RanUnder d f m c number act (engine_of store) (engine_of new))
        → IsRunning (engine_of new) → IsCurrent (engine_of new) (now_of new) → (IsOneFolder d f (engine_of store) → IsOneFolder d f (engine_of new)) → length (now_of new).families ≡ length (now_of store).families
        → store_faults d f store ≤ store_faults d f new → (store_next store ≤ store_next new) × (store_next new ≤ store_next store + 1) → IsSameDisk d (engine_of store).disk (engine_of new).disk
        → IsStep d f store new number (FlushEnd name flush.start) (replies.Table table kept floor)
    install_step engine new table kept floor names halted idle is legal holds moments running current one count counted draws same =
        let reply = replies.Table table kept floor in
        let acted : IsActed d f store new number act reply = record {
          legal = legal;
          flush = λ m c h. ended m c h ∙ sym (ap (option_map job_of) idle);
          holds = λ m c h. since_live d f new.halted (engine_of new) (now_of new) (after m number act reply) (course_after m number c act reply) (halted ∙ works) (holds m c h);
          moments = moments;
          ready = record {
            goes_on = goes_on_live d f new.halted (engine_of new) (now_of new) (halted ∙ works) running current;
            one = one ready.one;
            families = count ∙ (ready.families ∙ ap length (sym names));
            few = subst (λ (ns : List (List ℕ)). length ns ≤ FAMILY_LIMIT) (sym names) ready.few;
            may_end = rw idle tt;
          };
          names = names;
          counted = counted;
          given = refl;
          halted = halted;
          since = tt;
          files = λ says. absurd (false≢true says);
          draws = draws;
          same = same;
        } in
        acted_step d f store new number (FlushEnd name flush.start) act reply asks refl refl (λ keeps. absurd (false≢true keeps)) acted
      where
        off : (m : State) (o : Option Flush) → m.flush ≡ o → o ≡ Some (job_of flush) → (with_flush m o table floor).flush ≡ None
        off m None at some = absurd (none_some some)
          where
            none_some : None ≡ Some (job_of flush) → ⊥
            none_some e = absurd (cc)
        off m (Some job) at some = refl

        ended : (m : State) (c : Course) → HoldsStore d f store m c → (after m number act (replies.Table table kept floor)).flush ≡ None
        ended m c h = off m m.flush refl (job_runs m c h)

    -- ---- where the disk failed under it

    pub end_failed : (engine : Engine D F f) (new : Store D F f)
        → ((m : State) (c : Course) → HoldsStore d f store m c → IsReplyTo m act replies.Fault)
        → ((m : State) (c : Course) → HoldsStore d f store m c → RanUnder d f m c number act (engine_of store) engine)
        → (IsOneFolder d f (engine_of store) → IsOneFolder d f engine) → Rose (store_faults d f store) (engine_faults d f engine)
        → (store_next store ≤ engine.next) × (engine.next ≤ store_next store + 1) → IsSameDisk d (engine_of store).disk engine.disk
        → new ≡ record store { engine = engine; flush = None; halted = Some number } → IsStep d f store new number (FlushEnd name flush.start) replies.Fault
    end_failed engine new legal moments one counted draws same is =
        let left : Store D F f = record store { engine = engine; flush = None; halted = Some number } in
        let acted : IsActed d f store left number act replies.Fault = record {
          legal = legal;
          flush = λ m c h. refl;
          holds = λ m c h.
              let live = live_of d f store m c works h in
              let halted : HoldsHalted d f number engine (now_of store) (after m number act replies.Fault) (course_after m number c act replies.Fault) = record {
                halted = refl;
                shows = now_ended (now_of store) m number (store_shows d f store m c h);
                sound = sound_after m number act replies.Fault (store_sound d f store m c h) (legal m c h);
                leaves = failed_leave d f last (engine_of store) engine m c number act live.unfailed (moments m c h);
              } in
              halted;
          moments = moments;
          ready = record { goes_on = tt; one = one ready.one; families = ready.families; few = ready.few; may_end = tt };
          names = refl;
          counted = counted;
          given = refl;
          halted = refl;
          since = tt;
          files = λ says. absurd (false≢true says);
          draws = draws;
          same = same;
        } in
        subst (λ (s : Store D F f). IsStep d f store s number (FlushEnd name flush.start) replies.Fault) (sym is)
        (acted_step d f store left number (FlushEnd name flush.start) act replies.Fault asks refl refl (λ keeps. absurd (false≢true keeps)) acted)
