-- The steps of starts of flushes.
use Rattle.std.proofs.Common.{◌≡◌, ℕ, ◌≤◌, Bool, false, List, [], length, map, Option, Some, None, refl, sym, ap, ◌∙◌, subst, arith, inl, inr}
use Rattle.std.specs.Prelude.{IfSome, Result, Err, option_map, slice_get}
use Rattle.std.proofs.lemmas.Bool.{false≢true}
use Rattle.std.proofs.lemmas.Option.{slice_get_within}
use Rattle.ts_key.specs.declared.limits.TheConstants.{FAMILY_LIMIT}
use Rattle.ts_key.specs.declared.numbers.Family.{Family}
use Rattle.ts_key.specs.declared.numbers.Seq.{Seq}
use Rattle.ts_key.specs.declared.numbers.Ts.{Ts}
use Rattle.udt_disk.specs.Causes.{IsCause}
use Rattle.udt_disk.specs.declared.file.DiskFile as file
use Rattle.udt_disk.specs.declared.disk.Disk as disk
use Rattle.udt_model.specs.declared.event.Event.TheVariants.{FlushStart}
use Rattle.udt_model.specs.declared.reply.Reply.{Reply}
use Rattle.udt_model.specs.declared.reply.Reply.TheVariants as replies
use Rattle.udt_model.specs.Acts.{Act}
use Rattle.udt_model.specs.Acts.Act.{flush_start}
use Rattle.udt_model.specs.Crashes.{Course, course_after}
use Rattle.udt_model.specs.State.{Flush, Snap, State, family_at, floor_at, floor_of, seqs_of}
use Rattle.udt_model.specs.State.{FamilyState as ModelFamily}
use Rattle.udt_model.specs.Steps.{IsReplyTo, after}
use Rattle.manifest.specs.Manifest.{manifest_folded}
use Rattle.super_version.specs.declared.family.FamilyState.{FamilyState}
use Rattle.super_version.specs.declared.version.SuperVersion.{SuperVersion}
use Rattle.engine_laws.specs.Joints.{IsNowLast}
use Rattle.store_engine.specs.Calls.{RanOn, is_disk_failure}
use Rattle.store_engine.specs.Engines.{HoldsAsBefore, HoldsNow, IsCurrent, IsRunning}
use Rattle.store_engine.specs.Now.{IsNow}
use Rattle.store_engine.specs.Replies.{is_disk_fault, reply_of_fault}
use Rattle.store_engine.specs.Sealing.{AnswersSeal, IsSealed}
use Rattle.store_engine.specs.declared.engine.Engine.{Engine}
use Rattle.store_engine.specs.declared.fault.EngineFault.{EngineFault}
use Rattle.store_engine.specs.declared.fault.EngineFault.TheVariants as faults
use Rattle.store_engine.specs.declared.seal.Sealed.{Sealed}
use Rattle.store_engine.proofs.Admitting.{both}
use Rattle.store_engine.proofs.Leaving.{failed_sync_leave}
use Rattle.solo_store.specs.Names.{family_named}
use Rattle.solo_store.specs.Replies.{halted_behind, told_of_fault}
use Rattle.solo_store.specs.Steps.{IsStep, RunsFlush, StartsFlush}
use Rattle.solo_store.specs.Stores.{HoldsStore, IsStoreReady, MayEnd, engine_of, job_of, now_of, store_faults, store_next}
use Rattle.solo_store.specs.declared.store.RunningFlush.{RunningFlush}
use Rattle.solo_store.specs.declared.store.Store.{Store}
use Rattle.solo_store.proofs.Answers.{not_there, there}
use Rattle.solo_store.proofs.Asking.{Asks, asks_flush_start}
use Rattle.solo_store.proofs.Faults.{Faulted, fault_step, refuses_start}
use Rattle.solo_store.proofs.Holding.{goes_on_live, live_of, on_under, since_live, store_halted, store_shows}
use Rattle.solo_store.proofs.Stepping.{IsActed, Keeps, acted_step, keeps_itself, quiet, quiet_halted, still_step}

-- what the model tells where the store is halted, and where a flush runs
told_halted : (m : State) (i : Family) (g : ModelFamily) (since : ℕ) → family_at m i ≡ Some g → m.halted ≡ Some since → IsReplyTo m (flush_start i) (replies.Halted since)
told_halted m i g since stands is = record { running = refl; is = inl (rw (stands, is) refl) }

told_busy : (m : State) (i : Family) (g : ModelFamily) (job : Flush) → family_at m i ≡ Some g → m.halted ≡ None → m.flush ≡ Some job → IsReplyTo m (flush_start i) (replies.Busy job.start)
told_busy m i g job stands is runs = record { running = refl; is = inl (rw (stands, is, runs) refl) }

-- what a family has in tables ends at or below the last sequence
pub through_within : {D F : Type 0} {f : file.Ghosts F} (engine : Engine D F f) (v : SuperVersion) (i : Family) (g : FamilyState) → IsRunning engine → IsCurrent engine v → slice_get v.families i.0 ≡ Some g → g.through.0 ≤ v.last.0
through_within engine v i g running current at =
    elim (both v.families (manifest_folded engine.manifest).families i.0 current.fits.all) [
      | inl none ↦ absurd (none_some g (sym none.0 ∙ at))
      | inr some ↦
          let more = some.1 in
          let fold = more.0 in
          let of = current.fits.each i.0 fold g more.1.1 at in
          let a : g.through.0 ≡ fold.through.0 = ap (λ (s : Seq). s.0) of.through in
          let b = running.together.well.through i fold more.1.1 in
          let c = current.fits.last in
          omega (arith, a, b, c)
    ]
  where
    none_some : (g : FamilyState) → None ≡ Some g → ⊥
    none_some g e = absurd (cc)

module _ {D F : Type 0} (d : disk.Ghosts D F) (f : file.Ghosts F) (last : IsNowLast d f) (store : Store D F f) (ready : IsStoreReady d f store) (number : ℕ)
    (name : List ℕ) (i : Family) (is_family : i ≡ family_named store.names.items name) where
  abbrev act : Act
  act = flush_start i

  asks : Asks store.names.items (FlushStart name) act
  asks = subst (λ (j : Family). Asks store.names.items (FlushStart name) (flush_start j)) (sym is_family) (asks_flush_start store.names.items name)

  -- ---- refusals

  pub start_absent : None ≡ slice_get (now_of store).families i.0 → IsStep d f store store number (FlushStart name) replies.Unknown
  start_absent none =
      still_step d f store store number (FlushStart name) act asks refl (keeps_itself d f last store ready) replies.Unknown refl (quiet store.halted (store_next store) replies.Unknown refl) refl
      (λ m c h. let gone = not_there m (now_of store) i (store_shows d f store m c h) (sym none) in record { running = refl; is = inl (rw gone refl) })

  module _ (g : FamilyState) (found : Some g ≡ slice_get (now_of store).families i.0) where
    pub start_halted : (since : ℕ) → store.halted ≡ Some since → IsStep d f store store number (FlushStart name) (replies.Halted since)
    start_halted since halted =
        still_step d f store store number (FlushStart name) act asks refl (keeps_itself d f last store ready) (replies.Halted since) refl (quiet_halted store.halted (store_next store) since halted) refl
        (λ m c h.
        let stands = there m (now_of store) i g (store_shows d f store m c h) (sym found) in
        told_halted m i stands.family since stands.at (store_halted d f store m c h ∙ halted))

    module _ (works : store.halted ≡ None) where
      pub start_busy : (flush : RunningFlush) → store.flush ≡ Some flush → IsStep d f store store number (FlushStart name) (replies.Busy flush.start)
      start_busy flush runs =
          still_step d f store store number (FlushStart name) act asks refl (keeps_itself d f last store ready) (replies.Busy flush.start) refl (quiet store.halted (store_next store) (replies.Busy flush.start) refl) refl
          (λ m c h.
          let stands = there m (now_of store) i g (store_shows d f store m c h) (sym found) in
          told_busy m i stands.family (job_of flush) stands.at (store_halted d f store m c h ∙ works) (h.flush ∙ ap (option_map job_of) runs))

      -- ---- where no flush runs

      module _ (idle : store.flush ≡ None) where
        idle_of : (m : State) (c : Course) → HoldsStore d f store m c → m.flush ≡ None
        idle_of m c h = h.flush ∙ ap (option_map job_of) idle

        -- nothing is unflushed
        pub start_nothing : (engine : Engine D F f) → engine ≡ engine_of store
            → ((m : State) (c : Course) → HoldsNow d f (engine_of store) (now_of store) m c → m.flush ≡ None → IsReplyTo m act replies.Nothing)
            → IsStep d f store (record store { engine = engine }) number (FlushStart name) replies.Nothing
        start_nothing engine still tells =
            let keeps : Keeps d f store (record store { engine = engine }) = subst (λ (e : Engine D F f). Keeps d f store (record store { engine = e })) (sym still) (keeps_itself d f last store ready) in
            still_step d f store (record store { engine = engine }) number (FlushStart name) act asks refl keeps replies.Nothing refl (quiet store.halted (store_next store) replies.Nothing refl) refl
            (λ m c h. tells m c (live_of d f store m c works h) (idle_of m c h))

        -- it runs: the engine and the super version are those behind the seal
        module _ (mid new : Store D F f) (result : Result Sealed EngineFault) (same_names : mid.names.items ≡ store.names.items) (same_halted : mid.halted ≡ store.halted) (same_last : (now_of mid).last ≡ (now_of store).last)
            (same_count : length (now_of mid).families ≡ length (now_of store).families)
            (tells : (m : State) (c : Course) → HoldsNow d f (engine_of store) (now_of store) m c → m.flush ≡ None → IsReplyTo m act (replies.OkAt m.last.0))
            (holds : (m : State) (c : Course) → HoldsNow d f (engine_of store) (now_of store) m c → m.flush ≡ None → HoldsNow d f (engine_of mid) (now_of mid) (after m number act (replies.OkAt m.last.0)) (course_after m number c act (replies.OkAt m.last.0)))
            (moments : (m : State) (c : Course) → HoldsNow d f (engine_of store) (now_of store) m c → RanOn d f m c (engine_of store) (engine_of mid))
            (current : IsCurrent (engine_of mid) (now_of mid)) (fine : is_disk_failure result ≡ false)
            (sealed : IsSealed d f (now_of store).last (engine_of store) (engine_of mid) result) where
          abbrev flush : RunningFlush
          flush = record { start = number; family = i; through = (now_of mid).last; floor = g.floor }

          abbrev started : Store D F f
          started = record mid { flush = Some flush }

          last_is : (m : State) → IsNow (now_of store) m → m.last ≡ (now_of mid).last
          last_is m shows = sym (same_last ∙ shows.last)

          job_is : (m : State) (c : Course) → HoldsStore d f store m c → (after m number act (replies.OkAt (now_of mid).last.0)).flush ≡ option_map job_of started.flush
          job_is m c h =
              let shows = store_shows d f store m c h in
              let stands = there m (now_of store) i g shows (sym found) in
              let floor : floor_at m i ≡ g.floor = ap floor_of stands.at ∙ sym (shows.families i stands.family g stands.at (sym found)).floor in
              let seqs : seqs_of m ≡ [] = ap (map (λ (s : Snap). s.seq)) h.snaps in
              ap (λ (s : Seq). let job : Flush = record { start = number; family = i; through = s; floor = floor_at m i; seqs = seqs_of m } in Some job) (last_is m shows)
              ∙ (ap (λ (t : Ts). let job : Flush = record { start = number; family = i; through = (now_of mid).last; floor = t; seqs = seqs_of m } in Some job) floor
              ∙ ap (λ (ss : List Seq). let job : Flush = record { start = number; family = i; through = (now_of mid).last; floor = g.floor; seqs = ss } in Some job) seqs)

          running : IsRunning (engine_of mid)
          running = sealed.running fine

          may_end : MayEnd flush (now_of mid)
          may_end = record {
            known = let a = slice_get_within (now_of store).families i.0 g (sym found) in omega (arith, a, same_count);
            from = λ h at. through_within (engine_of mid) (now_of mid) i h running current at;
            to = omega arith;
          }

          acted : IsActed d f store started number act (replies.OkAt (now_of mid).last.0)
          acted = record {
            legal = λ m c h. subst (λ (s : Seq). IsReplyTo m act (replies.OkAt s.0)) (last_is m (store_shows d f store m c h)) (tells m c (live_of d f store m c works h) (idle_of m c h));
            flush = job_is;
            holds = λ m c h.
                since_live d f mid.halted (engine_of mid) (now_of mid) (after m number act (replies.OkAt (now_of mid).last.0)) (course_after m number c act (replies.OkAt (now_of mid).last.0)) (same_halted ∙ works)
                (subst (λ (s : Seq). HoldsNow d f (engine_of mid) (now_of mid) (after m number act (replies.OkAt s.0)) (course_after m number c act (replies.OkAt s.0))) (last_is m (store_shows d f store m c h))
                (holds m c (live_of d f store m c works h) (idle_of m c h)));
            moments = λ m c h. on_under d f (engine_of store) (engine_of mid) m c number act (moments m c (live_of d f store m c works h));
            ready = record {
              goes_on = goes_on_live d f mid.halted (engine_of mid) (now_of mid) (same_halted ∙ works) running current;
              one = sealed.one ready.one;
              families = same_count ∙ (ready.families ∙ ap length (sym same_names));
              few = subst (λ (names : List (List ℕ)). length names ≤ FAMILY_LIMIT) (sym same_names) ready.few;
              may_end = may_end;
            };
            names = same_names;
            counted = subst (λ (b : Bool). IsCause b (store_faults d f store) (store_faults d f mid)) fine sealed.counted;
            given = refl;
            halted = same_halted;
            since = tt;
            files = λ is. absurd (false≢true is);
            draws = sealed.numbers;
            same = record { told = sealed.touches.told; model = sealed.touches.model };
          }

          pub start_runs : (reply : Reply) → reply ≡ replies.OkAt (now_of mid).last.0 → new ≡ started → IsStep d f store new number (FlushStart name) reply
          start_runs reply told is =
              subst (λ (r : Reply). IsStep d f store new number (FlushStart name) r) (sym told)
              (subst (λ (s : Store D F f). IsStep d f store s number (FlushStart name) (replies.OkAt (now_of mid).last.0)) (sym is)
              (acted_step d f store started number (FlushStart name) act (replies.OkAt (now_of mid).last.0) asks refl refl (λ keeps. absurd (false≢true keeps)) acted))

          pub start_started : (reply : Reply) → reply ≡ replies.OkAt (now_of mid).last.0 → new ≡ started → StartsFlush reply store new number name
          start_started reply told is =
              subst (λ (r : Reply). StartsFlush r store new number name) (sym told)
              (subst (λ (s : Store D F f). RunsFlush s number name) (sym is)
              (record { flush = flush; runs = refl; of_start = refl; of_family = is_family ∙ ap (λ (names : List (List ℕ)). family_named names name) (sym same_names) }))

        -- the seal was refused, or the disk failed in it
        pub start_fault : (engine : Engine D F f) (new : Store D F f) (fault : EngineFault) (reply : Reply)
            → ((m : State) (c : Course) → HoldsNow d f (engine_of store) (now_of store) m c → m.flush ≡ None → IfSome (reply_of_fault fault) (IsReplyTo m act))
            → (is_disk_fault fault ≡ false → HoldsAsBefore d f (engine_of store) engine)
            → ((m : State) (c : Course) → HoldsNow d f (engine_of store) (now_of store) m c → RanOn d f m c (engine_of store) engine)
            → AnswersSeal (slice_get (now_of store).families i.0) (store_next store) (Err fault) → IsSealed d f (now_of store).last (engine_of store) engine (Err fault)
            → reply ≡ told_of_fault fault → new ≡ record store { engine = engine; halted = halted_behind store.halted number fault } → IsStep d f store new number (FlushStart name) reply
        start_fault engine new fault reply tells refused moments answers sealed told is =
            let faulted : Faulted d f store engine number act fault = record {
              tells = λ m c h. tells m c (live_of d f store m c works h) (idle_of m c h);
              leaves = λ m c h failed. failed_sync_leave d f last (engine_of store) engine m c number act h.unfailed (moments m c h);
              moments = λ m c h. on_under d f (engine_of store) engine m c number act (moments m c h);
              refused = refused;
              untouched = λ safe. (sealed.untouched safe refl).held_is;
              running = sealed.running;
              one = sealed.one;
              next = λ safe. let e = sealed.next safe in omega (arith, e);
              draws = sealed.numbers;
              same = record { told = sealed.touches.told; model = sealed.touches.model };
              files = λ n e.
                  let full : AnswersSeal (Some g) (store_next store) (Err (faults.FilesFull n)) =
                  subst (λ (x : EngineFault). AnswersSeal (Some g) (store_next store) (Err x)) e (subst (λ (o : Option FamilyState). AnswersSeal o (store_next store) (Err fault)) (sym found) answers) in
                  let at = full.1 in omega (arith, at);
              counted = sealed.counted;
            } in
            subst (λ (r : Reply). IsStep d f store new number (FlushStart name) r) (sym told)
            (fault_step d f last store new engine number act works ready (FlushStart name) asks (refuses_start name i) fault faulted is)
