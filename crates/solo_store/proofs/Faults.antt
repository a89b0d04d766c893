-- The step of an event under which the engine answered a fault.
use Rattle.std.proofs.Common.{◌≡◌, ℕ, ◌+◌, ◌≤◌, Bool, false, true, List, Some, None, refl, sym, ap, ◌∙◌, subst}
use Rattle.std.specs.Prelude.{IfSome, IsTrue, Err}
use Rattle.std.proofs.lemmas.Bool.{false≢true, true≢false}
use Rattle.ts_key.specs.declared.batch.WriteOp.{WriteOp}
use Rattle.ts_key.specs.declared.numbers.Family.{Family}
use Rattle.ts_key.specs.declared.numbers.Ts.{Ts}
use Rattle.udt_disk.specs.Causes.{IsCause}
use Rattle.udt_disk.specs.declared.file.DiskFile as file
use Rattle.udt_disk.specs.declared.disk.Disk as disk
use Rattle.udt_model.specs.declared.event.Event.{Event}
use Rattle.udt_model.specs.declared.event.Event.TheVariants.{FlushStart, Raise, Sync, Write}
use Rattle.udt_model.specs.declared.event.NamedOp.{NamedOp}
use Rattle.udt_model.specs.declared.reply.Reply.{Reply}
use Rattle.udt_model.specs.declared.reply.Reply.TheVariants as replies
use Rattle.udt_model.specs.declared.reply.Reply.TheVariants.{Fault}
use Rattle.udt_model.specs.Acts.{Act}
use Rattle.udt_model.specs.Acts.Act.{flush_start, raise, sync_all, write}
use Rattle.udt_model.specs.Crashes.{Course, course_after}
use Rattle.udt_model.specs.Lines.{is_read, takes_memory}
use Rattle.udt_model.specs.State.{State}
use Rattle.udt_model.specs.Steps.{IsReplyTo, after, is_running, without_job}
use Rattle.floor_laws.proofs.Told.{sound_after}
use Rattle.super_version.specs.declared.version.SuperVersion.{SuperVersion}
use Rattle.manifest_fold.specs.declared.limits.TheConstants.{FILE_NUMBER_LIMIT}
use Rattle.engine_laws.specs.Joints.{IsNowLast}
use Rattle.store_engine.specs.Calls.{LeavesOutcomes, RanOn, RanUnder}
use Rattle.store_engine.specs.Engines.{HoldsAsBefore, HoldsNow, IsOneFolder, IsRunning, engine_faults, held}
use Rattle.store_engine.specs.Now.{IsNow}
use Rattle.store_engine.specs.Replies.{is_disk_fault, reply_of_fault}
use Rattle.store_engine.specs.Steps.{IsCalled}
use Rattle.store_engine.specs.declared.engine.Engine.{Engine}
use Rattle.store_engine.specs.declared.fault.EngineFault.{EngineFault}
use Rattle.store_engine.specs.declared.fault.EngineFault.TheVariants as faults
use Rattle.store_engine.proofs.Leaving.{failed_leave, failed_sync_leave}
use Rattle.solo_store.specs.Replies.{halted_behind, told_of_fault}
use Rattle.solo_store.specs.Steps.{IsSameDisk, IsStep}
use Rattle.solo_store.specs.Stores.{HoldsHalted, HoldsStore, IsStoreReady, engine_of, now_of, store_next}
use Rattle.solo_store.specs.declared.store.Store.{Store}
use Rattle.solo_store.proofs.Asking.{Asks, asks_sync}
use Rattle.solo_store.proofs.Behind.{is_own, is_still}
use Rattle.solo_store.proofs.Holding.{goes_on_live, goes_on_of, live_of, on_under, rests_under, since_live, store_shows, store_sound}
use Rattle.solo_store.proofs.Stepping.{IsActed, Keeps, acted_step, quiet, quiet_files, same_draws, still_step, want_step}

-- ---- acts that an engine may refuse

-- The act is safe read and safe job's end, and a refusal changes nothing.
pub record IsRefusable (event : Event) (act : Act) : Type 0 where
  pub unread : is_read event ≡ false
  pub takes : IsTrue (takes_memory event)
  pub runs : (m : State) → IsTrue (is_running m act)
  pub own : IsTrue (is_own act)
  pub job : (m : State) → without_job m act ≡ m
  pub still : (fault : EngineFault) → is_disk_fault fault ≡ false → IsTrue (is_still act (told_of_fault fault))

write_still : (ops : List WriteOp) (sync : Bool) (fault : EngineFault) → is_disk_fault fault ≡ false → IsTrue (is_still (write ops sync) (told_of_fault fault))
write_still ops sync faults.DiskFault safe = absurd (true≢false safe)
write_still ops sync fault safe = refl

raise_still : (i : Family) (floor : Ts) (fault : EngineFault) → is_disk_fault fault ≡ false → IsTrue (is_still (raise i floor) (told_of_fault fault))
raise_still i floor faults.DiskFault safe = absurd (true≢false safe)
raise_still i floor fault safe = refl

start_still : (i : Family) (fault : EngineFault) → is_disk_fault fault ≡ false → IsTrue (is_still (flush_start i) (told_of_fault fault))
start_still i faults.DiskFault safe = absurd (true≢false safe)
start_still i fault safe = refl

pub refuses_write : (named : List NamedOp) (ops : List WriteOp) (sync : Bool) → IsRefusable (Write named sync) (write ops sync)
refuses_write named ops sync = record { unread = refl; takes = refl; runs = λ m. refl; own = refl; job = λ m. refl; still = write_still ops sync }

pub refuses_raise : (name : List ℕ) (i : Family) (floor : Ts) → IsRefusable (Raise name floor) (raise i floor)
refuses_raise name i floor = record { unread = refl; takes = refl; runs = λ m. refl; own = refl; job = λ m. refl; still = raise_still i floor }

pub refuses_start : (name : List ℕ) (i : Family) → IsRefusable (FlushStart name) (flush_start i)
refuses_start name i = record { unread = refl; takes = refl; runs = λ m. refl; own = refl; job = λ m. refl; still = start_still i }

-- ---- where the disk failed

-- the super version shows the state still
pub now_halted : (now : SuperVersion) (m : State) (number : ℕ) → IsNow now m → IsNow now (record m { halted = Some number })
now_halted now m number shows = record {
  last = shows.last;
  count = shows.count;
  families = λ i g h at there. shows.families i g h at there;
  flush = λ job g is there. shows.flush job g is there;
}

module _ {D F : Type 0} (d : disk.Ghosts D F) (f : file.Ghosts F) where
  -- What a call of the engine left that answered a fault.
  pub record Faulted (old : Store D F f) (engine : Engine D F f) (number : ℕ) (act : Act) (fault : EngineFault) : Type 0 where
    pub tells : (m : State) (c : Course) → HoldsStore d f old m c → IfSome (reply_of_fault fault) (IsReplyTo m act)
    pub leaves : (m : State) (c : Course) → HoldsNow d f (engine_of old) (now_of old) m c → is_disk_fault fault ≡ true → LeavesOutcomes d f (after m number act Fault) (course_after m number c act Fault) (held engine)
    pub moments : (m : State) (c : Course) → HoldsNow d f (engine_of old) (now_of old) m c → RanUnder d f m c number act (engine_of old) engine
    pub refused : is_disk_fault fault ≡ false → HoldsAsBefore d f (engine_of old) engine
    pub untouched : is_disk_fault fault ≡ false → held engine ≡ held (engine_of old)
    pub running : is_disk_fault fault ≡ false → IsRunning engine
    pub one : IsOneFolder d f (engine_of old) → IsOneFolder d f engine
    pub next : is_disk_fault fault ≡ false → engine.next ≡ store_next old
    pub draws : (store_next old ≤ engine.next) × (engine.next ≤ store_next old + 1)
    pub same : IsSameDisk d (engine_of old).disk engine.disk
    pub files : (n : ℕ) → fault ≡ faults.FilesFull n → FILE_NUMBER_LIMIT ≤ store_next old
    pub counted : IsCause (is_disk_fault fault) (engine_faults d f (engine_of old)) (engine_faults d f engine)

  module _ (last : IsNowLast d f) (old new : Store D F f) (engine : Engine D F f) (number : ℕ) (act : Act) (works : old.halted ≡ None) (ready : IsStoreReady d f old) where
    -- a refusal keeps what the store held
    refused_keeps : (fault : EngineFault) → is_disk_fault fault ≡ false → Faulted old engine number act fault → new ≡ record old { engine = engine } → Keeps d f old new
    refused_keeps fault safe faulted is =
        let before = faulted.refused safe in
        let goes = goes_on_of d f old works ready in
        subst (λ (s : Store D F f). Keeps d f old s) (sym is) (record {
          flush = refl;
          holds = λ m c h. since_live d f old.halted engine (now_of old) m c works (before.holds (now_of old) m c (live_of d f old m c works h));
          moments = λ m c n a h. rests_under d f last old engine m c n a h (faulted.untouched safe);
          ready = record {
            goes_on = goes_on_live d f old.halted engine (now_of old) works (faulted.running safe) (before.current (now_of old) goes.1);
            one = faulted.one ready.one;
            families = ready.families;
            few = ready.few;
            may_end = ready.may_end;
          };
          names = refl;
          faults = subst (λ (b : Bool). IsCause b (engine_faults d f (engine_of old)) (engine_faults d f engine)) safe faulted.counted;
          halted = refl;
          next = faulted.next safe;
          same = faulted.same;
        })

    -- the disk failed
    failed_acted : Faulted old engine number act faults.DiskFault → ((m : State) → without_job m act ≡ m) → new ≡ record old { engine = engine; halted = Some number } → IsActed d f old new number act Fault
    failed_acted faulted job is = subst (λ (s : Store D F f). IsActed d f old s number act Fault) (sym is) (record {
      legal = λ m c h. faulted.tells m c h;
      flush = λ m c h. ap (λ (n : State). n.flush) (job m) ∙ h.flush;
      holds = λ m c h.
          let live = live_of d f old m c works h in
          let halted : HoldsHalted d f number engine (now_of old) (after m number act Fault) (course_after m number c act Fault) = record {
            halted = refl;
            shows = subst (λ (n : State). IsNow (now_of old) (record n { halted = Some number })) (sym (job m)) (now_halted (now_of old) m number (store_shows d f old m c h));
            sound = sound_after m number act Fault (store_sound d f old m c h) (faulted.tells m c h);
            leaves = faulted.leaves m c live refl;
          } in
          halted;
      moments = λ m c h. faulted.moments m c (live_of d f old m c works h);
      ready = record { goes_on = tt; one = faulted.one ready.one; families = ready.families; few = ready.few; may_end = ready.may_end };
      names = refl;
      counted = faulted.counted;
      given = refl;
      halted = refl;
      since = tt;
      files = λ is. absurd (false≢true is);
      draws = faulted.draws;
      same = faulted.same;
    })

    -- also where the event takes no memory
    pub failed_step : (event : Event) → Asks old.names.items event act → IsTrue (is_own act) → ((m : State) → without_job m act ≡ m) → Faulted old engine number act faults.DiskFault
        → new ≡ record old { engine = engine; halted = Some number } → IsStep d f old new number event Fault
    failed_step event asks own job faulted is = acted_step d f old new number event act Fault asks own refl (λ keeps. ap (λ (s : Store D F f). s.flush) is) (failed_acted faulted job is)

    module _ (event : Event) (asks : Asks old.names.items event act) (may : IsRefusable event act) where
      pub fault_step : (fault : EngineFault) → Faulted old engine number act fault → new ≡ record old { engine = engine; halted = halted_behind old.halted number fault } → IsStep d f old new number event (told_of_fault fault)
      fault_step faults.DiskFault faulted is = failed_step event asks may.own may.job faulted is
      fault_step faults.NoMemory faulted is = want_step d f old new number event act asks may.own (refused_keeps faults.NoMemory refl faulted is) (may.still faults.NoMemory refl) may.takes may.runs
      fault_step (faults.FilesFull n) faulted is =
          still_step d f old new number event act asks may.own (refused_keeps (faults.FilesFull n) refl faulted is) (replies.Files n) (may.still (faults.FilesFull n) refl)
          (quiet_files old.halted (store_next old) n (faulted.files n refl)) refl faulted.tells
      fault_step fault faulted is =
          still_step d f old new number event act asks may.own (refused_keeps fault refl faulted is) (told_of_fault fault) (may.still fault refl) (quiet old.halted (store_next old) (told_of_fault fault) refl) refl
          faulted.tells

  -- ---- what the calls of an engine tell of their faults

  module _ (last : IsNowLast d f) (old : Store D F f) (engine : Engine D F f) (number : ℕ) (act : Act) (works : old.halted ≡ None) (fault : EngineFault)
      (tells : (m : State) (c : Course) → HoldsNow d f (engine_of old) (now_of old) m c → IfSome (reply_of_fault fault) (IsReplyTo m act))
      (refused : is_disk_fault fault ≡ false → HoldsAsBefore d f (engine_of old) engine) (files : (n : ℕ) → fault ≡ faults.FilesFull n → FILE_NUMBER_LIMIT ≤ store_next old) where
    pub faulted_under : {A : Type 0} → ((m : State) (c : Course) → HoldsNow d f (engine_of old) (now_of old) m c → RanUnder d f m c number act (engine_of old) engine)
        → IsCalled {A = A} d f (engine_of old) engine (Err fault) → Faulted old engine number act fault
    faulted_under moments called = record {
      tells = λ m c h. tells m c (live_of d f old m c works h);
      leaves = λ m c h failed. failed_leave d f last (engine_of old) engine m c number act h.unfailed (moments m c h);
      moments = moments;
      refused = refused;
      untouched = called.untouched;
      running = called.running;
      one = called.one;
      next = λ safe. called.next;
      draws = same_draws d f called.next;
      same = record { told = ap d.is_told called.same.disk; model = ap d.keeps_model called.same.disk };
      files = files;
      counted = called.counted;
    }

    -- of an act that was to change nothing
    pub faulted_on : {A : Type 0} → ((m : State) (c : Course) → HoldsNow d f (engine_of old) (now_of old) m c → RanOn d f m c (engine_of old) engine)
        → IsCalled {A = A} d f (engine_of old) engine (Err fault) → Faulted old engine number act fault
    faulted_on moments called = record {
      tells = λ m c h. tells m c (live_of d f old m c works h);
      leaves = λ m c h failed. failed_sync_leave d f last (engine_of old) engine m c number act h.unfailed (moments m c h);
      moments = λ m c h. on_under d f (engine_of old) engine m c number act (moments m c h);
      refused = refused;
      untouched = called.untouched;
      running = called.running;
      one = called.one;
      next = λ safe. called.next;
      draws = same_draws d f called.next;
      same = record { told = ap d.is_told called.same.disk; model = ap d.keeps_model called.same.disk };
      files = files;
      counted = called.counted;
    }

  -- ---- syncs

  pub sync_failed : {A : Type 0} (last : IsNowLast d f) (old new : Store D F f) (engine : Engine D F f) (number : ℕ) (works : old.halted ≡ None) (ready : IsStoreReady d f old) (fault : EngineFault) (reply : Reply)
      → fault ≡ faults.DiskFault
      → ((m : State) (c : Course) → HoldsNow d f (engine_of old) (now_of old) m c → IfSome (reply_of_fault fault) (IsReplyTo m sync_all))
      → ((m : State) (c : Course) → HoldsNow d f (engine_of old) (now_of old) m c → RanOn d f m c (engine_of old) engine)
      → IsCalled {A = A} d f (engine_of old) engine (Err fault) → reply ≡ told_of_fault fault → new ≡ record old { engine = engine; halted = halted_behind old.halted number fault }
      → IsStep d f old new number Sync reply
  sync_failed {A} last old new engine number works ready fault reply is tells moments called told left =
      let tells_fault : (m : State) (c : Course) → HoldsNow d f (engine_of old) (now_of old) m c → IfSome (reply_of_fault faults.DiskFault) (IsReplyTo m sync_all) = subst (λ (x : EngineFault). (m : State) (c : Course) → HoldsNow d f (engine_of old) (now_of old) m c → IfSome (reply_of_fault x) (IsReplyTo m sync_all)) is tells in
      let failed : IsCalled {A = A} d f (engine_of old) engine (Err faults.DiskFault) = subst (λ (x : EngineFault). IsCalled {A = A} d f (engine_of old) engine (Err x)) is called in
      let faulted = faulted_on last old engine number sync_all works faults.DiskFault tells_fault (λ safe. absurd (true≢false safe)) (λ n is. absurd (cc)) moments failed in
      subst (λ (r : Reply). IsStep d f old new number Sync r) (sym (told ∙ ap told_of_fault is))
      (failed_step last old new engine number sync_all works ready Sync (asks_sync old.names.items) refl (λ m. refl) faulted
      (left ∙ ap (λ (x : EngineFault). let s : Store D F f = record old { engine = engine; halted = halted_behind old.halted number x } in s) is))
