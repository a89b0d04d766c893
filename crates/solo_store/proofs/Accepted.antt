-- The step of an event that the engine took.
use Rattle.std.proofs.Common.{◌≡◌, ℕ, ◌+◌, ◌≤◌, Bool, List, length, Option, None, sym, ap, ◌∙◌, subst}
use Rattle.std.specs.Prelude.{IsTrue, option_map}
use Rattle.ts_key.specs.declared.batch.WriteOp.{WriteOp}
use Rattle.ts_key.specs.declared.limits.TheConstants.{FAMILY_LIMIT}
use Rattle.ts_key.specs.declared.numbers.Seq.{Seq}
use Rattle.udt_disk.specs.declared.file.DiskFile as file
use Rattle.udt_disk.specs.declared.disk.Disk as disk
use Rattle.udt_model.specs.declared.event.Event.{Event}
use Rattle.udt_model.specs.declared.reply.Reply.{Reply}
use Rattle.udt_model.specs.declared.reply.Reply.TheVariants.{OkAt}
use Rattle.udt_model.specs.Acts.{Act}
use Rattle.udt_model.specs.Acts.Act.{write}
use Rattle.udt_model.specs.Crashes.{Course, course_after}
use Rattle.udt_model.specs.Lines.{is_read, steps_with}
use Rattle.udt_model.specs.State.{State}
use Rattle.udt_model.specs.Steps.{IsReplyTo, after}
use Rattle.super_version.specs.declared.version.SuperVersion.{SuperVersion}
use Rattle.engine_laws.specs.Laws.{after_write, course_after_write}
use Rattle.store_engine.specs.Calls.{RanUnder}
use Rattle.store_engine.specs.Engines.{HoldsNow, IsCurrent, IsOneFolder, IsRunning}
use Rattle.store_engine.specs.declared.engine.Engine.{Engine}
use Rattle.solo_store.specs.Steps.{IsSameDisk, IsStep}
use Rattle.solo_store.specs.Stores.{IsStoreReady, MayEndIf, engine_of, job_of, now_of, store_faults, store_next}
use Rattle.solo_store.specs.declared.store.RunningFlush.{RunningFlush}
use Rattle.solo_store.specs.declared.store.Store.{Store}
use Rattle.solo_store.proofs.Asking.{Asks}
use Rattle.solo_store.proofs.Behind.{flush_after, is_plain, plain_own}
use Rattle.solo_store.proofs.Following.{Follows, may_end_later}
use Rattle.solo_store.proofs.Holding.{goes_on_live, live_of, since_live}
use Rattle.solo_store.proofs.Stepping.{IsQuiet, acted_step, same_draws}

module _ {D F : Type 0} (d : disk.Ghosts D F) (f : file.Ghosts F) where
  -- The store goes on with what the engine gave, and knows the same names and the same flush.
  pub record GoesOn (old new : Store D F f) : Type 0 where
    pub works : old.halted ≡ None
    pub halted : new.halted ≡ None
    pub names : new.names.items ≡ old.names.items
    pub flush : new.flush ≡ old.flush
    pub running : IsRunning (engine_of new)
    pub current : IsCurrent (engine_of new) (now_of new)
    pub one : IsOneFolder d f (engine_of old) → IsOneFolder d f (engine_of new)
    pub follows : Follows (now_of old) (now_of new)
    pub next : store_next new ≡ store_next old
    pub same : IsSameDisk d (engine_of old).disk (engine_of new).disk

  pub goes_on_ready : (old new : Store D F f) → IsStoreReady d f old → GoesOn old new → IsStoreReady d f new
  goes_on_ready old new ready goes = record {
    goes_on = goes_on_live d f new.halted (engine_of new) (now_of new) goes.halted goes.running goes.current;
    one = goes.one ready.one;
    families = goes.follows.count ∙ (ready.families ∙ ap length (sym goes.names));
    few = subst (λ (names : List (List ℕ)). length names ≤ FAMILY_LIMIT) (sym goes.names) ready.few;
    may_end = may_end_later new.flush (now_of old) (now_of new) goes.follows (subst (λ (o : Option RunningFlush). MayEndIf o (now_of old)) (sym goes.flush) ready.may_end);
  }

  module _ (old new : Store D F f) (number : ℕ) (event : Event) (act : Act) (asks : Asks old.names.items event act) (plain : IsTrue (is_plain act)) (ready : IsStoreReady d f old) (goes : GoesOn old new) where
    pub taken_step : (reply : Reply) → IsQuiet old.halted (store_next old) reply → IsTrue (steps_with (is_read event) reply) → store_faults d f new ≡ store_faults d f old
        → ((m : State) (c : Course) → HoldsNow d f (engine_of old) (now_of old) m c → IsReplyTo m act reply)
        → ((m : State) (c : Course) → HoldsNow d f (engine_of old) (now_of old) m c → HoldsNow d f (engine_of new) (now_of new) (after m number act reply) (course_after m number c act reply))
        → ((m : State) (c : Course) → HoldsNow d f (engine_of old) (now_of old) m c → RanUnder d f m c number act (engine_of old) (engine_of new))
        → IsStep d f old new number event reply
    taken_step reply quiets steps faults legal holds moments = acted_step d f old new number event act reply asks (plain_own act plain) steps (λ keeps. goes.flush) (record {
      legal = λ m c h. legal m c (live_of d f old m c goes.works h);
      flush = λ m c h. flush_after m number act reply plain ∙ (h.flush ∙ ap (option_map job_of) (sym goes.flush));
      holds = λ m c h. since_live d f new.halted (engine_of new) (now_of new) (after m number act reply) (course_after m number c act reply) goes.halted (holds m c (live_of d f old m c goes.works h));
      moments = λ m c h. moments m c (live_of d f old m c goes.works h);
      ready = goes_on_ready old new ready goes;
      names = goes.names;
      counted = quiets.counts (store_faults d f old) (store_faults d f new) faults;
      given = quiets.given;
      halted = goes.halted ∙ (sym goes.works ∙ quiets.halts old.halted number);
      since = quiets.since;
      files = quiets.files;
      draws = same_draws d f goes.next;
      same = goes.same;
    })

  -- ---- writes

  -- the last sequence behind a write
  pub last_written : (engine : Engine D F f) (next : SuperVersion) (m : State) (c : Course) (number : ℕ) (ops : List WriteOp) (sync : Bool)
      → HoldsNow d f engine next (after_write m number ops sync) (course_after_write m number c ops sync) → m.last.0 + length ops ≡ next.last.0
  last_written engine next m c number ops sync h = sym (ap (λ (s : Seq). s.0) h.shows.last)

  pub holds_written : (engine : Engine D F f) (next : SuperVersion) (m : State) (c : Course) (number : ℕ) (ops : List WriteOp) (sync : Bool)
      → HoldsNow d f engine next (after_write m number ops sync) (course_after_write m number c ops sync)
      → HoldsNow d f engine next (after m number (write ops sync) (OkAt next.last.0)) (course_after m number c (write ops sync) (OkAt next.last.0))
  holds_written engine next m c number ops sync h =
      subst (λ (n : ℕ). HoldsNow d f engine next (after m number (write ops sync) (OkAt n)) (course_after m number c (write ops sync) (OkAt n))) (last_written engine next m c number ops sync h) h

  pub told_written : (engine : Engine D F f) (next : SuperVersion) (m : State) (c : Course) (number : ℕ) (ops : List WriteOp) (sync : Bool)
      → HoldsNow d f engine next (after_write m number ops sync) (course_after_write m number c ops sync)
      → IsReplyTo m (write ops sync) (OkAt (m.last.0 + length ops)) → IsReplyTo m (write ops sync) (OkAt next.last.0)
  told_written engine next m c number ops sync h told = subst (λ (n : ℕ). IsReplyTo m (write ops sync) (OkAt n)) (last_written engine next m c number ops sync h) told
