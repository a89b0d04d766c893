-- From what a store did by numbers to the step of an event.
use Rattle.std.proofs.Common.{◌≡◌, ℕ, ◌+◌, ◌≤◌, Bool, false, Option, Some, refl, sym, ap, ◌∙◌, subst, arith}
use Rattle.std.specs.Prelude.{IsTrue, option_map}
use Rattle.std.proofs.lemmas.Bool.{false≢true}
use Rattle.udt_disk.specs.declared.file.DiskFile as file
use Rattle.udt_disk.specs.declared.disk.Disk as disk
use Rattle.udt_model.specs.declared.event.Event.{Event}
use Rattle.udt_model.specs.declared.reply.Reply.{Reply}
use Rattle.udt_model.specs.declared.reply.Reply.TheVariants as replies
use Rattle.udt_model.specs.declared.reply.Reply.TheVariants.{NoMemory}
use Rattle.udt_model.specs.Acts.{Act}
use Rattle.udt_model.specs.Crashes.{Course, course_after}
use Rattle.udt_model.specs.Lines.{is_read, says_files, steps_with, takes_memory}
use Rattle.udt_model.specs.State.{State}
use Rattle.udt_model.specs.Steps.{IsReplyTo, after, is_running}
use Rattle.engine_laws.specs.Joints.{IsNowLast}
use Rattle.manifest_fold.specs.declared.limits.TheConstants.{FILE_NUMBER_LIMIT}
use Rattle.store_engine.specs.Calls.{RanUnder}
use Rattle.solo_store.specs.Acting.{course_behind_event}
use Rattle.solo_store.specs.Replies.{is_given}
use Rattle.solo_store.specs.Steps.{IsHaltedSince, IsReplyCause, IsSameDisk, IsStep, RanUnderEvent, halted_by, keeps_flush}
use Rattle.solo_store.specs.Stores.{HoldsSince, HoldsStore, IsStoreReady, engine_of, job_of, now_of, store_faults, store_next}
use Rattle.solo_store.specs.declared.store.Store.{Store}
use Rattle.solo_store.proofs.Asking.{Asks, course_told, course_wanted, legal_told, legal_want, state_told, state_want}
use Rattle.solo_store.proofs.Behind.{after_still, course_still, is_own, is_still, names_after, snaps_after}
use Rattle.solo_store.proofs.Holding.{rests_under}

-- ---- replies that tell of no fault

-- The reply leaves the faults as they are and halts nothing; that the store is halted, and that no file is left, it tells where it is so.
pub record IsQuiet (halted : Option ℕ) (next : ℕ) (reply : Reply) : Type 0 where
  pub counts : (before now : ℕ) → now ≡ before → IsReplyCause reply before now
  pub given : IsTrue (is_given reply)
  pub halts : (before : Option ℕ) (number : ℕ) → before ≡ halted_by before number reply
  pub since : IsHaltedSince halted reply
  pub files : IsTrue (says_files reply) → FILE_NUMBER_LIMIT ≤ next

abbrev pub is_plain_reply : Reply → Bool
is_plain_reply (replies.Files next) = false
is_plain_reply (replies.DroppedFiles next) = false
is_plain_reply replies.Fault = false
is_plain_reply replies.DroppedFault = false
is_plain_reply (replies.Table table kept floor) = false
is_plain_reply (replies.Halted since) = false
is_plain_reply reply = is_given reply

pub quiet : (halted : Option ℕ) (next : ℕ) (reply : Reply) → IsTrue (is_plain_reply reply) → IsQuiet halted next reply
quiet halted next (replies.Files n) plain = absurd (false≢true plain)
quiet halted next (replies.DroppedFiles n) plain = absurd (false≢true plain)
quiet halted next replies.Fault plain = absurd (false≢true plain)
quiet halted next replies.DroppedFault plain = absurd (false≢true plain)
quiet halted next (replies.Table table kept floor) plain = absurd (false≢true plain)
quiet halted next (replies.Halted since) plain = absurd (false≢true plain)
quiet halted next reply plain = record { counts = λ before now e. e; given = plain; halts = λ before number. refl; since = tt; files = λ is. absurd (false≢true is) }

pub quiet_halted : (halted : Option ℕ) (next since : ℕ) → halted ≡ Some since → IsQuiet halted next (replies.Halted since)
quiet_halted halted next since is = record { counts = λ before now e. e; given = refl; halts = λ before number. refl; since = is; files = λ is. absurd (false≢true is) }

pub quiet_files : (halted : Option ℕ) (next number : ℕ) → FILE_NUMBER_LIMIT ≤ next → IsQuiet halted next (replies.Files number)
quiet_files halted next number full = record { counts = λ before now e. e; given = refl; halts = λ before n. refl; since = tt; files = λ is. full }

module _ {D F : Type 0} (d : disk.Ghosts D F) (f : file.Ghosts F) where
  -- The act of this number was made, with a reply of the model's.
  pub record IsActed (old new : Store D F f) (number : ℕ) (act : Act) (reply : Reply) : Type 0 where
    pub legal : (m : State) (c : Course) → HoldsStore d f old m c → IsReplyTo m act reply
    pub flush : (m : State) (c : Course) → HoldsStore d f old m c → (after m number act reply).flush ≡ option_map job_of new.flush
    pub holds : (m : State) (c : Course) → HoldsStore d f old m c → HoldsSince d f new.halted (engine_of new) (now_of new) (after m number act reply) (course_after m number c act reply)
    pub moments : (m : State) (c : Course) → HoldsStore d f old m c → RanUnder d f m c number act (engine_of old) (engine_of new)
    pub ready : IsStoreReady d f new
    pub names : new.names.items ≡ old.names.items
    pub counted : IsReplyCause reply (store_faults d f old) (store_faults d f new)
    pub given : IsTrue (is_given reply)
    pub halted : new.halted ≡ halted_by old.halted number reply
    pub since : IsHaltedSince old.halted reply
    pub files : IsTrue (says_files reply) → FILE_NUMBER_LIMIT ≤ store_next old
    pub draws : (store_next old ≤ store_next new) × (store_next new ≤ store_next old + 1)
    pub same : IsSameDisk d (engine_of old).disk (engine_of new).disk

  pub acted_step : (old new : Store D F f) (number : ℕ) (event : Event) (act : Act) (reply : Reply) → Asks old.names.items event act → IsTrue (is_own act) → IsTrue (steps_with (is_read event) reply)
      → (IsTrue (keeps_flush event) → new.flush ≡ old.flush) → IsActed old new number act reply → IsStep d f old new number event reply
  acted_step old new number event act reply asks own steps flush acted = record {
    legal = λ m c h. legal_told old.names.items event act asks m h.names reply (acted.legal m c h);
    holds = λ m c h.
        let store : HoldsStore d f new (after m number act reply) (course_after m number c act reply) = record {
          names = acted.names ∙ (h.names ∙ sym (names_after m number act reply));
          flush = acted.flush m c h;
          snaps = snaps_after m number act reply own ∙ h.snaps;
          holds = acted.holds m c h;
        } in
        subst (λ (n : State). HoldsStore d f new n (course_behind_event m number c event reply)) (sym (state_told old.names.items event act asks m h.names number reply steps))
        (subst (λ (k : Course). HoldsStore d f new (after m number act reply) k) (sym (course_told old.names.items event act asks m h.names number c reply)) store);
    moments = λ m c h. subst (λ (o : Option Act). RanUnderEvent d f m c number o (engine_of old) (engine_of new)) (sym (asks.bound m h.names)) (acted.moments m c h);
    ready = acted.ready;
    names = acted.names;
    flush = flush;
    counted = acted.counted;
    given = acted.given;
    halted = acted.halted;
    since = acted.since;
    files = acted.files;
    draws = acted.draws;
    same = acted.same;
  }

  -- The store holds what it held, and nothing was changed on the disk.
  pub record Keeps (old new : Store D F f) : Type 0 where
    pub flush : new.flush ≡ old.flush
    pub holds : (m : State) (c : Course) → HoldsStore d f old m c → HoldsSince d f new.halted (engine_of new) (now_of new) m c
    pub moments : (m : State) (c : Course) (number : ℕ) (act : Act) → HoldsStore d f old m c → RanUnder d f m c number act (engine_of old) (engine_of new)
    pub ready : IsStoreReady d f new
    pub names : new.names.items ≡ old.names.items
    pub faults : store_faults d f new ≡ store_faults d f old
    pub halted : new.halted ≡ old.halted
    pub next : store_next new ≡ store_next old
    pub same : IsSameDisk d (engine_of old).disk (engine_of new).disk

  pub keeps_itself : IsNowLast d f → (store : Store D F f) → IsStoreReady d f store → Keeps store store
  keeps_itself last store ready = record {
    flush = refl;
    holds = λ m c h. h.holds;
    moments = λ m c number act h. rests_under d f last store (engine_of store) m c number act h refl;
    ready = ready;
    names = refl;
    faults = refl;
    halted = refl;
    next = refl;
    same = record { told = refl; model = refl };
  }

  pub same_draws : {old new : ℕ} → new ≡ old → (old ≤ new) × (new ≤ old + 1)
  same_draws is = (omega (arith, is), omega (arith, is))

  module _ (old new : Store D F f) (number : ℕ) (event : Event) (act : Act) (asks : Asks old.names.items event act) (own : IsTrue (is_own act)) (keeps : Keeps old new) where
    -- a reply that changes nothing
    pub still_step : (reply : Reply) → IsTrue (is_still act reply) → IsQuiet old.halted (store_next old) reply → IsTrue (steps_with (is_read event) reply)
        → ((m : State) (c : Course) → HoldsStore d f old m c → IsReplyTo m act reply) → IsStep d f old new number event reply
    still_step reply still quiets steps legal = acted_step old new number event act reply asks own steps (λ is. keeps.flush) (record {
      legal = legal;
      flush = λ m c h. ap (λ (n : State). n.flush) (after_still m number act reply still) ∙ (h.flush ∙ ap (option_map job_of) (sym keeps.flush));
      holds = λ m c h.
          subst (λ (n : State). HoldsSince d f new.halted (engine_of new) (now_of new) n (course_after m number c act reply)) (sym (after_still m number act reply still))
          (subst (λ (k : Course). HoldsSince d f new.halted (engine_of new) (now_of new) m k) (sym (course_still m number c act reply still)) (keeps.holds m c h));
      moments = λ m c h. keeps.moments m c number act h;
      ready = keeps.ready;
      names = keeps.names;
      counted = quiets.counts (store_faults d f old) (store_faults d f new) keeps.faults;
      given = quiets.given;
      halted = keeps.halted ∙ quiets.halts old.halted number;
      since = quiets.since;
      files = quiets.files;
      draws = same_draws keeps.next;
      same = keeps.same;
    })

    -- want of memory
    pub want_step : IsTrue (is_still act NoMemory) → IsTrue (takes_memory event) → ((m : State) → IsTrue (is_running m act)) → IsStep d f old new number event NoMemory
    want_step still takes runs = record {
      legal = λ m c h. legal_want old.names.items event act asks m h.names (runs m) takes;
      holds = λ m c h.
          let store : HoldsStore d f new m c = record {
            names = keeps.names ∙ h.names;
            flush = h.flush ∙ ap (option_map job_of) (sym keeps.flush);
            snaps = h.snaps;
            holds = keeps.holds m c h;
          } in
          subst (λ (n : State). HoldsStore d f new n (course_behind_event m number c event NoMemory)) (sym (state_want old.names.items event act asks m h.names number still))
          (subst (λ (k : Course). HoldsStore d f new m k) (sym (course_wanted old.names.items event act asks m h.names number c still)) store);
      moments = λ m c h. subst (λ (o : Option Act). RanUnderEvent d f m c number o (engine_of old) (engine_of new)) (sym (asks.bound m h.names)) (keeps.moments m c number act h);
      ready = keeps.ready;
      names = keeps.names;
      flush = λ is. keeps.flush;
      counted = keeps.faults;
      given = refl;
      halted = keeps.halted;
      since = tt;
      files = λ is. absurd (false≢true is);
      draws = same_draws keeps.next;
      same = keeps.same;
    }
