-- Acts that an engine doesn't take: what they leave of the state that it holds.
use Rattle.std.proofs.Common.{◌≡◌, ℕ, ◌<◌, ◌≤◌, Bool, false, List, length, Option, refl, sym, ap, ◌∙◌, subst, inl, inr}
use Rattle.std.specs.Prelude.{All, Contains, IsTrue, if◌then◌else◌, slice_get, Some}
use Rattle.std.proofs.lemmas.Bool.{false≢true}
use Rattle.ts_key.specs.declared.numbers.Seq.{Seq}
use Rattle.ts_key.specs.declared.version.Version.{Version}
use Rattle.udt_disk.specs.declared.file.DiskFile as file
use Rattle.udt_disk.specs.declared.disk.Disk as disk
use Rattle.udt_model.specs.declared.reply.Reply.{Reply}
use Rattle.udt_model.specs.declared.reply.Reply.TheVariants.{Done, DroppedFault, DroppedFiles, DroppedMemory, Fault, Halted, Inputs, Kept, OkAt, Table}
use Rattle.udt_model.specs.State.{FamilyState, Flush, State}
use Rattle.udt_model.specs.Versions.{between}
use Rattle.udt_model.specs.Acts.{Act}
use Rattle.udt_model.specs.Acts.Act.{compact_end, compact_start, flush_end, flush_start, make_snapshot, raise, release, sync_all, write}
use Rattle.udt_model.specs.Steps.{IsReplyTo, after, without_job}
use Rattle.udt_model.specs.Crashes.{Course, Failing, IsFailed, IsOutcome, course_after, ends_after, failing_after, syncs}
use Rattle.super_version.specs.declared.version.SuperVersion.{SuperVersion}
use Rattle.floor_laws.proofs.Courses.{course_sound}
use Rattle.floor_laws.proofs.Told.{sound_after}
use Rattle.engine_laws.specs.Engine.{AreSameKept}
use Rattle.engine_laws.proofs.Calls.{same_cut}
use Rattle.engine_laws.proofs.Keeping.{keeps_holds}
use Rattle.store_engine.specs.Engines.{HoldsNow}
use Rattle.store_engine.specs.Laws.{is_beside}
use Rattle.store_engine.specs.Now.{IsFamilyNow, IsNow}
use Rattle.store_engine.specs.declared.engine.Engine.{Engine}

-- the state says the same of what is kept, of the numbers of its tables, and of a halt
record StandsBeside (m next : State) : Type 0 where
  kept : AreSameKept m next
  used : next.used ≡ m.used
  flush : (job : Flush) → next.flush ≡ Some job → m.flush ≡ Some job
  halted : next.halted ≡ m.halted

beside_itself : (m : State) → StandsBeside m m
beside_itself m = record { kept = record { families = refl; versions = refl; last = refl }; used = refl; flush = λ job is. is; halted = refl }

beside_job : (m : State) (act : Act) → StandsBeside m (without_job m act)
beside_job m (flush_end i start) = record { kept = record { families = refl; versions = refl; last = refl }; used = refl; flush = λ job is. absurd (cc); halted = refl }
beside_job m (compact_end i start) = record { kept = record { families = refl; versions = refl; last = refl }; used = refl; flush = λ job is. is; halted = refl }
beside_job m act = beside_itself m

stands_beside : (m : State) (number : ℕ) (act : Act) (reply : Reply) → IsTrue (is_beside act reply) → StandsBeside m (after m number act reply)
stands_beside m number act Fault is = absurd (false≢true is)
stands_beside m number act (Halted since) is = beside_job m act
stands_beside m number act DroppedFault is = beside_job m act
stands_beside m number act DroppedMemory is = beside_job m act
stands_beside m number act (DroppedFiles next) is = beside_job m act
stands_beside m number (write ops sync) (OkAt last) is = absurd (false≢true is)
stands_beside m number (raise i floor) Done is = absurd (false≢true is)
stands_beside m number make_snapshot (OkAt seq) is = record { kept = record { families = refl; versions = refl; last = refl }; used = refl; flush = λ job is. is; halted = refl }
stands_beside m number (release event) Done is = record { kept = record { families = refl; versions = refl; last = refl }; used = refl; flush = λ job is. is; halted = refl }
stands_beside m number (flush_start i) (OkAt through) is = absurd (false≢true is)
stands_beside m number (flush_end i start) (Table table kept floor) is = absurd (false≢true is)
stands_beside m number (compact_start i pick) (Inputs inputs level) is = record { kept = record { families = refl; versions = refl; last = refl }; used = refl; flush = λ job is. is; halted = refl }
stands_beside m number (compact_end i start) (Kept kept pieces) is = absurd (false≢true is)
stands_beside m number act reply is = beside_itself m

ends_beside : (ends : List ℕ) (act : Act) (reply : Reply) → IsTrue (is_beside act reply) → ends_after ends act reply ≡ ends
ends_beside ends (write ops sync) (OkAt last) is = absurd (false≢true is)
ends_beside ends act reply is = refl

syncs_beside : (act : Act) (reply : Reply) → IsTrue (is_beside act reply) → syncs act reply ≡ false
syncs_beside (write ops sync) (OkAt last) is = absurd (false≢true is)
syncs_beside (raise i floor) Done is = absurd (false≢true is)
syncs_beside sync_all Done is = absurd (false≢true is)
syncs_beside (flush_end i start) (Table table kept floor) is = absurd (false≢true is)
syncs_beside (compact_end i start) (Kept kept pieces) is = absurd (false≢true is)
syncs_beside act reply is = refl

failing_beside : (m : State) (number : ℕ) (o : Option Failing) (act : Act) (reply : Reply) → IsTrue (is_beside act reply) → failing_after m number o act reply ≡ o
failing_beside m number o act Fault is = absurd (false≢true is)
failing_beside m number o (write ops sync) reply is = refl
failing_beside m number o (raise i floor) reply is = refl
failing_beside m number o (flush_end i start) reply is = refl
failing_beside m number o (compact_end i start) reply is = refl
failing_beside m number o act reply is = refl

now_beside : (now : SuperVersion) (m next : State) → AreSameKept m next → ((job : Flush) → next.flush ≡ Some job → m.flush ≡ Some job) → IsNow now m → IsNow now next
now_beside now m next k flush shows = record {
  last = shows.last ∙ sym k.last;
  count = shows.count ∙ ap length (sym k.families);
  families = λ family f g at there.
      subst (λ (vs : List Version). IsFamilyNow family (between family f.through.0 next.last.0 vs) f g) (sym k.versions)
      (subst (λ (q : Seq). IsFamilyNow family (between family f.through.0 q.0 m.versions) f g) (sym k.last)
      (shows.families family f g (ap (λ (fs : List FamilyState). slice_get fs family.0) (sym k.families) ∙ at) there));
  flush = λ job g is there. shows.flush job g (flush job is) there;
}

module _ (m : State) (c : Course) (number : ℕ) (act : Act) (reply : Reply) (is : IsTrue (is_beside act reply)) where
  abbrev next : State
  next = after m number act reply

  synced_beside : (course_after m number c act reply).synced ≡ c.synced
  synced_beside = ap (λ (b : Bool). if b then next.last.0 else c.synced) (syncs_beside act reply is)

  -- an outcome stays one
  pub outcome_beside : (left : State) → IsOutcome m c left → IsOutcome next (course_after m number c act reply) left
  outcome_beside left (inl cut) = inl (
    cut.0,
    subst (λ z. Contains z cut.0) (sym (ends_beside c.ends act reply is)) cut.1,
    subst (λ k. k ≤ cut.0) (sym synced_beside) cut.2,
    cut.3 ∙ sym (same_cut m next cut.0 (stands_beside m number act reply is).kept),
  )
  outcome_beside left (inr failed) = inr (subst (λ o. IsFailed o left) (sym (failing_beside m number c.failing act reply is)) failed)

  -- and an engine goes on with what it held
  pub holds_beside : {D F : Type 0} (d : disk.Ghosts D F) (f : file.Ghosts F) (engine : Engine D F f) (now : SuperVersion) → HoldsNow d f engine now m c → IsReplyTo m act reply → HoldsNow d f engine now next (course_after m number c act reply)
  holds_beside d f engine now h told =
      let b = stands_beside m number act reply is in
      record {
        says = h.says;
        waiting = h.waiting;
        engine_of = h.engine_of;
        holds = keeps_holds m next c (course_after m number c act reply) h.says h.waiting b.kept (sound_after m number act reply h.holds.sound told)
            (course_sound m c number act reply h.holds.sound h.holds.course.sound told) (ends_beside c.ends act reply is) synced_beside h.holds;
        shows = now_beside now m next b.kept b.flush h.shows;
        used = subst (λ ns. All (λ n. n < engine.next) ns) (sym b.used) h.used;
        covers = h.covers;
        runs = b.halted ∙ h.runs;
        unfailed = failing_beside m number c.failing act reply is ∙ h.unfailed;
      }
