-- Where no line of a run tells a fault, all is synced at its end.
use Rattle.std.proofs.Common.{◌≡◌, inl, inr, ℕ, ◌+◌, Bool, true, false, if◌then◌else◌, ◌||◌, List, [], ◌∷◌, ◌++◌, refl, sym, ap, ◌∙◌, subst}
use Rattle.std.specs.Prelude.{Some, None, Option}
use Rattle.std.specs.List.{list_any}
use Rattle.std.proofs.lemmas.List.Folds.{list_any-append}
use Rattle.udt_model.specs.declared.event.Event.{Event}
use Rattle.udt_model.specs.declared.event.Event.TheVariants.{Sync}
use Rattle.udt_model.specs.declared.reply.Reply.{Reply}
use Rattle.udt_model.specs.declared.reply.Reply.TheVariants.{Done, Halted}
use Rattle.udt_model.specs.declared.line.Line.{Line}
use Rattle.udt_model.specs.declared.line.Who.TheVariants.{Client}
use Rattle.udt_model.specs.State.{State}
use Rattle.solo_runner.specs.Named.{IsReplyByName, after_by_name}
use Rattle.udt_model.specs.Histories.{Point, start, IsLegal, behind, Leads, own_lines}
use Rattle.udt_model.specs.Crashes.{Course, course_start, course_behind}
use Rattle.solo_runner.specs.Named.{course_after_event}
use Rattle.solo_runner.proofs.Naming.{after_agrees, reply_agrees_back}
use Rattle.client_lang.specs.declared.command.Command.{Command}
use Rattle.client_lang.specs.Print.{IsBuilt}
use Rattle.solo_runner.specs.Expand.{IsRunHistory}
use Rattle.client_runner.specs.Left.{status_of_lines, tells_fault}
use Rattle.client_runner.specs.declared.status.Status.TheVariants as statuses
use Rattle.solo_runner.proofs.SoloLemmas.{course_push, height_kept}

-- where the lines tell no fault, the state works at their end and all of it is synced
abbrev pub Settles : State → List Line → Point → Type 0
Settles m lines end = status_of_lines lines ≡ statuses.Done → (end.state.halted ≡ None) × ((course_behind (start m) (course_start m) lines).synced ≡ end.state.last.0)

none_tells : (told : Bool) → (if told then statuses.DiskFault else statuses.Done) ≡ statuses.Done → told ≡ false
none_tells true e = cc e
none_tells false e = refl

no_line_tells : (lines : List Line) → status_of_lines lines ≡ statuses.Done → list_any (λ (l : Line). tells_fault l.reply) lines ≡ false
no_line_tells lines e = none_tells (list_any (λ (l : Line). tells_fault l.reply) lines) e

second_none : (a b : Bool) → (a || (b || false)) ≡ false → b ≡ false
second_none true b e = cc e
second_none false true e = cc e
second_none false false e = refl

last_none : (lines : List Line) (line : Line) → list_any (λ (l : Line). tells_fault l.reply) (lines ++ line ∷ []) ≡ false → tells_fault line.reply ≡ false
last_none lines line e =
    second_none (list_any (λ (l : Line). tells_fault l.reply) lines) (tells_fault line.reply) (sym (list_any-append (λ (l : Line). tells_fault l.reply) lines (line ∷ [])) ∙ e)

-- lines and one more lead over the point between them
record Splits (p : Point) (lines : List Line) (line : Line) (end : Point) : Type 0 where
  pub mid : Point
  pub before : Leads p lines mid
  pub legal : IsLegal mid line
  pub end_is : end ≡ behind mid line

splits_more : (p : Point) (l : Line) (lines : List Line) (line : Line) (end : Point) → IsLegal p l → Splits (behind p l) lines line end → Splits p (l ∷ lines) line end
splits_more p l lines line end legal s = record { mid = s.mid; before = (legal, s.before); legal = s.legal; end_is = s.end_is }

splits : (p : Point) (lines : List Line) (line : Line) (end : Point) → Leads p (lines ++ line ∷ []) end → Splits p lines line end
splits p [] line end h = record { mid = p; before = refl; legal = h.0; end_is = h.1 }
splits p (l ∷ lines) line end h = splits_more p l lines line end h.0 (splits (behind p l) lines line end h.1)

-- a sync of a store that works, which tells no fault, is done
sync_done : (halted : Option ℕ) (m : State) (reply : Reply) → m.halted ≡ halted → IsReplyByName m Sync reply → tells_fault reply ≡ false → (halted ≡ None) × (reply ≡ Done)
sync_done halted m reply is (inr (inl want)) none = absurd (cc want.1)
sync_done halted m reply is (inr (inr fault)) none = absurd (cc (ap tells_fault fault.0, none))
sync_done None m reply is (inl told) none = (refl, rw is at told)
sync_done (Some n) m reply is (inl told) none = absurd (let e : reply ≡ Halted n = rw is at told in cc (ap tells_fault e, none))

-- the runner's sync settles the lines before it
settled_by : (m : State) (lines : List Line) (line : Line) (end : Point) → Leads (start m) (lines ++ line ∷ []) end → line.event ≡ Sync → tells_fault line.reply ≡ false
    → (end.state.halted ≡ None) × ((course_behind (start m) (course_start m) (lines ++ line ∷ [])).synced ≡ end.state.last.0)
settled_by m lines line end leads event none =
    let s = splits (start m) lines line end leads in
    let built : IsBuilt line.event = subst IsBuilt (sym event) tt in
    let low : s.mid.height ≡ 0 = height_kept (start m) s.mid lines s.before in
    let reply : IsReplyByName s.mid.state Sync line.reply =
    subst (λ (e : Event). IsReplyByName s.mid.state e line.reply) event (reply_agrees_back s.mid.height s.mid.state (s.mid.names line.who) line.event line.reply low built s.legal.reply) in
    let done = sync_done s.mid.state.halted s.mid.state line.reply refl reply none in
    let state : end.state ≡ s.mid.state =
    ap (λ (p : Point). p.state) s.end_is ∙ after_agrees s.mid.state (s.mid.names line.who) (s.mid.number + 1) line.event line.reply built ∙ ap (λ (e : Event). after_by_name s.mid.state (s.mid.number + 1) e line.reply) event ∙ ap (λ (r : Reply). after_by_name s.mid.state (s.mid.number + 1) Sync r) done.1 in
    let c : Course = course_behind (start m) (course_start m) lines in
    let course : course_behind (start m) (course_start m) (lines ++ line ∷ []) ≡ record c { synced = s.mid.state.last.0 } =
    course_push (start m) s.mid (course_start m) lines line built s.before
    ∙ ap (λ (e : Event). course_after_event s.mid.state (s.mid.number + 1) c e line.reply) event ∙ ap (λ (r : Reply). course_after_event s.mid.state (s.mid.number + 1) c Sync r) done.1 in
    (ap (λ (x : State). x.halted) state ∙ done.0, ap (λ (x : Course). x.synced) course ∙ ap (λ (x : State). x.last.0) (sym state))

pub session_settles : (m : State) (commands : List Command) (lines : List Line) (end : Point) → IsRunHistory m commands lines end → Settles m lines end
session_settles m commands lines end h done =
    let before : List Line = own_lines (Client 1) lines in
    let leads : Leads (start m) (before ++ h.sync ∷ []) end = subst (λ (ls : List Line). Leads (start m) ls end) h.rest h.legal in
    let none : list_any (λ (l : Line). tells_fault l.reply) (before ++ h.sync ∷ []) ≡ false = ap (list_any (λ (l : Line). tells_fault l.reply)) (sym h.rest) ∙ no_line_tells lines done in
    let both = settled_by m before h.sync end leads h.is_sync (last_none before h.sync none) in
    (both.0, ap (λ (ls : List Line). (course_behind (start m) (course_start m) ls).synced) h.rest ∙ both.1)
