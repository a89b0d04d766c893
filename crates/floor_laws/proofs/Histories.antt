-- Along a legal history each state is sound.
use Rattle.std.proofs.Common.{◌≡◌, ◌⊎◌, ℕ, ◌+◌, ◌&&◌, Bool, true, false, List, [], ◌∷◌, Option, Some, None, refl, sym, ap, ◌∙◌, subst, inl, inr}
use Rattle.std.specs.Prelude.{IsTrue, if◌then◌else◌}
use Rattle.std.proofs.lemmas.Bool.{cases_Bool, and_parts, false≢true}
use Rattle.udt_model.specs.declared.event.Event.{Event}
use Rattle.udt_model.specs.declared.event.Event.TheVariants.{ViewGet, ViewScan, ViewFloor}
use Rattle.udt_model.specs.declared.line.Line.{Line}
use Rattle.udt_model.specs.declared.reply.Reply.{Reply}
use Rattle.udt_model.specs.declared.reply.Reply.TheVariants.{NoMemory, History}
use Rattle.udt_model.specs.State.{State, heads_of}
use Rattle.udt_model.specs.Acts.{Act}
use Rattle.udt_model.specs.Steps.{after as after_act}
use Rattle.udt_model.specs.Names.{Names, act_of, seen_by}
use Rattle.udt_model.specs.Lines.{IsReply, IsReplyOr, after_event, after_or, is_numbered, is_read, is_step, steps_with}
use Rattle.udt_model.specs.Histories.{Leads, Point, behind}
use Rattle.udt_model.specs.Entries.{AreEntries, Counts, Entry, IsEntry, after_entry, counts_after}
use Rattle.udt_model.specs.Entries.Entry.{reads, says, works}
use Rattle.floor_laws.specs.Sound.{IsSoundState}
use Rattle.floor_laws.specs.Laws.{state_behind}
use Rattle.floor_laws.proofs.Told.{sound_after}

-- ---- lines

pub seen_same : (m : State) (names : Names) (event : Event) → is_numbered event ≡ true → seen_by m names event ≡ m
seen_same m names (ViewGet view family key t snap) h = absurd (false≢true h)
seen_same m names (ViewScan view family low high t limit forward snap) h = absurd (false≢true h)
seen_same m names (ViewFloor view family) h = absurd (false≢true h)
seen_same m names event h = refl

sound_or : (m : State) (height number : ℕ) (event : Event) (o : Option Act) (reply : Reply) → IsSoundState m → IsReplyOr height m event o reply → IsSoundState (after_or m number o reply)
sound_or m height number event None reply h r = h
sound_or m height number event (Some act) reply h (inl r) = sound_after m number act reply h r
sound_or m height number event (Some act) reply h (inr r) = elim r.1 [
  | inl want ↦ subst (λ z. IsSoundState (after_act m number act z)) (sym want.0) h
  | inr long ↦ subst (λ z. IsSoundState (after_act m number act z)) (sym long.0) h
]

sound_line : (m : State) (height number : ℕ) (names : Names) (event : Event) (reply : Reply) → IsSoundState m → IsReply height m names event reply → IsSoundState (after_event m number names event reply)
sound_line m height number names event reply h r =
    elim (cases_Bool (is_step event reply)) [
      | inl y ↦
          let e = seen_same m names event (and_parts (is_numbered event) (steps_with (is_read event) reply) y).0 in
          let k : IsReplyOr height m event (act_of (heads_of m) names event) reply = subst (λ z. IsReplyOr height z event (act_of (heads_of m) names event) reply) e r in
          rw y (sound_or m height number event (act_of (heads_of m) names event) reply h k)
      | inr y ↦ rw y h
    ]

pub sound_lines : (old : Point) (lines : List Line) (new : Point) → IsSoundState old.state → Leads old lines new → IsSoundState new.state
sound_lines old [] new h l = subst (λ (p : Point). IsSoundState p.state) (sym l) h
sound_lines old (line ∷ lines) new h l =
    sound_lines (behind old line) lines new (sound_line old.state old.height (old.number + 1) (old.names line.who) line.event line.reply h l.0.reply) l.1

-- ---- entries

sound_entry : (m : State) (counts : Counts) (number : ℕ) (entry : Entry) → IsSoundState m → IsEntry m counts entry → IsSoundState (after_entry m number entry)
sound_entry m counts number (reads act) h r = h
sound_entry m counts number (says act reply) h r = sound_after m number act reply h r.1
sound_entry m counts number (works act reply new) h r = sound_after m number act reply h r.legal

pub sound_entries : (m : State) (counts : Counts) (number : ℕ) (entries : List Entry) → IsSoundState m → AreEntries m counts number entries → IsSoundState (state_behind m number entries)
sound_entries m counts number [] h r = h
sound_entries m counts number (e ∷ es) h r = sound_entries (after_entry m (number + 1) e) (counts_after counts e) (number + 1) es (sound_entry m counts (number + 1) e h r.0) r.1
