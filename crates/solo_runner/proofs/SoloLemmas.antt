-- The history of one client, one command after another, and of the runner behind it.
use Rattle.std.proofs.Common.{◌≡◌, ℕ, ◌+◌, ◌≤◌, Bool, true, false, List, [], ◌∷◌, ◌++◌, length, append-nil, refl, sym, ap, subst, ◌∙◌, append_assoc, inl, inr, arith}
use Rattle.std.specs.Prelude.{All}
use Rattle.std.proofs.lemmas.Bool.{cases_Bool}
use Rattle.std.proofs.lemmas.List.{length_push}
use Rattle.std.proofs.lemmas.List.Elements.{All-cons, All-head, All-nil, All-push, All-tail}
use Rattle.udt_disk.specs.Causes.{Rose}
use Rattle.client_lang.specs.declared.command.Command.{Command}
use Rattle.udt_model.specs.declared.line.Line.{Line}
use Rattle.udt_model.specs.declared.line.Mark.{Mark}
use Rattle.udt_model.specs.declared.line.Who.{Who}
use Rattle.udt_model.specs.declared.line.Who.TheVariants.{Client, Runner}
use Rattle.udt_model.specs.State.{State, heads_of}
use Rattle.solo_runner.specs.Named.{IsReplyByName, after_by_name}
use Rattle.udt_model.specs.Lines.{is_step, says_fault}
use Rattle.udt_model.specs.Histories.{Point, start, IsLegal, IsSound, next_mark, behind, Leads, is_same, own_lines}
use Rattle.udt_model.specs.Crashes.{Course, course_behind}
use Rattle.client_lang.specs.declared.command.Command.TheVariants as kinds
use Rattle.udt_model.specs.declared.event.Event.{Event}
use Rattle.udt_model.specs.declared.event.Event.TheVariants.{Sync, Release}
use Rattle.solo_runner.specs.Expand.{Expand, IsClient, Task, IsSoloHistory, goes_on}
use Rattle.solo_runner.specs.Named.{course_after_event}
use Rattle.udt_model.specs.Names.{act_of}
use Rattle.udt_model.specs.Crashes.{course_after_or}
use Rattle.udt_model.specs.Acts.{Act}
use Rattle.udt_model.specs.Lines as lines
use Rattle.solo_runner.proofs.Naming.{act_agrees, after_agrees, is_named_built, none_held, reply_agrees}
use Rattle.std.specs.Prelude.{if◌then◌else◌, map, Option}
use Rattle.client_lang.specs.Print.{IsBuilt, IsBuiltLine}
use Rattle.solo_runner.specs.Solo.{mark_behind, no_mark, HasRun, HasSynced, AreSoundUnless}

pub Leads-append : (a b c : Point) (xs ys : List Line) → Leads a xs b → Leads b ys c → Leads a (xs ++ ys) c
Leads-append a b c [] ys p q = subst (λ (s : Point). Leads s ys c) p q
Leads-append a b c (x ∷ xs) ys p q = (p.0, Leads-append (behind a x) b c xs ys p.1 q)

Expand-append : (cs ds : List Command) (xs ys : List Line) → Expand cs xs → Expand ds ys → Expand (cs ++ ds) (xs ++ ys)
Expand-append [] ds xs ys p q = rw p q
Expand-append (c ∷ cs) ds xs ys p q = (p.0, p.1 ++ ys, p.2, Expand-append cs ds p.1 ys p.3 q, rw p.4 (append_assoc p.0 p.1 ys))

own-append : (who : Who) (xs ys : List Line) → own_lines who (xs ++ ys) ≡ own_lines who xs ++ own_lines who ys
own-append who [] ys = refl
own-append who (x ∷ xs) ys =
    elim (cases_Bool (is_same x.who who)) [
      | inl e ↦ rw (e, own-append who xs ys) refl
      | inr e ↦ rw (e, own-append who xs ys) refl
    ]

abbrev no_task : List Task
no_task = []

nothing_more : (b : Bool) → (if b then no_task else no_task) ≡ no_task
nothing_more true = refl
nothing_more false = refl

-- a client that makes no snapshot has the lines of its commands alone
pub lines_client : (cs : List Command) (ls : List Line) → All IsBuiltLine ls → Expand cs ls → IsClient cs ls
lines_client cs ls built e = (ls, [], e, ap (map Release) (sym (none_held ls built)), sym (append-nil ls))

lines_more : (cs : List Command) (event : Event) (ls : List Line) (line : Line) → line.event ≡ event → Expand cs ls → Expand (cs ++ kinds.Line event ∷ []) (ls ++ line ∷ [])
lines_more cs event ls line is e = Expand-append cs (kinds.Line event ∷ []) ls (line ∷ []) e (line ∷ [], [], (is, nothing_more (goes_on line.reply)), refl, refl)

pub none_yet : (m : State) (lines : List Line) → lines ≡ [] → HasRun m [] lines m no_mark
none_yet m lines e = subst (λ (ls : List Line). HasRun m [] ls m no_mark) (sym e)
    (record { end = start m; run = record { legal = refl; once = refl; alone = refl }; state_is = refl; number_is = refl; last_is = refl; runner_is = refl; count = omega arith; printed = All-nil IsBuiltLine })

-- what a line says that was made behind the step of this number
pub record IsNextLine (store : State) (who : Who) (number : ℕ) (last : Mark) (event : Event) (line : Line) (new : State) : Type 0 where
  pub event_is : line.event ≡ event
  pub who_is : line.who ≡ who
  pub mark : line.mark ≡ mark_behind number last line.event line.reply
  pub reply : IsReplyByName store line.event line.reply
  pub after_is : new ≡ after_by_name store (number + 1) line.event line.reply
  pub printed : IsBuiltLine line

own_line : (line : Line) → line.who ≡ Client 1 → own_lines (Client 1) (line ∷ []) ≡ line ∷ []
own_line line e = rw e refl

mark_is : (p : Point) (who : Who) (number : ℕ) (last : Mark) (line : Line) → p.number ≡ number → p.last who ≡ last → line.who ≡ who → mark_behind number last line.event line.reply ≡ next_mark p line
mark_is p who number last line n l w = rw (w, l, n) refl

number_behind : (p : Point) (last : Mark) (line : Line) → p.number ≡ last.number → (behind p line).number ≡ (mark_behind last.number last line.event line.reply).number
number_behind p last line n =
    elim (cases_Bool (is_step line.event line.reply)) [
      | inl e ↦ rw (e, n) refl
      | inr e ↦ rw (e, n) refl
    ]

last_mark_behind : (p : Point) (line : Line) → line.who ≡ Client 1 → (behind p line).last (Client 1) ≡ line.mark
last_mark_behind p line w = rw w refl

runner_behind : (p : Point) (line : Line) → line.who ≡ Client 1 → (behind p line).last Runner ≡ p.last Runner
runner_behind p line w = rw w refl

count_behind : (last : Mark) (line : Line) (n : ℕ) → last.number + last.sub ≤ n → (mark_behind last.number last line.event line.reply).number + (mark_behind last.number last line.event line.reply).sub ≤ n + 1
count_behind last line n le =
    elim (cases_Bool (is_step line.event line.reply)) [
      | inl e ↦ rw e (omega arith)
      | inr e ↦ rw e (omega arith)
    ]

pub height_kept : (p end : Point) (ls : List Line) → Leads p ls end → end.height ≡ p.height
height_kept p end [] h = ap (λ (q : Point). q.height) h
height_kept p end (l ∷ ls) h = height_kept (behind p l) end ls h.1

legal_next : (p : Point) (who : Who) (number : ℕ) (last : Mark) (store new : State) (event : Event) (line : Line) → p.height ≡ 0 → p.state ≡ store → p.number ≡ number → p.last who ≡ last → IsNextLine store who number last event line new → IsLegal p line
legal_next p who number last store new event line low s n l next = record {
  mark = next.mark ∙ mark_is p who number last line n l next.who_is;
  named = is_named_built line.who (p.names line.who) line.event next.printed.event;
  reply = subst (λ (h : ℕ). lines.IsReply h p.state (p.names line.who) line.event line.reply) (sym low)
      (reply_agrees p.state (p.names line.who) line.event line.reply next.printed.event (subst (λ (x : State). IsReplyByName x line.event line.reply) (sym s) next.reply));
}

state_next : (p : Point) (who : Who) (number : ℕ) (last : Mark) (store new : State) (event : Event) (line : Line) → p.state ≡ store → p.number ≡ number → IsNextLine store who number last event line new → (behind p line).state ≡ new
state_next p who number last store new event line s n next =
    after_agrees p.state (p.names line.who) (p.number + 1) line.event line.reply next.printed.event
    ∙ ap (λ (k : ℕ). after_by_name p.state (k + 1) line.event line.reply) n ∙ ap (λ (x : State). after_by_name x (number + 1) line.event line.reply) s ∙ sym next.after_is

pub ran_more : (m : State) (commands : List Command) (lines : List Line) (store new : State) (last : Mark) (event : Event) (line : Line)
    → HasRun m commands lines store last → IsNextLine store (Client 1) last.number last event line new → HasRun m (commands ++ kinds.Line event ∷ []) (lines ++ line ∷ []) new line.mark
ran_more m cs lines store new last event line r n =
    let legal_line = legal_next r.end (Client 1) last.number last store new event line (height_kept (start m) r.end lines r.run.legal) r.state_is r.number_is r.last_is n in
    let own_new : own_lines (Client 1) (line ∷ []) ≡ line ∷ [] = own_line line n.who_is in
    record {
      end = behind r.end line;
      run = record {
        legal = Leads-append (start m) r.end (behind r.end line) lines (line ∷ []) r.run.legal (legal_line, refl);
        once = rw (own-append (Client 1) lines (line ∷ []), own_new) (lines_more cs event (own_lines (Client 1) lines) line n.event_is r.run.once);
        alone = own-append (Client 1) lines (line ∷ []) ∙ ap (λ (ls : List Line). ls ++ own_lines (Client 1) (line ∷ [])) r.run.alone ∙ ap (λ (ls : List Line). lines ++ ls) own_new;
      };
      state_is = state_next r.end (Client 1) last.number last store new event line r.state_is r.number_is n;
      number_is = number_behind r.end last line r.number_is ∙ ap (λ (k : Mark). k.number) (sym n.mark);
      last_is = last_mark_behind r.end line n.who_is;
      runner_is = runner_behind r.end line n.who_is ∙ r.runner_is;
      count =
          let le = count_behind last line (length lines) r.count in
          let number : line.mark.number ≡ (mark_behind last.number last line.event line.reply).number = ap (λ (k : Mark). k.number) n.mark in
          let sub : line.mark.sub ≡ (mark_behind last.number last line.event line.reply).sub = ap (λ (k : Mark). k.sub) n.mark in
          let one = length_push lines line in
          omega arith;
      printed = All-push IsBuiltLine lines line r.printed n.printed;
    }

pub run_of : (m : State) (commands taken : List Command) (lines : List Line) (store : State) (last : Mark) → taken ≡ commands → HasRun m taken lines store last → HasRun m commands lines store last
run_of m commands taken lines store last e r = subst (λ (cs : List Command). HasRun m cs lines store last) e r

pub whole_history : (m : State) (commands : List Command) (lines : List Line) (store : State) (last : Mark) → HasRun m commands lines store last → IsSoloHistory m commands lines
whole_history m commands lines store last r = record {
  end = r.end;
  legal = r.run.legal;
  once = lines_client commands (own_lines (Client 1) lines) (subst (All IsBuiltLine) (sym r.run.alone) r.printed) r.run.once;
  alone = r.run.alone;
}

-- ---- the runner's sync

not_own : (line : Line) → line.who ≡ Runner → own_lines (Client 1) (line ∷ []) ≡ []
not_own line e = rw e refl

pub synced_last : (m : State) (commands : List Command) (lines : List Line) (store new : State) (last : Mark) (line : Line)
    → HasRun m commands lines store last → IsNextLine store Runner last.number no_mark Sync line new → HasSynced m commands (lines ++ line ∷ []) new
synced_last m cs lines store new last line r n =
    let legal_line = legal_next r.end Runner last.number no_mark store new Sync line (height_kept (start m) r.end lines r.run.legal) r.state_is r.number_is r.runner_is n in
    let mine : own_lines (Client 1) (lines ++ line ∷ []) ≡ lines =
    own-append (Client 1) lines (line ∷ []) ∙ ap (λ (ls : List Line). own_lines (Client 1) lines ++ ls) (not_own line n.who_is) ∙ append-nil (own_lines (Client 1) lines) ∙ r.run.alone in
    record {
      end = behind r.end line;
      history = record {
        legal = Leads-append (start m) r.end (behind r.end line) lines (line ∷ []) r.run.legal (legal_line, refl);
        once = subst (λ (ls : List Line). IsClient cs ls) (r.run.alone ∙ sym mine) (lines_client cs (own_lines (Client 1) lines) (subst (All IsBuiltLine) (sym r.run.alone) r.printed) r.run.once);
        sync = line;
        is_sync = n.event_is;
        is_runner = n.who_is;
        rest = ap (λ (ls : List Line). ls ++ line ∷ []) (sym mine);
      };
      state_is = state_next r.end Runner last.number no_mark store new Sync line r.state_is r.number_is n;
    }

-- ---- courses

pub course_push : (p end : Point) (c : Course) (lines : List Line) (line : Line) → IsBuilt line.event → Leads p lines end
    → course_behind p c (lines ++ line ∷ []) ≡ course_after_event end.state (end.number + 1) (course_behind p c lines) line.event line.reply
course_push p end c [] line built e =
    ap (λ (a : Option Act). course_after_or p.state (p.number + 1) c a line.reply) (act_agrees (heads_of p.state) (p.names line.who) line.event built)
    ∙ ap (λ (q : Point). course_after_event q.state (q.number + 1) c line.event line.reply) (sym e)
course_push p end c (l ∷ lines) line built h = course_push (behind p l) end (course_after_or p.state (p.number + 1) c (act_of (heads_of p.state) (p.names l.who) l.event) l.reply) lines line built h.1

-- what is kept before a line is kept behind it
pub keeps_more : (Keeps : Course → Type 0) (m store : State) (commands : List Command) (last : Mark) (c : Course) (lines : List Line) (line : Line) (number : ℕ) → IsBuilt line.event → number ≡ last.number + 1 → HasRun m commands lines store last
    → Keeps (course_after_event store number (course_behind (start m) c lines) line.event line.reply) → Keeps (course_behind (start m) c (lines ++ line ∷ []))
keeps_more Keeps m store commands last c lines line number built is r k =
    subst Keeps (sym (course_push (start m) r.end c lines line built r.run.legal
    ∙ ap (λ (s : State). course_after_event s (r.end.number + 1) (course_behind (start m) c lines) line.event line.reply) r.state_is
    ∙ ap (λ (j : ℕ). course_after_event store (j + 1) (course_behind (start m) c lines) line.event line.reply) r.number_is
    ∙ ap (λ (j : ℕ). course_after_event store j (course_behind (start m) c lines) line.event line.reply) (sym is))) k

-- ---- faults

pub rose_later : (a b c : ℕ) → Rose a b → b ≤ c → Rose a c
rose_later a b c rose le = omega (arith, rose, le)

pub rose_earlier : (a b c : ℕ) → a ≤ b → Rose b c → Rose a c
rose_earlier a b c le rose = grind arith

pub sound_none : (count : ℕ) (lines : List Line) → lines ≡ [] → AreSoundUnless count count lines
sound_none count lines e = inl (subst (All IsSound) (sym e) (All-nil IsSound))

pub sound_more : (a b c : ℕ) (lines : List Line) (line : Line) → a ≤ b → b ≤ c → AreSoundUnless a b lines → (says_fault line.reply ≡ true → Rose b c) → AreSoundUnless a c (lines ++ line ∷ [])
sound_more a b c lines line early late (inr rose) cause = inr (rose_later a b c rose late)
sound_more a b c lines line early late (inl sound) cause =
    elim (cases_Bool (says_fault line.reply)) [
      | inl e ↦ inr (rose_earlier a b c early (cause e))
      | inr e ↦ inl (All-push IsSound lines line sound e)
    ]

-- ---- the loop over a store in memory

-- client 1 has made these commands, and no disk failed
pub record RanSoFar (first store : State) (commands : List Command) (lines : List Line) (last : Mark) : Type 0 where
  pub run : HasRun first commands lines store last
  pub sound : All IsSound lines
  pub counted : length lines ≡ length commands

pub none_ran : (m : State) (lines : List Line) → lines ≡ [] → RanSoFar m m [] lines no_mark
none_ran m lines e = record { run = none_yet m lines e; sound = subst (All IsSound) (sym e) (All-nil IsSound); counted = ap length e }

pub counted_more : (commands : List Command) (lines : List Line) (event : Event) (line : Line) → length lines ≡ length commands → length (lines ++ line ∷ []) ≡ length (commands ++ kinds.Line event ∷ [])
counted_more commands lines event line e =
    let a = length_push lines line in
    let b = length_push commands (kinds.Line event) in
    omega (arith, e)

pub ran_one_more : (first store new : State) (commands : List Command) (lines : List Line) (last : Mark) (event : Event) (line : Line) → RanSoFar first store commands lines last
    → IsNextLine store (Client 1) last.number last event line new → IsSound line → RanSoFar first new (commands ++ kinds.Line event ∷ []) (lines ++ line ∷ []) line.mark
ran_one_more first store new commands lines last event line r n sound = record {
  run = ran_more first commands lines store new last event line r.run n;
  sound = All-push IsSound lines line r.sound sound;
  counted = counted_more commands lines event line r.counted;
}
