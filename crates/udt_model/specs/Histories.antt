-- Legal histories.
use Rattle.std.specs.Prelude.{◌≡◌, ℕ, ◌+◌, ◌==◌, nat_lt, ◌&&◌, ◌||◌, Bool, true, false, if◌then◌else◌, IsTrue, List, [], ◌∷◌, filter}
use Rattle.udt_model.specs.declared.event.Event.{Event}
use Rattle.udt_model.specs.declared.event.Event.TheVariants.{Pin}
use Rattle.udt_model.specs.declared.line.Line.{Line}
use Rattle.udt_model.specs.declared.line.Mark.{Mark}
use Rattle.udt_model.specs.declared.line.Who.{Who}
use Rattle.udt_model.specs.declared.line.Who.TheVariants.{Client, Flusher, Compactor, Runner}
use Rattle.udt_model.specs.State.{State}
use Rattle.udt_model.specs.Names.{Names, fits, names_after, no_names, snap_names, view_names}
use Rattle.udt_model.specs.Lines.{IsReply, after_event, is_step, says_fault, says_files}

abbrev pub is_same : Who → Who → Bool
is_same (Client m) (Client n) = m == n
is_same Flusher Flusher = true
is_same Compactor Compactor = true
is_same Runner Runner = true
is_same a b = false

-- the flusher and the compactor pin views without names
abbrev pub keeps_names : Who → Bool
keeps_names (Client n) = true
keeps_names Runner = true
keeps_names who = false

-- A point of a history: the state, the number of the last step, the mark of each actor's last line, and the names of each; and the
-- height of the whole history, which is the number of its last step.
pub record Point : Type 0 where
  pub state : State
  pub number : ℕ
  pub last : Who → Mark
  pub names : Who → Names
  pub height : ℕ

-- before every event, in a history of this height
abbrev pub start_of : ℕ → State → Point
start_of height m = record { state = m; number = 0; last = λ who. record { number = 0; sub = 0 }; names = λ who. no_names; height = height }

-- in one that isn't so long that an event may be refused for that
abbrev pub start : State → Point
start m = start_of 0 m

-- the same point of a history that ends there
abbrev pub ends_here : Point → Point
ends_here p = record p { height = p.number }

-- a step has the next number; a line without one stands behind its actor's last line
abbrev pub next_mark : Point → Line → Mark
next_mark p l = if is_step l.event l.reply then record { number = p.number + 1; sub = 0 } else record { number = (p.last l.who).number; sub = (p.last l.who).sub + 1 }

-- a pin may have any name where names aren't kept
abbrev pub fits_none : Event → Bool
fits_none (Pin name) = true
fits_none event = fits [] [] event

-- the names that the event uses and binds may be used and bound
abbrev pub is_named : Who → Names → Event → Bool
is_named who names event = if keeps_names who then fits (snap_names names) (view_names names) event else fits_none event

-- the line is legal at this point
pub record IsLegal (p : Point) (l : Line) : Type 0 where
  pub mark : l.mark ≡ next_mark p l
  pub named : IsTrue (is_named l.who (p.names l.who) l.event)
  pub reply : IsReply p.height p.state (p.names l.who) l.event l.reply

-- the names of somebody behind a line
abbrev pub names_behind : Point → Line → Who → Names
names_behind p l who = if is_same who l.who && keeps_names who then names_after p.state (p.number + 1) (p.names who) l.event l.reply else p.names who

-- the point behind a line
abbrev pub behind : Point → Line → Point
behind p l = record p {
  state = after_event p.state (p.number + 1) (p.names l.who) l.event l.reply;
  number = if is_step l.event l.reply then p.number + 1 else p.number;
  last = λ who. if is_same who l.who then l.mark else p.last who;
  names = names_behind p l;
}

-- these lines, each legal at the point that the ones before it give, lead from old to new
abbrev pub Leads : Point → List Line → Point → Type 0
Leads old [] new = new ≡ old
Leads old (l ∷ ls) new = IsLegal old l × Leads (behind old l) ls new

-- the disk didn't fail under this line
abbrev pub IsSound : Line → Type 0
IsSound l = says_fault l.reply ≡ false

-- and there were files for it
abbrev pub HasFiles : Line → Type 0
HasFiles l = says_files l.reply ≡ false

-- ---- actors

-- the lines that somebody made
abbrev pub own_lines : Who → List Line → List Line
own_lines who ls = filter (λ l. is_same l.who who) ls

-- ---- the order in which lines are printed

-- the clients by number, and behind them the flusher, the compactor and the runner
abbrev pub rank : Who → ℕ
rank (Client n) = n
rank Flusher = 17
rank Compactor = 18
rank Runner = 19

-- by number, then by actor, then by the place behind the actor's step
abbrev pub is_ahead : Line → Line → Bool
is_ahead a b = nat_lt a.mark.number b.mark.number || (a.mark.number == b.mark.number && (nat_lt (rank a.who) (rank b.who) || (rank a.who == rank b.who && nat_lt a.mark.sub b.mark.sub)))

abbrev pub are_in_order : List Line → Bool
are_in_order [] = true
are_in_order (a ∷ []) = true
are_in_order (a ∷ b ∷ ls) = is_ahead a b && are_in_order (b ∷ ls)
