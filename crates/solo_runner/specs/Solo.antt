-- One client's run over a store, line by line.
use Rattle.std.specs.Prelude.{◌≡◌, ◌⊎◌, ℕ, ◌+◌, ◌≤◌, if◌then◌else◌, List, All, length}
use Rattle.udt_disk.specs.Causes.{Rose}
use Rattle.udt_model.specs.declared.event.Event.{Event}
use Rattle.udt_model.specs.declared.reply.Reply.{Reply}
use Rattle.udt_model.specs.declared.line.Line.{Line}
use Rattle.udt_model.specs.declared.line.Mark.{Mark}
use Rattle.udt_model.specs.declared.line.Who.TheVariants.{Client, Runner}
use Rattle.udt_model.specs.State.{State}
use Rattle.udt_model.specs.Lines.{is_step}
use Rattle.udt_model.specs.Histories.{Point, IsSound}
use Rattle.client_lang.specs.declared.command.Command.{Command}
use Rattle.client_lang.specs.Print.{IsBuiltLine}
use Rattle.solo_runner.specs.Expand.{IsSoloRun, IsRunHistory}

-- the mark of a line behind the step of this number, whose actor's last line has the mark last
abbrev pub mark_behind : ℕ → Mark → Event → Reply → Mark
mark_behind number last event reply = if is_step event reply then record { number = number + 1; sub = 0 } else record { number = last.number; sub = last.sub + 1 }

-- an actor that has made no line
abbrev pub no_mark : Mark
no_mark = record { number = 0; sub = 0 }

-- Client 1 has made these commands over a store of this state, and its last line has this mark. The store has the state in
-- which the lines end.
pub record HasRun (m : State) (commands : List Command) (lines : List Line) (store : State) (last : Mark) : Type 0 where
  pub end : Point
  pub run : IsSoloRun m commands lines end
  pub state_is : end.state ≡ store
  pub number_is : end.number ≡ last.number
  pub last_is : end.last (Client 1) ≡ last
  pub runner_is : end.last Runner ≡ no_mark
  pub count : last.number + last.sub ≤ length lines
  pub printed : All IsBuiltLine lines

-- so it has, and the runner has made its sync
pub record HasSynced (m : State) (commands : List Command) (lines : List Line) (store : State) : Type 0 where
  pub end : Point
  pub history : IsRunHistory m commands lines end
  pub state_is : end.state ≡ store

-- no line says that the disk failed, unless its count rose
abbrev pub AreSoundUnless : ℕ → ℕ → List Line → Type 0
AreSoundUnless before now lines = All IsSound lines ⊎ Rose before now
