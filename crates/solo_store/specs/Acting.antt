-- What an event asks of a store, and what it leaves of a state and its course.
use Rattle.std.specs.Prelude.{ℕ, Option}
use Rattle.udt_model.specs.declared.event.Event.{Event}
use Rattle.udt_model.specs.declared.reply.Reply.{Reply}
use Rattle.udt_model.specs.Acts.{Act}
use Rattle.udt_model.specs.Crashes.{Course, course_after_or}
use Rattle.udt_model.specs.Lines.{after_event}
use Rattle.udt_model.specs.Names.{act_of, no_names}
use Rattle.udt_model.specs.State.{State, heads_of}

-- what an event of somebody without names asks
abbrev pub act_in : State → Event → Option Act
act_in m event = act_of (heads_of m) no_names event

-- the state and the course behind it
abbrev pub state_behind_event : State → ℕ → Event → Reply → State
state_behind_event m number event reply = after_event m number no_names event reply

abbrev pub course_behind_event : State → ℕ → Course → Event → Reply → Course
course_behind_event m number c event reply = course_after_or m number c (act_in m event) reply
