-- Which replies are legal in a line, and which lines have a number of their own.
use Rattle.std.specs.Prelude.{◌≡◌, ◌⊎◌, ℕ, ◌-◌, ◌^◌, ◌≤◌, ◌&&◌, Bool, true, false, IsTrue, if◌then◌else◌, Option, Some, None}
use Rattle.udt_model.specs.declared.event.Event.{Event}
use Rattle.udt_model.specs.declared.event.Event.TheVariants.{Get, Scan, Floor, Snap, Release, Unpin, ViewGet, ViewScan, ViewFloor, Sync, FlushEnd, CompactEnd}
use Rattle.udt_model.specs.declared.reply.Reply.{Reply}
use Rattle.udt_model.specs.declared.reply.Reply.TheVariants.{Files, DroppedFault, DroppedFiles, Fault, NoMemory, Unbound, History}
use Rattle.udt_model.specs.State.{State, heads_of}
use Rattle.udt_model.specs.Acts.{Act, takes_commit}
use Rattle.udt_model.specs.Names.{Names, act_of, seen_by}
use Rattle.udt_model.specs.Steps.{IsReplyTo, after as after_act, is_running}

-- the disk failed under the event
abbrev pub says_fault : Reply → Bool
says_fault Fault = true
says_fault DroppedFault = true
says_fault reply = false

-- there were no files left for the event
abbrev pub says_files : Reply → Bool
says_files (Files next) = true
says_files (DroppedFiles next) = true
says_files reply = false

-- the event makes a step: those of a view don't, nor does giving one up
abbrev pub is_numbered : Event → Bool
is_numbered (ViewGet view family key t snap) = false
is_numbered (ViewScan view family low high t limit forward snap) = false
is_numbered (ViewFloor view family) = false
is_numbered (Unpin name) = false
is_numbered event = true

-- a read makes its step before it looks for memory
abbrev pub is_read : Event → Bool
is_read (Get family key t snap) = true
is_read (Scan family low high t limit forward snap) = true
is_read event = false

-- a reply that comes with a step, where want of memory comes with one or not
abbrev pub steps_with : Bool → Reply → Bool
steps_with want NoMemory = want
steps_with want Unbound = false
steps_with want History = false
steps_with want reply = true

abbrev pub is_step : Event → Reply → Bool
is_step event reply = is_numbered event && steps_with (is_read event) reply

-- ---- replies that any state allows

-- the event may want memory that isn't there
abbrev pub takes_memory : Event → Bool
takes_memory (Floor family) = false
takes_memory (Snap name) = false
takes_memory (Release name) = false
takes_memory (Unpin name) = false
takes_memory (ViewFloor view family) = false
takes_memory Sync = false
takes_memory (FlushEnd family start) = false
takes_memory (CompactEnd family start) = false
takes_memory event = true

-- want of memory is free
abbrev pub IsWant : Event → Reply → Type 0
IsWant event reply = (reply ≡ NoMemory) × IsTrue (takes_memory event)

-- the number from which on a history takes no such event: the last one is left to those that work on the disk
abbrev pub height_limit : Act → ℕ
height_limit act = if takes_commit act then 2 ^ 63 else 2 ^ 63 - 1

-- a history of this height is as long as it may be
abbrev pub IsTooLong : ℕ → Event → Act → Reply → Type 0
IsTooLong height event act reply = (reply ≡ History) × IsTrue (is_numbered event) × (height_limit act ≤ height)

-- ---- replies

-- to an event that asks for this, and is judged in the state m, in a history of this height
abbrev pub IsReplyOr : ℕ → State → Event → Option Act → Reply → Type 0
IsReplyOr height m event None reply = reply ≡ Unbound
IsReplyOr height m event (Some act) reply = IsReplyTo m act reply ⊎ (IsTrue (is_running m act) × (IsWant event reply ⊎ IsTooLong height event act reply))

-- the reply to an event of somebody with these names is legal
abbrev pub IsReply : ℕ → State → Names → Event → Reply → Type 0
IsReply height m names event reply = IsReplyOr height (seen_by m names event) event (act_of (heads_of m) names event) reply

abbrev pub after_or : State → ℕ → Option Act → Reply → State
after_or m number None reply = m
after_or m number (Some act) reply = after_act m number act reply

-- what the event of this number leaves with this reply
abbrev pub after_event : State → ℕ → Names → Event → Reply → State
after_event m number names event reply = if is_step event reply then after_or m number (act_of (heads_of m) names event) reply else m
