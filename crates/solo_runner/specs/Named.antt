-- Writes and reads by name, as the store of one client takes them.
use Rattle.std.specs.Prelude.{◌≡◌, ◌⊎◌, ℕ, ◌+◌, ◌++◌, nat_lt, if◌then◌else◌, List, [], ◌∷◌, length, Option, Some, None}
use Rattle.ts_key.specs.declared.limits.TheConstants.{SEQUENCE_LIMIT}
use Rattle.ts_key.specs.declared.numbers.Family.{Family}
use Rattle.ts_key.specs.declared.version.Version.{Version}
use Rattle.udt_model.specs.declared.event.NamedOp.{NamedOp}
use Rattle.udt_model.specs.declared.event.Event.{Event}
use Rattle.udt_model.specs.declared.event.Event.TheVariants.{Write, Get, Sync}
use Rattle.udt_model.specs.declared.place.Place.{Place}
use Rattle.udt_model.specs.declared.reply.Reply.{Reply}
use Rattle.udt_model.specs.declared.reply.Reply.TheVariants.{Done, OkAt, Below, Full, Unknown, Fault}
use Rattle.udt_model.specs.Versions.{newest_of, of_key}
use Rattle.udt_model.specs.State.{State, place_from, family_of as family_named, heads_of}
use Rattle.udt_model.specs.Refusals.{fell, halt, unknown_place, ◌or_else◌}
use Rattle.udt_model.specs.Steps.{got}
use Rattle.udt_model.specs.Lines.{IsWant}
use Rattle.udt_model.specs.Names.{act_of, no_names}
use Rattle.udt_model.specs.Crashes.{Course, course_after_or}

abbrev pub place_of : State → List ℕ → Option Place
place_of m name = place_from 0 (heads_of m) name

abbrev pub family_of_op : State → NamedOp → Family
family_of_op m o = family_named (heads_of m) o.family

-- the version that an operation makes
abbrev pub version_of_op : Family → NamedOp → ℕ → Version
version_of_op family o n = record { family = family; key = o.key; ts = o.ts; seq = record { 0 = n }; op = o.op }

-- the versions that operations make, the first with the sequence above n
abbrev pub versions_made : State → ℕ → List NamedOp → List Version
versions_made m n [] = []
versions_made m n (o ∷ os) = version_of_op (family_of_op m o) o (n + 1) ∷ versions_made m (n + 1) os

-- one of the operations names no family
abbrev pub unknown_in_ops : State → List NamedOp → Option Reply
unknown_in_ops m [] = None
unknown_in_ops m (o ∷ os) = unknown_place (place_of m o.family) or_else unknown_in_ops m os

-- the k-th operation, over the versions w: its timestamp is below the floor of its family, or below the newest of its key
abbrev pub refusal_of_op : List Version → ℕ → Option Place → NamedOp → Option Reply
refusal_of_op w k None o = Some Unknown
refusal_of_op w k (Some p) o = if nat_lt o.ts.0 p.floor.0 then Some (Below k p.floor) else fell k o.ts (newest_of (of_key w p.family o.key))

-- The first refusal from the k-th operation on. The versions before it are w, up to the sequence n; each operation is
-- judged over those of the operations before it too.
abbrev pub refusal_of_ops : State → List Version → ℕ → ℕ → List NamedOp → Option Reply
refusal_of_ops m w n k [] = None
refusal_of_ops m w n k (o ∷ os) = refusal_of_op w k (place_of m o.family) o or_else refusal_of_ops m (w ++ version_of_op (family_of_op m o) o (n + 1) ∷ []) (n + 1) (k + 1) os

-- there are no sequences left for so many operations
abbrev pub full_for_ops : State → List NamedOp → Option Reply
full_for_ops m os = if nat_lt SEQUENCE_LIMIT (m.last.0 + length os) then Some (Full m.last) else None

abbrev pub accepted_unless : ℕ → Option Reply → Reply
accepted_unless last None = OkAt last
accepted_unless last (Some why) = why

-- the reply to a write: its refusal in the order written, or its last sequence
abbrev pub reply_of_write : State → List NamedOp → Reply
reply_of_write m os = accepted_unless (m.last.0 + length os) (unknown_in_ops m os or_else halt m or_else refusal_of_ops m m.versions m.last.0 1 os or_else full_for_ops m os)

abbrev pub done_unless : Option Reply → Reply
done_unless None = Done
done_unless (Some why) = why

-- the reply to a sync
abbrev pub reply_of_solo_sync : State → Reply
reply_of_solo_sync m = done_unless (halt m)

-- ---- steps

-- the reply is the model's
abbrev pub IsToldByName : State → Event → Reply → Type 0
IsToldByName m (Write ops sync) reply = reply ≡ reply_of_write m ops
IsToldByName m (Get family key t None) reply = reply ≡ got m (place_of m family) key t m.last
IsToldByName m Sync reply = reply ≡ reply_of_solo_sync m
IsToldByName m event reply = ⊥

-- the disk may fail under a write that is accepted, and under a sync
abbrev pub IsFaultByName : State → Event → Reply → Type 0
IsFaultByName m (Write ops sync) reply = (reply ≡ Fault) × (reply_of_write m ops ≡ OkAt (m.last.0 + length ops))
IsFaultByName m Sync reply = (reply ≡ Fault) × (m.halted ≡ None)
IsFaultByName m event reply = ⊥

-- the reply is legal: the model's, or want of memory, or a fault of the disk
abbrev pub IsReplyByName : State → Event → Reply → Type 0
IsReplyByName m event reply = IsToldByName m event reply ⊎ (IsWant event reply ⊎ IsFaultByName m event reply)

-- what the event of this number leaves with this reply
abbrev pub after_by_name : State → ℕ → Event → Reply → State
after_by_name m number (Write ops sync) (OkAt last) = record m { versions = m.versions ++ versions_made m m.last.0 ops; last = record { 0 = last } }
after_by_name m number event Fault = record m { halted = Some number }
after_by_name m number event reply = m

-- what an event that uses no names makes of a course
abbrev pub course_after_event : State → ℕ → Course → Event → Reply → Course
course_after_event m number c event reply = course_after_or m number c (act_of (heads_of m) no_names event) reply
