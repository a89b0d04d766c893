-- The replies of a store.
use Rattle.std.specs.Prelude.{ℕ, Bool, true, false, Option, Some, None, unwrap_or}
use Rattle.udt_model.specs.declared.reply.Reply.{Reply}
use Rattle.udt_model.specs.declared.reply.Reply.TheVariants.{Rows, Snapshots, Inputs, Kept, NoMemory, Unbound, History, Halted, Unknown}
use Rattle.super_version.specs.declared.family.FamilyState.{FamilyState}
use Rattle.store_engine.specs.Replies.{reply_of_fault}
use Rattle.store_engine.specs.declared.fault.EngineFault.{EngineFault}
use Rattle.store_engine.specs.declared.fault.EngineFault.TheVariants.{DiskFault}

-- what is told of an engine's fault
abbrev pub told_of_fault : EngineFault → Reply
told_of_fault fault = unwrap_or (reply_of_fault fault) NoMemory

-- since which event the store is halted, behind a fault under the event of this number
abbrev pub halted_behind : Option ℕ → ℕ → EngineFault → Option ℕ
halted_behind before number DiskFault = Some number
halted_behind before number fault = before

-- what a store that is halted since an event tells of one on a family
abbrev pub halted_told : Option FamilyState → ℕ → Reply
halted_told None since = Unknown
halted_told (Some g) since = Halted since

-- a store gives such a reply: it has no scans, snapshots, views and compactions, and no other client
abbrev pub is_given : Reply → Bool
is_given (Rows rows) = false
is_given (Snapshots count) = false
is_given (Inputs tables level) = false
is_given (Kept kept pieces) = false
is_given Unbound = false
is_given History = false
is_given reply = true
