-- The replies of the model that an engine's faults are.
use Rattle.std.specs.Prelude.{Bool, true, false, Option, Some, None}
use Rattle.udt_model.specs.declared.reply.Reply.{Reply}
use Rattle.udt_model.specs.declared.reply.Reply.TheVariants as replies
use Rattle.store_engine.specs.declared.fault.EngineFault.{EngineFault}
use Rattle.store_engine.specs.declared.fault.EngineFault.TheVariants.{UnknownFamily, BelowFloor, Fell, SequenceFull, FloorFell, FilesFull, NoMemory, DiskFault}

-- the reply that a fault is: want of memory is none of the model's
abbrev pub reply_of_fault : EngineFault → Option Reply
reply_of_fault UnknownFamily = Some replies.Unknown
reply_of_fault (BelowFloor op floor) = Some (replies.Below op floor)
reply_of_fault (Fell op newest) = Some (replies.Fell op newest)
reply_of_fault (SequenceFull last) = Some (replies.Full last)
reply_of_fault (FloorFell floor) = Some (replies.Floor floor)
reply_of_fault (FilesFull next) = Some (replies.Files next)
reply_of_fault NoMemory = None
reply_of_fault DiskFault = Some replies.Fault

-- the fault is the disk's
abbrev pub is_disk_fault : EngineFault → Bool
is_disk_fault UnknownFamily = false
is_disk_fault (BelowFloor op floor) = false
is_disk_fault (Fell op newest) = false
is_disk_fault (SequenceFull last) = false
is_disk_fault (FloorFell floor) = false
is_disk_fault (FilesFull next) = false
is_disk_fault NoMemory = false
is_disk_fault DiskFault = true
