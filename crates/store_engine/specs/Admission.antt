-- Why a write and a raise are refused, by what a super version holds.
use Rattle.std.specs.Prelude.{◌≡◌, ℕ, ◌+◌, nat_lt, ◌==◌, ◌&&◌, Bool, if◌then◌else◌, List, [], ◌∷◌, ◌++◌, length, slice_get, Option, Some, None, Result, Ok, Err, ⊤}
use Rattle.std.specs.Option.{option_or}
use Rattle.std.specs.Str.{bytes_eq}
use Rattle.ts_key.specs.declared.batch.WriteOp.{WriteOp}
use Rattle.ts_key.specs.declared.limits.TheConstants.{SEQUENCE_LIMIT}
use Rattle.ts_key.specs.declared.numbers.Family.{Family}
use Rattle.ts_key.specs.declared.numbers.Seq.{Seq}
use Rattle.ts_key.specs.declared.numbers.Ts.{Ts}
use Rattle.ts_key.specs.Items.{Item}
use Rattle.ts_key.specs.Visible.{newest_ts}
use Rattle.memtable.specs.Memtables.{greater}
use Rattle.block_table.specs.Contents.{greatest_of}
use Rattle.udt_model.specs.State.{State}
use Rattle.udt_model.specs.Steps.{admitted, raised}
use Rattle.super_version.specs.Contents.{items_of_family}
use Rattle.super_version.specs.declared.family.FamilyState.{FamilyState}
use Rattle.super_version.specs.declared.version.SuperVersion.{SuperVersion}
use Rattle.store_engine.specs.Replies.{reply_of_fault}
use Rattle.store_engine.specs.declared.fault.EngineFault.{EngineFault}
use Rattle.store_engine.specs.declared.fault.EngineFault.TheVariants.{UnknownFamily, BelowFloor, Fell, SequenceFull, FloorFell, NoMemory, DiskFault}

-- the refusal that a fault is: want of memory and a fault of the disk are none
abbrev pub as_refusal : EngineFault → Option EngineFault
as_refusal NoMemory = None
as_refusal DiskFault = None
as_refusal fault = Some fault

-- the refusal that an answer tells, where it tells one
abbrev pub told_refusal : {A : Type 0} → Result A EngineFault → Option EngineFault
told_refusal (Ok a) = None
told_refusal (Err fault) = as_refusal fault

-- the fault of an answer, where it is one
abbrev pub fault_of : {A : Type 0} → Result A EngineFault → Option EngineFault
fault_of (Ok a) = None
fault_of (Err fault) = Some fault

-- the greatest timestamp of versions, 0 where there is none
abbrev pub latest_stamp : List Item → ℕ
latest_stamp vs = greatest_of (λ v. v.sort_key.ts) vs

-- it, where it is above this one
abbrev pub where_above : ℕ → Option ℕ → Option ℕ
where_above ts None = None
where_above ts (Some n) = if nat_lt ts n then Some n else None

-- ---- operations

-- it is on this key of this family
abbrev pub is_on_key : Family → List ℕ → WriteOp → Bool
is_on_key family key o = o.family.0 == family.0 && bytes_eq o.key key

-- the timestamp of the operation, where it is on this key
abbrev pub stamp_at : Family → List ℕ → WriteOp → Option ℕ
stamp_at family key o = if is_on_key family key o then Some o.ts.0 else None

-- the greatest timestamp of operations on this key
abbrev pub latest_at : Family → List ℕ → List WriteOp → Option ℕ
latest_at family key [] = None
latest_at family key (o ∷ os) = greater (stamp_at family key o) (latest_at family key os)

-- the timestamp of the k-th operation is below the newest of its key
abbrev pub fell_fault : ℕ → Ts → Option ℕ → Option EngineFault
fell_fault k ts None = None
fell_fault k ts (Some n) = if nat_lt ts.0 n then Some (Fell k (record { 0 = n })) else None

-- the k-th operation behind earlier ones, by the lists of its family
abbrev pub op_fault : Option FamilyState → List WriteOp → ℕ → WriteOp → Option EngineFault
op_fault None before k o = Some UnknownFamily
op_fault (Some f) before k o = if nat_lt o.ts.0 f.floor.0 then Some (BelowFloor k f.floor) else fell_fault k o.ts (greater (newest_ts (items_of_family f) o.key) (latest_at o.family o.key before))

-- the first fault from the k-th operation on, behind earlier ones
abbrev pub ops_fault : List FamilyState → List WriteOp → ℕ → List WriteOp → Option EngineFault
ops_fault families before k [] = None
ops_fault families before k (o ∷ os) = option_or (op_fault (slice_get families o.family.0) before k o) (ops_fault families (before ++ o ∷ []) (k + 1) os)

abbrev pub unknown_fault : Option FamilyState → Option EngineFault
unknown_fault None = Some UnknownFamily
unknown_fault (Some f) = None

-- one of the operations names no family
abbrev pub unknown_in : List FamilyState → List WriteOp → Option EngineFault
unknown_in families [] = None
unknown_in families (o ∷ os) = option_or (unknown_fault (slice_get families o.family.0)) (unknown_in families os)

-- there are no sequences left for so many operations
abbrev pub full_fault : Seq → ℕ → Option EngineFault
full_fault last count = if nat_lt SEQUENCE_LIMIT (last.0 + count) then Some (SequenceFull last) else None

-- why operations aren't admitted, where they aren't
abbrev pub write_fault : SuperVersion → List WriteOp → Option EngineFault
write_fault now ops = option_or (unknown_in now.families ops) (option_or (ops_fault now.families [] 1 ops) (full_fault now.last (length ops)))

-- ---- raises

abbrev pub raise_fault : Option FamilyState → Ts → Option EngineFault
raise_fault None floor = Some UnknownFamily
raise_fault (Some f) floor = if nat_lt floor.0 f.floor.0 then Some (FloorFell f.floor) else None

-- ---- the model's answers

-- the model refuses the operations so
abbrev pub RefusesWrite : State → List WriteOp → EngineFault → Type 0
RefusesWrite m ops NoMemory = ⊤
RefusesWrite m ops fault = reply_of_fault fault ≡ Some (admitted m ops)

-- it refuses the raise so
abbrev pub RefusesRaise : State → Family → Ts → EngineFault → Type 0
RefusesRaise m family floor NoMemory = ⊤
RefusesRaise m family floor fault = reply_of_fault fault ≡ Some (raised m family floor)

-- it is no fault of the disk
abbrev pub IsInMemory : EngineFault → Type 0
IsInMemory DiskFault = ⊥
IsInMemory fault = ⊤
