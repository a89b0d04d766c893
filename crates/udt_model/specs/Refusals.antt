-- Why the store refuses what it is asked, in the order in which the refusals are tested.
use Rattle.std.specs.Prelude.{ℕ, ◌+◌, nat_lt, if◌then◌else◌, List, [], ◌∷◌, ◌++◌, length, Option, Some, None, option_map}
use Rattle.ts_key.specs.declared.limits.TheConstants.{SEQUENCE_LIMIT, SNAPSHOT_LIMIT}
use Rattle.ts_key.specs.declared.batch.WriteOp.{WriteOp}
use Rattle.ts_key.specs.declared.numbers.Family.{Family}
use Rattle.ts_key.specs.declared.numbers.Ts.{Ts}
use Rattle.ts_key.specs.declared.version.Version.{Version}
use Rattle.udt_model.specs.declared.place.Place.{Place}
use Rattle.udt_model.specs.declared.reply.Reply.{Reply}
use Rattle.udt_model.specs.declared.reply.Reply.TheVariants.{Below, Fell, Full, Floor, Snapshots, Busy, Unknown, Halted}
use Rattle.udt_model.specs.Versions.{newest_of, of_key, version_of}
use Rattle.udt_model.specs.State.{State, place_at}
use Rattle.udt_model.specs.Acts.{Act}
use Rattle.udt_model.specs.Acts.Act.{write, raise, ask_floor, make_snapshot, sync_all, flush_start, flush_end, compact_start, compact_end}

-- the first refusal
infixl 10 ◌or_else◌
abbrev pub ◌or_else◌ : Option Reply → Option Reply → Option Reply
None or_else b = b
(Some a) or_else b = Some a

-- the refusal, or the reply where there is none
infixl 8 ◌otherwise◌
abbrev pub ◌otherwise◌ : Option Reply → Reply → Reply
None otherwise reply = reply
(Some refusal) otherwise reply = refusal

-- there is no such family
abbrev pub unknown_place : Option Place → Option Reply
unknown_place None = Some Unknown
unknown_place (Some p) = None

abbrev pub unknown_family : State → Family → Option Reply
unknown_family m family = unknown_place (place_at m family)

-- one of the operations names no family
abbrev pub unknown : State → List WriteOp → Option Reply
unknown m [] = None
unknown m (o ∷ os) = unknown_family m o.family or_else unknown m os

-- the store is halted since the disk failed
abbrev pub halt : State → Option Reply
halt m = option_map Halted m.halted

-- ---- writes

-- the timestamp ts of the k-th operation is below the one of the newest version of its key
abbrev pub fell : ℕ → Ts → Option Version → Option Reply
fell k ts None = None
fell k ts (Some v) = if nat_lt ts.0 v.ts.0 then Some (Fell k v.ts) else None

-- the k-th operation, over the versions w: its timestamp is below the floor of its family, or below the newest of its key
abbrev pub op_refusal : List Version → ℕ → Option Place → WriteOp → Option Reply
op_refusal w k None o = Some Unknown
op_refusal w k (Some p) o = if nat_lt o.ts.0 p.floor.0 then Some (Below k p.floor) else fell k o.ts (newest_of (of_key w p.family o.key))

-- The first refusal from the k-th operation on. The versions before it are w, up to the sequence n; each operation is
-- judged over those of the operations before it too.
abbrev pub refused : State → List Version → ℕ → ℕ → List WriteOp → Option Reply
refused m w n k [] = None
refused m w n k (o ∷ os) = op_refusal w k (place_at m o.family) o or_else refused m (w ++ version_of o (n + 1) ∷ []) (n + 1) (k + 1) os

-- there are no sequences left for so many operations
abbrev pub full : State → List WriteOp → Option Reply
full m os = if nat_lt SEQUENCE_LIMIT (m.last.0 + length os) then Some (Full m.last) else None

-- ---- the others

-- the floor that is asked for is below the family's
abbrev pub floor_fell : Ts → Option Place → Option Reply
floor_fell asked None = Some Unknown
floor_fell asked (Some p) = if nat_lt asked.0 p.floor.0 then Some (Floor p.floor) else None

-- as many snapshots are registered as may be
abbrev pub snapshots_full : State → Option Reply
snapshots_full m = if nat_lt (length m.snaps) SNAPSHOT_LIMIT then None else Some (Snapshots SNAPSHOT_LIMIT)

-- such a job runs: this is the number of its start
abbrev pub busy : Option ℕ → Option Reply
busy job = option_map Busy job

-- the refusal of what isn't a read, where there is one
abbrev pub refusal : State → Act → Option Reply
refusal m (write ops sync) = unknown m ops or_else halt m or_else refused m m.versions m.last.0 1 ops or_else full m ops
refusal m (raise family floor) = unknown_family m family or_else halt m or_else floor_fell floor (place_at m family)
refusal m (ask_floor family) = unknown_family m family
refusal m make_snapshot = snapshots_full m
refusal m sync_all = halt m
refusal m (flush_start family) = unknown_family m family or_else halt m or_else busy (option_map (λ job. job.start) m.flush)
refusal m (compact_start family pick) = unknown_family m family or_else halt m or_else busy (option_map (λ job. job.start) m.compaction)
refusal m (flush_end family start) = halt m
refusal m (compact_end family start) = halt m
refusal m act = None
