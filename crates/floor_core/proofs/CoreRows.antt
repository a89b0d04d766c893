-- Rows of the core: what it answers to short lists of events.
use Rattle.std.proofs.Common.{◌≡◌, ℕ, List, [], ◌∷◌, codes, Some, None, refl}
use Rattle.ts_key.specs.declared.version.Op.TheVariants as ops
use Rattle.ts_key.specs.declared.version.Form.TheVariants.{Persist, Strip}
use Rattle.ts_key.specs.declared.batch.WriteOp.{WriteOp}
use Rattle.ts_key.specs.declared.numbers.Family.{Family}
use Rattle.udt_model.specs.declared.reply.Stamp.TheVariants as stamps
use Rattle.udt_model.specs.declared.read.Answer.TheVariants as answers
use Rattle.udt_model.specs.declared.read.ModelRead.TheVariants as reads
use Rattle.udt_model.proofs.Samples.{ts, piece}
use Rattle.floor_core.specs.declared.event.CoreEvent.{CoreEvent}
use Rattle.floor_core.specs.declared.event.CoreEvent.TheVariants.{Write, Get, Raise, Snap, Release, Pin, PinnedGet, FlushStart, FlushEnd, FlushDrop, CompactStart, CompactEnd, CompactDrop, Halt}
use Rattle.floor_core.specs.declared.event.CoreReply.{CoreReply}
use Rattle.floor_core.specs.declared.event.CoreReply.TheVariants.{Done, Written, Read, Refused}
use Rattle.floor_core.specs.Cores.{CoreState, fresh_core}
use Rattle.floor_core.specs.Machine.{behind_event, told}

abbrev replies_to : CoreState → List CoreEvent → List CoreReply
replies_to c [] = []
replies_to c (e ∷ es) = told c e ∷ replies_to (behind_event c e) es

-- ---- short names

abbrev d : Family
d = record { 0 = 0 }

abbrev put_op : List ℕ → ℕ → List ℕ → WriteOp
put_op key t value = record { family = d; key = key; ts = ts t; op = ops.Put value }

abbrev put : List ℕ → ℕ → List ℕ → CoreEvent
put key t value = Write (put_op key t value ∷ [])

abbrev delete : List ℕ → ℕ → CoreEvent
delete key t = Write (record { family = d; key = key; ts = ts t; op = ops.Del } ∷ [])

abbrev get : List ℕ → ℕ → CoreEvent
get key t = Get d key (ts t) None

abbrev get_with : ℕ → List ℕ → ℕ → CoreEvent
get_with snap key t = Get d key (ts t) (Some snap)

abbrev in_view : ℕ → List ℕ → ℕ → CoreEvent
in_view pin key t = PinnedGet pin d key (ts t) None

abbrev written : ℕ → CoreReply
written last = Written (record { 0 = last })

abbrev found_at : List ℕ → ℕ → CoreReply
found_at value t = Read (reads.Told (answers.Found value (stamps.At (ts t))))

abbrev found_below : List ℕ → CoreReply
found_below value = Read (reads.Told (answers.Found value stamps.Below))

abbrev absent : CoreReply
absent = Read (reads.Told answers.Absent)

abbrev collapsed : ℕ → CoreReply
collapsed floor = Read (reads.Collapsed (ts floor))

abbrev persist : CoreState
persist = fresh_core (Persist ∷ [])

abbrev strip : CoreState
strip = fresh_core (Strip ∷ [])

-- ---- rows

pub writes_are_read : replies_to persist (put (codes "a") 5 (codes "v") ∷ get (codes "a") 5 ∷ []) ≡ written 1 ∷ found_at (codes "v") 5 ∷ []
writes_are_read = refl

pub a_flush_strips : replies_to strip (put (codes "a") 10 (codes "x") ∷ FlushStart d ∷ put (codes "b") 5 (codes "y") ∷ FlushEnd 3 ∷ get (codes "b") 11 ∷ get (codes "b") 10 ∷ [])
    ≡ written 1 ∷ Done ∷ written 2 ∷ Done ∷ found_below (codes "y") ∷ collapsed 11 ∷ []
a_flush_strips = refl

-- a view shows its pin and its floor, whatever is written and raised since; a snapshot shows its moment
pub views_and_snapshots : replies_to persist (put (codes "a") 5 (codes "u") ∷ Pin ∷ Snap ∷ put (codes "a") 7 (codes "v") ∷ Raise d (ts 8) ∷ in_view 2 (codes "a") 7 ∷ get (codes "a") 7 ∷ get_with 3 (codes "a") 8 ∷ get (codes "a") 8 ∷ Release 3 ∷ get_with 3 (codes "a") 8 ∷ [])
    ≡ written 1 ∷ Done ∷ Done ∷ written 2 ∷ Done ∷ found_at (codes "u") 5 ∷ collapsed 8 ∷ found_below (codes "u") ∷ found_below (codes "v") ∷ Done ∷ Refused ∷ []
views_and_snapshots = refl

-- what the snapshot of its start sees stays, and goes with a later one
pub collections_keep_snapshots : replies_to persist
    (put (codes "a") 5 (codes "u") ∷ Snap ∷ put (codes "a") 6 (codes "v") ∷ Raise d (ts 9) ∷ FlushStart d ∷ Release 2 ∷ FlushEnd 1 ∷ Pin ∷ CompactStart d (1 ∷ []) 6 ∷ CompactEnd (piece 2 2 ∷ []) ∷ CompactEnd (piece 2 1 ∷ []) ∷ get (codes "a") 9 ∷ [])
    ≡ written 1 ∷ Done ∷ written 2 ∷ Done ∷ Done ∷ Done ∷ Done ∷ Done ∷ Done ∷ Refused ∷ Done ∷ found_below (codes "v") ∷ []
collections_keep_snapshots = refl

-- a delete stays where a deeper table that is no input holds its put
pub deletes_cover_deeper_puts : replies_to persist
    (put (codes "a") 5 (codes "u") ∷ FlushStart d ∷ FlushEnd 1 ∷ CompactStart d (1 ∷ []) 6 ∷ CompactEnd (piece 2 1 ∷ []) ∷ delete (codes "a") 6 ∷ FlushStart d ∷ FlushEnd 3 ∷ Raise d (ts 9) ∷ CompactStart d (3 ∷ []) 1 ∷ CompactEnd (piece 4 1 ∷ []) ∷ get (codes "a") 9
    ∷ CompactStart d (2 ∷ 4 ∷ []) 6 ∷ CompactEnd [] ∷ get (codes "a") 9 ∷ [])
    ≡ written 1 ∷ Done ∷ Done ∷ Done ∷ Done ∷ written 2 ∷ Done ∷ Done ∷ Done ∷ Done ∷ Done ∷ absent ∷ Done ∷ Done ∷ absent ∷ []
deletes_cover_deeper_puts = refl

-- ---- refusals

abbrev e1 : Family
e1 = record { 0 = 1 }

pub unknown_families : replies_to persist (Write (record { family = e1; key = codes "a"; ts = ts 5; op = ops.Del } ∷ []) ∷ Get e1 (codes "a") (ts 5) None ∷ Raise e1 (ts 5) ∷ FlushStart e1 ∷ CompactStart e1 (1 ∷ []) 6 ∷ Pin ∷ PinnedGet 6 e1 (codes "a") (ts 5) None ∷ [])
    ≡ Refused ∷ Refused ∷ Refused ∷ Refused ∷ Refused ∷ Done ∷ Refused ∷ []
unknown_families = refl

pub what_is_not_there : replies_to persist (get_with 1 (codes "a") 5 ∷ Release 1 ∷ in_view 1 (codes "a") 5 ∷ FlushStart d ∷ FlushEnd 1 ∷ FlushDrop ∷ CompactStart d [] 6 ∷ CompactEnd [] ∷ CompactDrop ∷ [])
    ≡ Refused ∷ Refused ∷ Refused ∷ Refused ∷ Refused ∷ Refused ∷ Refused ∷ Refused ∷ Refused ∷ []
what_is_not_there = refl

pub what_falls : replies_to persist (put (codes "a") 5 (codes "u") ∷ Raise d (ts 3) ∷ put (codes "b") 2 (codes "v") ∷ put (codes "a") 4 (codes "v") ∷ Write (put_op (codes "b") 9 (codes "v") ∷ put_op (codes "b") 8 (codes "v") ∷ []) ∷ Raise d (ts 2) ∷ get (codes "b") 9 ∷ [])
    ≡ written 1 ∷ Done ∷ Refused ∷ Refused ∷ Refused ∷ Refused ∷ absent ∷ []
what_falls = refl

pub busy_jobs : replies_to persist (put (codes "a") 5 (codes "u") ∷ FlushStart d ∷ FlushStart d ∷ FlushEnd 1 ∷ put (codes "b") 5 (codes "u") ∷ FlushStart d ∷ FlushEnd 1 ∷ FlushDrop ∷ CompactStart d (1 ∷ []) 6 ∷ CompactStart d (1 ∷ []) 6 ∷ CompactEnd (piece 1 1 ∷ []) ∷ CompactDrop ∷ CompactStart d (2 ∷ []) 6 ∷ CompactStart d (1 ∷ []) 7 ∷ [])
    ≡ written 1 ∷ Done ∷ Refused ∷ Done ∷ written 2 ∷ Done ∷ Refused ∷ Done ∷ Done ∷ Refused ∷ Refused ∷ Done ∷ Refused ∷ Refused ∷ []
busy_jobs = refl

pub halted_stores : replies_to persist (put (codes "a") 5 (codes "u") ∷ FlushStart d ∷ Halt ∷ put (codes "a") 6 (codes "v") ∷ Raise d (ts 3) ∷ FlushEnd 1 ∷ FlushDrop ∷ FlushStart d ∷ Snap ∷ Pin ∷ get (codes "a") 6 ∷ [])
    ≡ written 1 ∷ Done ∷ Done ∷ Refused ∷ Refused ∷ Refused ∷ Done ∷ Refused ∷ Done ∷ Done ∷ found_at (codes "u") 5 ∷ []
halted_stores = refl

-- a compaction takes ascending numbers of live tables, with all that lie between, to a level from 1 on
pub inputs_are_closed : replies_to persist
    (put (codes "a") 5 (codes "u") ∷ FlushStart d ∷ FlushEnd 1 ∷ put (codes "a") 6 (codes "v") ∷ FlushStart d ∷ FlushEnd 2 ∷ CompactStart d (1 ∷ []) 6 ∷ CompactStart d (2 ∷ 1 ∷ []) 6 ∷ CompactStart d (1 ∷ 2 ∷ []) 0 ∷ CompactStart d (1 ∷ 2 ∷ []) 7 ∷ CompactStart d (1 ∷ 2 ∷ []) 6 ∷ [])
    ≡ written 1 ∷ Done ∷ Done ∷ written 2 ∷ Done ∷ Done ∷ Refused ∷ Refused ∷ Refused ∷ Refused ∷ Done ∷ []
inputs_are_closed = refl

-- its pieces cut no key, have some versions each, have numbers of their own, and hold all that is kept
pub pieces_part : replies_to persist
    (put (codes "a") 5 (codes "u") ∷ put (codes "a") 6 (codes "v") ∷ put (codes "b") 5 (codes "w") ∷ FlushStart d ∷ FlushEnd 1 ∷ CompactStart d (1 ∷ []) 6 ∷ CompactEnd (piece 2 1 ∷ piece 3 2 ∷ []) ∷ CompactEnd (piece 2 0 ∷ piece 3 3 ∷ []) ∷ CompactEnd (piece 2 2 ∷ piece 2 1 ∷ []) ∷ CompactEnd (piece 2 2 ∷ []) ∷ CompactEnd (piece 2 2 ∷ piece 3 1 ∷ []) ∷ [])
    ≡ written 1 ∷ written 2 ∷ written 3 ∷ Done ∷ Done ∷ Done ∷ Refused ∷ Refused ∷ Refused ∷ Refused ∷ Done ∷ []
pieces_part = refl

pub halted_compactions : replies_to persist
    (put (codes "a") 5 (codes "u") ∷ FlushStart d ∷ FlushEnd 1 ∷ CompactStart d (1 ∷ []) 6 ∷ Halt ∷ CompactEnd (piece 2 1 ∷ []) ∷ CompactDrop ∷ CompactStart d (1 ∷ []) 6 ∷ [])
    ≡ written 1 ∷ Done ∷ Done ∷ Done ∷ Done ∷ Refused ∷ Done ∷ Refused ∷ []
halted_compactions = refl

-- a snapshot that isn't registered any more is refused in a view too
pub snapshots_in_views : replies_to persist
    (put (codes "a") 5 (codes "u") ∷ Snap ∷ put (codes "a") 6 (codes "v") ∷ Pin ∷ PinnedGet 4 d (codes "a") (ts 9) (Some 1) ∷ PinnedGet 4 d (codes "a") (ts 9) (Some 2) ∷ Release 2 ∷ PinnedGet 4 d (codes "a") (ts 9) (Some 2) ∷ in_view 4 (codes "a") 9 ∷ [])
    ≡ written 1 ∷ Done ∷ written 2 ∷ Done ∷ Refused ∷ found_at (codes "u") 5 ∷ Done ∷ Refused ∷ found_at (codes "v") 6 ∷ []
snapshots_in_views = refl

-- a view keeps what a later collection takes out
pub views_keep_their_lists : replies_to persist
    (put (codes "a") 5 (codes "u") ∷ put (codes "a") 6 (codes "v") ∷ FlushStart d ∷ FlushEnd 1 ∷ Pin ∷ Raise d (ts 9) ∷ CompactStart d (1 ∷ []) 6 ∷ CompactEnd (piece 2 1 ∷ []) ∷ in_view 5 (codes "a") 5 ∷ get (codes "a") 5 ∷ [])
    ≡ written 1 ∷ written 2 ∷ Done ∷ Done ∷ Done ∷ Done ∷ Done ∷ Done ∷ found_at (codes "u") 5 ∷ collapsed 9 ∷ []
views_keep_their_lists = refl
