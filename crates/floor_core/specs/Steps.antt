-- Parts of a step.
use Rattle.std.specs.Prelude.{ℕ, ◌==◌, ◌+◌, ◌&&◌, nat_le, nat_lt, is_none, not, if◌then◌else◌, Bool, true, List, [], ◌∷◌, ◌++◌, drop, filter, find, length, take, Option, Some, None}
use Rattle.ts_key.specs.declared.numbers.Family.{Family}
use Rattle.ts_key.specs.declared.batch.WriteOp.{WriteOp}
use Rattle.ts_key.specs.declared.version.Version.{Version}
use Rattle.udt_model.specs.declared.reply.KeySpan.{KeySpan}
use Rattle.udt_model.specs.declared.reply.Piece.{Piece}
use Rattle.udt_model.specs.State.{State, FamilyState, LiveTable, Snap, Flush, Compaction, floor_at, seqs_of, tables_of, with_tables}
use Rattle.udt_model.specs.Orders.{hull_with, span_of, span_of_both, span_of_key}
use Rattle.udt_model.specs.Versions.{made}
use Rattle.udt_model.specs.Refusals.{refused}
use Rattle.udt_model.specs.Jobs.{are_new, are_parts, compaction_kept, deeper_of, is_cut, is_input, numbers_of_pieces, tables_from}
use Rattle.floor_core.specs.declared.event.CoreEvent.TheVariants.{Write, FlushStart, CompactStart}
use Rattle.floor_core.specs.Cores.{CoreState}
use Rattle.floor_core.specs.Machine.{is_accepted}

-- the snapshot of this number
abbrev pub find_snap : State → ℕ → Option Snap
find_snap m event = find (λ s. s.event == event) m.snaps

-- the versions with those that the operations make, unless one of them falls below a floor or its key
abbrev pub admitted_versions : State → List WriteOp → Option (List Version)
admitted_versions m ops = if is_none (refused m m.versions m.last.0 1 ops) then Some (m.versions ++ made m.last.0 ops) else None

-- the same, unless the write is refused
abbrev pub judged : CoreState → List WriteOp → Option (List Version)
judged c ops = if is_accepted c (Write ops) then Some (c.store.versions ++ made c.store.last.0 ops) else None

-- the flush that starts with the next event, unless the start is refused
abbrev pub flush_from : CoreState → Family → Option Flush
flush_from c family = if is_accepted c (FlushStart family) then Some (record { start = c.events + 1; family = family; through = c.store.last; floor = floor_at c.store family; seqs = seqs_of c.store }) else None

-- the compaction that starts with the next event, unless the start is refused
abbrev pub compaction_from : CoreState → Family → List ℕ → ℕ → Option Compaction
compaction_from c family inputs level =
    if is_accepted c (CompactStart family inputs level)
    then Some (record { start = c.events + 1; family = family; inputs = inputs; level = level; deeper = deeper_of c.store family inputs level; last = c.store.last; floor = floor_at c.store family; seqs = seqs_of c.store })
    else None

-- the family with these tables
abbrev pub holding_tables : List LiveTable → FamilyState → FamilyState
holding_tables tables f = record f { tables = tables }

-- the tables of its family behind the end of a compaction, unless its numbers aren't new or its pieces no parts
abbrev pub tables_behind : State → Compaction → List Piece → Option (List LiveTable)
tables_behind m job pieces =
    if are_new m.used (numbers_of_pieces pieces) && are_parts (compaction_kept m job) pieces
    then Some (with_tables (tables_from job.level (compaction_kept m job) pieces) (filter (λ t. not (is_input job.inputs t)) (tables_of m job.family)))
    else None

-- ---- numbers

-- it is above the last one, where there was one
abbrev pub is_above_last : Option ℕ → ℕ → Bool
is_above_last None number = true
is_above_last (Some before) number = nat_lt before number

-- ---- spans

-- the span of a key and of what lies behind it
abbrev pub span_with : List ℕ → Option KeySpan → KeySpan
span_with key None = span_of_key key
span_with key (Some span) = span_of_both (span_of_key key) span

-- the span of the keys of versions, where there are some
abbrev pub span_of_some : List Version → Option KeySpan
span_of_some [] = None
span_of_some (v ∷ vs) = Some (span_with v.key (span_of_some vs))

abbrev pub span_of_table : LiveTable → KeySpan
span_of_table t = span_of t.versions

-- the span of what lies before and of this one
abbrev pub with_span : Option KeySpan → KeySpan → KeySpan
with_span None span = span
with_span (Some a) span = span_of_both a span

-- the hull of what lies before and of spans
abbrev pub hull_from : Option KeySpan → List KeySpan → Option KeySpan
hull_from before [] = before
hull_from before (s ∷ ss) = hull_from (Some (with_span before s)) ss

-- the hull of spans; where there is none, the span of the empty key
abbrev pub hull_of_spans : List KeySpan → KeySpan
hull_of_spans [] = span_of_key []
hull_of_spans (s ∷ ss) = hull_with s ss

-- ---- pieces

-- the list may be parted behind so many versions
abbrev pub may_part : List Version → ℕ → Bool
may_part vs count = nat_lt 0 count && nat_le count (length vs) && is_cut (take count vs) (drop count vs)

-- the tables that the pieces make of the versions, unless they are no parts
abbrev pub parted : ℕ → List Version → List Piece → Option (List LiveTable)
parted level vs pieces = if are_parts vs pieces then Some (tables_from level vs pieces) else None
