-- The machine of all events: which ones the core refuses, what it answers, and what it is behind them.
use Rattle.std.specs.Prelude.{ℕ, ◌+◌, ◌==◌, nat_lt, nat_le, ◌&&◌, ◌||◌, ◌++◌, not, Bool, true, false, if◌then◌else◌, is_some, is_none, List, [], ◌∷◌, length, filter, find, slice_get, Option, Some, None, unwrap_or}
use Rattle.std.specs.List.{list_all}
use Rattle.ts_key.specs.declared.numbers.Family.{Family}
use Rattle.ts_key.specs.declared.numbers.Ts.{Ts}
use Rattle.ts_key.specs.declared.numbers.Seq.{Seq}
use Rattle.udt_model.specs.declared.reply.Piece.{Piece}
use Rattle.udt_model.specs.declared.reply.Reply.TheVariants.{Done, OkAt, Inputs}
use Rattle.udt_model.specs.Reads.{read}
use Rattle.udt_model.specs.State.{State, FamilyState, LiveTable, Flush, Compaction, family_at, is_registered, numbers_of, seqs_of, sight, tables_of}
use Rattle.udt_model.specs.Acts.Act.{write, raise, make_snapshot, release, flush_start, compact_start}
use Rattle.udt_model.specs.Refusals.{halt, refusal}
use Rattle.udt_model.specs.Jobs.{are_new, are_parts, compaction_kept, flush_floor, has_number, is_ascending, is_input, is_wanted, numbers_of_pieces, unflushed_of}
use Rattle.udt_model.specs.Steps.{after, with_compaction, with_flush}
use Rattle.floor_laws.specs.Sound.{lists_of}
use Rattle.floor_core.specs.declared.event.CoreEvent.{CoreEvent}
use Rattle.floor_core.specs.declared.event.CoreEvent.TheVariants.{Write, Get, Raise, Snap, Release, Pin, PinnedGet, FlushStart, FlushEnd, FlushDrop, CompactStart, CompactEnd, CompactDrop, Halt}
use Rattle.floor_core.specs.declared.event.CoreReply.{CoreReply}
use Rattle.floor_core.specs.declared.event.CoreReply.TheVariants as replies
use Rattle.floor_core.specs.Cores.{CoreState, PinnedFamily, PinnedView, with_live_numbers}

-- ---- refusals

-- the snapshot is registered, where one is given
abbrev pub has_snapshot : State → Option ℕ → Bool
has_snapshot m None = true
has_snapshot m (Some event) = is_registered m event

-- the view of the pin of this number
abbrev pub pin_of : CoreState → ℕ → Option PinnedView
pin_of c number = find (λ v. v.number == number) c.pins

-- it has the family
abbrev pub has_family : Option PinnedView → Family → Bool
has_family None family = false
has_family (Some v) family = is_some (slice_get v.families family.0)

-- of a family with these tables the inputs and the output level may be those of a compaction
abbrev pub are_closed : List LiveTable → List ℕ → ℕ → Bool
are_closed tables inputs level =
    nat_lt 0 (length inputs) && is_ascending inputs && list_all (has_number (numbers_of tables)) inputs && nat_le 1 level && nat_le level 6
    && list_all (λ t. is_input inputs t || not (is_wanted level (filter (is_input inputs) tables) t)) tables

-- the pieces part what the running compaction keeps
abbrev pub parts_it : State → Option Compaction → List Piece → Bool
parts_it m None pieces = false
parts_it m (Some job) pieces = are_parts (compaction_kept m job) pieces

-- The event isn't refused: neither as the model has it, nor for a snapshot, a view or a job that isn't there, for a flush of nothing, for
-- inputs that aren't closed, for numbers that are taken or for pieces that are no parts.
abbrev pub is_accepted : CoreState → CoreEvent → Bool
is_accepted c (Write batch) = is_none (refusal c.store (write batch false))
is_accepted c (Get family key t snap) = is_some (family_at c.store family) && has_snapshot c.store snap
is_accepted c (Raise family floor) = is_none (refusal c.store (raise family floor))
is_accepted c Snap = is_none (refusal c.store make_snapshot)
is_accepted c (Release id) = is_registered c.store id
is_accepted c Pin = true
is_accepted c (PinnedGet pin family key t snap) = has_family (pin_of c pin) family && has_snapshot c.store snap
is_accepted c (FlushStart family) = is_none (refusal c.store (flush_start family)) && not (length (unflushed_of c.store family) == 0)
is_accepted c (FlushEnd table) = is_none (halt c.store) && is_some c.store.flush && are_new c.store.used (table ∷ [])
is_accepted c FlushDrop = is_some c.store.flush
is_accepted c (CompactStart family inputs level) = is_none (refusal c.store (compact_start family true)) && are_closed (tables_of c.store family) inputs level
is_accepted c (CompactEnd pieces) = is_none (halt c.store) && are_new c.store.used (numbers_of_pieces pieces) && parts_it c.store c.store.compaction pieces
is_accepted c CompactDrop = is_some c.store.compaction
is_accepted c Halt = true

-- ---- answers

-- a read of the lists of a family, as they are now
abbrev pub read_lists : State → Family → Option FamilyState → List ℕ → Ts → Seq → CoreReply
read_lists m family None key t s = replies.Refused
read_lists m family (Some f) key t s = replies.Read (read (lists_of m family f) f.head.floor family key t s)

-- a read of what a view keeps of a family
abbrev pub read_kept : Family → Option PinnedFamily → List ℕ → Ts → Seq → CoreReply
read_kept family None key t s = replies.Refused
read_kept family (Some f) key t s = replies.Read (read f.versions f.floor family key t s)

-- the sequence up to which a read sees: this one, or that of the snapshot
abbrev pub sight_from : State → Seq → Option ℕ → Seq
sight_from m last snap = sight (record m { last = last }) snap

-- a read in a view, up to its last sequence, or with a snapshot of now
abbrev pub read_pin : State → Option PinnedView → Family → List ℕ → Ts → Option ℕ → CoreReply
read_pin m None family key t snap = replies.Refused
read_pin m (Some v) family key t snap = read_kept family (slice_get v.families family.0) key t (sight_from m v.last snap)

-- what is answered where the event isn't refused
abbrev pub answer_to : CoreState → CoreEvent → CoreReply
answer_to c (Write batch) = replies.Written (record { 0 = c.store.last.0 + length batch })
answer_to c (Get family key t snap) = read_lists c.store family (family_at c.store family) key t (sight c.store snap)
answer_to c (PinnedGet pin family key t snap) = read_pin c.store (pin_of c pin) family key t snap
answer_to c event = replies.Done

-- the reply to an event
abbrev pub told : CoreState → CoreEvent → CoreReply
told c event = if is_accepted c event then answer_to c event else replies.Refused

-- ---- changes

-- the running flush ends with a table of this number
abbrev pub flush_ended : State → Option Flush → ℕ → State
flush_ended m None table = m
flush_ended m (Some job) table = with_flush m (Some job) table (flush_floor m job)

-- what the event of this number makes of the store where it isn't refused
abbrev pub effect : State → ℕ → CoreEvent → State
effect m number (Write batch) = after m number (write batch false) (OkAt (m.last.0 + length batch))
effect m number (Raise family floor) = after m number (raise family floor) Done
effect m number Snap = after m number make_snapshot (OkAt m.last.0)
effect m number (Release id) = after m number (release id) Done
effect m number (FlushStart family) = after m number (flush_start family) (OkAt m.last.0)
effect m number (FlushEnd table) = flush_ended m m.flush table
effect m number FlushDrop = record m { flush = None }
effect m number (CompactStart family inputs level) = after m number (compact_start family true) (Inputs inputs level)
effect m number (CompactEnd pieces) = with_compaction m m.compaction pieces
effect m number CompactDrop = record m { compaction = None }
effect m number Halt = record m { halted = Some (unwrap_or m.halted number) }
effect m number event = m

-- what a view keeps of a family of now
abbrev pub kept_family : State → Family → FamilyState → PinnedFamily
kept_family m family f = record { form = f.head.form; floor = f.head.floor; versions = lists_of m family f }

-- the same of families, of which the first has the number n
abbrev pub kept_families : State → ℕ → List FamilyState → List PinnedFamily
kept_families m n [] = []
kept_families m n (f ∷ fs) = kept_family m (record { 0 = n }) f ∷ kept_families m (n + 1) fs

-- the view of a pin of this number
abbrev pub view_now : State → ℕ → PinnedView
view_now m number = record { number = number; last = m.last; families = kept_families m 0 m.families; seqs = seqs_of m }

abbrev pub pinned_too : CoreState → CoreEvent → List PinnedView
pinned_too c Pin = c.pins ++ view_now c.store (c.events + 1) ∷ []
pinned_too c event = c.pins

-- the store behind an event, where its number is the next one
abbrev pub store_behind : CoreState → CoreEvent → State
store_behind c event = if is_accepted c event then with_live_numbers (effect c.store (c.events + 1) event) else c.store

-- the core behind an event, which isn't counted yet
abbrev pub changed_by : CoreState → CoreEvent → CoreState
changed_by c event = record { store = store_behind c event; pins = pinned_too c event; events = c.events }

-- the core behind an event; behind a refused one only the count of events differs
abbrev pub behind_event : CoreState → CoreEvent → CoreState
behind_event c event = record (changed_by c event) { events = c.events + 1 }
