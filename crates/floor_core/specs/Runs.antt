-- What the core shows over every list of events.
use Rattle.std.specs.Prelude.{◌≡◌, ℕ, ◌+◌, ◌<◌, ◌≤◌, ◌==◌, ◌&&◌, Bool, true, false, not, length, is_some, if◌then◌else◌, List, [], ◌∷◌, All, AllPairs, slice_get, Option, Some, None, option_map, unwrap_or, ⊤}
use Rattle.ts_key.specs.declared.numbers.Family.{Family}
use Rattle.ts_key.specs.declared.numbers.Ts.{Ts}
use Rattle.ts_key.specs.declared.numbers.Seq.{Seq}
use Rattle.ts_key.specs.declared.version.Form.{Form}
use Rattle.udt_model.specs.declared.reply.Piece.{Piece}
use Rattle.udt_model.specs.Reads.{read}
use Rattle.udt_model.specs.Collecting.{collect, collect_all}
use Rattle.udt_model.specs.State.{State, FamilyState, Snap, Flush, Compaction, changed_at, family_at, floor_at, form_at, live_numbers, seqs_of, sight}
use Rattle.udt_model.specs.Jobs.{deeper_of, flush_floor, flush_taken, in_form, inputs_hold, tables_from}
use Rattle.udt_model.specs.Steps.{compacted, flushed}
use Rattle.udt_model.specs.Standing.{Stands}
use Rattle.udt_model.specs.Running.{IsSince}
use Rattle.udt_model.specs.Versions.{up_to}
use Rattle.floor_laws.specs.Sound.{IsSoundState, IsSoundOpening}
use Rattle.floor_core.specs.declared.event.CoreEvent.{CoreEvent}
use Rattle.floor_core.specs.declared.event.CoreEvent.TheVariants.{Get, Snap as TakeSnap, Release, Pin, PinnedGet, FlushStart, FlushEnd, FlushDrop, CompactStart, CompactEnd, CompactDrop, Halt}
use Rattle.floor_core.specs.declared.event.CoreReply.{CoreReply}
use Rattle.floor_core.specs.declared.event.CoreReply.TheVariants as replies
use Rattle.floor_core.specs.Cores.{CoreState, PinnedFamily, PinnedView, fresh_core}
use Rattle.floor_core.specs.Machine.{behind_event, has_family, has_snapshot, is_accepted, pin_of, sight_from, told}
use Rattle.floor_core.specs.Steps.{find_snap}

-- the core behind these events
abbrev pub behind_all : CoreState → List CoreEvent → CoreState
behind_all c [] = c
behind_all c (e ∷ es) = behind_all (behind_event c e) es

-- the number, where there is one, is that of an event so far
abbrev pub IsSoFar : ℕ → Option ℕ → Type 0
IsSoFar events None = ⊤
IsSoFar events (Some number) = number ≤ events

-- Snapshots, views, the running jobs and the halt have numbers of events so far, and those of the snapshots and of the views ascend.
pub record AreNumbered (c : CoreState) : Type 0 where
  pub snaps : All (λ (s : Snap). s.event ≤ c.events) c.store.snaps
  pub snaps_ascend : AllPairs (λ (a b : Snap). a.event < b.event) c.store.snaps
  pub views : All (λ (v : PinnedView). v.number ≤ c.events) c.pins
  pub views_ascend : AllPairs (λ (a b : PinnedView). a.number < b.number) c.pins
  pub flush : IsSoFar c.events (option_map (λ job. job.start) c.store.flush)
  pub compaction : IsSoFar c.events (option_map (λ job. job.start) c.store.compaction)
  pub halted : IsSoFar c.events c.store.halted

-- What the view keeps of each family stands for the versions up to its last sequence, at the floor and with the snapshots of its pin. Each
-- snapshot that is registered now was so at the pin, or was made since.
pub record IsSoundView (m : State) (v : PinnedView) : Type 0 where
  pub families : (family : Family) (f : PinnedFamily) → slice_get v.families family.0 ≡ Some f → Stands family f.form f.versions (up_to v.last.0 m.versions) f.floor v.seqs
  pub last : v.last.0 ≤ m.last.0
  pub snaps : All (IsSince v.seqs v.last) m.snaps

-- In the core each family's lists stand for the list of every version that was written, at its floor and with the registered snapshots, and
-- its jobs run rightly; so do the lists of each view for those up to its pin. The used numbers are those of the live tables.
pub record IsSoundCore (c : CoreState) : Type 0 where
  pub store : IsSoundState c.store
  pub used : c.store.used ≡ live_numbers c.store
  pub numbers : AreNumbered c
  pub views : All (IsSoundView c.store) c.pins

-- it begins with an opened store, which isn't halted
pub record IsOpenedCore (c : CoreState) : Type 0 where
  pub store : IsSoundOpening c.store
  pub used : c.store.used ≡ live_numbers c.store
  pub halted : c.store.halted ≡ None
  pub pins : c.pins ≡ []

-- a read of every version that was ever written
abbrev pub read_writes : State → Family → Option FamilyState → List ℕ → Ts → Seq → CoreReply
read_writes m family None key t s = replies.Refused
read_writes m family (Some f) key t s = replies.Read (read m.versions f.head.floor family key t s)

-- the reply that the list of every version gives to a get
abbrev pub got_from_writes : CoreState → Family → List ℕ → Ts → Option ℕ → CoreReply
got_from_writes c family key t snap =
    if is_some (family_at c.store family) && has_snapshot c.store snap then read_writes c.store family (family_at c.store family) key t (sight c.store snap) else replies.Refused

-- the reply that the list of every version of the state `at` gives to a get in a view that was pinned there, with a snapshot of now
abbrev pub got_at_pin : State → State → Family → List ℕ → Ts → Option ℕ → CoreReply
got_at_pin at now family key t snap =
    if is_some (family_at at family) && has_snapshot now snap then read_writes at family (family_at at family) key t (sight_from now at.last snap) else replies.Refused

-- a read of the versions up to the last sequence of a view, by the floor of its pin
abbrev pub read_first : State → PinnedView → Family → Option PinnedFamily → List ℕ → Ts → Seq → CoreReply
read_first m v family None key t s = replies.Refused
read_first m v family (Some f) key t s = replies.Read (read (up_to v.last.0 m.versions) f.floor family key t s)

-- the same in a view that may not be there, with a snapshot of now
abbrev pub read_to_pin : State → Option PinnedView → Family → List ℕ → Ts → Option ℕ → CoreReply
read_to_pin m None family key t snap = replies.Refused
read_to_pin m (Some v) family key t snap = read_first m v family (slice_get v.families family.0) key t (sight_from m v.last snap)

-- the reply that the versions up to a pin give to a get in its view
abbrev pub got_up_to_pin : CoreState → ℕ → Family → List ℕ → Ts → Option ℕ → CoreReply
got_up_to_pin c pin family key t snap =
    if has_family (pin_of c pin) family && has_snapshot c.store snap then read_to_pin c.store (pin_of c pin) family key t snap else replies.Refused

-- the reply to an event where each read is one of the list that was never collected
abbrev pub told_from_writes : CoreState → CoreEvent → CoreReply
told_from_writes c (Get family key t snap) = got_from_writes c family key t snap
told_from_writes c (PinnedGet pin family key t snap) = got_up_to_pin c pin family key t snap
told_from_writes c event = told c event

-- ---- the laws

-- the core is sound behind every list of events
abbrev pub IsSoundBehindAll : Type 0
IsSoundBehindAll = (c : CoreState) (es : List CoreEvent) → IsSoundCore c → IsSoundCore (behind_all c es)

-- a get answers as the list that was never collected
abbrev pub GetsAnswer : Type 0
GetsAnswer = (c : CoreState) (es : List CoreEvent) (family : Family) (key : List ℕ) (t : Ts) (snap : Option ℕ)
    → IsSoundCore c → told (behind_all c es) (Get family key t snap) ≡ got_from_writes (behind_all c es) family key t snap

-- a pinned get answers as the list that there was at its pin, whatever followed
abbrev pub PinnedGetsAnswer : Type 0
PinnedGetsAnswer = (c : CoreState) (es : List CoreEvent) (family : Family) (key : List ℕ) (t : Ts) (snap : Option ℕ)
    → IsSoundCore c → let d = behind_all (behind_event c Pin) es in told d (PinnedGet (c.events + 1) family key t snap) ≡ got_at_pin c.store d.store family key t snap

-- every core is sound that is fresh or opened
abbrev pub FreshIsSound : Type 0
FreshIsSound = (forms : List Form) → IsSoundCore (fresh_core forms)

abbrev pub OpenedIsSound : Type 0
OpenedIsSound = (c : CoreState) → IsOpenedCore c → IsSoundCore c

-- an event is answered `Refused` exactly where it is refused
abbrev pub RefusesExactly : Type 0
RefusesExactly = (c : CoreState) (e : CoreEvent) → (is_accepted c e ≡ false → told c e ≡ replies.Refused) × (is_accepted c e ≡ true → told c e ≡ replies.Refused → ⊥)

-- and then nothing changes but the count of events
abbrev pub RefusedChangesNothing : Type 0
RefusedChangesNothing = (c : CoreState) (e : CoreEvent) → is_accepted c e ≡ false → behind_event c e ≡ record c { events = c.events + 1 }

-- every event is counted
abbrev pub CountsEvents : Type 0
CountsEvents = (c : CoreState) (es : List CoreEvent) → (behind_all c es).events ≡ c.events + length es

-- ---- jobs

-- it ends the running flush
abbrev pub ends_flush : CoreEvent → Bool
ends_flush (FlushEnd table) = true
ends_flush FlushDrop = true
ends_flush e = false

abbrev pub ends_compaction : CoreEvent → Bool
ends_compaction (CompactEnd pieces) = true
ends_compaction CompactDrop = true
ends_compaction e = false

-- A flush takes with it the last sequence, the floor and the snapshots of its start, and keeps them until it ends or is dropped: its end makes
-- its table by them.
abbrev pub FlushesEndByTheirStart : Type 0
FlushesEndByTheirStart = (c : CoreState) (family : Family) (es : List CoreEvent)
    → is_accepted c (FlushStart family) ≡ true → All (λ (e : CoreEvent). ends_flush e ≡ false) es
    → (behind_all (behind_event c (FlushStart family)) es).store.flush ≡ Some (record { start = c.events + 1; family = family; through = c.store.last; floor = floor_at c.store family; seqs = seqs_of c.store })

-- and a compaction with its inputs, its level and the deeper spans
abbrev pub CompactionsEndByTheirStart : Type 0
CompactionsEndByTheirStart = (c : CoreState) (family : Family) (inputs : List ℕ) (level : ℕ) (es : List CoreEvent)
    → is_accepted c (CompactStart family inputs level) ≡ true → All (λ (e : CoreEvent). ends_compaction e ≡ false) es
    → (behind_all (behind_event c (CompactStart family inputs level)) es).store.compaction ≡ Some (record { start = c.events + 1; family = family; inputs = inputs; level = level; deeper = deeper_of c.store family inputs level; last = c.store.last; floor = floor_at c.store family; seqs = seqs_of c.store })

-- The end of a flush puts a table of the collection of what it takes, by the floor and the snapshots of its start, in the form of the family.
abbrev pub FlushesMakeTheirTable : Type 0
FlushesMakeTheirTable = (c : CoreState) (job : Flush) (table : ℕ) → c.store.flush ≡ Some job → is_accepted c (FlushEnd table) ≡ true
    → let kept = in_form (form_at c.store job.family) (collect_all (flush_taken c.store job) job.floor job.seqs) in
    (behind_event c (FlushEnd table)).store.families ≡ changed_at job.family.0 (flushed (record { number = table; level = 0; versions = kept }) job.through (flush_floor c.store job)) c.store.families

-- The end of a compaction puts tables of the collection of its inputs, by the floor, the snapshots and the deeper spans of its start, in their place.
abbrev pub CompactionsMakeTheirTables : Type 0
CompactionsMakeTheirTables = (c : CoreState) (job : Compaction) (pieces : List Piece) → c.store.compaction ≡ Some job → is_accepted c (CompactEnd pieces) ≡ true
    → let kept = collect (inputs_hold c.store job) job.floor job.seqs job.deeper in
    (behind_event c (CompactEnd pieces)).store.families ≡ changed_at job.family.0 (compacted job.inputs (tables_from job.level kept pieces)) c.store.families

-- ---- numbers

-- it doesn't give up the snapshot of this number
abbrev pub keeps_snapshot : ℕ → CoreEvent → Bool
keeps_snapshot number (Release id) = not (id == number)
keeps_snapshot number e = true

-- a snapshot has the number of its event, and the last sequence there, until it is given up
abbrev pub SnapshotsKeepTheirNumber : Type 0
SnapshotsKeepTheirNumber = (c : CoreState) (es : List CoreEvent) → IsSoundCore c
    → is_accepted c TakeSnap ≡ true → All (λ (e : CoreEvent). keeps_snapshot (c.events + 1) e ≡ true) es
    → find_snap (behind_all (behind_event c TakeSnap) es).store (c.events + 1) ≡ Some (record { event = c.events + 1; seq = c.store.last })

-- the halt has the number of the first event that halted
abbrev pub HaltsKeepTheirNumber : Type 0
HaltsKeepTheirNumber = (c : CoreState) (es : List CoreEvent) → (behind_all (behind_event c Halt) es).store.halted ≡ Some (unwrap_or c.store.halted (c.events + 1))
