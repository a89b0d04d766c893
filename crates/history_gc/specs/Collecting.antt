-- What a collector has collected.
use Rattle.std.specs.Prelude.{◌≡◌, ℕ, ◌-◌, ◌≤◌, List, [], ◌∷◌, ◌++◌, take, drop, length, Option, Some, None, slice_get}
use Rattle.std.specs.VecDeque.{deque_capacity}
use Rattle.ts_key.specs.declared.numbers.Seq.{Seq}
use Rattle.ts_key.specs.declared.numbers.Ts.{Ts}
use Rattle.ts_key.specs.declared.version.Version.{Version}
use Rattle.udt_model.specs.declared.reply.KeySpan.{KeySpan}
use Rattle.udt_model.specs.Collecting.{collect}
use Rattle.history_gc.specs.Pushed.{BeginsWith, of_last_key, of_other_keys}
use Rattle.history_gc.specs.Streaming.{Last}
use Rattle.history_gc.specs.States.{CollectorState, AccountsFor}
use Rattle.history_gc.specs.declared.collector.Collector.{Collector}

-- what is remembered of the last version that is kept and not decided
abbrev pub remembered : ℕ → ℕ → Option Version → Option Last
remembered class least None = None
remembered class least (Some v) = Some (record { key = v.key; class = class; least = least })

-- the last of a list
abbrev pub last_of_run : List Version → Option Version
last_of_run vs = slice_get vs (length vs - 1)

-- of a queue of which so many are decided
abbrev pub state_at : ℕ → ℕ → ℕ → List Version → CollectorState
state_at class least decided queue = record { ready = take decided queue; run = drop decided queue; last = remembered class least (last_of_run (drop decided queue)) }

abbrev pub state : Collector → CollectorState
state c = state_at c.class c.least c.decided c.queue.items

-- the floor, the snapshots' sequences and the deeper spans that it collects by
abbrev pub collection_floor : Collector → Ts
collection_floor c = c.floor

abbrev pub collection_snapshots : Collector → List Seq
collection_snapshots c = c.seqs.items

abbrev pub collection_spans : Collector → List KeySpan
collection_spans c = c.deeper.now

-- how many versions it holds, and for how many it has room
abbrev pub held_of : Collector → ℕ
held_of c = length c.queue.items

abbrev pub room_of : Collector → ℕ
room_of c = deque_capacity c.queue

-- what it collects of versions that are pushed in order
abbrev pub collection : Collector → List Version → List Version
collection c ps = collect ps (collection_floor c) (collection_snapshots c) (collection_spans c)

-- both collect by the same floor, snapshots and deeper spans
pub record CollectsAlike (c d : Collector) : Type 0 where
  pub floor : collection_floor d ≡ collection_floor c
  pub snapshots : collection_snapshots d ≡ collection_snapshots c
  pub spans : collection_spans d ≡ collection_spans c

-- The versions ps were pushed and qs were given. These are a front of the collection of all that was pushed.
pub record HasCollected (c : Collector) (ps qs : List Version) : Type 0 where
  pub front : BeginsWith qs (collection c ps)
  pub inside : AccountsFor (collection_floor c) (collection_snapshots c) (collection_spans c) (state c) ps qs

-- After the end everything is decided: what was given and what is held are the collection of all that was pushed.
pub record HasFinished (c : Collector) (ps qs : List Version) : Type 0 where
  pub decided : c.decided ≡ length c.queue.items
  pub all : qs ++ c.queue.items ≡ collection c ps

-- It has nothing to give: what was given is the collection of all keys but the last, and it holds only versions of the last.
pub record HasGivenSettled (c : Collector) (ps qs : List Version) : Type 0 where
  pub given : qs ≡ collection c (of_other_keys ps)
  pub held : held_of c ≤ length (of_last_key ps)
  pub collected : HasCollected c ps qs

-- It gave v as the next: with it what was given is a front of the collection of all keys but the last, too.
pub record HasGiven (c : Collector) (ps qs : List Version) (v : Version) : Type 0 where
  pub others : BeginsWith (qs ++ v ∷ []) (collection c (of_other_keys ps))
  pub collected : HasCollected c ps (qs ++ v ∷ [])

-- After the end it has nothing to give: what was given is the collection of all that was pushed, and it holds none.
pub record HasGivenAll (c : Collector) (ps qs : List Version) : Type 0 where
  pub given : qs ≡ collection c ps
  pub none : held_of c ≡ 0

-- d holds and remembers what c does
pub record IsAsBefore (c d : Collector) : Type 0 where
  pub queue : d.queue.items ≡ c.queue.items
  pub decided : d.decided ≡ c.decided
  pub class : d.class ≡ c.class
  pub least : d.least ≡ c.least
  pub alike : CollectsAlike c d
