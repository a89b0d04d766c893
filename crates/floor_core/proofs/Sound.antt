-- Sound states stay so when what isn't judged changes.
use Rattle.std.proofs.Common.{◌≡◌, ℕ, List, Option, Some, None}
use Rattle.std.specs.Prelude.{All, Contains}
use Rattle.ts_key.specs.declared.numbers.Family.{Family}
use Rattle.udt_model.specs.State.{State, FamilyState, LiveTable, Flush, Compaction, family_at}
use Rattle.udt_model.specs.Running.{IsFlushRight, IsCompactionRight}
use Rattle.floor_laws.specs.Sound.{IsSoundState}
use Rattle.floor_laws.proofs.Reopening.{sound_settled}
use Rattle.floor_core.specs.Cores.{with_live_numbers}

-- the same store with another halt mark and other used numbers
abbrev with_others : State → Option ℕ → List ℕ → State
with_others m halted used = record m { halted = halted; used = used }

flush_stays : (m : State) (halted : Option ℕ) (used : List ℕ) (o : Option Flush) → IsFlushRight m o → IsFlushRight (with_others m halted used) o
flush_stays m halted used None h = h
flush_stays m halted used (Some job) h = (h.0, h.1, record { from = h.2.from; to = h.2.to; floor = h.2.floor; snaps = h.2.snaps })

compaction_stays : (m : State) (halted : Option ℕ) (used : List ℕ) (o : Option Compaction) → IsCompactionRight m o → IsCompactionRight (with_others m halted used) o
compaction_stays m halted used None h = h
compaction_stays m halted used (Some job) h = (
  h.0,
  h.1,
  record {
    some = h.2.some;
    ascending = h.2.ascending;
    live = h.2.live;
    above = h.2.above;
    below = h.2.below;
    old = h.2.old;
    outside = h.2.outside;
    clear = h.2.clear;
    deeper = h.2.deeper;
    to = h.2.to;
    floor = h.2.floor;
    snaps = h.2.snaps;
  },
)

sound_others : (m : State) (halted : Option ℕ) (used : List ℕ)
    → ((i : Family) (f : FamilyState) → family_at m i ≡ Some f → All (λ (t : LiveTable). Contains used t.number) f.tables)
    → IsSoundState m → IsSoundState (with_others m halted used)
sound_others m halted used known h = record {
  written = h.written;
  families = λ i f at.
      let k = h.families i f at in
      record { lists = k.lists; tables = record { through = k.tables.through; stand = k.tables.stand; flat = k.tables.flat; ordered = k.tables.ordered; used = known i f at } };
  jobs = record { flush = flush_stays m halted used m.flush h.jobs.flush; compaction = compaction_stays m halted used m.compaction h.jobs.compaction };
}

pub sound_live : (m : State) → IsSoundState m → IsSoundState (with_live_numbers m)
sound_live m h = sound_others m m.halted (with_live_numbers m).used (λ i f at. ((sound_settled m h).families i f at).tables.used) h

pub sound_halted : (m : State) (halted : Option ℕ) → IsSoundState m → IsSoundState (record m { halted = halted })
sound_halted m halted h = sound_others m halted m.used (λ i f at. (h.families i f at).tables.used) h
