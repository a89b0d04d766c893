-- What is kept of the versions of a feed, and given one by one.
use Rattle.std.specs.Prelude.{◌≡◌, ℕ, ◌+◌, ◌*◌, Bool, true, false, if◌then◌else◌, List, [], ◌∷◌, ◌++◌, length, Contains, Option, Some, None, Result, Ok, Err, ⊤}
use Rattle.ts_key.specs.declared.version.Version.{Version}
use Rattle.collection_laws.specs.Places.{AreStored}
use Rattle.history_gc.specs.declared.collector.Collector.{Collector}
use Rattle.history_gc.specs.Pushed.{AreInOrder}
use Rattle.history_gc.specs.Collecting.{HasCollected, HasFinished, collection, held_of}
use Rattle.flush_job.specs.declared.feed.Feed.{Ghosts}
use Rattle.flush_job.specs.declared.kept.Kept.{Kept}

-- all versions of the feed
abbrev pub all_of : {S : Type 0} (g : Ghosts S) → Kept S → List Version
all_of g k = g.taken k.feed ++ g.coming k.feed

-- what it gives altogether
abbrev pub kept_of : {S : Type 0} (g : Ghosts S) → Kept S → List Version
kept_of g k = collection k.collector (all_of g k)

-- the collector was given ps, of a feed with these still to come, and gave qs; at the end there are none to come
abbrev pub IsWorking : Bool → Collector → List Version → List Version → List Version → Type 0
IsWorking false c ps coming qs = HasCollected c ps qs
IsWorking true c ps coming qs = HasFinished c ps qs × (coming ≡ [])

-- These were given so far: they stand in the stored order, and each is one of the feed's.
pub record Keeps {S : Type 0} (g : Ghosts S) (k : Kept S) (given : List Version) : Type 0 where
  pub in_order : AreStored given
  pub among : (v : Version) → Contains given v → Contains (all_of g k) v
  pub working : IsWorking k.ended k.collector (g.taken k.feed) (g.coming k.feed) given

-- After these there is no more: they are all that is kept, and the whole feed was in order. Or this is the next one.
abbrev pub GivesOne : {S : Type 0} (g : Ghosts S) → Kept S → List Version → Option Version → Type 0
GivesOne g k given None = (given ≡ kept_of g k) × AreInOrder (all_of g k)
GivesOne g k given (Some v) = Keeps g k (given ++ v ∷ [])

-- where memory is wanting nothing is said
abbrev pub GivesNext : {S E : Type 0} (g : Ghosts S) → Kept S → List Version → Result (Option Version) E → Type 0
GivesNext g k given (Ok next) = GivesOne g k given next
GivesNext g k given (Err e) = ⊤

-- how many may still be given, those to come counted twice
abbrev pub left_of : {S : Type 0} (g : Ghosts S) → Kept S → ℕ
left_of g k = 2 * length (g.coming k.feed) + held_of k.collector

-- how often it may still take one from the feed
abbrev pub steps_of : {S : Type 0} (g : Ghosts S) → Kept S → ℕ
steps_of g k = if k.ended then 0 else length (g.coming k.feed) + 1
