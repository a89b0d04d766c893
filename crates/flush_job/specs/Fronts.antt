-- What a walk has passed is in order: the law of a feed of runs.
use Rattle.std.specs.Prelude.{ℕ, zero, suc, ◌-◌, List, [], ◌∷◌, take}
use Rattle.std.specs.List.{AllByRecursion}
use Rattle.ts_key.specs.declared.version.Version.{Version}
use Rattle.merge_cursor.specs.declared.slice.SliceCursor.{SliceCursor}
use Rattle.history_gc.specs.Pushed.{AreInOrder, StandsBefore}
use Rattle.flush_job.specs.Walks.{passed_at, walked}

front_all : (v : Version) (n : ℕ) (vs : List Version) → AllByRecursion (λ w. StandsBefore v w) vs → AllByRecursion (λ w. StandsBefore v w) (take n vs)
front_all v zero vs h = tt
front_all v (suc n) [] h = tt
front_all v (suc n) (w ∷ ws) h = (h.0, front_all v n ws h.1)

pub front_in_order : (n : ℕ) (vs : List Version) → AreInOrder vs → AreInOrder (take n vs)
front_in_order zero vs h = tt
front_in_order (suc n) [] h = tt
front_in_order (suc n) (v ∷ vs) h = (front_all v n vs h.0, front_in_order n vs h.1)

pub passed_in_order : (place : ℕ) (cs : List SliceCursor) → AreInOrder (walked cs) → AreInOrder (passed_at place cs)
passed_in_order place cs h = front_in_order (place - 1) (walked cs) h
