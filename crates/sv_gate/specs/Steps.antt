-- What each step on a gate's table tells the seat that makes it.
use Rattle.std.specs.Prelude.{◌≡◌, ◌≢◌, ℕ, ◌+◌, ◌^◌, ◌<◌, ◌≤◌, true, List, [], ◌∷◌, length, Some}
use Rattle.atomic_table.specs.Table.{Step, rest}
use Rattle.sv_gate.specs.declared.shown.Origin.{Origin}
use Rattle.sv_gate.specs.declared.rule.Content.{Content}
use Rattle.sv_gate.specs.declared.rule.Content.TheVariants.{Front, Commit}
use Rattle.sv_gate.specs.Histories.{StartsWith, BeginsWithAll, IsLater, AreLegal}
use Rattle.sv_gate.specs.Knowledge.{SeatState, height_of, IsInOrder, with_front, without_front, with_commit, without_commit, with_entry, with_look, with_nothing_heard}

module _ {F C E : Type 0} (follows : Origin F C → List E → E → Type 0) (fronts : Origin F C → F → List E → Type 0) (commits : Origin F C → C → List E → Type 0) (light : E → Type 0) where
  -- The seat has the front, which shows the whole history, and has seen that.
  pub record HasTakenFront (o : Origin F C) (before after : SeatState F C E) : Type 0 where
    pub front : F
    pub log : List E
    pub is : after ≡ (with_front before.0 log, (0, Front front) ∷ before.1)
    pub later : IsLater light before.0.has_commit before.0.seen log
    pub shown : fronts o front log
    pub legal : AreLegal (follows o) [] log
    pub order : IsInOrder after.0
    pub room : before.0.has_room ≡ true → before.0.base + length log < 2 ^ 63

  -- It has the commit, which shows the whole history, and has seen that.
  pub record HasTakenCommit (o : Origin F C) (before after : SeatState F C E) : Type 0 where
    pub commit : C
    pub log : List E
    pub is : after ≡ (with_commit before.0 log, (1, Commit commit) ∷ before.1)
    pub later : StartsWith log before.0.seen
    pub shown : commits o commit log
    pub legal : AreLegal (follows o) [] log
    pub order : IsInOrder after.0

  -- where the lock was free the seat has the front; else nothing happened
  abbrev pub TookFront : Step (Content F C) → SeatState F C E → ℕ → SeatState F C E → Type 0
  TookFront st m n m' = (n ≢ 0 → m' ≡ m) × (n ≡ 0 → (o : Origin F C) → m.0.origin ≡ Some o → HasTakenFront o m m')

  abbrev pub TookCommit : Step (Content F C) → SeatState F C E → ℕ → SeatState F C E → Type 0
  TookCommit st m n m' = (n ≢ 0 → m' ≡ m) × (n ≡ 0 → (o : Origin F C) → m.0.origin ≡ Some o → HasTakenCommit o m m')

module _ {F C E : Type 0} where
  abbrev pub GaveFront : Step (Content F C) → SeatState F C E → ℕ → SeatState F C E → Type 0
  GaveFront st m n m' = m' ≡ (without_front m.0, rest m.1)

  abbrev pub GaveCommit : Step (Content F C) → SeatState F C E → ℕ → SeatState F C E → Type 0
  GaveCommit st m n m' = m' ≡ (without_commit m.0, rest m.1)

  -- the height that was found is the number of the last entry that the seat has seen
  abbrev pub SawHeight : Step (Content F C) → SeatState F C E → ℕ → SeatState F C E → Type 0
  SawHeight st m n m' = (n ≡ height_of m.0) × (m' ≡ (with_look m.0, m.1)) × (n ≤ 2 ^ 63)

  -- the entry has the number after the one that was found
  abbrev pub Entered : List E → Step (Content F C) → SeatState F C E → ℕ → SeatState F C E → Type 0
  Entered es st m n m' = (n ≡ height_of m.0) × ((e : E) → es ≡ e ∷ [] → m' ≡ (with_entry m.0 e, m.1))

  -- One list begins with all that the seat has heard of, its own entries are in order, and its weight is part of the whole.
  abbrev pub Learned : Step (Content F C) → SeatState F C E → ℕ → SeatState F C E → Type 0
  Learned st m n m' = (m' ≡ (with_nothing_heard m.0, m.1)) × ((log : List E) × BeginsWithAll log m.0.heard) × IsInOrder m.0 × ((o : Origin F C) → m.0.origin ≡ Some o → m.0.weight ≤ o.seats)
