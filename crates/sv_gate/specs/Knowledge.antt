-- What a seat knows, and how a call changes it.
use Rattle.std.specs.Prelude.{◌≡◌, ℕ, ◌+◌, ◌-◌, ◌^◌, nat_lt, true, false, cond, List, [], ◌∷◌, ◌++◌, length, Some, None}
use Rattle.atomic_table.specs.Table.{Me}
use Rattle.sv_gate.specs.declared.shown.Origin.{Origin}
use Rattle.sv_gate.specs.declared.rule.Content.{Content}
use Rattle.sv_gate.specs.declared.rule.Content.TheVariants.{Out}
use Rattle.sv_gate.specs.declared.rule.Knowledge.{Knowledge}
use Rattle.sv_gate.specs.Histories.{Ascends, both_by_number, longer}

-- a seat as its table has it: what it knows, and the slots that it holds
abbrev pub SeatState : Type 0 → Type 0 → Type 0 → Type 0
SeatState F C E = Me (Content F C) (Knowledge F C E)

module _ {F C : Type 0} where
  -- what a gate made with these values begins with
  pub record IsOrigin (height seats : ℕ) (front : F) (commit : C) (o : Origin F C) : Type 0 where
    pub height_is : o.height ≡ height
    pub seats_are : o.seats ≡ seats
    pub front_is : o.front.value ≡ front
    pub commit_is : o.commit.value ≡ commit

module _ {F C E : Type 0} where
  -- the first seat has all of the weight, and has made and seen nothing
  abbrev pub first_knowledge : Origin F C → Knowledge F C E
  first_knowledge o = record { origin = Some o; base = o.height; weight = o.seats; own = []; seen = []; heard = []; has_commit = false; has_front = false; has_room = false }

  -- a seat that was joined to another
  abbrev pub spent : Knowledge F C E
  spent = record { origin = None; base = 0; weight = 0; own = []; seen = []; heard = []; has_commit = false; has_front = false; has_room = false }

  -- the slots that a seat holds between two calls, each of them empty
  abbrev pub carried : Knowledge F C E → List (ℕ × Content F C)
  carried k = cond k.has_front ((0, Out) ∷ cond k.has_commit ((1, Out) ∷ []) []) (cond k.has_commit ((1, Out) ∷ []) [])

  -- the number of the last entry that was seen
  abbrev pub height_of : Knowledge F C E → ℕ
  height_of k = k.base + length k.seen

  -- the numbers of its own entries ascend, up to that of the last entry that was seen
  abbrev pub IsInOrder : Knowledge F C E → Type 0
  IsInOrder k = Ascends (height_of k) k.base k.own

  -- It has the front, and has seen this.
  abbrev pub with_front : Knowledge F C E → List E → Knowledge F C E
  with_front k seen = record k { seen = seen; has_front = true }

  abbrev pub without_front : Knowledge F C E → Knowledge F C E
  without_front k = record k { has_front = false }

  -- It has the commit, and has seen this. Of room it knows nothing yet.
  abbrev pub with_commit : Knowledge F C E → List E → Knowledge F C E
  with_commit k seen = record k { seen = seen; has_commit = true; has_room = false }

  abbrev pub without_commit : Knowledge F C E → Knowledge F C E
  without_commit k = record k { has_commit = false; has_room = false }

  -- It has made this entry, with the next number.
  abbrev pub with_entry : Knowledge F C E → E → Knowledge F C E
  with_entry k e = record k { seen = k.seen ++ e ∷ []; own = k.own ++ (height_of k + 1, e) ∷ []; has_room = false }

  -- It has seen the height. Where it has the commit and the height is below 2^63, that stays so until its own next entry.
  abbrev pub with_look : Knowledge F C E → Knowledge F C E
  with_look k = record k { has_room = cond (nat_lt (height_of k) (2 ^ 63)) k.has_commit k.has_room }

  -- This much of its weight was split off.
  abbrev pub after_split : ℕ → Knowledge F C E → Knowledge F C E
  after_split weight k = record k { weight = k.weight - weight }

  -- the new seat, which has made nothing, has seen the same and holds nothing
  abbrev pub split_off : ℕ → Knowledge F C E → Knowledge F C E
  split_off weight k = record k { weight = weight; own = []; has_commit = false; has_front = false; has_room = false }

  -- what a seat knows that another was joined to: the own lists by number, and the longer of what was seen
  abbrev pub after_join : Knowledge F C E → Knowledge F C E → Knowledge F C E
  after_join k other = record k { weight = k.weight + other.weight; own = both_by_number k.own other.own; seen = longer k.seen other.seen; heard = [] }

  -- the same, as long as it has both lists in mind of which one begins with the other
  abbrev pub just_joined : Knowledge F C E → Knowledge F C E → Knowledge F C E
  just_joined k other = record (after_join k other) { heard = k.seen ∷ other.seen ∷ [] }

  abbrev pub with_nothing_heard : Knowledge F C E → Knowledge F C E
  with_nothing_heard k = record k { heard = [] }
