-- What clauses say of a gate and its seats.
use Rattle.std.specs.Prelude.{◌≡◌, ℕ, false, List}
use Rattle.sv_gate.specs.declared.shown.Origin.{Origin}
use Rattle.sv_gate.specs.declared.rule.Knowledge.{Knowledge}
use Rattle.sv_gate.specs.declared.gate.Gate.{Gate}
use Rattle.sv_gate.specs.declared.seat.GateSeat.{GateSeat}
use Rattle.sv_gate.specs.Knowledge.{height_of}
use Rattle.sv_gate.specs.Seats.{IsOf}

module _ {F C E : Type 0} where
  -- what the gate began with
  abbrev pub origin : Gate F C E → Origin F C
  origin gate = gate.table.shared.key

module _ {F C E : Type 0} where
  -- what the seat knows
  abbrev pub known : GateSeat F C E → Knowledge F C E
  known seat = seat.inner.me.0

  abbrev pub seat_weight : GateSeat F C E → ℕ
  seat_weight seat = seat.inner.me.0.weight

  -- the entries that were made with the seat, each beside its number
  abbrev pub own : GateSeat F C E → List (ℕ × E)
  own seat = seat.inner.me.0.own

  -- the beginning of the history that the seat has seen
  abbrev pub seen : GateSeat F C E → List E
  seen seat = seat.inner.me.0.seen

  -- the number of the last entry of that
  abbrev pub seen_height : GateSeat F C E → ℕ
  seen_height seat = height_of seat.inner.me.0

  -- the seat has neither the front nor the commit
  pub record HoldsNothing (seat : GateSeat F C E) : Type 0 where
    pub no_front : seat.inner.me.0.has_front ≡ false
    pub no_commit : seat.inner.me.0.has_commit ≡ false

  -- the seat was made by the gate
  abbrev pub IsSeatOf : Gate F C E → GateSeat F C E → Type 0
  IsSeatOf gate seat = IsOf gate.table.shared.table_id gate.table.shared.key seat.inner

  -- it is a seat of the gate, and this is all that it knows
  pub record Knows (gate : Gate F C E) (seat : GateSeat F C E) (all : Knowledge F C E) : Type 0 where
    pub of_gate : IsSeatOf gate seat
    pub is : seat.inner.me.0 ≡ all

  -- a seat of the gate that holds nothing
  pub record IsReady (gate : Gate F C E) (seat : GateSeat F C E) : Type 0 where
    pub of_gate : IsSeatOf gate seat
    pub empty : HoldsNothing seat
