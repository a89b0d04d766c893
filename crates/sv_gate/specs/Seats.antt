-- What the steps say of a seat of the table.
use Rattle.std.specs.Prelude.{◌≡◌, Some}
use Rattle.atomic_table.specs.Seated.{TableId}
use Rattle.atomic_table.specs.declared.shared.Seat.{Seat}
use Rattle.sv_gate.specs.declared.shown.Origin.{Origin}
use Rattle.sv_gate.specs.declared.rule.Content.{Content}
use Rattle.sv_gate.specs.declared.rule.Knowledge.{Knowledge}

module _ {F C E : Type 0} where
  -- what the seat knows
  abbrev pub knowledge : Seat (Content F C) (Knowledge F C E) → Knowledge F C E
  knowledge seat = seat.me.0

  -- it is a seat of the gate that began with o
  pub record IsOf (table : TableId) (o : Origin F C) (seat : Seat (Content F C) (Knowledge F C E)) : Type 0 where
    pub same_table : seat.table_id ≡ table
    pub same_origin : seat.me.0.origin ≡ Some o
    pub same_base : seat.me.0.base ≡ o.height

  -- it is the same seat of the same table
  pub record IsSameSeat (before after : Seat (Content F C) (Knowledge F C E)) : Type 0 where
    pub table : after.table_id ≡ before.table_id
    pub id : after.id ≡ before.id
