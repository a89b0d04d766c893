use Rattle.ts_iterator.specs.Rows.{least_key}
use Rattle.ts_iterator.proofs.Ends.{from_last}
use Rattle.ts_iterator.proofs.down.Down.new.Goals as goal

pub returns : goal.returns
returns g c = λ h.
    let a = c.args in
    from_last a.floor (least_key a.low) a.high a.t.0 a.s.0 (g.C.Placed.place a.cursor) (g.C.Placed.items a.cursor) (g.C.Placed.ordered a.cursor) h
