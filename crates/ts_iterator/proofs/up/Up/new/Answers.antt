use Rattle.std.proofs.Common.{◌≡◌, ℕ, suc, None, ap, ◌∙◌, arith}
use Rattle.ts_key.specs.Lists.{below}
use Rattle.ts_iterator.specs.Rows.{rows_up}
use Rattle.ts_iterator.specs.Walks.{ahead}
use Rattle.ts_iterator.proofs.Ranges.{start, scan_is}
use Rattle.ts_iterator.proofs.up.Up.new.Goals as goal

pub returns : goal.returns
returns g c = λ low h.
    let a = c.args in
    let vs = g.C.Placed.items a.cursor in
    let n = below (start a.floor a.t.0 a.s.0 a.high low) vs in
    let q : g.C.Placed.place a.cursor ≡ suc n = omega (arith, h) in
    ap (λ (m : ℕ). rows_up a.floor a.high a.t.0 a.s.0 None (ahead m vs)) q
    ∙ scan_is a.floor a.t.0 a.s.0 a.high low vs (g.C.Placed.ordered a.cursor)
