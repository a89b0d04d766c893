use Rattle.std.proofs.Common.{Bool, List, not, ap, ◌∙◌}
use Rattle.std.specs.Prelude.{nat_lt}
use Rattle.std.specs.List.{insert, position_or_len}
use Rattle.udt_model.specs.State.{LiveTable}
use Rattle.floor_core.proofs.Flushes.{join_is}
use Rattle.floor_core.proofs.flushing.join.Goals as goal

pub returns-clause-ok : goal.returns-clause-ok
returns-clause-ok c =
    let t : LiveTable = c.args.table in
    let ts : List LiveTable = c.args.tables.now.items in
    let p : LiveTable → Bool = λ (o : LiveTable). not (nat_lt o.number t.number) in
    c.in_ok-insert.ensures.items ∙ ap (λ n. insert ts n t) (c.place_from-place.ensures.place ∙ ap (λ (z : List LiveTable). position_or_len p z) c.as_slice.ensures.value) ∙ join_is t ts
