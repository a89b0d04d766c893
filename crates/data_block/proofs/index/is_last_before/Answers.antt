use Rattle.std.proofs.Common.{◌≡◌, ◌+◌, ◌-◌, ◌<◌, length, sym, ◌∙◌, arith}
use Rattle.std.proofs.lemmas.Bool.{eqb-false}
use Rattle.ts_key.specs.Order.{sort_key_of}
use Rattle.data_block.proofs.Filled.{ends_told}
use Rattle.data_block.proofs.index.is_last_before.Goals as goal

pub returns : goal.returns
returns c =
    let es = c.args.entries.now in
    let ne = eqb-false _ 0 (sym c.is_empty.ensures ∙ c.if-is_empty.false) in
    let some : 0 < length es = omega (arith, ne) in
    let at : length es - 1 + 1 ≡ length es = omega arith in
    ends_told c.args.keys.now c.args.image.now es (length es - 1) _ (sort_key_of c.args.to.now) c.is_before.result some at c.is_before.ensures
