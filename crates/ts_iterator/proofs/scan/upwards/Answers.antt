use Rattle.std.proofs.Common.{ℕ, ◌+◌, List, Option, sym, ap, ◌∙◌}
use Rattle.std.specs.Option.{option_copied}
use Rattle.ts_key.specs.Items.{Item}
use Rattle.ts_key.specs.Lists.{below, stored_items}
use Rattle.ts_iterator.specs.Rows.{least_key, range_rows}
use Rattle.ts_iterator.specs.Sources.{runs_and_tables}
use Rattle.ts_iterator.proofs.Merged.{merged_rows}
use Rattle.ts_iterator.proofs.Ranges.{start}
use Rattle.ts_iterator.proofs.scan.upwards.Goals as goal

pub returns : goal.returns
returns c =
    let f = c.args.state.now in
    let low = least_key (option_copied c.args.low) in
    let high = option_copied c.args.high in
    let t = c.args.t.0 in
    let s = c.args.s.0 in
    let is = c.in_ok-walk.ensures.walked in
    let all = stored_items (runs_and_tables f) in
    c.new-up.ensures low (c.in_ok-walk.ensures.place ∙ ap (λ (vs : List Item). below (start f.floor t s high low) vs + 1) (sym is))
    ∙ ap (λ (vs : List Item). range_rows vs f.floor low c.in_ok-bound.field-0 t s) is
    ∙ ap (λ (h : Option (List ℕ)). range_rows all f.floor low h t s) c.in_ok-bound.ensures
    ∙ merged_rows f.floor low high t s f
