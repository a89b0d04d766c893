use Rattle.std.proofs.Common.{ℕ, List, Option, reverse, sym, ap, subst, ◌∙◌}
use Rattle.std.specs.Option.{option_copied}
use Rattle.ts_key.specs.Items.{Item}
use Rattle.ts_key.specs.Lists.{stored_items}
use Rattle.ts_iterator.specs.Rows.{least_key, range_rows}
use Rattle.ts_iterator.specs.Sources.{runs_and_tables, source_walk_place, walked_sources}
use Rattle.ts_iterator.specs.Walks.{IsLastBelow}
use Rattle.ts_iterator.proofs.Merged.{merged_rows}
use Rattle.ts_iterator.proofs.scan.downwards.Goals as goal

pub returns : goal.returns
returns c =
    let f = c.args.state.now in
    let t = c.args.t.0 in
    let s = c.args.s.0 in
    let walk = c.in_ok-walk.walk in
    let is = c.in_ok-walk.ensures.walked in
    let all = stored_items (runs_and_tables f) in
    let last : IsLastBelow c.in_ok-high.high (source_walk_place walk.before walk.children.items) (walked_sources walk.children.items) =
    subst (λ (vs : List Item). IsLastBelow c.in_ok-high.high (source_walk_place walk.before walk.children.items) vs) (sym is)
    (subst (λ (h : Option (List ℕ)). IsLastBelow h (source_walk_place walk.before walk.children.items) all) (sym c.in_ok-high.ensures) c.in_ok-walk.ensures.place) in
    c.new-down.ensures last
    ∙ ap reverse (ap (λ (vs : List Item). range_rows vs f.floor (least_key c.in_ok-low.low) c.in_ok-high.high t s) is
    ∙ ap (λ (l : Option (List ℕ)). range_rows all f.floor (least_key l) c.in_ok-high.high t s) c.in_ok-low.ensures
    ∙ ap (λ (h : Option (List ℕ)). range_rows all f.floor (least_key (option_copied c.args.low)) h t s) c.in_ok-high.ensures
    ∙ merged_rows f.floor (least_key (option_copied c.args.low)) (option_copied c.args.high) t s f)
