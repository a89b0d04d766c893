use Rattle.std.proofs.Common.{◌≡◌, sym, ap, ◌∙◌}
use Rattle.std.specs.Prelude.{slice_set}
use Rattle.std.specs.Arc.{arc_value}
use Rattle.std.proofs.lemmas.Result.{IfOk-weaker}
use Rattle.super_version.specs.Levels.{item_changed_at, compacted_levels, placed_all}
use Rattle.super_version.proofs.Lists.{changed_none, changed_to, inside}
use Rattle.super_version.proofs.levels.compacted.Goals as goal

pub returns-in-None : goal.returns-in-None
returns-in-None c =
    let left = c.in_ok-left.left in
    let change = placed_all c.args.level c.args.added.now in
    IfOk-weaker c.copy.result (λ new. new ≡ left) (λ new. new ≡ compacted_levels c.args.gone.now c.args.level c.args.added.now c.args.levels.now)
    (λ new e. e ∙ changed_none c.args.level change left (sym c.in-None.ensures) ∙ ap (item_changed_at c.args.level change) c.in_ok-left.ensures) c.copy.ensures

pub with_item-requires : goal.with_item-requires
with_item-requires c = inside c.args.level c.in_ok-left.left c.in-Some.tables.now (sym c.in-Some.ensures)

pub returns : goal.returns
returns c =
    let left = c.in_ok-left.left in
    let tables = c.in-Some.tables.now in
    let change = placed_all c.args.level c.args.added.now in
    let item = c.in_ok-new-in-Some.field-0 in
    IfOk-weaker c.with_item.result (λ new. new ≡ slice_set left c.args.level (arc_value item)) (λ new. new ≡ compacted_levels c.args.gone.now c.args.level c.args.added.now c.args.levels.now)
    (λ new e. e ∙ changed_to c.args.level change left tables (arc_value item) c.in-Some.ensures (c.in_ok-new-in-Some.ensures.ok ∙ c.in_ok-tables-in-Some.ensures) ∙ ap (item_changed_at c.args.level change) c.in_ok-left.ensures) c.with_item.ensures
