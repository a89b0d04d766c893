use Rattle.std.proofs.Common.{◌≡◌, ◌∷◌, sym, ap, ◌∙◌}
use Rattle.std.specs.Prelude.{slice_set}
use Rattle.std.specs.Arc.{arc_value}
use Rattle.std.proofs.lemmas.Result.{IfOk-weaker}
use Rattle.super_version.specs.Live.{Live}
use Rattle.super_version.specs.Changes.{in_front, with_level}
use Rattle.super_version.proofs.Lists.{changed_none, changed_to}
use Rattle.super_version.proofs.levels.with_front.Goals as goal

pub returns-in-None : goal.returns-in-None
returns-in-None c =
    let levels = c.args.levels.now in
    let t = c.args.table in
    IfOk-weaker c.copy.result (λ new. new ≡ levels) (λ new. new ≡ with_level 0 (in_front t) levels)
    (λ new e. e ∙ changed_none 0 (in_front t) levels (sym c.in-None.ensures)) c.copy.ensures

pub returns-in_ok-new-in-Some-2 : goal.returns-in_ok-new-in-Some-2
returns-in_ok-new-in-Some-2 c =
    let levels = c.args.levels.now in
    let t = c.args.table in
    let tables = c.in-Some.tables.now in
    let item = c.in_ok-new-in-Some-2.field-0 in
    let is : arc_value item ≡ in_front t tables = c.in_ok-new-in-Some-2.ensures.ok ∙ c.in_ok-tables-in-Some.ensures ∙ ap (λ (v : Live). v ∷ tables) c.in_ok-new-in-Some.ensures.ok in
    IfOk-weaker c.with_item.result (λ new. new ≡ slice_set levels 0 (arc_value item)) (λ new. new ≡ with_level 0 (in_front t) levels)
    (λ new e. e ∙ changed_to 0 (in_front t) levels tables (arc_value item) c.in-Some.ensures is) c.with_item.ensures
