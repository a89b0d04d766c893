use Rattle.std.proofs.Common.{◌≡◌, map}
use Rattle.std.specs.Arc.{arc_value}
use Rattle.std.proofs.lemmas.Result.{IfOk-weaker}
use Rattle.recovery.specs.Versions.{IsLevel, level_tables}
use Rattle.recovery.proofs.Stating.{level_of_kind, on_deeper, on_newest}
use Rattle.recovery.proofs.version.level_of.Goals as goal

pub returns-then-level-eq0 : goal.returns-then-level-eq0
returns-then-level-eq0 c =
    let level = c.args.level in
    let tables = level_tables c.args.family level c.args.opened.now in
    let ys = c.newest_first.result.items in
    IfOk-weaker c.of.result (λ list. list ≡ map arc_value ys) (IsLevel level tables)
    (λ list is. level_of_kind level 0 tables (map arc_value c.in_ok-tables.tables.items) list (map arc_value ys) (on_newest level c.if-level-eq0.true) c.newest_first.ensures c.in_ok-tables.ensures is)
    c.of.ensures

pub returns-else-level-eq0 : goal.returns-else-level-eq0
returns-else-level-eq0 c =
    let level = c.args.level in
    let tables = level_tables c.args.family level c.args.opened.now in
    let ys = c.least_first.result.items in
    IfOk-weaker c.of-else-level-eq0.result (λ list. list ≡ map arc_value ys) (IsLevel level tables)
    (λ list is. level_of_kind level 1 tables (map arc_value c.in_ok-tables.tables.items) list (map arc_value ys) (on_deeper level c.if-level-eq0.false) c.least_first.ensures c.in_ok-tables.ensures is)
    c.of-else-level-eq0.ensures
