use Rattle.std.proofs.Common.{map}
use Rattle.std.specs.Arc.{arc_value}
use Rattle.recovery.proofs.Meetings.{first_on_level, level_files}
use Rattle.recovery.proofs.meeting.first_on.Goals as goal

pub returns : goal.returns
returns c files =
    let family = c.args.family in
    let level = c.args.level in
    let opened = c.args.opened.now in
    let tables = map arc_value c.in_ok-tables_on.field-0.items in
    let shown = map arc_value c.least_first-tables.result.items in
    let sorted = c.least_first-tables.ensures in
    let first = rw c.deref.ensures.value at c.first_along.ensures in
    first_on_level family level opened tables shown c.in_ok-tables_on.ensures sorted.same c.first_along.result c.requires (first (level_files family level opened tables shown c.in_ok-tables_on.ensures sorted.same files))
