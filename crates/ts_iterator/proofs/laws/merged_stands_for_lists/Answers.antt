use Rattle.std.proofs.Common.{sym, ◌∙◌}
use Rattle.ts_key.specs.Lists.{stored_items}
use Rattle.super_version.specs.Contents.{items_of_family}
use Rattle.ts_iterator.specs.Rows.{least_key}
use Rattle.ts_iterator.specs.Sources.{runs_and_tables}
use Rattle.ts_iterator.proofs.Merged.{merged_rows}
use Rattle.ts_iterator.proofs.Whole.{whole_rows}
use Rattle.ts_iterator.proofs.laws.merged_stands_for_lists.Goals as goal

pub returns : goal.returns
returns c = λ family f floor range t s.
    whole_rows family floor (stored_items (runs_and_tables f)) t s range
    ∙ merged_rows floor (least_key range.low) range.high t.0 s.0 f
    ∙ sym (whole_rows family floor (items_of_family f) t s range)
