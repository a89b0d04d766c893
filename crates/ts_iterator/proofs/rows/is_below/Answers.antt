use Rattle.std.proofs.Common.{sym, ap, ◌∙◌}
use Rattle.std.specs.Prelude.{Option, List, ℕ}
use Rattle.udt_model.specs.Orders.{is_below as is_below_key}
use Rattle.ts_iterator.specs.Rows.{least_key}
use Rattle.ts_iterator.proofs.Whole.{none_below_empty}
use Rattle.ts_iterator.proofs.rows.is_below.Goals as goal

pub returns-in-None : goal.returns-in-None
returns-in-None c = sym (ap (λ (low : Option (List ℕ)). is_below_key c.args.key.now (least_key low)) c.in-None.is ∙ none_below_empty c.args.key.now)
