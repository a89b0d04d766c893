use Rattle.std.proofs.Common.{sym, ◌∙◌}
use Rattle.ts_key.specs.Order.{sort_key_of}
use Rattle.data_block.proofs.Nexts.{unvalued, unkeyed}
use Rattle.data_block.proofs.entry.key_at.Goals as goal

pub returns-in-Err : goal.returns-in-Err
returns-in-Err c = λ n last j k. unkeyed c.args.form n last c.args.f.now c.requires (λ l kind hl e. c.in-Err.ensures l kind hl (k ∙ e))

pub returns-then-not-is_value : goal.returns-then-not-is_value
returns-then-not-is_value c = λ n last j k. unvalued c.args.form n last c.args.f.now (sort_key_of c.in-Ok.k) c.in-Ok.kind c.requires c.in-Ok.ensures.0 (sym k ∙ c.in-Ok.ensures.1) (λ h. let t = c.is_value.ensures.1 h in let f = c.if-not-is_value.true in cc)
