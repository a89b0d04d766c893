use Rattle.std.proofs.Common.{max, min, refl, sym, ap, ◌∙◌}
use Rattle.block_table.proofs.Tallying.{tally_more}
use Rattle.block_table.proofs.tally.Tally.and.Goals as goal

pub returns-clause-tally : goal.returns-clause-tally
returns-clause-tally c = λ vs v is ts seq.
    tally_more c.args.self _ vs v is refl (c.min-least.ensures ∙ ap (min c.args.self.least_seq.0) (sym seq)) (c.max-greatest.ensures ∙ ap (max c.args.self.greatest_seq.0) (sym seq)) (c.max-stamp.ensures ∙ ap (max c.args.self.greatest_ts.0) (sym ts))
