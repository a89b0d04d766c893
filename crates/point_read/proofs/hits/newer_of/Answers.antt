use Rattle.std.proofs.Common.{sym, ◌∙◌}
use Rattle.point_read.proofs.Newer.{keeps_best, takes_other}
use Rattle.point_read.proofs.hits.newer_of.Goals as goal

pub returns-then-is_newer_than : goal.returns-then-is_newer_than
returns-then-is_newer_than c = λ key. takes_other key c.args.best c.args.other c.in-Some.a c.in-Some-other.b c.in-Some.is c.in-Some-other.is (sym (c.is_newer_than.ensures key) ∙ c.if-is_newer_than.true)

pub returns-else-is_newer_than : goal.returns-else-is_newer_than
returns-else-is_newer_than c = λ key. keeps_best key c.args.best c.args.other c.in-Some.a c.in-Some-other.b c.in-Some.is c.in-Some-other.is (sym (c.is_newer_than.ensures key) ∙ c.if-is_newer_than.false)
