use Rattle.std.proofs.Common.{rules, arith}
use Rattle.recovery.proofs.Spans.{fitting_from, fitting_told}
use Rattle.recovery.proofs.tables.fits.Goals as goal

pub returns-then-family-p-2-clause-no : goal.returns-then-family-p-2-clause-no
returns-then-family-p-2-clause-no c =
    λ fitting. (let told = fitting_told c.args.number c.args.family.now c.args.table.now.contents c.properties-p.result.now c.properties-p.ensures fitting in absurd (omega (arith, told.most)))

pub returns-clause-yes : goal.returns-clause-yes
returns-clause-yes c =
    fitting_from c.args.number c.args.family.now c.args.table.now.contents c.properties-p.result.now c.properties-p.ensures (omega arith) (search rules) (omega arith) (omega arith)
