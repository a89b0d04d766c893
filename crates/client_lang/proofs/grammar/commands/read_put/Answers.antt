use Rattle.std.proofs.Common.{◌≡◌, rules, tests}
use Rattle.std.specs.Prelude.{codes}
use Rattle.client_lang.proofs.OneOperation.{no_put, put_made}
use Rattle.client_lang.proofs.grammar.commands.read_put.Goals as goal

pub returns-in_default : goal.returns-in_default
returns-in_default c = no_put _ _ _ _ _ (rw c.in_default.is at c.in_ok-target.ensures)

pub returns-in-Some-2 : goal.returns-in-Some-2
returns-in-Some-2 c =
    let v : c.args.verb.now ≡ codes "put" = search (rules, tests) in
    put_made c.args.verb.now c.args.family.now c.args.key.now c.args.number.now c.args.value.now c.in-Some-2.value c.in-Some.target c.op.result v (rw c.in-Some.is at c.in_ok-target.ensures)
    (rw c.in-Some-2.is at c.in_ok-value.ensures) c.op.ensures
