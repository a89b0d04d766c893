use Rattle.std.proofs.Common.{◌≡◌, rules, tests}
use Rattle.std.specs.Prelude.{codes}
use Rattle.client_lang.proofs.OneOperation.{no_del, del_made}
use Rattle.client_lang.proofs.grammar.commands.read_del.Goals as goal

pub returns-in-None : goal.returns-in-None
returns-in-None c = no_del _ _ _ _ (rw c.in-None.is at c.in_ok-target.ensures)

pub returns-in-Some : goal.returns-in-Some
returns-in-Some c =
    let v : c.args.verb.now ≡ codes "del" = search (rules, tests) in
    del_made c.args.verb.now c.args.family.now c.args.key.now c.args.number.now c.in-Some.target c.op.result v (rw c.in-Some.is at c.in_ok-target.ensures) c.op.ensures
