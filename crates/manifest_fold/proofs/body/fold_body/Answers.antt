use Rattle.std.proofs.lemmas.Bool.{iff_false}
use Rattle.manifest_fold.proofs.Prefixes.{refused_leads}
use Rattle.manifest_fold.proofs.body.fold_body.Goals as goal

pub returns-then-not-accepts : goal.returns-then-not-accepts
returns-then-not-accepts c =
    let is = rw c.in-Some.is at c.in_ok-edit.ensures in
    refused_leads c.args.fold c.args.body.now c.in-Some.edit is (iff_false c.accepts.ensures c.if-not-accepts.true)
