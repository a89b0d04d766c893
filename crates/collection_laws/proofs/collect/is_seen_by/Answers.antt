use Rattle.std.proofs.Common.{not, ◌&&◌, sym, ap, ◌∙◌}
use Rattle.std.proofs.lemmas.Bool.{le-leb}
use Rattle.udt_model.specs.Versions.{up_to}
use Rattle.udt_model.specs.Collecting.{is_hidden}
use Rattle.collection_laws.proofs.Collects.{hidden_up_to}
use Rattle.collection_laws.proofs.collect.is_seen_by.Goals as goal

pub returns-then-v-s : goal.returns-then-v-s
returns-then-v-s c =
    let vs = c.args.versions.now in
    let v = c.args.v.now in
    let s = c.args.s in
    ap not (c.is_hidden_from.ensures ∙ sym (hidden_up_to vs c.args.floor v s))
    ∙ sym (ap (λ b. b && not (is_hidden (up_to s.0 vs) c.args.floor v)) (le-leb v.seq.0 s.0 c.if-v-s.true))
