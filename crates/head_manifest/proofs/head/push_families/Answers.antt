use Rattle.std.proofs.Common.{subst, arith}
use Rattle.std.proofs.lemmas.List.Elements.{All-more}
use Rattle.head_manifest.specs.Heads.{IsNamed}
use Rattle.head_manifest.proofs.Writing.{text_more}
use Rattle.head_manifest.proofs.head.push_families.Goals as goal

pub loop-family-preserved : goal.loop-family-preserved
loop-family-preserved c =
    let families = c.args.families.now in
    let i = c.loop-family.family-index in
    let f = c.family-item.result in
    record {
      text = text_more families i f c.args.body.now.items c.loop-family.body.items c.push_family.new.body.items (omega arith) c.family-item.is c.loop-family.invariant.text c.in_ok-push_family.ensures.text;
      named = All-more IsNamed families i f (omega arith) c.loop-family.invariant.named (subst IsNamed c.family-item.is c.in_ok-push_family.ensures.named);
    }
