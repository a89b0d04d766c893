use Rattle.std.proofs.Common.{not, ap}
use Rattle.udt_model.specs.Collecting.{is_useless, without_useless}
use Rattle.collection_laws.proofs.Collects.{filter_more, filter_end}
use Rattle.collection_laws.proofs.collect.keep_useful.Goals as goal

pub loop-v-preserved : goal.loop-v-preserved
loop-v-preserved c =
    let vs = c.args.kept.now in
    let f = c.args.floor in
    let dd = c.args.deeper.now in
    filter_more (λ v. not (is_useless vs f dd v)) vs c.loop-v.useful.items c.push_if.new.kept.items (without_useless f dd vs) c.loop-v.v-index c.v-item.result c.loop-v-test.true c.v-item.is (not c.has_no_use.result) (ap not c.has_no_use.ensures) c.loop-v.invariant c.in_ok-push_if.ensures

pub returns : goal.returns
returns c =
    let vs = c.args.kept.now in
    let f = c.args.floor in
    let dd = c.args.deeper.now in
    filter_end (λ v. not (is_useless vs f dd v)) vs c.loop-v.useful.items (without_useless f dd vs) c.loop-v.v-index c.loop-v-test.false c.loop-v.invariant
