use Rattle.udt_model.specs.Collecting.{is_ever_seen, seen_of}
use Rattle.collection_laws.proofs.Collects.{filter_more, filter_end}
use Rattle.collection_laws.proofs.collect.keep_seen.Goals as goal

pub loop-v-preserved : goal.loop-v-preserved
loop-v-preserved c =
    let vs = c.args.versions.now in
    let f = c.args.floor in
    let ss = c.args.seqs.now in
    filter_more (is_ever_seen vs f ss) vs c.loop-v.kept.items c.push_if.new.kept.items (seen_of vs f ss) c.loop-v.v-index c.v-item.result c.loop-v-test.true c.v-item.is c.is_seen_at_all.result c.is_seen_at_all.ensures c.loop-v.invariant c.in_ok-push_if.ensures

pub returns : goal.returns
returns c =
    let vs = c.args.versions.now in
    let f = c.args.floor in
    let ss = c.args.seqs.now in
    filter_end (is_ever_seen vs f ss) vs c.loop-v.kept.items (seen_of vs f ss) c.loop-v.v-index c.loop-v-test.false c.loop-v.invariant
