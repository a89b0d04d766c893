use Rattle.std.proofs.Common.{Bool, ◌&&◌}
use Rattle.std.specs.Prelude.{◌==◌, nat_le, nat_lt}
use Rattle.ts_key.specs.declared.version.Version.{Version}
use Rattle.udt_model.specs.Versions.{between}
use Rattle.collection_laws.proofs.Collects.{filter_more, filter_end}
use Rattle.floor_core.proofs.lists.between_of.Goals as goal

pub loop-v-preserved : goal.loop-v-preserved
loop-v-preserved c =
    let vs = c.args.versions.now in
    let family = c.args.family in
    let low = c.args.low in
    let high = c.args.high in
    let p : Version → Bool = λ (v : Version). v.family.0 == family.0 && nat_lt low.0 v.seq.0 && nat_le v.seq.0 high.0 in
    filter_more p vs c.loop-v.kept.items c.push_if.new.kept.items (between family low.0 high.0 vs) c.loop-v.v-index c.v-item.result c.loop-v-test.true c.v-item.is c.lies_between.result c.lies_between.ensures c.loop-v.invariant c.in_ok-push_if.ensures

pub returns : goal.returns
returns c =
    let vs = c.args.versions.now in
    let family = c.args.family in
    let low = c.args.low in
    let high = c.args.high in
    let p : Version → Bool = λ (v : Version). v.family.0 == family.0 && nat_lt low.0 v.seq.0 && nat_le v.seq.0 high.0 in
    filter_end p vs c.loop-v.kept.items (between family low.0 high.0 vs) c.loop-v.v-index c.loop-v-test.false c.loop-v.invariant
