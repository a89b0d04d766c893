use Rattle.std.proofs.Common.{Bool}
use Rattle.std.specs.Prelude.{nat_le}
use Rattle.ts_key.specs.declared.version.Version.{Version}
use Rattle.udt_model.specs.Versions.{up_to}
use Rattle.collection_laws.proofs.Collects.{filter_more, filter_end}
use Rattle.floor_core.proofs.lists.first_of.Goals as goal

pub loop-v-preserved : goal.loop-v-preserved
loop-v-preserved c =
    let vs = c.args.versions.now in
    let s = c.args.s in
    let p : Version → Bool = λ (v : Version). nat_le v.seq.0 s.0 in
    filter_more p vs c.loop-v.kept.items c.push_if.new.kept.items (up_to s.0 vs) c.loop-v.v-index c.v-item.result c.loop-v-test.true c.v-item.is c.is_upto.result c.is_upto.ensures c.loop-v.invariant c.in_ok-push_if.ensures

pub returns : goal.returns
returns c =
    let vs = c.args.versions.now in
    let s = c.args.s in
    let p : Version → Bool = λ (v : Version). nat_le v.seq.0 s.0 in
    filter_end p vs c.loop-v.kept.items (up_to s.0 vs) c.loop-v.v-index c.loop-v-test.false c.loop-v.invariant
