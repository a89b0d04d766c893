use Rattle.std.proofs.Common.{◌++◌, ◌<◌, length, map, refl, ◌∙◌, arith}
use Rattle.std.proofs.lemmas.List.{take_all, drop_all, append-nil, length-set}
use Rattle.std.proofs.lemmas.List.Edits.{map_over_more}
use Rattle.udt_model.specs.Collecting.{without_ts}
use Rattle.floor_core.proofs.flushing.clear_timestamps.Goals as goal

pub loop-i-init : goal.loop-i-init
loop-i-init c = record { done = refl; same = refl }

pub loop-i-preserved : goal.loop-i-preserved
loop-i-preserved c =
    let xs = c.args.versions.now.items in
    let ys = c.loop-i.versions.items in
    let t = c.loop-i-test.true in
    let e = c.len-i-end.ensures in
    let l : c.loop-i.i < length xs = omega (arith, t, e, c.args.versions.now.ok.0) in
    record {
      done = map_over_more without_ts xs ys c.loop-i.i c.index_mut.result.now l c.loop-i.invariant.done c.index_mut.ensures.value;
      same = length-set ys c.loop-i.i (without_ts c.index_mut.result.now) ∙ c.loop-i.invariant.same;
    }

pub returns : goal.returns
returns c =
    let xs = c.args.versions.now.items in
    let t = c.loop-i-test.false in
    let e = c.len-i-end.ensures in
    c.loop-i.invariant.done
    ∙ (λ i. map without_ts (take_all c.loop-i.i xs (omega (arith, t, e, c.args.versions.now.ok.0)) i) ++ drop_all c.loop-i.i xs (omega (arith, t, e, c.args.versions.now.ok.0)) i)
    ∙ append-nil (map without_ts xs)
