use Rattle.std.proofs.Common.{Bool, not}
use Rattle.std.specs.Prelude.{filter, ◌==◌}
use Rattle.udt_model.specs.State.{Snap}
use Rattle.floor_core.proofs.Picked.{filtered_more, filtered_all}
use Rattle.floor_core.proofs.parts.other_snaps.Goals as goal

pub loop-s-preserved : goal.loop-s-preserved
loop-s-preserved c =
    let xs = c.args.snaps.now in
    let p : Snap → Bool = λ (s : Snap). not (s.event == c.args.id) in
    filtered_more p xs c.loop-s.s-index c.s-item.result c.loop-s.kept.items c.push_snap.new.kept.items (filter p xs) c.is_other.result c.loop-s-test.true c.s-item.is c.is_other.ensures c.loop-s.invariant c.in_ok-push_snap.ensures

pub returns : goal.returns
returns c =
    let xs = c.args.snaps.now in
    let p : Snap → Bool = λ (s : Snap). not (s.event == c.args.id) in
    filtered_all p xs c.loop-s.s-index c.loop-s.kept.items (filter p xs) c.loop-s-test.false c.loop-s.invariant
