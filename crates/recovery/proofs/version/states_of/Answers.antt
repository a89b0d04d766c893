use Rattle.std.proofs.Common.{◌+◌, map, sym, subst, arith}
use Rattle.std.specs.Arc.{arc_value}
use Rattle.recovery.specs.Versions.{AreStates}
use Rattle.recovery.proofs.Stating.{get_at, shared_push, state_more}
use Rattle.recovery.proofs.version.states_of.Goals as goal

pub loop-index-preserved : goal.loop-index-preserved
loop-index-preserved c =
    let opened = c.args.opened.now in
    let versions = c.args.versions.now in
    let families = c.args.families.now in
    let index = c.loop-index.index in
    let f = c.index-families-index.result in
    let state = c.in_ok-state.state in
    let xs = c.loop-index.states.items in
    let here = get_at families index f (omega arith) c.index-families-index.is in
    subst (AreStates opened versions families (index + 1)) (sym (shared_push arc_value xs c.push.new.self.items c.in_ok-new.field-0 state c.in_ok-push.ensures.items c.in_ok-new.ensures.ok))
    (state_more opened versions families index (map arc_value xs) f state c.loop-index.invariant here c.in_ok-state.ensures)
