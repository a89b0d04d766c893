use Rattle.std.proofs.Common.{◌≡◌, ◌+◌, ◌++◌, [], ◌∷◌, Some, true, map, take, sym, ap, ◌∙◌, subst, arith}
use Rattle.std.specs.Prelude.{slice_get}
use Rattle.std.specs.Arc.{arc_value}
use Rattle.store_engine.specs.Dropping.{lets_go}
use Rattle.super_version.specs.declared.family.FamilyState.{FamilyState}
use Rattle.super_version.proofs.Lists.{map_more}
use Rattle.store_engine.proofs.Loops.{get-mapped, lets_not, lets_push}
use Rattle.store_engine.proofs.install.lets_go.Goals as goal

pub returns-then-needs_log : goal.returns-then-needs_log
returns-then-needs_log c =
    let families = c.args.families.now in
    let last = c.args.last.0 in
    let i = c.loop-state.state-index in
    let f : FamilyState = c.as_ref.result.now in
    let there : slice_get (map arc_value families) i ≡ Some f = get-mapped arc_value families i c.state-item.result (omega arith) c.state-item.is ∙ ap Some (sym c.as_ref.ensures) in
    sym (lets_not last (map arc_value families) i f there (sym c.needs_log.ensures ∙ c.if-needs_log.true))

pub loop-state-preserved : goal.loop-state-preserved
loop-state-preserved c =
    let families = c.args.families.now in
    let last = c.args.last.0 in
    let i = c.loop-state.state-index in
    let f : FamilyState = c.as_ref.result.now in
    let more : map arc_value (take (i + 1) families) ≡ map arc_value (take i families) ++ f ∷ [] =
    map_more arc_value families i c.state-item.result (omega arith) c.state-item.is ∙ ap (λ x. map arc_value (take i families) ++ x ∷ []) (sym c.as_ref.ensures) in
    subst (λ fs. lets_go last fs ≡ true) (sym more) (lets_push last (map arc_value (take i families)) f c.loop-state.invariant (sym c.needs_log.ensures ∙ c.if-needs_log.false))
