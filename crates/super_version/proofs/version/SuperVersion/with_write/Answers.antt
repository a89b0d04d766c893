use Rattle.std.proofs.Common.{◌≡◌, ◌+◌, List, [], ◌∷◌, ◌++◌, map, take, sym, ap, subst, ◌∙◌, arith}
use Rattle.std.specs.Arc.{arc_value}
use Rattle.std.proofs.lemmas.List.{map-append}
use Rattle.udt_model.specs.Versions.{logged}
use Rattle.super_version.specs.declared.family.FamilyState.{FamilyState}
use Rattle.super_version.specs.Writes.{AreWrittenTo}
use Rattle.super_version.proofs.Lists.{map_more}
use Rattle.super_version.proofs.Written.{written_more}
use Rattle.super_version.proofs.version.SuperVersion.with_write.Goals as goal

pub loop-state-preserved : goal.loop-state-preserved
loop-state-preserved c =
    let xs = c.as_slice-state-items.result.now in
    let i = c.loop-state.state-index in
    let state = c.state-item.result in
    let new = c.in_ok-written.field-0 in
    let old = c.loop-state.families.items in
    let vs = logged (c.args.self.now.last.0 + 1) c.ops-ops.result.now in
    let more : map arc_value (take (i + 1) xs) ≡ map arc_value (take i xs) ++ arc_value state ∷ [] = map_more arc_value xs i state (omega arith) c.state-item.is in
    let news : map arc_value c.push.new.self.items ≡ map arc_value old ++ arc_value new ∷ [] = ap (map arc_value) c.in_ok-push.ensures.items ∙ map-append arc_value old (new ∷ []) in
    let both : AreWrittenTo vs (map arc_value (take i xs) ++ arc_value state ∷ []) (map arc_value old ++ arc_value new ∷ []) =
    written_more vs (map arc_value (take i xs)) (map arc_value old) (arc_value state) (arc_value new) c.loop-state.invariant c.in_ok-written.ensures in
    subst (λ (l : List FamilyState). AreWrittenTo vs l (map arc_value c.push.new.self.items)) (sym more)
    (subst (AreWrittenTo vs (map arc_value (take i xs) ++ arc_value state ∷ [])) (sym news) both)
