use Rattle.std.proofs.Common.{◌≡◌, ◌+◌, ◌++◌, List, drop, ap, sym, subst, ◌∙◌}
use Rattle.udt_model.specs.State.{FamilyState}
use Rattle.floor_core.specs.Cores.{CoreState}
use Rattle.floor_core.specs.Machine.{kept_families}
use Rattle.floor_core.proofs.Picked.{kept_more, kept_all}
use Rattle.floor_core.proofs.machine.Core.pinned_families.Goals as goal

pub loop-i-preserved : goal.loop-i-preserved
loop-i-preserved c =
    let m = c.args.self.now.store in
    let all = kept_families m 0 m.families in
    let i = c.loop-i.i in
    let kept = c.loop-i.kept.items in
    let new = c.push.new.self.items in
    let e : c.deref-f-items.result.now ≡ m.families = c.deref-f-items.ensures.value ∙ ap (λ (v : CoreState). v.store.families) c.self.view_is in
    subst (λ (z : List FamilyState). new ++ kept_families m (i + 1) (drop (i + 1) z) ≡ all) e
    (kept_more m c.deref-f-items.result.now i c.f-item.result c.in_ok-pinned_family.field-0 kept new all c.loop-i-test.true c.f-item.is c.in_ok-pinned_family.ensures
    (subst (λ (z : List FamilyState). kept ++ kept_families m i (drop i z) ≡ all) (sym e) c.loop-i.invariant) c.in_ok-push.ensures.items)

pub returns : goal.returns
returns c =
    let m = c.args.self.now.store in
    let all = kept_families m 0 m.families in
    let i = c.loop-i.i in
    let kept = c.loop-i.kept.items in
    let e : c.deref-f-items.result.now ≡ m.families = c.deref-f-items.ensures.value ∙ ap (λ (v : CoreState). v.store.families) c.self.view_is in
    kept_all m c.deref-f-items.result.now i kept all c.loop-i-test.false (subst (λ (z : List FamilyState). kept ++ kept_families m i (drop i z) ≡ all) (sym e) c.loop-i.invariant)
