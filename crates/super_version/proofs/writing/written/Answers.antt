use Rattle.std.proofs.Common.{◌≡◌, [], sym, ap, subst, ◌∙◌}
use Rattle.std.specs.Prelude.{All}
use Rattle.std.specs.Arc.{arc_value}
use Rattle.std.proofs.lemmas.Result.{IfOk-weaker}
use Rattle.ts_key.specs.declared.numbers.Family.{Family}
use Rattle.ts_key.specs.declared.version.Version.{Version}
use Rattle.udt_model.specs.Versions.{logged}
use Rattle.memtable.proofs.Sums.{empty_is}
use Rattle.super_version.specs.declared.family.FamilyState.{FamilyState}
use Rattle.super_version.specs.Writes.{IsWrittenTo, of_family}
use Rattle.super_version.proofs.Written.{all_own, stays_same}
use Rattle.super_version.proofs.writing.written.Goals as goal

pub returns-then-is_empty : goal.returns-then-is_empty
returns-then-is_empty c =
    let f = arc_value c.args.state.now in
    let vs = logged c.args.first c.args.ops.now in
    let own = c.as_slice-own.result.now in
    let family : c.family-family.result ≡ f.active.family = c.family-family.ensures ∙ ap (λ (g : FamilyState). g.active.family) c.as_ref.ensures in
    let is : own ≡ of_family f.active.family vs = c.as_slice-own.ensures.value ∙ c.in_ok-versions.ensures ∙ ap (λ (n : Family). of_family n vs) family in
    let none : own ≡ [] = empty_is own (sym c.is_empty.ensures ∙ c.if-is_empty.true) in
    IfOk-weaker c.try_clone.result (λ new. arc_value new ≡ f) (λ new. IsWrittenTo (of_family f.active.family vs) f (arc_value new))
    (λ new e. stays_same (of_family f.active.family vs) f (arc_value new) (sym is ∙ none) e) c.try_clone.ensures

pub with_versions-requires : goal.with_versions-requires
with_versions-requires c =
    let g = c.as_ref-2.result.now in
    let vs = logged c.args.first c.args.ops.now in
    let own = c.as_slice-own.result.now in
    let family : c.family-family.result ≡ g.active.family = c.family-family.ensures ∙ ap (λ (h : FamilyState). h.active.family) (c.as_ref.ensures ∙ sym c.as_ref-2.ensures) in
    let is : own ≡ of_family g.active.family vs = c.as_slice-own.ensures.value ∙ c.in_ok-versions.ensures ∙ ap (λ (n : Family). of_family n vs) family in
    subst (All (λ (v : Version). v.family ≡ g.active.family)) (sym is) (all_own g.active.family vs)
