use Rattle.std.proofs.Common.{◌≡◌, ℕ, ◌<◌, ◌∷◌, ◌++◌, length, map, drop, sym, ap, subst, ◌∙◌}
use Rattle.std.specs.Prelude.{slice_set}
use Rattle.std.specs.Arc.{arc_value}
use Rattle.std.proofs.lemmas.Result.{IfOk-weaker}
use Rattle.super_version.proofs.Lists.{between, in_place, length_map}
use Rattle.super_version.proofs.shared.SharedList.with_item.Goals as goal

pub returns : goal.returns
returns g c =
    let xs = c.as_slice.result.now in
    let item = c.args.item in
    let n = c.args.index in
    let within : n < length xs = subst (λ (k : ℕ). n < k) (sym (ap length c.as_slice.ensures) ∙ length_map arc_value xs) c.requires in
    let out = c.share-2.new.out.items in
    let before = c.split_at.result.0.now in
    let after = c.split_at-2.result.1.now in
    let parts : map arc_value out ≡ map arc_value before ++ arc_value item ∷ map arc_value after =
    between arc_value c.in_ok-items.items.items c.share.new.out.items c.push.new.self.items out before after item c.in_ok-items.ensures.items c.in_ok-share.ensures c.in_ok-push.ensures.items c.in_ok-share-2.ensures in
    let is : map arc_value out ≡ slice_set c.args.self.now n (arc_value item) =
    in_place arc_value out before after xs item n parts c.split_at.ensures.front (c.split_at-2.ensures.back ∙ ap (drop 1) c.split_at.ensures.back) within
    ∙ ap (λ l. slice_set l n (arc_value item)) c.as_slice.ensures in
    IfOk-weaker c.of.result (λ list. list ≡ map arc_value out) (λ list. list ≡ slice_set c.args.self.now n (arc_value item)) (λ list e. e ∙ is) c.of.ensures
