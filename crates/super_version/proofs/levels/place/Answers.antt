use Rattle.std.proofs.Common.{◌≡◌, ◌∷◌, ◌++◌, map, take, drop, ap, ◌∙◌}
use Rattle.std.specs.Arc.{arc_value}
use Rattle.super_version.specs.Live.{Live}
use Rattle.super_version.specs.Levels.{count_before}
use Rattle.super_version.proofs.Lists.{between}
use Rattle.super_version.proofs.Placing.{placed_parts}
use Rattle.super_version.proofs.levels.place.Goals as goal

pub returns : goal.returns
returns c =
    let xs = c.args.tables.now in
    let t = c.args.table.now in
    let item = c.in_ok-new.field-0 in
    let out = c.share-2.new.out.items in
    let before = c.split_at.result.0.now in
    let after = c.split_at.result.1.now in
    let n = count_before c.args.level t (map arc_value xs) in
    let parts : map arc_value out ≡ map arc_value before ++ arc_value item ∷ map arc_value after =
    between arc_value c.in_ok-all.all.items c.share.new.out.items c.push.new.self.items out before after item c.in_ok-all.ensures.items c.in_ok-share.ensures c.in_ok-push.ensures.items c.in_ok-share-2.ensures in
    parts
    ∙ ap (λ l. map arc_value l ++ arc_value item ∷ map arc_value after) (c.split_at.ensures.front ∙ ap (λ k. take k xs) c.place_of.ensures.count)
    ∙ ap (λ l. map arc_value (take n xs) ++ arc_value item ∷ map arc_value l) (c.split_at.ensures.back ∙ ap (λ k. drop k xs) c.place_of.ensures.count)
    ∙ ap (λ (v : Live). map arc_value (take n xs) ++ v ∷ map arc_value (drop n xs)) (c.in_ok-new.ensures.ok ∙ c.in_ok-copy.ensures)
    ∙ placed_parts arc_value c.args.level t xs
