use Rattle.std.proofs.Common.{◌≡◌, rules}
use Rattle.std.specs.Arc.{arc_value}
use Rattle.std.specs.Ordering.{is_lt}
use Rattle.std.specs.List.Sorted.{IsPermutation}
use Rattle.std.proofs.lemmas.List.Sorted.{answers_always}
use Rattle.super_version.specs.Levels.{stands_before}
use Rattle.recovery.proofs.Stating.{level_from, newest_on}
use Rattle.recovery.proofs.version.newest_first.Goals as goal

pub returns : goal.returns
returns c =
    let xs = c.args.tables.items in
    let ys = c.sort_unstable_by.new.self.items in
    let moved : IsPermutation xs ys = search rules in
    level_from arc_value 0 xs ys moved
    (c.sort_unstable_by.ensures.sorted (λ a b. stands_before 0 (arc_value a) (arc_value b)) (newest_on arc_value)
    (answers_always _ _ _ (λ f a r g k. let q : (is_lt r ≡ stands_before 0 (arc_value a.0.now) (arc_value a.1.0.now)) × (g ≡ f) = search rules in q.0)))
