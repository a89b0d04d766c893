use Rattle.std.proofs.Common.{◌≡◌, ap, ◌∙◌, rules}
use Rattle.std.proofs.lemmas.List.Sorted.{IsNonDecreasingBy-from_sort_by_key, answers_always}
use Rattle.compaction.specs.Plans.{Leveled, by_number, on_levels}
use Rattle.compaction.proofs.Numbers.{sorted_is}
use Rattle.compaction.proofs.leveled.tables_by_number.Goals as goal

pub returns : goal.returns
returns c =
    let ts = c.in_ok-tables.tables.items in
    let us = c.sort_by_key.new.self.items in
    sorted_is ts us
    (IsNonDecreasingBy-from_sort_by_key (λ (t : Leveled). t.table.number) us c.in_ok-sort_by_key.ensures.sorted (λ a r q k. search rules))
    (c.in_ok-sort_by_key.ensures.stable (λ (t : Leveled). t.table.number) (answers_always _ _ _ (λ f a r g k. let q : (r ≡ a.0.now.table.number) × (g ≡ f) = search rules in q.0)))
    ∙ ap by_number (c.in_ok-tables.ensures ∙ ap (on_levels 0) c.as_slice.ensures)
