use Rattle.std.proofs.Common.{[], rules, sym}
use Rattle.std.proofs.lemmas.List.Sorted.{IsNonDecreasingBy-from_sort_by_key}
use Rattle.ts_key.specs.declared.numbers.Seq.{Seq}
use Rattle.std.specs.List.Sorted.{IsPermutation}
use Rattle.history_gc.proofs.Queues.{start_is, collected_from, snapshots_moved}
use Rattle.history_gc.proofs.collector.Collector.with_capacity.Goals as goal

pub invariant_of-result-clause-ascending : goal.invariant_of-result-clause-ascending
invariant_of-result-clause-ascending c = IsNonDecreasingBy-from_sort_by_key (λ (s : Seq). s.0) _ c.sort_unstable_by_key.ensures.sorted (λ a r q k. search rules)

pub returns-clause-collected : goal.returns-clause-collected
returns-clause-collected c =
    collected_from _ [] [] (start_is c.args.floor c.sort_unstable_by_key.new.self.items c.args.deeper.now c.in_ok-with_capacity.field-0.items c.in_ok-with_capacity.ensures.items)

pub returns-clause-collects : goal.returns-clause-collects
returns-clause-collects c = λ ps.
    let asked = c.args.seqs.now in
    let ascending = c.sort_unstable_by_key.new.self.items in
    let moved : IsPermutation asked ascending = search rules in
    sym (snapshots_moved ps c.args.floor asked ascending c.args.deeper.now moved)
