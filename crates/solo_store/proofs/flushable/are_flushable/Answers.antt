use Rattle.std.proofs.Common.{ℕ, List, arith, ap, ◌++◌, ◌∙◌, map, subst}
use Rattle.std.specs.Arc.{arc_value}
use Rattle.std.specs.List.Sorted.{IsPermutation, IsStrictlyIncreasing}
use Rattle.flush_job.specs.Walks.{versions_of_all}
use Rattle.solo_store.specs.Flushable.{sequence_of}
use Rattle.solo_store.proofs.Sequences.{flushable_of}
use Rattle.solo_store.proofs.flushable.are_flushable.Goals as goal

pub returns : goal.returns
returns c = λ rises.
    let vs = versions_of_all (map arc_value c.args.mems.now) in
    let added = c.in_ok-add_memtables.ensures in
    flushable_of c.args.family vs c.sort_unstable.new.self.items (let some = c.if-is_empty.ensures in let len = c.sort_unstable.ensures.len in grind (arith, some, len)) (added.spelled c.if-not-branch.false)
    (subst (λ ns. IsPermutation ns c.sort_unstable.new.self.items) (added.numbers c.if-not-branch.false ∙ ap (λ (ns : List ℕ). ns ++ map sequence_of vs) c.new-numbers.ensures.items) c.sort_unstable.ensures.permutation) (subst IsStrictlyIncreasing c.deref.ensures.value (c.rise.ensures rises))
