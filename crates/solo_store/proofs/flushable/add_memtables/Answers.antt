use Rattle.std.proofs.Common.{ℕ, List, map, sym, ap, ◌∙◌, ◌++◌, subst, take}
use Rattle.std.specs.Arc.{arc_value}
use Rattle.memtable.specs.Memtables.{Memtable, versions_of_memtable}
use Rattle.flush_job.specs.Walks.{versions_of_all}
use Rattle.solo_store.specs.Flushable.{AreVersionsSpelled, sequence_of}
use Rattle.solo_store.proofs.Sequences.{all_more, numbers_joined, spelled_more}
use Rattle.solo_store.proofs.flushable.add_memtables.Goals as goal

pub loop-mem-preserved : goal.loop-mem-preserved
loop-mem-preserved c =
    let before = versions_of_all (map arc_value (take c.loop-mem.mem-index c.args.mems.now)) in
    let own = versions_of_memtable (arc_value c.mem-item.result) in
    let more = all_more arc_value c.args.mems.now c.loop-mem.mem-index c.mem-item.result c.loop-mem-test.true c.mem-item.is in
    let inv = c.loop-mem.invariant in
    record {
      spelled = subst (AreVersionsSpelled c.args.family) (sym more) (spelled_more c.args.family before own inv.spelled (subst (λ (mem : Memtable). AreVersionsSpelled c.args.family (versions_of_memtable mem)) c.as_ref.ensures (c.in_ok-add_memtable.ensures.spelled c.if-not-branch.false)));
      numbers =
          let added = c.in_ok-add_memtable.ensures.numbers c.if-not-branch.false in
          let mem = c.as_ref.ensures in
          let joined = numbers_joined c.args.numbers.now.items before own in
          rw more (rw mem at added ∙ (ap (λ (ns : List ℕ). ns ++ map sequence_of own) inv.numbers ∙ joined));
    }
