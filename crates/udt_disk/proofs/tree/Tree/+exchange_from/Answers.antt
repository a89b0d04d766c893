use Rattle.std.proofs.Common.{rules}
use Rattle.udt_disk.proofs.Trees.{fork_others}
use Rattle.udt_disk.proofs.tree.Tree.+exchange_from.Goals as goal

pub returns-then-eq-clause-others : goal.returns-then-eq-clause-others
returns-then-eq-clause-others t c = fork_others c.args.self.now c.in-Fork.fork c.deref_mut.result.now c.args.entry c.replace.new.dest c.in-Fork.is c.deref_mut.ensures.value c.replace.ensures.after (search rules)
