use Rattle.history_gc.proofs.collector.Collector.settle_unless.Goals as goal

pub returns-then-not-same_key-clause-closed : goal.returns-then-not-same_key-clause-closed
returns-then-not-same_key-clause-closed c = λ e k a. (c.settle.ensures.trimmed k a, c.settle.ensures.decided)
