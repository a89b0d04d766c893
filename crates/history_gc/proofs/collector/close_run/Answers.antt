use Rattle.std.proofs.Common.{List, ◌++◌, take, sym, ap, ◌∙◌}
use Rattle.ts_key.specs.declared.version.Version.{Version}
use Rattle.history_gc.proofs.Queues.{closed_low, closed_not}
use Rattle.history_gc.proofs.collector.close_run.Goals as goal

pub returns-then-ends_low-clause-trimmed : goal.returns-then-ends_low-clause-trimmed
returns-then-ends_low-clause-trimmed c = λ k a.
    let q = c.args.queue.now.items in
    let d = c.args.decided in
    c.drop_old_deletes.ensures.items ∙ ap (λ (xs : List Version). take d q ++ xs) (closed_low c.args.floor c.args.deeper.now k q d a (sym c.ends_low.ensures ∙ c.if-ends_low.true))

pub returns-else-ends_low-clause-trimmed : goal.returns-else-ends_low-clause-trimmed
returns-else-ends_low-clause-trimmed c = λ k a. closed_not c.args.floor c.args.deeper.now c.args.queue.now.items c.args.decided (sym c.ends_low.ensures ∙ c.if-ends_low.false)
