use Rattle.std.proofs.Common.{arith}
use Rattle.history_gc.specs.Collecting.{HasFinished}
use Rattle.history_gc.proofs.Queues.{pop_is, popped_finished, none_popped, none_finished, match_map, given_from}
use Rattle.history_gc.proofs.collector.Collector.pop.Goals as goal

pub returns-then-self-eq0-clause-collected : goal.returns-then-self-eq0-clause-collected
returns-then-self-eq0-clause-collected c = λ ps qs h. none_popped c.args.self.now ps qs c.if-self-eq0.true h

pub returns-then-self-eq0-clause-finished : goal.returns-then-self-eq0-clause-finished
returns-then-self-eq0-clause-finished c = λ ps qs h. none_finished c.args.self.now ps qs c.if-self-eq0.true h

pub returns-clause-collected : goal.returns-clause-collected
returns-clause-collected c = λ ps qs h.
    let x = c.args.self.now in
    match_map c.pop_front.result _ _ _ (λ v y. given_from _ ps qs v y)
    (pop_is x.floor x.seqs.items x.deeper.now x.class x.least x.decided x.queue.items c.pop_front.new.self.items c.pop_front.result ps qs _ (omega arith) c.pop_front.ensures.items (c.pop_front.ensures.variant.1 (let n = x.queue.ok.0 in let w = x.within in omega arith)) h.inside)

pub returns-clause-finished : goal.returns-clause-finished
returns-clause-finished c = λ ps qs h.
    let x = c.args.self.now in
    match_map c.pop_front.result _ _ _ (λ v y. record { decided = y.1; all = y.0 })
    (popped_finished x c.pop_front.new.self.items c.pop_front.result ps qs _ c.pop_front.ensures.items (c.pop_front.ensures.variant.1 (let n = x.queue.ok.0 in let w = x.within in omega arith)) h)
