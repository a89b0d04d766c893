use Rattle.std.proofs.Common.{List, ◌++◌, sym, ap, ◌∙◌}
use Rattle.ts_key.specs.declared.version.Version.{Version}
use Rattle.udt_model.specs.Collecting.{collect}
use Rattle.history_gc.specs.Collecting.{state}
use Rattle.history_gc.proofs.Steps.{finished_is}
use Rattle.history_gc.proofs.collector.Collector.finish.Goals as goal

pub returns-clause-finished : goal.returns-clause-finished
returns-clause-finished c = λ ps qs h.
    let x = c.args.self.now in
    let s = c.settle.ensures in
    record {
      decided = s.decided;
      all = ap (λ (xs : List Version). qs ++ xs) (s.trimmed h.inside.key h.inside.of_run)
          ∙ finished_is x.floor x.seqs.items x.deeper.now (state x) ps qs h.inside
          ∙ (λ i. collect ps (sym s.alike.floor i) (sym s.alike.snapshots i) (sym s.alike.spans i));
    }
