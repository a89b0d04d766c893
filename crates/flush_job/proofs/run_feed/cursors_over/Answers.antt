use Rattle.std.proofs.Common.{◌++◌, List, map, take, ap, sym, ◌∙◌, arith}
use Rattle.std.specs.List.{flat_map}
use Rattle.std.specs.Arc.{arc_value}
use Rattle.ts_key.specs.declared.version.Version.{Version}
use Rattle.memtable.specs.Memtables.{Memtable}
use Rattle.flush_job.proofs.Walking.{flat_more}
use Rattle.flush_job.proofs.run_feed.cursors_over.Goals as goal

pub loop-mem-preserved : goal.loop-mem-preserved
loop-mem-preserved c =
    let ms = c.args.mems.now in
    let i = c.loop-mem.mem-index in
    let inv = c.loop-mem.invariant in
    record {
      first = c.in_ok-push_runs.ensures.first;
      runs = c.in_ok-push_runs.ensures.runs ∙ ap (λ (rs : List (List Version)). rs ++ c.as_ref.result.now.runs) inv.runs
          ∙ ap (λ (m : Memtable). flat_map (λ (m : Memtable). m.runs) (map arc_value (take i ms)) ++ m.runs) c.as_ref.ensures
          ∙ sym (flat_more arc_value (λ (m : Memtable). m.runs) ms i c.mem-item.result (omega arith) c.mem-item.is);
    }
