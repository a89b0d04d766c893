use Rattle.std.proofs.Common.{◌≡◌, ℕ, ◌+◌, List, ◌++◌, map, take, sym, ap, ◌∙◌, arith}
use Rattle.std.specs.Prelude.{Option}
use Rattle.std.specs.Arc.{arc_value}
use Rattle.ts_key.specs.declared.version.Version.{Version}
use Rattle.ts_key.specs.Items.{items_of}
use Rattle.ts_key.specs.Visible.{newest_ts}
use Rattle.memtable.specs.Memtables.{joined, greater}
use Rattle.memtable.proofs.Bests.{joined_more, newest_ts-append}
use Rattle.memtable.proofs.runs.newest_in.Goals as goal

pub loop-run-preserved : goal.loop-run-preserved
loop-run-preserved c =
    let rs = c.args.runs.now in
    let key = c.args.key.now in
    let i = c.loop-run.run-index in
    let run = c.as_ref.result.now in
    let old = joined (map arc_value (take i rs)) in
    let more : joined (map arc_value (take (i + 1) rs)) ≡ old ++ run = joined_more arc_value rs i c.run-item.result (omega arith) c.run-item.is ∙ ap (λ (vs : List Version). old ++ vs) (sym c.as_ref.ensures) in
    c.later_in-best.ensures
    ∙ ap (λ (o : Option ℕ). greater o (newest_ts (items_of run) key)) c.loop-run.invariant
    ∙ sym (newest_ts-append old run key)
    ∙ ap (λ (l : List Version). newest_ts (items_of l) key) (sym more)
