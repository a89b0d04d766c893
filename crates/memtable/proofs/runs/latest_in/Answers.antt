use Rattle.std.proofs.Common.{◌≡◌, ℕ, ◌+◌, List, ◌++◌, map, max, take, sym, ap, ◌∙◌, arith}
use Rattle.std.specs.Arc.{arc_value}
use Rattle.ts_key.specs.declared.version.Version.{Version}
use Rattle.sorted_run.specs.Runs.{latest_of}
use Rattle.memtable.specs.Memtables.{joined}
use Rattle.memtable.proofs.Bests.{joined_more, latest-append}
use Rattle.memtable.proofs.runs.latest_in.Goals as goal

pub loop-run-preserved : goal.loop-run-preserved
loop-run-preserved c =
    let rs = c.args.runs.now in
    let i = c.loop-run.run-index in
    let run = c.as_ref.result.now in
    let old = joined (map arc_value (take i rs)) in
    let more : joined (map arc_value (take (i + 1) rs)) ≡ old ++ run = joined_more arc_value rs i c.run-item.result (omega arith) c.run-item.is ∙ ap (λ (vs : List Version). old ++ vs) (sym c.as_ref.ensures) in
    let both = latest-append old run in
    let all = ap latest_of more in
    let was : c.loop-run.latest ≡ latest_of old = c.loop-run.invariant in
    omega (arith, both, all, was, c.latest.ensures, c.max-latest.ensures)
