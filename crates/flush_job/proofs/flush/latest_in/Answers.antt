use Rattle.std.proofs.Common.{◌≡◌, ◌+◌, ◌++◌, map, take, ap, sym, ◌∙◌, arith}
use Rattle.std.specs.Arc.{arc_value}
use Rattle.sorted_run.specs.Runs.{latest_of}
use Rattle.memtable.specs.Memtables.{Memtable, versions_of_memtable}
use Rattle.memtable.proofs.Bests.{latest-append}
use Rattle.flush_job.specs.Walks.{versions_of_all}
use Rattle.flush_job.proofs.Walking.{flat_more}
use Rattle.flush_job.proofs.flush.latest_in.Goals as goal

pub loop-mem-preserved : goal.loop-mem-preserved
loop-mem-preserved c =
    let ms = c.args.mems.now in
    let i = c.loop-mem.mem-index in
    let m = c.as_ref.result.now in
    let old = versions_of_all (map arc_value (take i ms)) in
    let more : versions_of_all (map arc_value (take (i + 1) ms)) ≡ old ++ versions_of_memtable m = flat_more arc_value versions_of_memtable ms i c.mem-item.result (omega arith) c.mem-item.is ∙ ap (λ (x : Memtable). old ++ versions_of_memtable x) (sym c.as_ref.ensures) in
    let both = latest-append old (versions_of_memtable m) in
    let all = ap latest_of more in
    let was : c.loop-mem.latest ≡ latest_of old = c.loop-mem.invariant in
    omega (arith, both, all, was, c.latest.ensures, c.max-latest.ensures)
