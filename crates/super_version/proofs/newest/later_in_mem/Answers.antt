use Rattle.std.proofs.Common.{◌≡◌, ℕ, true, sym, ap, ◌∙◌}
use Rattle.std.specs.Prelude.{option_map}
use Rattle.sorted_run.specs.Runs.{latest_of}
use Rattle.memtable.specs.Memtables.{reaches, versions_of_memtable}
use Rattle.memtable.proofs.Bests.{passes_by}
use Rattle.super_version.proofs.newest.later_in_mem.Goals as goal

pub returns-then-reaches : goal.returns-then-reaches
returns-then-reaches c =
    let best = option_map (λ ts. ts.0) c.args.best in
    let vs = versions_of_memtable c.args.mem.now in
    let above : reaches best (latest_of vs) ≡ true = ap (λ (n : ℕ). reaches best n) (sym c.latest.ensures) ∙ sym c.reaches.ensures ∙ c.if-reaches.true in
    passes_by best vs c.args.key.now above
