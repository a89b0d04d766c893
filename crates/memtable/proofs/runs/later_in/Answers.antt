use Rattle.std.proofs.Common.{◌≡◌, ℕ, true, sym, ap, ◌∙◌}
use Rattle.std.specs.Prelude.{option_map}
use Rattle.ts_key.specs.declared.numbers.Ts.{Ts}
use Rattle.sorted_run.specs.Runs.{latest_of}
use Rattle.memtable.specs.Memtables.{reaches}
use Rattle.memtable.proofs.Bests.{passes_by}
use Rattle.memtable.proofs.runs.later_in.Goals as goal

pub returns-then-reaches : goal.returns-then-reaches
returns-then-reaches c =
    let run = c.args.run.now in
    let best = option_map (λ (ts : Ts). ts.0) c.args.best in
    let high : reaches best (latest_of run) ≡ true = ap (λ (n : ℕ). reaches best n) (sym c.latest.ensures) ∙ sym c.reaches.ensures ∙ c.if-reaches.true in
    passes_by best run c.args.key.now high
