use Rattle.std.proofs.Common.{◌≡◌, ℕ, true, sym, ap, ◌∙◌}
use Rattle.std.specs.Option.{option_copied}
use Rattle.sorted_run.specs.Runs.{latest_of}
use Rattle.memtable.specs.Memtables.{is_version_above}
use Rattle.memtable.proofs.Bests.{passes_over}
use Rattle.memtable.proofs.runs.newer_in.Goals as goal

pub returns-then-is_above-clause-visible : goal.returns-then-is_above-clause-visible
returns-then-is_above-clause-visible c =
    let run = c.args.run.now in
    let above : is_version_above (option_copied c.args.best) (latest_of run) ≡ true = ap (λ (n : ℕ). is_version_above (option_copied c.args.best) n) (sym c.latest.ensures) ∙ sym c.is_above.ensures ∙ c.if-is_above.true in
    passes_over (option_copied c.args.best) run c.args.key.now c.args.t.0 c.args.s.0 above
