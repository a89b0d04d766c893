use Rattle.std.proofs.Common.{◌≡◌, ℕ, ◌+◌, map, sym, ap, ◌∙◌, arith}
use Rattle.std.specs.Prelude.{max}
use Rattle.std.specs.Arc.{arc_value}
use Rattle.ts_key.specs.declared.numbers.Ts.{Ts}
use Rattle.ts_key.specs.declared.version.Form.{Form}
use Rattle.udt_model.specs.Collecting.{cutoff}
use Rattle.udt_model.specs.Jobs.{floor_over}
use Rattle.flush_job.specs.Walks.{versions_of_all}
use Rattle.flush_job.proofs.Collected.{cutoff_of, latest_most}
use Rattle.flush_job.proofs.flush.floor_behind.Goals as goal

pub overflow_add-latest_in : goal.overflow_add-latest_in
overflow_add-latest_in c =
    let vs = versions_of_all (map arc_value c.args.mems.now) in
    let most = latest_most vs c.requires.1.stamps in
    let is = c.latest_in.ensures in
    omega (arith, most, is)

pub returns-in-Strip : goal.returns-in-Strip
returns-in-Strip c =
    let vs = versions_of_all (map arc_value c.args.mems.now) in
    let floor = c.args.floor in
    let ts : ℕ → Ts = λ n. record { 0 = n } in
    let e : c.max.result ≡ max floor.0 (cutoff vs) = c.max.ensures ∙ ap (λ n. max floor.0 (n + 1)) c.latest_in.ensures ∙ ap (max floor.0) (sym (cutoff_of vs c.requires.1.some)) in
    ap ts e ∙ ap (λ (z : Form). floor_over z floor vs) (sym c.in-Strip.is)
