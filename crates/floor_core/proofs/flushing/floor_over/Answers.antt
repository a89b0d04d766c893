use Rattle.std.proofs.Common.{◌≡◌, ℕ, ap, sym, ◌∙◌}
use Rattle.std.specs.Prelude.{max}
use Rattle.ts_key.specs.declared.numbers.Ts.{Ts}
use Rattle.ts_key.specs.declared.version.Form.{Form}
use Rattle.udt_model.specs.Collecting.{cutoff}
use Rattle.udt_model.specs.Jobs.{floor_over}
use Rattle.floor_core.proofs.Flushes.{cut_is}
use Rattle.floor_core.proofs.flushing.floor_over.Goals as goal

pub returns-else-has_greatest : goal.returns-else-has_greatest
returns-else-has_greatest c =
    let floor = c.args.floor in
    let vs = c.args.taken.now in
    let ts : ℕ → Ts = λ n. record { 0 = n } in
    let e : c.max.result ≡ max floor.0 (cutoff vs) = c.max.ensures ∙ cut_is floor vs c.cutoff.result.0 (sym c.if-has_greatest.false ∙ c.has_greatest.ensures) c.cutoff.ensures in
    ap ts e ∙ ap (λ (z : Form). floor_over z floor vs) (sym c.in-Strip.is)
