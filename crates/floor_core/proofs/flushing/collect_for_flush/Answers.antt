use Rattle.std.proofs.Common.{ap, ◌∙◌}
use Rattle.udt_model.specs.Collecting.{collect}
use Rattle.floor_core.proofs.Flushes.{collect_covered}
use Rattle.floor_core.proofs.flushing.collect_for_flush.Goals as goal

pub returns : goal.returns
returns c =
    let vs = c.args.versions.now in
    let floor = c.args.floor in
    let seqs = c.args.seqs.now in
    c.in_ok-kept.ensures ∙ ap (collect vs floor seqs) (c.deref.ensures.value ∙ c.in_ok-spans.ensures) ∙ collect_covered vs floor seqs
