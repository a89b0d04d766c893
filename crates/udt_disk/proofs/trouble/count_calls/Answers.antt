use Rattle.std.proofs.Common.{◌<◌, ◌∙◌, ap, false, get_or, set, length, arith}
use Rattle.std.proofs.lemmas.List.{get_or_default}
use Rattle.std.proofs.lemmas.List.Edits.{map_over_more}
use Rattle.udt_disk.specs.Troubles.{counted_by}
use Rattle.udt_disk.specs.declared.name.FileName.TheVariants.{Manifest0}
use Rattle.udt_disk.specs.declared.trouble.Trouble.{Trouble}
use Rattle.udt_disk.proofs.trouble.count_calls.Goals as goal

pub loop-trouble-preserved : goal.loop-trouble-preserved
loop-trouble-preserved c =
    let troubles = c.loop-trouble.troubles in
    let i = c.loop-trouble.trouble-index in
    let none : Trouble = record { name = Manifest0; call = 0; lasting = false } in
    let trouble = get_or troubles i none in
    let within : i < length troubles = omega arith in
    ap (set troubles i) c.counted.ensures
    ∙ map_over_more (counted_by c.args.name c.args.calls) c.args.troubles.now troubles i trouble c.loop-trouble-test.true c.loop-trouble.invariant (get_or_default troubles i none trouble within)
