use Rattle.std.proofs.Common.{◌≡◌, ◌+◌, ◌-◌, ◌<◌, drop, length, get_or, ap, sym, ◌∙◌, arith}
use Rattle.std.proofs.lemmas.List.{length-drop, get_or-drop}
use Rattle.floor_core.proofs.Plans.{part_cut}
use Rattle.floor_core.proofs.compacting.fits.Goals as goal

pub returns : goal.returns
returns c =
    let vs = c.args.versions.now in
    let start = c.args.start in
    let count = c.args.count in
    let v = c.index-versions-end.result in
    let w = c.index-versions-end-2.result in
    let l = length-drop start vs in
    let some : 0 < count = omega arith in
    let inside : count < length (drop start vs) = omega (arith, l) in
    let before : start + count - 1 ≡ start + (count - 1) = omega arith in
    c.differ.ensures
    ∙ part_cut (drop start vs) count v w some inside
    (c.index-versions-end.is ∙ ap (λ n. get_or vs n v) before ∙ sym (get_or-drop start vs (count - 1) v))
    (c.index-versions-end-2.is ∙ sym (get_or-drop start vs count w))
