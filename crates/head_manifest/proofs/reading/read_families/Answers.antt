use Rattle.std.proofs.Common.{◌≡◌, ◌==◌, false, [], length, sym, ◌∙◌, arith, rules}
use Rattle.std.specs.List.{flat_map}
use Rattle.std.proofs.lemmas.List.{append-nil}
use Rattle.head_manifest.specs.Heads.{family_text}
use Rattle.head_manifest.proofs.Spellings.{as_many, no_more, some_left}
use Rattle.head_manifest.proofs.reading.read_families.Goals as goal

pub returns-in_default : goal.returns-in_default
returns-in_default c families p =
    let so_far = c.loop-i.invariant in
    no_more c.loop-i.families.items families c.loop-i.rest.now [] (so_far.new, so_far.named) (p.new, p.named) (omega (arith, so_far.long, p.long)) (rw c.in_default.is at c.in_ok-behind.ensures)
    (sym so_far.is ∙ p.is ∙ sym (append-nil (flat_map family_text families)))

pub returns-else-is_empty : goal.returns-else-is_empty
returns-else-is_empty c families p =
    let so_far = c.loop-i.invariant in
    let left : (length c.loop-i.rest.now == 0) ≡ false = search rules in
    some_left c.loop-i.rest.now left (as_many c.loop-i.families.items families c.loop-i.rest.now [] (so_far.new, so_far.named) (p.new, p.named) (omega (arith, so_far.long, p.long)) (sym so_far.is ∙ p.is ∙ sym (append-nil (flat_map family_text families)))).1
