use Rattle.std.proofs.Common.{ℕ, List, ◌∙◌, ap, subst, rules, drop}
use Rattle.std.proofs.lemmas.List.{take_rest}
use Rattle.byteorder.specs.Endian.{little_number}
use Rattle.head_manifest.specs.Reading.{AreSpelled}
use Rattle.head_manifest.proofs.Spellings.{names_again}
use Rattle.head_manifest.proofs.reading.read_head.Goals as goal

pub returns-else-names_differ : goal.returns-else-names_differ
returns-else-names_differ c families h =
    let body = c.args.body.now in
    let found = c.in-Some.families.items in
    let read = rw c.in-Some.is at c.in_ok-families.ensures in
    let behind = subst (λ (l : List ℕ). AreSpelled l c.read_u32-count.result found) (take_rest body 6) read in
    let counted = subst (λ (n : ℕ). AreSpelled (drop 6 body) n found) (c.read_u32-count.ensures ∙ ap (little_number 4) (take_rest body 2)) behind in
    names_again body found counted (search rules) families h
