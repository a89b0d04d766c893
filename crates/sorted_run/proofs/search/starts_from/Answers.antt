use Rattle.std.proofs.Common.{◌≡◌, ℕ, List, true, sym, ap, ◌∙◌}
use Rattle.std.specs.Ordering.{is_ge, nat_cmp}
use Rattle.std.specs.Cmp.Lexicographic.{slice_cmp}
use Rattle.sorted_run.proofs.Keys.{none_below}
use Rattle.sorted_run.proofs.search.starts_from.Goals as goal

pub returns-in-Some : goal.returns-in-Some
returns-in-Some c = λ e.
    let key = c.args.key.now in
    let v = c.in-Some.v.now in
    let least : is_ge (slice_cmp nat_cmp v.key key) ≡ true =
    sym (c.is_ge.ensures ∙ ap is_ge (c.cmp.ensures ∙ ap (λ (k : List ℕ). slice_cmp nat_cmp k key) c.bytes.ensures.bytes)) ∙ e in
    none_below key c.args.versions.now v c.requires c.in-Some.ensures.value least
