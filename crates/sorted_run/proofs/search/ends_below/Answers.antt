use Rattle.std.proofs.Common.{◌≡◌, ℕ, List, true, sym, ap, ◌∙◌}
use Rattle.std.specs.Ordering.{is_lt, nat_cmp}
use Rattle.std.specs.Cmp.Lexicographic.{slice_cmp}
use Rattle.sorted_run.proofs.Keys.{all_below}
use Rattle.sorted_run.proofs.search.ends_below.Goals as goal

pub returns-in-Some : goal.returns-in-Some
returns-in-Some c = λ e.
    let key = c.args.key.now in
    let v = c.in-Some.v.now in
    let less : is_lt (slice_cmp nat_cmp v.key key) ≡ true =
    sym (c.is_lt.ensures ∙ ap is_lt (c.cmp.ensures ∙ ap (λ (k : List ℕ). slice_cmp nat_cmp k key) c.bytes.ensures.bytes)) ∙ e in
    all_below key c.args.versions.now v c.requires c.in-Some.ensures.value less
