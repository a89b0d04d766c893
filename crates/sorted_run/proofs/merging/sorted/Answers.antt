use Rattle.std.proofs.Common.{◌++◌, List, ap, ◌∙◌, rules}
use Rattle.std.proofs.lemmas.List.Sorted.{answers_always}
use Rattle.ts_key.specs.declared.version.Version.{Version}
use Rattle.sorted_run.specs.Sorts.{sorted}
use Rattle.sorted_run.proofs.Sorting.{stable_sorted}
use Rattle.sorted_run.proofs.merging.sorted.Goals as goal

pub returns : goal.returns
returns c =
    let vs = c.args.versions.now in
    let copied = c.in_ok-copy_all.ensures ∙ ap (λ (l : List Version). l ++ vs) c.in_ok-out.ensures.items in
    stable_sorted _ _ (answers_always _ _ _ (λ f a r g k. search rules)) c.in_ok-sort_by.ensures.sorted c.in_ok-sort_by.ensures.stable ∙ ap sorted copied
