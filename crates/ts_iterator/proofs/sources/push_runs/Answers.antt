use Rattle.std.proofs.Common.{◌≡◌, ◌++◌, List, [], ◌∷◌, take, ◌+◌, ap, sym, ◌∙◌}
use Rattle.ts_key.specs.declared.version.Version.{Version}
use Rattle.ts_key.specs.Items.{Item, items_of}
use Rattle.memtable.specs.Memtables.{joined}
use Rattle.ts_iterator.specs.declared.source.Source.TheVariants.{Run}
use Rattle.ts_iterator.specs.Sources.{items_of_all}
use Rattle.ts_iterator.proofs.Gathering.{after_more, all_more, run_more}
use Rattle.ts_iterator.proofs.sources.push_runs.Goals as goal

pub loop-index-preserved : goal.loop-index-preserved
loop-index-preserved c =
    let xs = c.loop-index.sources.items in
    let cursor = c.new.result in
    let run = c.in-Some.run'.now in
    let runs = c.args.mem.now.runs in
    let i = c.loop-index.index in
    let pushed : c.push.new.self.items ≡ xs ++ Run cursor ∷ [] = c.in_ok-push.ensures.items in
    after_more (items_of_all c.args.sources.now.items) (items_of (joined (take i runs))) (items_of run) (items_of (joined (take (i + 1) runs))) (items_of_all c.push.new.self.items)
    (ap items_of_all pushed ∙ all_more xs (Run cursor)
    ∙ ap (λ (vs : List Version). items_of_all xs ++ items_of vs) (c.new.ensures.versions ∙ c.versions.ensures.versions)
    ∙ ap (λ (r : List Item). r ++ items_of run) c.loop-index.invariant)
    (run_more runs i run (sym c.in-Some.ensures))
