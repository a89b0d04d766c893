use Rattle.std.proofs.Common.{◌≡◌, ◌-◌, List, ◌∷◌, Some, drop, take, refl, sym, ap, ◌∙◌}
use Rattle.ts_key.specs.declared.version.Version.{Version}
use Rattle.ts_key.specs.Lists.{onward, standing}
use Rattle.sorted_run.specs.Sorts.{sorted}
use Rattle.memtable.specs.Memtables.{joined}
use Rattle.history_gc.proofs.Steps.{in_order_stored}
use Rattle.flush_job.specs.Walks.{walk_place, walked}
use Rattle.flush_job.proofs.Walking.{walk_ends, walk_on, walked_length}
use Rattle.flush_job.proofs.run_feed.RunFeedFeed.next.Goals as goal

pub returns-in_default : goal.returns-in_default
returns-in_default c =
    let feed = c.args.self.now in
    let ys = walked feed.merge.children.items in
    let done = walk_ends ys (walk_place feed.merge.before feed.merge.children.items) feed.started (c.in_default.ensures (in_order_stored ys feed.in_order)) in
    (done, done, refl)

pub returns : goal.returns
returns c =
    let feed = c.args.self.now in
    let cs = feed.merge.children.items in
    let ys = walked cs in
    let more = c.next.new.self in
    let p = walk_place feed.merge.before cs in
    let q = walk_place more.before more.children.items in
    let v = c.in_ok-version.version in
    let got : standing ys p ≡ Some v = sym (c.in-Some.ensures (in_order_stored ys feed.in_order)) ∙ ap Some (sym c.in_ok-version.ensures) in
    let same : walked more.children.items ≡ ys = ap (λ (rs : List (List Version)). sorted (joined rs)) c.next.ensures.over in
    let r = walk_on ys p q v got (c.next.ensures.place ∙ ap (λ n. onward n p) (walked_length cs)) in
    (r.0 ∙ ap (λ (zs : List Version). v ∷ drop (q - 1) zs) (sym same), ap (take (q - 1)) same ∙ r.1)
