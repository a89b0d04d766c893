use Rattle.std.proofs.Common.{◌≡◌, ℕ, List, Some, sym, ap, subst, ◌∙◌}
use Rattle.ts_key.specs.Items.{item_of, hit_at}
use Rattle.ts_key.specs.Visible.{visible_item}
use Rattle.super_version.specs.Contents.{items_of_memtable}
use Rattle.point_read.proofs.Newer.{of_its_key}
use Rattle.point_read.proofs.hits.hit_in.Goals as goal

pub returns-in-Some : goal.returns-in-Some
returns-in-Some c =
    let key = c.args.key.now in
    let t = c.args.t.0 in
    let s = c.args.s.0 in
    let vs = items_of_memtable c.args.mem.now in
    let v = c.in-Some.version.now in
    let seen : Some (item_of v) ≡ visible_item vs key t s = c.in-Some.ensures.visible in
    let same : v.key ≡ key = of_its_key vs key t s (item_of v) (sym seen) in
    subst (λ (k : List ℕ). Some (hit_at k c.hit.result) ≡ visible_item vs key t s) same (ap Some c.hit.ensures ∙ seen)
