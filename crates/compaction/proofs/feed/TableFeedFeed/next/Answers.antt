use Rattle.std.proofs.Common.{◌≡◌, true, List, [], ◌∷◌, ◌++◌, Some, drop, take, refl, sym, ap, subst, ◌∙◌}
use Rattle.std.specs.Prelude.{slice_get}
use Rattle.ts_key.specs.declared.version.Version.{Version}
use Rattle.ts_key.specs.Counts.{get_inside}
use Rattle.ts_key.specs.Items.{Item, shown}
use Rattle.ts_key.specs.Order.{sort_key_of}
use Rattle.history_gc.specs.Pushed.{AreInOrder}
use Rattle.merge_cursor.specs.Sides.{is_apart, key_lent}
use Rattle.super_version.specs.Contents.{version_of_item}
use Rattle.compaction.specs.Feeding.{count_passed, ends_at, versions_from, walked_items}
use Rattle.compaction.proofs.Feeds.{ends_snoc, in_order_more, versions_snoc, walk_ends, walk_on}
use Rattle.compaction.proofs.feed.TableFeedFeed.next.Goals as goal

pub returns-in_default : goal.returns-in_default
returns-in_default c =
    let f = c.args.self.now in
    let cs = f.merge.cursors.items in
    let done = ap (versions_from f.family) (walk_ends (walked_items cs) (count_passed cs) c.in_default.ensures) in
    (done, done, refl)

pub next-requires : goal.next-requires
next-requires c =
    let cs = c.args.self.now.merge.cursors.items in
    let more = get_inside (walked_items cs) (count_passed cs) (shown (c.in-Some.key, c.in-Some.hit)) (sym c.in-Some.ensures) in
    λ κ. ((refl, tt), more)

pub invariant_of-self : goal.invariant_of-self
invariant_of-self c =
    let f = c.args.self.now in
    let ys = walked_items f.merge.cursors.items in
    let p = count_passed f.merge.cursors.items in
    let more = c.next.new.self in
    let zs = walked_items more.cursors.items in
    let q = count_passed more.cursors.items in
    let key = c.in-Some.key in
    let item = shown (key, c.in-Some.hit) in
    let got : slice_get ys p ≡ Some item = sym c.in-Some.ensures in
    let same : zs ≡ ys = c.next.ensures.same in
    let r = walk_on ys p q item got c.next.ensures.passed in
    let passed : take q zs ≡ take p ys ++ item ∷ [] = ap (take q) same ∙ r.1 in
    let behind : is_apart (key_lent f.last) (Some item.sort_key) ≡ true = sym c.is_behind.ensures ∙ c.if-not-is_behind.false in
    record {
      ends = subst (λ (l : List Item). ends_at (Some (sort_key_of key)) l ≡ true) (sym passed) (ends_snoc (take p ys) item (sort_key_of key) refl);
      in_order = subst (λ (l : List Item). AreInOrder (versions_from f.family l)) (sym passed) (in_order_more f.family (take p ys) (key_lent f.last) item f.in_order f.ends behind);
    }

pub returns : goal.returns
returns c =
    let f = c.args.self.now in
    let ys = walked_items f.merge.cursors.items in
    let p = count_passed f.merge.cursors.items in
    let more = c.next.new.self in
    let zs = walked_items more.cursors.items in
    let q = count_passed more.cursors.items in
    let item = shown (c.in-Some.key, c.in-Some.hit) in
    let got : slice_get ys p ≡ Some item = sym c.in-Some.ensures in
    let same : zs ≡ ys = c.next.ensures.same in
    let r = walk_on ys p q item got c.next.ensures.passed in
    let v = c.in_ok-version.version in
    let is : v ≡ version_of_item f.family item = c.in_ok-version.ensures in
    let passed : take q zs ≡ take p ys ++ item ∷ [] = ap (take q) same ∙ r.1 in (
      ap (versions_from f.family) (r.0 ∙ ap (λ (l : List Item). item ∷ drop q l) (sym same)) ∙ ap (λ (u : Version). u ∷ versions_from f.family (drop q zs)) (sym is),
      ap (versions_from f.family) passed ∙ versions_snoc f.family (take p ys) item ∙ ap (λ (u : Version). versions_from f.family (take p ys) ++ u ∷ []) (sym is),
    )
