use Rattle.std.proofs.Common.{◌≡◌, ◌-◌, List, get_or, subst, arith}
use Rattle.std.proofs.lemmas.List.{take_all}
use Rattle.std.proofs.lemmas.Bool.{OnTrue_at}
use Rattle.ts_key.specs.Order.{sort_cmp}
use Rattle.std.specs.declared.cmp.Ordering.TheVariants.{Less}
use Rattle.ts_key.specs.Items.{item_of, items_of}
use Rattle.ts_key.specs.Lists.{IsSorted}
use Rattle.ts_key.specs.declared.version.Version.{Version}
use Rattle.scan_rows.proofs.Sorting.{sorted_one, sorted_more}
use Rattle.scan_rows.proofs.tests.making.are_sorted.Goals as goal

pub loop-i-init : goal.loop-i-init
loop-i-init c = sorted_one c.args.versions.now

pub loop-i-preserved : goal.loop-i-preserved
loop-i-preserved c =
    let vs = c.args.versions.now in
    let v = c.index-versions-last.result in
    let w = c.index-versions-i.result in
    let less : sort_cmp (item_of v).sort_key (item_of w).sort_key ≡ Less = OnTrue_at c.if-not-comes_before.false c.comes_before.ensures in
    let both = subst (λ (x : Version). sort_cmp (item_of x).sort_key (item_of w).sort_key ≡ Less) c.index-versions-last.is less in
    sorted_more vs c.loop-i.i v w (omega arith) (omega arith) c.loop-i.invariant (subst (λ (x : Version). sort_cmp (item_of (get_or vs (c.loop-i.i - 1) v)).sort_key (item_of x).sort_key ≡ Less) c.index-versions-i.is both)

pub returns : goal.returns
returns c = subst (λ (us : List Version). IsSorted (items_of us)) (take_all c.loop-i.i c.args.versions.now (omega arith)) c.loop-i.invariant
