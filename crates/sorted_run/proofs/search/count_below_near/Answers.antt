use Rattle.std.proofs.Common.{◌≡◌, List, length, true, false, take, drop, sym, subst, arith}
use Rattle.std.specs.List.{AllWithin}
use Rattle.ts_key.specs.declared.version.Version.{Version}
use Rattle.ts_key.specs.Items.{items_of}
use Rattle.ts_key.specs.Lists.{IsOrdered}
use Rattle.sorted_run.specs.Runs.{has_key_below}
use Rattle.sorted_run.proofs.Finds.{within-take, within-back}
use Rattle.sorted_run.proofs.Keys.{ordered-drop, ordered-take}
use Rattle.sorted_run.proofs.search.count_below_near.Goals as goal

pub ends_below-requires : goal.ends_below-requires
ends_below-requires c =
    subst (λ (l : List Version). IsOrdered (items_of l)) (sym c.split_at.ensures.front) (ordered-take c.args.versions.now c.args.guess c.requires)

pub starts_from-requires-2 : goal.starts_from-requires-2
starts_from-requires-2 c =
    subst (λ (l : List Version). IsOrdered (items_of l)) (sym c.split_at.ensures.back) (ordered-drop c.args.versions.now c.args.guess c.requires)

pub returns-clause-below : goal.returns-clause-below
returns-clause-below c =
    let vs = c.args.versions.now in
    let n = c.args.guess in
    let below : Version → Type 0 = λ (v : Version). has_key_below c.args.key.now v ≡ true in
    let front : AllWithin below (take n vs) 0 (length (take n vs)) =
    subst (λ (l : List Version). AllWithin below l 0 (length l)) c.split_at.ensures.front (c.ends_below.ensures c.if-not-ends_below.false) in
    within-take below vs n (omega arith) front

pub returns-clause-from : goal.returns-clause-from
returns-clause-from c =
    let vs = c.args.versions.now in
    let n = c.args.guess in
    let above : Version → Type 0 = λ (v : Version). has_key_below c.args.key.now v ≡ false in
    let back : AllWithin above (drop n vs) 0 (length (drop n vs)) =
    subst (λ (l : List Version). AllWithin above l 0 (length l)) c.split_at.ensures.back (c.starts_from-2.ensures c.if-not-starts_from.false) in
    within-back above vs n back
