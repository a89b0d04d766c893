use Rattle.std.proofs.Common.{sym, ap, subst, ◌∙◌, List, drop}
use Rattle.ts_key.specs.Ordered.{ordered_from}
use Rattle.ts_key.specs.Visible.{is_item_seen, first_of}
use Rattle.ts_key.specs.Firsts.{visible_from}
use Rattle.ts_key.specs.Lists.{IsSorted}
use Rattle.data_block.specs.declared.index.Entry.{Entry}
use Rattle.data_block.specs.Index.{items_at}
use Rattle.data_block.proofs.Found.{items_drop, sorted_drop}
use Rattle.data_block.proofs.search.find_in.Goals as goal

pub returns : goal.returns
returns c =
    let keys = c.args.keys.now in
    let image = c.args.image.now in
    let es = c.args.entries.now in
    let key = c.args.key.now in
    let t = c.args.t.0 in
    let s = c.args.s.0 in
    let p = is_item_seen key t s in
    c.first_seen.ensures ∙ ap (λ (r : List Entry). first_of p (items_at keys image r)) c.split_at.ensures.back
    ∙ ap (first_of p) (items_drop keys image es c.lower_bound-at.result) ∙ (λ i. first_of p (drop (c.lower_bound-at.ensures.value i) (items_at keys image es)))
    ∙ sym (visible_from (items_at keys image es) key t s (ordered_from (items_at keys image es) c.requires.sorted))

pub first_seen-requires-clause-sorted : goal.first_seen-requires-clause-sorted
first_seen-requires-clause-sorted c =
    let keys = c.args.keys.now in
    let image = c.args.image.now in
    subst (λ (es : List Entry). IsSorted (items_at keys image es)) (sym c.split_at.ensures.back) (sorted_drop keys image c.args.entries.now c.lower_bound-at.result c.requires.sorted)
