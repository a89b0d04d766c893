use Rattle.std.proofs.Common.{◌≡◌, ◌<◌, ℕ, length, get_or, refl, sym, ap, subst, ◌∙◌, arith, rules}
use Rattle.std.proofs.Math.ListN.{length-set}
use Rattle.std.proofs.Math.Seq.{map-set_same}
use Rattle.ts_key.specs.Lists.{onward}
use Rattle.merge_tree.proofs.Walks.{some_cursor, step_all, step_but, step_cut, step_passed, step_started}
use Rattle.merge_tree.proofs.Wins.{winner_within}
use Rattle.merge_tree.proofs.games.step.Goals as goal

pub offset_bounds-cursors-first : goal.offset_bounds-cursors-first
offset_bounds-cursors-first g c =
    let items = g.C.Placed.items in
    let place = g.C.Placed.place in
    let cs = c.args.cursors.now in
    let ws = c.args.winners.now in
    let first = c.winner_at-first.result in
    let some = some_cursor items place cs c.requires.more in
    let l = winner_within ws 1 (length cs) c.requires.count c.requires.within (omega (arith, some)) in
    let inside : first < length cs = let w = c.winner_at-first.ensures in omega (arith, w, l) in
    search rules

pub replay-requires : goal.replay-requires
replay-requires g c =
    let items = g.C.Placed.items in
    let place = g.C.Placed.place in
    let cs = c.args.cursors.now in
    let ws = c.args.winners.now in
    let first = c.winner_at-first.result in
    let some = some_cursor items place cs c.requires.more in
    let l = winner_within ws 1 (length cs) c.requires.count c.requires.within (omega (arith, some)) in
    let inside : first < length cs = let w = c.winner_at-first.ensures in omega (arith, w, l) in
    let old = c.index-cursors-first.result in
    let new = c.next.new.self in
    let at_old : old ≡ get_or cs first old = c.index-cursors-first.is in
    let count = c.requires.count ∙ sym (length-set cs first new) in
    let same = c.next.ensures.same ∙ ap items (sym at_old) in
    let moves = c.next.ensures.place ∙ ap (λ y. onward (length (items y)) (place y)) (sym at_old) in
    let started = step_started items place g.C.Placed.ordered cs ws c.requires.cut c.requires.started c.requires.count c.requires.won first c.winner_at-first.ensures inside old at_old c.requires.more new same moves in
    let but = step_but items place g.C.Placed.ordered cs ws c.requires.cut c.requires.started c.requires.count c.requires.won first c.winner_at-first.ensures inside old at_old c.requires.more new same moves in
    let kept = length-set cs first new in
    let within = λ (k d : ℕ) (l : k < length ws). let h = c.requires.within k d l in subst (λ n. get_or ws k d < n) (sym kept) h in
    λ κ. ((refl, tt), (count, (within, (started, (subst (λ n. first < n) (sym kept) inside, but)))))

pub returns-clause-same : goal.returns-clause-same
returns-clause-same g c =
    let items = g.C.Placed.items in
    let place = g.C.Placed.place in
    let cs = c.args.cursors.now in
    let ws = c.args.winners.now in
    let first = c.winner_at-first.result in
    let some = some_cursor items place cs c.requires.more in
    let l = winner_within ws 1 (length cs) c.requires.count c.requires.within (omega (arith, some)) in
    let inside : first < length cs = let w = c.winner_at-first.ensures in omega (arith, w, l) in
    let old = c.index-cursors-first.result in
    let new = c.next.new.self in
    let at_old : old ≡ get_or cs first old = c.index-cursors-first.is in
    step_all items place g.C.Placed.ordered cs ws c.requires.cut c.requires.started c.requires.count c.requires.won first c.winner_at-first.ensures inside old at_old c.requires.more new
    (c.next.ensures.same ∙ ap items (sym at_old)) (c.next.ensures.place ∙ ap (λ y. onward (length (items y)) (place y)) (sym at_old))

pub returns-clause-passed : goal.returns-clause-passed
returns-clause-passed g c =
    let items = g.C.Placed.items in
    let place = g.C.Placed.place in
    let cs = c.args.cursors.now in
    let ws = c.args.winners.now in
    let first = c.winner_at-first.result in
    let some = some_cursor items place cs c.requires.more in
    let l = winner_within ws 1 (length cs) c.requires.count c.requires.within (omega (arith, some)) in
    let inside : first < length cs = let w = c.winner_at-first.ensures in omega (arith, w, l) in
    let old = c.index-cursors-first.result in
    let new = c.next.new.self in
    let at_old : old ≡ get_or cs first old = c.index-cursors-first.is in
    step_passed items place g.C.Placed.ordered cs ws c.requires.cut c.requires.started c.requires.count c.requires.won first c.winner_at-first.ensures inside old at_old c.requires.more new
    (c.next.ensures.same ∙ ap items (sym at_old)) (c.next.ensures.place ∙ ap (λ y. onward (length (items y)) (place y)) (sym at_old))

pub returns-clause-cut : goal.returns-clause-cut
returns-clause-cut g c =
    let items = g.C.Placed.items in
    let place = g.C.Placed.place in
    let cs = c.args.cursors.now in
    let ws = c.args.winners.now in
    let first = c.winner_at-first.result in
    let some = some_cursor items place cs c.requires.more in
    let l = winner_within ws 1 (length cs) c.requires.count c.requires.within (omega (arith, some)) in
    let inside : first < length cs = let w = c.winner_at-first.ensures in omega (arith, w, l) in
    let old = c.index-cursors-first.result in
    let new = c.next.new.self in
    let at_old : old ≡ get_or cs first old = c.index-cursors-first.is in
    step_cut items place g.C.Placed.ordered cs ws c.requires.cut c.requires.started c.requires.count c.requires.won first c.winner_at-first.ensures inside old at_old c.requires.more new
    (c.next.ensures.same ∙ ap items (sym at_old)) (c.next.ensures.place ∙ ap (λ y. onward (length (items y)) (place y)) (sym at_old))
    c.replay.new.winners (c.replay.auto.winners ∙ c.requires.count ∙ sym (length-set cs first new)) c.replay.ensures.won

pub returns-clause-over : goal.returns-clause-over
returns-clause-over g c = map-set_same g.C.Placed.over c.args.cursors.now c.winner_at-first.result c.next.new.self c.index-cursors-first.result c.next.ensures.over
