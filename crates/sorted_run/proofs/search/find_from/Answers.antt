use Rattle.std.proofs.Common.{◌≡◌, List, Some, None, take, drop, sym, ap, ◌∙◌}
use Rattle.std.specs.Prelude.{find, nat_le}
use Rattle.std.specs.List.{position}
use Rattle.std.specs.Option.{option_copied}
use Rattle.ts_key.specs.declared.version.Version.{Version}
use Rattle.sorted_run.proofs.Lookups.{part_none, part_at}
use Rattle.sorted_run.proofs.search.find_from.Goals as goal

pub returns-in_err-at : goal.returns-in_err-at
returns-in_err-at c =
    let vs = c.args.versions.now in
    let ts = c.args.stamps.now in
    let key = c.args.key.now in
    let t = c.args.t.0 in
    let s = c.args.s.0 in
    let n = c.count_of_key-count.result in
    let none : None ≡ position (λ x. nat_le x t) (take n ts) = c.in_err-at.ensures ∙ ap (position (λ x. nat_le x t)) c.split_at-2.ensures.front in
    ap option_copied c.from_residual.ensures ∙ sym (part_none key t s vs ts n c.requires.stamps c.count_of_key-count.ensures.other none)

pub returns : goal.returns
returns c =
    let vs = c.args.versions.now in
    let ts = c.args.stamps.now in
    let key = c.args.key.now in
    let t = c.args.t.0 in
    let s = c.args.s.0 in
    let n = c.count_of_key-count.result in
    let at = c.in_ok-at.at in
    let some : Some at ≡ position (λ x. nat_le x t) (take n ts) = c.in_ok-at.ensures ∙ ap (position (λ x. nat_le x t)) c.split_at-2.ensures.front in
    c.first_upto.ensures
    ∙ ap (λ (l : List Version). find (λ (v : Version). nat_le v.seq.0 s) l) (c.split_at-3.ensures.back ∙ ap (λ (l : List Version). drop at l) c.split_at.ensures.front)
    ∙ part_at key t s vs ts n c.requires.stamps c.count_of_key-count.ensures.other at c.count_of_key-count.ensures.bound c.requires.order c.count_of_key-count.ensures.same some
