use Rattle.std.proofs.Common.{◌≡◌, Bool, List, Some, None, true, false, not, refl, drop, sym, ap, subst, ◌∙◌}
use Rattle.std.specs.Prelude.{slice_get}
use Rattle.std.specs.Option.{option_copied}
use Rattle.ts_key.specs.declared.version.Version.{Version}
use Rattle.ts_key.specs.Items.{items_of}
use Rattle.ts_key.specs.Lists.{IsOrdered}
use Rattle.sorted_run.specs.Runs.{first_seen, has_key, has_key_below, sees}
use Rattle.sorted_run.proofs.Finds.{head_none, head_some, within-drop}
use Rattle.sorted_run.proofs.Keys.{ordered-drop}
use Rattle.sorted_run.proofs.Lookups.{from_key, none_there}
use Rattle.sorted_run.proofs.search.find_in.Goals as goal

not_true : (b : Bool) → not b ≡ true → b ≡ false
not_true true e = absurd cc
not_true false e = refl

pub returns-in_err-first : goal.returns-in_err-first
returns-in_err-first c =
    let vs = c.args.versions.now in
    let key = c.args.key.now in
    let t = c.args.t.0 in
    let s = c.args.s.0 in
    let n = c.count_below_near.result in
    let none : None ≡ slice_get (drop n vs) 0 = c.in_err-first.ensures.value ∙ ap (λ (l : List Version). slice_get l 0) c.split_at.ensures.back in
    ap option_copied c.from_residual.ensures ∙ sym (head_none (sees key t s) (drop n vs) none) ∙ from_key key t s vs n c.count_below_near.ensures.below

pub returns-then-is_other : goal.returns-then-is_other
returns-then-is_other c =
    let vs = c.args.versions.now in
    let key = c.args.key.now in
    let t = c.args.t.0 in
    let s = c.args.s.0 in
    let n = c.count_below_near.result in
    let v = c.in_ok-first.first.now in
    let some : Some v ≡ slice_get (drop n vs) 0 = c.in_ok-first.ensures.value ∙ ap (λ (l : List Version). slice_get l 0) c.split_at.ensures.back in
    let other : has_key key v ≡ false = not_true (has_key key v) (sym c.is_other.ensures ∙ c.if-is_other.true) in
    sym (none_there key t s (drop n vs) v (ordered-drop vs n c.requires.order) (within-drop (λ (w : Version). has_key_below key w ≡ false) vs n c.count_below_near.ensures.from) some other)
    ∙ from_key key t s vs n c.count_below_near.ensures.below

pub returns-then-sees : goal.returns-then-sees
returns-then-sees c =
    let vs = c.args.versions.now in
    let key = c.args.key.now in
    let t = c.args.t.0 in
    let s = c.args.s.0 in
    let n = c.count_below_near.result in
    let v = c.in_ok-first.first.now in
    let some : Some v ≡ slice_get (drop n vs) 0 = c.in_ok-first.ensures.value ∙ ap (λ (l : List Version). slice_get l 0) c.split_at.ensures.back in
    let seen : sees key t s v ≡ true = sym c.sees.ensures ∙ c.if-sees.true in
    sym (head_some (sees key t s) (drop n vs) v some seen) ∙ from_key key t s vs n c.count_below_near.ensures.below

pub find_from-requires-clause-order : goal.find_from-requires-clause-order
find_from-requires-clause-order c =
    subst (λ (l : List Version). IsOrdered (items_of l)) (sym c.split_at.ensures.back) (ordered-drop c.args.versions.now c.count_below_near.result c.requires.order)

pub returns : goal.returns
returns c =
    let vs = c.args.versions.now in
    let key = c.args.key.now in
    let t = c.args.t.0 in
    let s = c.args.s.0 in
    c.find_from.ensures ∙ ap (λ (l : List Version). first_seen l key t s) c.split_at.ensures.back ∙ from_key key t s vs c.count_below_near.result c.count_below_near.ensures.below
