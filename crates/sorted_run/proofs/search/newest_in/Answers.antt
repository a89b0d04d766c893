use Rattle.std.proofs.Common.{◌≡◌, ℕ, List, Some, None, true, false, drop, sym, ap, ◌∙◌}
use Rattle.std.specs.Prelude.{slice_get, option_map}
use Rattle.std.specs.Str.{bytes_eq}
use Rattle.ts_key.specs.declared.numbers.Ts.{Ts}
use Rattle.ts_key.specs.declared.version.Version.{Version}
use Rattle.sorted_run.specs.Runs.{has_key, has_key_below}
use Rattle.sorted_run.proofs.Finds.{within-drop}
use Rattle.sorted_run.proofs.Keys.{ordered-drop}
use Rattle.sorted_run.proofs.Lookups.{newest_none, newest_head, newest_other}
use Rattle.sorted_run.proofs.search.newest_in.Goals as goal

pub returns-in_err-first : goal.returns-in_err-first
returns-in_err-first c =
    let vs = c.args.versions.now in
    let n = c.count_below_near.result in
    let none : None ≡ slice_get (drop n vs) 0 = c.in_err-first.ensures.value ∙ ap (λ (l : List Version). slice_get l 0) c.split_at.ensures.back in
    ap (option_map (λ (ts : Ts). ts.0)) c.from_residual.ensures ∙ newest_none c.args.key.now vs n c.requires c.count_below_near.ensures.below none

pub returns-then-eq : goal.returns-then-eq
returns-then-eq c =
    let vs = c.args.versions.now in
    let key = c.args.key.now in
    let n = c.count_below_near.result in
    let v = c.in_ok-first.first.now in
    let some : Some v ≡ slice_get (drop n vs) 0 = c.in_ok-first.ensures.value ∙ ap (λ (l : List Version). slice_get l 0) c.split_at.ensures.back in
    let own : has_key key v ≡ true = ap (λ (k : List ℕ). bytes_eq k key) (sym c.bytes.ensures.bytes) ∙ sym c.eq.ensures ∙ c.if-eq.true in
    newest_head key vs n c.requires c.count_below_near.ensures.below v some own

pub returns-else-eq : goal.returns-else-eq
returns-else-eq c =
    let vs = c.args.versions.now in
    let key = c.args.key.now in
    let n = c.count_below_near.result in
    let v = c.in_ok-first.first.now in
    let some : Some v ≡ slice_get (drop n vs) 0 = c.in_ok-first.ensures.value ∙ ap (λ (l : List Version). slice_get l 0) c.split_at.ensures.back in
    let other : has_key key v ≡ false = ap (λ (k : List ℕ). bytes_eq k key) (sym c.bytes.ensures.bytes) ∙ sym c.eq.ensures ∙ c.if-eq.false in
    newest_other key vs n c.requires c.count_below_near.ensures.below v (ordered-drop vs n c.requires) (within-drop (λ (w : Version). has_key_below key w ≡ false) vs n c.count_below_near.ensures.from) some other
