use Rattle.std.proofs.Common.{◌≡◌, List, sym, ap, subst, ◌∙◌}
use Rattle.std.specs.Prelude.{Contains, option_map}
use Rattle.std.specs.Option.{option_copied}
use Rattle.ts_key.specs.declared.version.Version.{Version}
use Rattle.ts_key.specs.Items.{item_of, items_of}
use Rattle.ts_key.specs.Lists.{IsOrdered}
use Rattle.ts_key.specs.Visible.{is_item_seen}
use Rattle.ts_key.specs.Firsts.{visible_is_first}
use Rattle.sorted_run.specs.Runs.{first_seen, sees}
use Rattle.sorted_run.proofs.Finds.{find_items, find_among, lent_some}
use Rattle.sorted_run.proofs.run.Run.find.Goals as goal

pub returns-clause-visible : goal.returns-clause-visible
returns-clause-visible c =
    let vs = c.args.self.now in
    let key = c.args.key.now in
    let t = c.args.t.0 in
    let s = c.args.s.0 in
    let found : option_copied c.find_in.result ≡ first_seen vs key t s = c.find_in.ensures ∙ ap (λ (l : List Version). first_seen l key t s) (c.deref.ensures.value ∙ c.self.view_is) in
    let order : IsOrdered (items_of vs) = subst (λ (l : List Version). IsOrdered (items_of l)) c.self.view_is c.self.invariant.order in
    ap (option_map item_of) found ∙ find_items (is_item_seen key t s) vs ∙ sym (visible_is_first (items_of vs) key t s order)

pub returns-clause-among : goal.returns-clause-among
returns-clause-among c =
    let vs = c.args.self.now in
    let key = c.args.key.now in
    let t = c.args.t.0 in
    let s = c.args.s.0 in
    let found : option_copied c.find_in.result ≡ first_seen vs key t s = c.find_in.ensures ∙ ap (λ (l : List Version). first_seen l key t s) (c.deref.ensures.value ∙ c.self.view_is) in
    lent_some (Contains vs) c.find_in.result (first_seen vs key t s) found (find_among (sees key t s) vs)
