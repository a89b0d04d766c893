use Rattle.std.proofs.Common.{ap, subst, ◌∙◌}
use Rattle.std.specs.Prelude.{Option, option_map}
use Rattle.std.specs.List.{AllByRecursion}
use Rattle.ts_key.specs.Items.{Item}
use Rattle.ts_key.specs.StoredKeys.{IsItem}
use Rattle.block_table.specs.Held.{Held}
use Rattle.block_table.proofs.Newest.{newest_seen}
use Rattle.block_table.proofs.table.Table.newest.Goals as goal

pub returns-in-Some : goal.returns-in-Some
returns-in-Some c =
    let x = c.self.inside in
    let fit = subst (AllByRecursion (IsItem x.properties.form)) (ap (λ (t : Held). t.contents.items) c.self.view_is) c.self.invariant.1 in
    ap (λ (o : Option Item). option_map (λ (v : Item). v.sort_key.ts) o) (c.in-Some.ensures ∙ newest_seen x.properties.form c.args.key.now c.args.self.now.contents.items fit)

pub returns-in-None : goal.returns-in-None
returns-in-None c =
    let x = c.self.inside in
    let fit = subst (AllByRecursion (IsItem x.properties.form)) (ap (λ (t : Held). t.contents.items) c.self.view_is) c.self.invariant.1 in
    ap (λ (o : Option Item). option_map (λ (v : Item). v.sort_key.ts) o) (c.in-None.ensures ∙ newest_seen x.properties.form c.args.key.now c.args.self.now.contents.items fit)
