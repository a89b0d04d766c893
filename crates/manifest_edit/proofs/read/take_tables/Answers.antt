use Rattle.std.proofs.Common.{◌≡◌, ◌++◌, ◌∷◌, [], List, length, subst, sym, arith}
use Rattle.std.specs.Prelude.{All}
use Rattle.std.specs.List.{flat_map}
use Rattle.std.proofs.lemmas.Grind.{common_steps}
use Rattle.ts_key.specs.Reading.{SpellsNone}
use Rattle.manifest_edit.specs.declared.edit.TableAt.{TableAt}
use Rattle.manifest_edit.specs.Edits.{table_text, IsTableWords}
use Rattle.manifest_edit.proofs.Fronts.{hands_on, none_there, list_more, stops}
use Rattle.manifest_edit.proofs.Parts.{tables_unique_one}
use Rattle.manifest_edit.proofs.read.take_tables.Goals as goal

pub returns-in_err-table : goal.returns-in_err-table
returns-in_err-table c =
    let Counted = λ (ts : List TableAt). (length ts ≡ c.args.count) × All IsTableWords ts in
    hands_on (flat_map table_text) Counted _ _ _ c.from_residual.result c.in_err-table.field-0.0 c.from_residual.ensures.1
    (λ is. subst (SpellsNone (flat_map table_text) Counted) (sym c.loop.invariant.2)
    (stops table_text IsTableWords tables_unique_one c.loop.tables.items c.loop.reader.left.now c.args.count c.loop.invariant.1 (omega arith) (none_there table_text IsTableWords _ _ c.in_err-table.ensures is)))

pub loop-preserved : goal.loop-preserved
loop-preserved c =
    let added : c.push.new.self.items ≡ c.loop.tables.items ++ c.in_ok-table.table ∷ [] = grind (arith, common_steps) in
    list_more table_text IsTableWords c.loop.tables.items c.in_ok-table.table c.push.new.self.items c.args.reader.now.left.now c.loop.reader.left.now c.table.new.reader.left.now c.loop.counter added c.loop.invariant c.in_ok-table.ensures
