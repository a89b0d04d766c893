use Rattle.std.proofs.Common.{◌≡◌, ◌++◌, ◌∷◌, [], ℕ, List, length, subst, sym, arith}
use Rattle.std.specs.Prelude.{All}
use Rattle.std.specs.List.{flat_map}
use Rattle.std.proofs.lemmas.Grind.{common_steps}
use Rattle.ts_key.specs.Numbers.{number_bytes}
use Rattle.ts_key.specs.Reading.{SpellsNone}
use Rattle.manifest_edit.specs.Edits.{IsWord}
use Rattle.manifest_edit.proofs.Fronts.{hands_on, list_more, stops}
use Rattle.manifest_edit.proofs.Parts.{words_unique}
use Rattle.manifest_edit.proofs.read.take_numbers.Goals as goal

pub returns-in_err-number : goal.returns-in_err-number
returns-in_err-number c =
    let Counted = λ (ns : List ℕ). (length ns ≡ c.args.count) × All IsWord ns in
    hands_on (flat_map (number_bytes 8)) Counted _ _ _ c.from_residual.result _ c.from_residual.ensures.1
    (λ _. subst (SpellsNone (flat_map (number_bytes 8)) Counted) (sym c.loop.invariant.2)
    (stops (number_bytes 8) IsWord words_unique c.loop.numbers.items c.loop.reader.left.now c.args.count c.loop.invariant.1 (omega arith) c.in_err-number.ensures.read))

pub loop-preserved : goal.loop-preserved
loop-preserved c =
    let added : c.push.new.self.items ≡ c.loop.numbers.items ++ c.in_ok-number.number ∷ [] = grind (arith, common_steps) in
    list_more (number_bytes 8) IsWord c.loop.numbers.items c.in_ok-number.number c.push.new.self.items c.args.reader.now.left.now c.loop.reader.left.now c.take_u64.new.self.left.now c.loop.counter added c.loop.invariant c.in_ok-number.ensures.read
