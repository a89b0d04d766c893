use Rattle.ts_key.specs.Numbers.{number_bytes}
use Rattle.manifest_edit.specs.Edits.{IsWord, IsTableWords, AreCounted, IsSizedFamily, counted_text, table_text, family_edit_text}
use Rattle.manifest_edit.proofs.Fronts.{hands_on, none_there}
use Rattle.manifest_edit.proofs.Parts.{behind_family, behind_floor, behind_through, behind_added, floor_none, through_none, added_none, removed_none}
use Rattle.manifest_edit.proofs.read.family.Goals as goal

pub returns-in_err-floor : goal.returns-in_err-floor
returns-in_err-floor c =
    hands_on family_edit_text IsSizedFamily _ _ _ c.from_residual-in_err-floor.result _ c.from_residual-in_err-floor.ensures.1
    (λ is. behind_family c.in_ok-family.family _ _ c.in_ok-family.ensures.read.0 c.in_ok-family.ensures.read.1 (floor_none _ c.in_err-floor.ensures.read))

pub returns-in_err-through : goal.returns-in_err-through
returns-in_err-through c =
    hands_on family_edit_text IsSizedFamily _ _ _ c.from_residual-in_err-through.result _ c.from_residual-in_err-through.ensures.1
    (λ is. behind_family c.in_ok-family.family _ _ c.in_ok-family.ensures.read.0 c.in_ok-family.ensures.read.1 (behind_floor c.in_ok-floor.floor _ _ c.in_ok-floor.ensures.read.0 c.in_ok-floor.ensures.read.1 (through_none _ c.in_err-through.ensures.read)))

pub returns-in_err-add : goal.returns-in_err-add
returns-in_err-add c =
    hands_on family_edit_text IsSizedFamily _ _ _ c.from_residual-in_err-add.result c.in_err-add.field-0.0 c.from_residual-in_err-add.ensures.1
    (λ is. behind_family c.in_ok-family.family _ _ c.in_ok-family.ensures.read.0 c.in_ok-family.ensures.read.1 (behind_floor c.in_ok-floor.floor _ _ c.in_ok-floor.ensures.read.0 c.in_ok-floor.ensures.read.1 (behind_through c.in_ok-through.through _ _ c.in_ok-through.ensures.read.0 c.in_ok-through.ensures.read.1 (added_none _ (none_there (counted_text table_text) (AreCounted IsTableWords) _ _ c.in_err-add.ensures is)))))

pub returns-in_err-remove : goal.returns-in_err-remove
returns-in_err-remove c =
    hands_on family_edit_text IsSizedFamily _ _ _ c.from_residual-in_err-remove.result c.in_err-remove.field-0.0 c.from_residual-in_err-remove.ensures.1
    (λ is. behind_family c.in_ok-family.family _ _ c.in_ok-family.ensures.read.0 c.in_ok-family.ensures.read.1 (behind_floor c.in_ok-floor.floor _ _ c.in_ok-floor.ensures.read.0 c.in_ok-floor.ensures.read.1 (behind_through c.in_ok-through.through _ _ c.in_ok-through.ensures.read.0 c.in_ok-through.ensures.read.1 (behind_added c.in_ok-add.add.items _ _ c.in_ok-add.ensures.0 c.in_ok-add.ensures.1 (removed_none _ (none_there (counted_text (number_bytes 8)) (AreCounted IsWord) _ _ c.in_err-remove.ensures is))))))
