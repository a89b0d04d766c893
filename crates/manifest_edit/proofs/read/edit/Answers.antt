use Rattle.std.proofs.Common.{arith}
use Rattle.ts_key.specs.Numbers.{number_bytes}
use Rattle.manifest_edit.specs.Edits.{IsWord, AreCounted, IsSizedPart, IsSized, counted_text, part_text, edit_text}
use Rattle.manifest_edit.proofs.Fronts.{hands_on, none_there}
use Rattle.manifest_edit.proofs.Parts.{behind_kind, behind_logs, behind_dropped, behind_next, behind_last, dropped_none, next_none, last_none, part_none}
use Rattle.manifest_edit.proofs.read.edit.Goals as goal

pub returns-in_err-drop_logs : goal.returns-in_err-drop_logs
returns-in_err-drop_logs c =
    hands_on edit_text IsSized _ _ _ c.from_residual-in_err-drop_logs.result c.in_err-drop_logs.field-0.0 c.from_residual-in_err-drop_logs.ensures.1
    (λ is. behind_kind c.in_ok-kind.kind _ _ (omega arith) c.in_ok-kind.ensures.read.1 (behind_logs c.in_ok-add_logs.add_logs.items _ _ c.in_ok-add_logs.ensures.0 c.in_ok-add_logs.ensures.1 (dropped_none _ (none_there (counted_text (number_bytes 8)) (AreCounted IsWord) _ _ c.in_err-drop_logs.ensures is))))

pub returns-in_err-next_file : goal.returns-in_err-next_file
returns-in_err-next_file c =
    hands_on edit_text IsSized _ _ _ c.from_residual-in_err-next_file.result _ c.from_residual-in_err-next_file.ensures.1
    (λ is. behind_kind c.in_ok-kind.kind _ _ (omega arith) c.in_ok-kind.ensures.read.1 (behind_logs c.in_ok-add_logs.add_logs.items _ _ c.in_ok-add_logs.ensures.0 c.in_ok-add_logs.ensures.1 (behind_dropped c.in_ok-drop_logs.drop_logs.items _ _ c.in_ok-drop_logs.ensures.0 c.in_ok-drop_logs.ensures.1 (next_none _ c.in_err-next_file.ensures.read))))

pub returns-in_err-last : goal.returns-in_err-last
returns-in_err-last c =
    hands_on edit_text IsSized _ _ _ c.from_residual-in_err-last.result _ c.from_residual-in_err-last.ensures.1
    (λ is. behind_kind c.in_ok-kind.kind _ _ (omega arith) c.in_ok-kind.ensures.read.1 (behind_logs c.in_ok-add_logs.add_logs.items _ _ c.in_ok-add_logs.ensures.0 c.in_ok-add_logs.ensures.1 (behind_dropped c.in_ok-drop_logs.drop_logs.items _ _ c.in_ok-drop_logs.ensures.0 c.in_ok-drop_logs.ensures.1 (behind_next c.in_ok-next_file.next_file _ _ c.in_ok-next_file.ensures.read.0 c.in_ok-next_file.ensures.read.1 (last_none _ c.in_err-last.ensures.read)))))

pub returns-in_err-family : goal.returns-in_err-family
returns-in_err-family c =
    hands_on edit_text IsSized _ _ _ c.from_residual-in_err-family.result c.in_err-family.field-0.0 c.from_residual-in_err-family.ensures.1
    (λ is. behind_kind c.in_ok-kind.kind _ _ (omega arith) c.in_ok-kind.ensures.read.1 (behind_logs c.in_ok-add_logs.add_logs.items _ _ c.in_ok-add_logs.ensures.0 c.in_ok-add_logs.ensures.1 (behind_dropped c.in_ok-drop_logs.drop_logs.items _ _ c.in_ok-drop_logs.ensures.0 c.in_ok-drop_logs.ensures.1 (behind_next c.in_ok-next_file.next_file _ _ c.in_ok-next_file.ensures.read.0 c.in_ok-next_file.ensures.read.1 (behind_last c.in_ok-last.last _ _ c.in_ok-last.ensures.read.0 c.in_ok-last.ensures.read.1 (part_none _ (none_there part_text IsSizedPart _ _ c.in_err-family.ensures is)))))))
