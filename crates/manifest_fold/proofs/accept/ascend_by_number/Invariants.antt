use Rattle.std.proofs.Common.{ℕ, ◌+◌, ◌<◌, slice_index, map}
use Rattle.manifest_edit.specs.declared.edit.TableAt.{TableAt}
use Rattle.manifest_fold.proofs.accept.ascend_by_number.Given as goal

abbrev pub invariant-loop-i : goal.invariant-loop-i
invariant-loop-i l = (k : ℕ) → k + 1 < l.i → slice_index (map (λ (t : TableAt). t.number) l.tables) k < slice_index (map (λ (t : TableAt). t.number) l.tables) (k + 1)
