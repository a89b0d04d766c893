-- Light numbers leave what a commit shows.
use Rattle.std.proofs.Common.{◌≡◌, ◌∙◌, ℕ, Bool, true, false, List, [], ◌∷◌, ◌++◌, ap, sym, append-nil, append_assoc}
use Rattle.sv_gate.specs.Histories.{AreLight, IsLater}
use Rattle.gate_rows.specs.GateRows.{needs_commit, committed, committed_light}

abbrev pub is_light : ℕ → Type 0
is_light x = needs_commit x ≡ false

committed_all : (log others : List ℕ) → AreLight is_light others → committed (log ++ others) ≡ committed log
committed_all log [] light = ap committed (append-nil log)
committed_all log (x ∷ xs) light = ap committed (sym (append_assoc log (x ∷ []) xs)) ∙ (committed_all (log ++ x ∷ []) xs light.1 ∙ committed_light log x light.0)

pub committed_later : (has_commit : Bool) (before now : List ℕ) → has_commit ≡ true → IsLater is_light has_commit before now → committed now ≡ committed before
committed_later has_commit before now has later = ap committed later.is ∙ committed_all before later.others (later.are_light has)
