use Rattle.std.proofs.Common.{◌≤◌, length, take}
use Rattle.std.specs.Prelude.{All}
use Rattle.client_lang.specs.Print.{print_line}
use Rattle.client_runner.proofs.output.longest_line.Given as goal

abbrev pub invariant-loop-line : goal.invariant-loop-line
invariant-loop-line l = All (λ line. length (print_line line) ≤ l.longest) (take l.line-index l.lines)
