use Rattle.std.proofs.Common.{length}
use Rattle.client_lang.proofs.ReadLines.{ReadSoFar, parts_of}
use Rattle.client_lang.proofs.grammar.lines.read_lines.Given as goal

abbrev pub invariant-loop-i : goal.invariant-loop-i
invariant-loop-i l = ReadSoFar (parts_of l.bytes) (length l.yielded) l.commands.items
