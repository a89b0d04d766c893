-- Whole transcripts.
use Rattle.std.specs.Prelude.{ℕ, List, ◌++◌, All}
use Rattle.udt_model.specs.declared.line.FamilyHead.{FamilyHead}
use Rattle.udt_model.specs.declared.line.Line.{Line}
use Rattle.client_lang.specs.Print.{print_header, print_lines}
use Rattle.client_lang.specs.Typed.{IsNat64, IsTypedHead, IsTypedLine}

-- what a transcript tells: the last sequence at the opening, the families and the lines
pub record Transcript : Type 0 where
  pub last : ℕ
  pub heads : List FamilyHead
  pub lines : List Line

abbrev pub print_transcript : Transcript → List ℕ
print_transcript t = print_header t.last t.heads ++ print_lines t.lines

-- all that it tells is in range
pub record IsTypedTranscript (t : Transcript) : Type 0 where
  pub last : IsNat64 t.last
  pub heads : All IsTypedHead t.heads
  pub lines : All IsTypedLine t.lines
