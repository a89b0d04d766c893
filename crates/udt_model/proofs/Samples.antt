-- Short names for lines of a history.
use Rattle.std.proofs.Common.{ℕ, List}
use Rattle.ts_key.specs.declared.version.Op.{Op}
use Rattle.ts_key.specs.declared.version.Form.{Form}
use Rattle.ts_key.specs.declared.numbers.Ts.{Ts}
use Rattle.udt_model.specs.declared.event.Event.{Event}
use Rattle.udt_model.specs.declared.event.NamedOp.{NamedOp}
use Rattle.udt_model.specs.declared.reply.Reply.{Reply}
use Rattle.udt_model.specs.declared.reply.Row.{Row}
use Rattle.udt_model.specs.declared.reply.Piece.{Piece}
use Rattle.udt_model.specs.declared.reply.Stamp.{Stamp}
use Rattle.udt_model.specs.declared.line.FamilyHead.{FamilyHead}
use Rattle.udt_model.specs.declared.line.Line.{Line}
use Rattle.udt_model.specs.declared.line.Who.{Who}

abbrev pub ts : ℕ → Ts
ts t = record { 0 = t }

abbrev pub named : List ℕ → List ℕ → ℕ → Op → NamedOp
named family key t op = record { family = family; key = key; ts = ts t; op = op }

abbrev pub row : List ℕ → List ℕ → Stamp → Row
row key value stamp = record { key = key; value = value; stamp = stamp }

abbrev pub piece : ℕ → ℕ → Piece
piece table count = record { table = table; count = count }

abbrev pub head : List ℕ → Form → ℕ → FamilyHead
head name form floor = record { name = name; form = form; floor = ts floor }

abbrev pub line : ℕ → ℕ → Who → Event → Reply → Line
line n sub who event reply = record { mark = record { number = n; sub = sub }; who = who; event = event; reply = reply }
