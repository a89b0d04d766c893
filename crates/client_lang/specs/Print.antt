-- How events, replies and lines are printed: as words, with one space between them.
use Rattle.std.specs.Prelude.{ℕ, ◌<◌, ◌≤◌, Bool, true, false, ◌==◌, ◌&&◌, ◌||◌, if◌then◌else◌, List, [], ◌∷◌, ◌++◌, length, codes, None}
use Rattle.std.specs.List.{join_by, join_with_byte, flat_map, list_all}
use Rattle.std.specs.Fmt.{decimal}
use Rattle.hex.specs.Hex.{encode_lower}
use Rattle.ts_key.specs.declared.limits.TheConstants.{BATCH_LIMIT}
use Rattle.ts_key.specs.Names.{is_between, is_name_byte}
use Rattle.ts_key.specs.declared.version.Op.{Op}
use Rattle.ts_key.specs.declared.version.Op.TheVariants as ops
use Rattle.ts_key.specs.declared.version.Form.{Form}
use Rattle.ts_key.specs.declared.version.Form.TheVariants.{Persist, Strip}
use Rattle.udt_model.specs.declared.event.NamedOp.{NamedOp}
use Rattle.udt_model.specs.declared.event.Event.{Event}
use Rattle.udt_model.specs.declared.event.Event.TheVariants.{Write, Get, Sync}
use Rattle.udt_model.specs.declared.reply.Reply.{Reply}
use Rattle.udt_model.specs.declared.reply.Reply.TheVariants.{Done, OkAt, Fell, Below, Full, Found, Absent, Collapsed, Unknown, Halted, Fault, NoMemory}
use Rattle.udt_model.specs.declared.reply.Stamp.{Stamp}
use Rattle.udt_model.specs.declared.reply.Stamp.TheVariants as stamps
use Rattle.udt_model.specs.declared.line.Line.{Line}
use Rattle.udt_model.specs.declared.line.Mark.{Mark}
use Rattle.udt_model.specs.declared.line.Who.{Who}
use Rattle.udt_model.specs.declared.line.Who.TheVariants.{Client, Flusher, Compactor, Runner}
use Rattle.udt_model.specs.declared.line.FamilyHead.{FamilyHead}
use Rattle.client_lang.specs.declared.command.Command.{Command}
use Rattle.client_lang.specs.declared.command.Command.TheVariants as commands

-- words with one space between them
abbrev pub spaced : List (List ℕ) → List ℕ
spaced words = join_with_byte 32 words

-- a line of these words, with its line feed
abbrev pub line_of : List (List ℕ) → List ℕ
line_of words = spaced words ++ 10 ∷ []

-- ---- byte words

-- A to Z, a to z, 0 to 9, and _ - . / : @ +
abbrev pub is_plain_byte : ℕ → Bool
is_plain_byte b = is_between 65 90 b || is_name_byte b || b == 43 || is_between 45 47 b || b == 58 || b == 64

-- it begins with 0x
abbrev pub begins_hex : List ℕ → Bool
begins_hex [] = false
begins_hex (a ∷ []) = false
begins_hex (a ∷ b ∷ bytes) = a == 48 && b == 120

-- the first form can hold the bytes: there is one, each is plain, and they don't begin with 0x
abbrev pub is_plain : List ℕ → Bool
is_plain bytes = if length bytes == 0 || begins_hex bytes then false else list_all is_plain_byte bytes

-- the second form: 0x, and each byte as two digits in lower case
abbrev pub hex_word : List ℕ → List ℕ
hex_word bytes = codes "0x" ++ encode_lower bytes

-- a byte word as it is printed: in the first form where that can hold it, else in the second
unfoldable pub spell : List ℕ → List ℕ
spell bytes = if is_plain bytes then bytes else hex_word bytes

-- ---- events

abbrev pub op_words_of : NamedOp → Op → List (List ℕ)
op_words_of o (ops.Put value) = codes "put" ∷ o.family ∷ spell o.key ∷ decimal o.ts.0 ∷ spell value ∷ []
op_words_of o ops.Del = codes "del" ∷ o.family ∷ spell o.key ∷ decimal o.ts.0 ∷ []

abbrev pub op_words : NamedOp → List (List ℕ)
op_words o = op_words_of o o.op

-- the word sync, or nothing
abbrev pub sync_words : Bool → List (List ℕ)
sync_words true = codes "sync" ∷ []
sync_words false = []

-- the words of operations, with the word ; between them
abbrev pub ops_words : List NamedOp → List (List ℕ)
ops_words os = join_by op_words (codes ";" ∷ []) os

abbrev pub write_words : List NamedOp → Bool → List (List ℕ)
write_words os sync = ops_words os ++ sync_words sync

-- The event is one whose command is built so far: a write of one or more operations, a get without a snapshot, or a sync.
abbrev pub IsBuilt : Event → Type 0
IsBuilt (Write os sync) = (0 < length os) × (length os ≤ BATCH_LIMIT)
IsBuilt (Get family key t None) = Unit {0}
IsBuilt Sync = Unit {0}
IsBuilt event = ⊥

-- the command is that of such an event
abbrev pub IsBuiltCommand : Command → Type 0
IsBuiltCommand (commands.Line event) = IsBuilt event

-- the words of an event that is built
abbrev pub event_words : Event → List (List ℕ)
event_words (Write os sync) = write_words os sync
event_words (Get family key t None) = codes "get" ∷ family ∷ spell key ∷ decimal t.0 ∷ []
event_words Sync = codes "sync" ∷ []
event_words event = []

-- ---- replies

abbrev pub stamp_word : Stamp → List ℕ
stamp_word (stamps.At ts) = decimal ts.0
stamp_word stamps.Below = codes "below"

-- the reply is one that a built event may have
abbrev pub IsBuiltReply : Reply → Type 0
IsBuiltReply Done = Unit {0}
IsBuiltReply (OkAt n) = Unit {0}
IsBuiltReply (Below op floor) = Unit {0}
IsBuiltReply (Fell op newest) = Unit {0}
IsBuiltReply (Full last) = Unit {0}
IsBuiltReply (Found value stamp) = Unit {0}
IsBuiltReply Absent = Unit {0}
IsBuiltReply (Collapsed floor) = Unit {0}
IsBuiltReply Unknown = Unit {0}
IsBuiltReply (Halted since) = Unit {0}
IsBuiltReply Fault = Unit {0}
IsBuiltReply NoMemory = Unit {0}
IsBuiltReply reply = ⊥

-- the words of a reply that is built
abbrev pub reply_words : Reply → List (List ℕ)
reply_words Done = codes "ok" ∷ []
reply_words (OkAt n) = codes "ok" ∷ decimal n ∷ []
reply_words (Below op floor) = codes "below" ∷ decimal op ∷ decimal floor.0 ∷ []
reply_words (Fell op newest) = codes "fell" ∷ decimal op ∷ decimal newest.0 ∷ []
reply_words (Full last) = codes "full" ∷ decimal last.0 ∷ []
reply_words (Found value stamp) = codes "found" ∷ spell value ∷ stamp_word stamp ∷ []
reply_words Absent = codes "absent" ∷ []
reply_words (Collapsed floor) = codes "collapsed" ∷ decimal floor.0 ∷ []
reply_words Unknown = codes "unknown" ∷ []
reply_words (Halted since) = codes "halted" ∷ decimal since ∷ []
reply_words Fault = codes "fault" ∷ []
reply_words NoMemory = codes "no" ∷ codes "memory" ∷ []
reply_words reply = []

-- ---- lines

-- the number of a step; behind it a point and the place of a line without one
abbrev pub mark_word : Mark → List ℕ
mark_word m = if m.sub == 0 then decimal m.number else decimal m.number ++ 46 ∷ decimal m.sub

abbrev pub who_word : Who → List ℕ
who_word (Client n) = 99 ∷ decimal n
who_word Flusher = codes "f"
who_word Compactor = codes "m"
who_word Runner = codes "r"

-- a line's event and reply are built
pub record IsBuiltLine (l : Line) : Type 0 where
  pub event : IsBuilt l.event
  pub reply : IsBuiltReply l.reply

abbrev pub line_words : Line → List (List ℕ)
line_words l = mark_word l.mark ∷ who_word l.who ∷ event_words l.event ++ codes "=" ∷ reply_words l.reply

abbrev pub print_line : Line → List ℕ
print_line l = line_of (line_words l)

abbrev pub print_lines : List Line → List ℕ
print_lines = flat_map print_line

-- ---- headers

abbrev pub form_word : Form → List ℕ
form_word Persist = codes "persist"
form_word Strip = codes "strip"

abbrev pub print_head : FamilyHead → List ℕ
print_head h = line_of (codes "family" ∷ h.name ∷ form_word h.form ∷ decimal h.floor.0 ∷ [])

-- what stands before the lines: the last sequence at the opening, and the families in order
abbrev pub print_header : ℕ → List FamilyHead → List ℕ
print_header last heads = line_of (codes "udt" ∷ codes "1" ∷ []) ++ line_of (codes "opened" ∷ decimal last ∷ []) ++ flat_map print_head heads ++ line_of (codes "begin" ∷ [])
