-- What a read at a timestamp answers.
use Rattle.std.specs.Prelude.{ℕ, nat_lt, if◌then◌else◌, List, Option, Some, None}
use Rattle.ts_key.specs.declared.numbers.Family.{Family}
use Rattle.ts_key.specs.declared.numbers.Ts.{Ts}
use Rattle.ts_key.specs.declared.numbers.Seq.{Seq}
use Rattle.ts_key.specs.declared.version.Op.{Op}
use Rattle.ts_key.specs.declared.version.Op.TheVariants as ops
use Rattle.ts_key.specs.declared.version.Version.{Version}
use Rattle.udt_model.specs.declared.reply.Stamp.{Stamp}
use Rattle.udt_model.specs.declared.reply.Stamp.TheVariants as stamps
use Rattle.udt_model.specs.declared.read.Answer.{Answer}
use Rattle.udt_model.specs.declared.read.Answer.TheVariants as answers
use Rattle.udt_model.specs.declared.read.ModelRead.{ModelRead}
use Rattle.udt_model.specs.declared.read.ModelRead.TheVariants.{Collapsed, Told}
use Rattle.udt_model.specs.Versions.{visible}

-- the timestamp of a version, which isn't told below the floor
abbrev pub stamp_of : Ts → Ts → Stamp
stamp_of floor ts = if nat_lt ts.0 floor.0 then stamps.Below else stamps.At ts

abbrev pub answer_of_op : Stamp → Op → Answer
answer_of_op stamp ops.Del = answers.Absent
answer_of_op stamp (ops.Put value) = answers.Found value stamp

-- what the visible version answers, where there is one: a put its value, a delete nothing
abbrev pub answer_of : Ts → Option Version → Answer
answer_of floor None = answers.Absent
answer_of floor (Some v) = answer_of_op (stamp_of floor v.ts) v.op

-- a read at t that sees sequences up to s: it is refused exactly below the floor
abbrev pub read : List Version → Ts → Family → List ℕ → Ts → Seq → ModelRead
read w floor family key t s = if nat_lt t.0 floor.0 then Collapsed floor else Told (answer_of floor (visible w family key t s))
