-- Versions that are added to a store one by one.
use Rattle.std.specs.Prelude.{◌≡◌, ℕ, List, [], ◌∷◌, ◌++◌, Option, Some, None}
use Rattle.udt_model.specs.declared.event.NamedOp.{NamedOp}
use Rattle.udt_model.specs.declared.reply.Reply.{Reply}
use Rattle.udt_model.specs.declared.reply.Reply.TheVariants.{OkAt, Fault}
use Rattle.ts_key.specs.declared.batch.WriteOp.{WriteOp}
use Rattle.ts_key.specs.declared.version.Version.{Version}
use Rattle.client_lang.specs.Print.{IsBuiltReply}
use Rattle.udt_model.specs.State.{State}
use Rattle.solo_runner.specs.Named.{family_of_op, full_for_ops, versions_made, refusal_of_ops, unknown_in_ops, version_of_op}
use Rattle.udt_model.specs.Refusals.{◌or_else◌}

-- the state with these versions
abbrev pub with_versions : State → List Version → State
with_versions m w = record m { versions = w }

-- what an operation leaves: its version behind the others, or nothing where it is refused
abbrev pub after_op : State → NamedOp → ℕ → Option Reply → State
after_op m o n None = with_versions m (m.versions ++ version_of_op (family_of_op m o) o n ∷ [])
after_op m o n (Some refusal) = m

-- the refusal of a write to a store that isn't halted, if it is refused
abbrev pub refusal_of : State → List NamedOp → Option Reply
refusal_of m os = unknown_in_ops m os or_else refusal_of_ops m m.versions m.last.0 1 os or_else full_for_ops m os

-- versions were added behind those of before
abbrev pub Grows : State → State → Type 0
Grows old new = (more : List Version) × (new ≡ with_versions old (old.versions ++ more))

-- the versions of all operations were added, or a front of them where one is refused
abbrev pub IsAdded : State → List NamedOp → Option Reply → State → Type 0
IsAdded old os None new = new ≡ with_versions old (old.versions ++ versions_made old old.last.0 os)
IsAdded old os (Some refusal) new = Grows old new

-- the versions of all operations were added, or nothing where one is refused
abbrev pub IsAdmitted : State → List NamedOp → Option Reply → State → Type 0
IsAdmitted old os None new = new ≡ with_versions old (old.versions ++ versions_made old old.last.0 os)
IsAdmitted old os (Some refusal) new = new ≡ old

-- the operation of a batch that makes a version
abbrev pub op_of_version : Version → WriteOp
op_of_version v = record { family = v.family; key = v.key; ts = v.ts; op = v.op }

-- a reply that refuses a write, of those that are built
abbrev pub IsWriteRefusal : Reply → Type 0
IsWriteRefusal (OkAt n) = ⊥
IsWriteRefusal Fault = ⊥
IsWriteRefusal reply = IsBuiltReply reply
