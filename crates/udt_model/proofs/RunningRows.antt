-- Running jobs that run rightly, and some that don't.
use Rattle.std.proofs.Common.{arith, [], ◌∷◌, codes, Some, None, refl}
use Rattle.std.proofs.lemmas.List.Elements.{All-nil}
use Rattle.ts_key.specs.declared.version.Form.TheVariants.{Persist}
use Rattle.udt_model.specs.declared.reply.Reply.TheVariants as replies
use Rattle.udt_model.specs.State.{State, unflushed}
use Rattle.udt_model.specs.Acts.{Act}
use Rattle.udt_model.specs.Steps.{after}
use Rattle.udt_model.specs.Running.{IsSince, RunsRightly}
use Rattle.udt_model.proofs.Limits.{planned, version}
use Rattle.udt_model.proofs.Samples.{head}

-- ---- flushes

abbrev written : State
written = unflushed (head (codes "d") Persist 0 ∷ []) (version (codes "a") 1 ∷ []) (record { 0 = 1 }) None

abbrev flushing : State
flushing = after written 2 (Act.flush_start (record { 0 = 0 })) (replies.OkAt 1)

pub flush_runs : RunsRightly flushing
flush_runs = record { flush = (_, refl, record { from = omega arith; to = omega arith; floor = omega arith; snaps = All-nil (IsSince [] (record { 0 = 1 })) }); compaction = tt }

-- it takes no more than was written
pub no_more_than_written : RunsRightly (record flushing { last = record { 0 = 0 } }) → ⊥
no_more_than_written h = let to = h.flush.2.to in omega (arith, to)

-- ---- compactions

-- no span is deeper than level 2: one that says so is wrong
abbrev with_deeper : State
with_deeper = record planned { compaction = Some (record { start = 5; family = record { 0 = 0 }; inputs = 4 ∷ []; level = 2; deeper = record { low = codes "a"; high = codes "b" } ∷ []; last = record { 0 = 30 }; floor = record { 0 = 0 }; seqs = [] }) }

pub no_wrong_span : RunsRightly with_deeper → ⊥
no_wrong_span h = let e = h.compaction.2.deeper in absurd (cc e)

-- an input that isn't live
pub no_dead_input : RunsRightly (record planned { compaction = Some (record { start = 5; family = record { 0 = 0 }; inputs = 5 ∷ []; level = 2; deeper = []; last = record { 0 = 30 }; floor = record { 0 = 0 }; seqs = [] }) }) → ⊥
no_dead_input h = let e = h.compaction.2.live in absurd (cc e)
