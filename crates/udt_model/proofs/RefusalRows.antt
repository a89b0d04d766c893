-- Refusals in their order, and what jobs may tell: each line is legal where it stands, and wrong ones aren't.
use Rattle.std.proofs.Common.{arith, ◌-◌, ◌^◌, ℕ, true, false, List, [], ◌∷◌, codes, Some, None, refl, inl}
use Rattle.ts_key.specs.declared.version.Op.TheVariants as ops
use Rattle.ts_key.specs.declared.version.Form.TheVariants.{Persist}
use Rattle.udt_model.specs.declared.event.Event.{Event}
use Rattle.udt_model.specs.declared.event.Event.TheVariants as events
use Rattle.udt_model.specs.declared.reply.Reply.TheVariants as replies
use Rattle.udt_model.specs.declared.line.Who.TheVariants.{Client, Compactor}
use Rattle.udt_model.specs.State.{State, unflushed}
use Rattle.udt_model.specs.Histories.{Point, IsLegal, behind, start}
use Rattle.udt_model.proofs.Limits.{planned, table}
use Rattle.udt_model.proofs.Samples.{ts, named, head, line}

abbrev d : List ℕ
d = codes "d"

abbrev put : List ℕ → ℕ → Event
put family t = events.Write (named family (codes "a") t (ops.Put (codes "v")) ∷ []) false

abbrev empty : State
empty = unflushed (head d Persist 0 ∷ []) [] (record { 0 = 0 }) None

-- ---- writes

abbrev halted : Point
halted = start (record empty { halted = Some 7 })

pub unknown_first : IsLegal halted (line 1 0 (Client 1) (put (codes "z") 5) replies.Unknown)
unknown_first = record { mark = refl; named = refl; reply = inl (record { running = refl; is = inl refl }) }

pub not_halted_first : IsLegal halted (line 1 0 (Client 1) (put (codes "z") 5) (replies.Halted 7)) → ⊥
not_halted_first h = grind (arith)

pub halted_then : IsLegal halted (line 1 0 (Client 1) (put d 5) (replies.Halted 7))
halted_then = record { mark = refl; named = refl; reply = inl (record { running = refl; is = inl refl }) }

-- an operation is judged over those before it
abbrev two_puts : Event
two_puts = events.Write (named d (codes "a") 5 (ops.Put (codes "v")) ∷ named d (codes "a") 4 (ops.Put (codes "w")) ∷ []) false

pub second_falls : IsLegal (start empty) (line 1 0 (Client 1) two_puts (replies.Fell 2 (ts 5)))
second_falls = record { mark = refl; named = refl; reply = inl (record { running = refl; is = inl refl }) }

pub not_taken : IsLegal (start empty) (line 1 0 (Client 1) two_puts (replies.OkAt 2)) → ⊥
not_taken h = grind (arith)

abbrev full : Point
full = start (unflushed (head d Persist 8 ∷ []) [] (record { 0 = 2 ^ 56 - 1 }) None)

pub below_first : IsLegal full (line 1 0 (Client 1) (put d 7) (replies.Below 1 (ts 8)))
below_first = record { mark = refl; named = refl; reply = inl (record { running = refl; is = inl refl }) }

pub not_full_first : IsLegal full (line 1 0 (Client 1) (put d 7) (replies.Full (record { 0 = 2 ^ 56 - 1 }))) → ⊥
not_full_first h = grind (arith)

-- ---- one job of a kind

abbrev written : Point
written = behind (start empty) (line 1 0 (Client 1) (put d 5) (replies.OkAt 1))

abbrev flushing : Point
flushing = behind written (line 2 0 (Client 1) (events.FlushStart d) (replies.OkAt 1))

pub busy_flush : IsLegal flushing (line 3 0 (Client 2) (events.FlushStart d) (replies.Busy 2))
busy_flush = record { mark = refl; named = refl; reply = inl (record { running = refl; is = inl refl }) }

pub no_second_flush : IsLegal flushing (line 3 0 (Client 2) (events.FlushStart d) (replies.OkAt 1)) → ⊥
no_second_flush h = grind (arith)

abbrev compacting : Point
compacting = behind (start planned) (line 1 0 Compactor (events.CompactStart d true) (replies.Inputs (4 ∷ []) 2))

pub busy_compaction : IsLegal compacting (line 2 0 Compactor (events.CompactStart d true) (replies.Busy 1))
busy_compaction = record { mark = refl; named = refl; reply = inl (record { running = refl; is = inl refl }) }

pub no_second_compaction : IsLegal compacting (line 2 0 Compactor (events.CompactStart d true) (replies.Inputs (4 ∷ []) 2)) → ⊥
no_second_compaction h = grind (arith)

-- ---- the end of a job while the store is halted

abbrev flushing_halted : Point
flushing_halted = record flushing { state = record flushing.state { halted = Some 7 } }

pub end_halted : IsLegal flushing_halted (line 3 0 (Client 1) (events.FlushEnd d 2) (replies.Halted 7))
end_halted = record { mark = refl; named = refl; reply = inl (record { running = refl; is = inl refl }) }

pub end_memory : IsLegal flushing_halted (line 3 0 (Client 1) (events.FlushEnd d 2) replies.DroppedMemory)
end_memory = record { mark = refl; named = refl; reply = inl (record { running = refl; is = inl tt }) }

pub no_end_fault : IsLegal flushing_halted (line 3 0 (Client 1) (events.FlushEnd d 2) replies.DroppedFault) → ⊥
no_end_fault h = grind (arith)

pub no_end_table : IsLegal flushing_halted (line 3 0 (Client 1) (events.FlushEnd d 2) (replies.Table 3 1 (ts 0))) → ⊥
no_end_table h = grind (arith)

-- ---- picks

abbrev three : State
three =
    let tables = table 7 0 (codes "a") (codes "b") ∷ table 8 0 (codes "c") (codes "d") ∷ table 9 0 (codes "b") (codes "f") ∷ [] in
    record empty { families = record { head = head d Persist 0; through = record { 0 = 30 }; tables = tables } ∷ [] }

pub none_of_three : IsLegal (start three) (line 1 0 Compactor (events.CompactStart d true) replies.Nothing)
none_of_three = record { mark = refl; named = refl; reply = inl (record { running = refl; is = inl refl }) }

pub some_of_four : IsLegal (start planned) (line 1 0 Compactor (events.CompactStart d true) replies.Nothing) → ⊥
some_of_four h = grind (arith)
