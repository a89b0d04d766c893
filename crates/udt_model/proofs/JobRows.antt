-- Flushes and compactions, with snapshots and views: each line is legal where it stands, and wrong ones aren't.
use Rattle.std.proofs.Common.{arith, ◌≡◌, false, [], ◌∷◌, codes, Some, None, refl, inl}
use Rattle.ts_key.specs.declared.version.Op.TheVariants as ops
use Rattle.ts_key.specs.declared.version.Form.TheVariants.{Persist, Strip}
use Rattle.udt_model.specs.declared.event.Event.TheVariants as events
use Rattle.udt_model.specs.declared.reply.Reply.TheVariants as replies
use Rattle.udt_model.specs.declared.reply.Stamp.TheVariants as stamps
use Rattle.udt_model.specs.declared.line.Line.{Line}
use Rattle.udt_model.specs.declared.line.Who.TheVariants.{Client, Runner}
use Rattle.udt_model.specs.State.{unflushed}
use Rattle.udt_model.specs.Crashes.{settled}
use Rattle.udt_model.specs.Histories.{Point, IsLegal, behind, start}
use Rattle.udt_model.proofs.Samples.{ts, named, piece, head, line}

-- ---- a compaction

abbrev pub compacts-0 : Point
compacts-0 = start (unflushed (head (codes "d") Persist 0 ∷ []) [] (record { 0 = 0 }) None)

abbrev pub compacts_line-1 : Line
compacts_line-1 = line 1 0 (Client 1) (events.Write (named (codes "d") (codes "a") 5 (ops.Put (codes "u")) ∷ []) false) (replies.OkAt 1)

-- 1 c1 put d a 5 u = ok 1
pub compacts_legal-1 : IsLegal compacts-0 compacts_line-1
compacts_legal-1 = record { mark = refl; named = refl; reply = inl (record { running = refl; is = inl refl }) }

abbrev pub compacts-1 : Point
compacts-1 = behind compacts-0 compacts_line-1

abbrev pub compacts_line-2 : Line
compacts_line-2 = line 2 0 (Client 1) (events.Write (named (codes "d") (codes "a") 8 (ops.Put (codes "v")) ∷ []) false) (replies.OkAt 2)

-- 2 c1 put d a 8 v = ok 2
pub compacts_legal-2 : IsLegal compacts-1 compacts_line-2
compacts_legal-2 = record { mark = refl; named = refl; reply = inl (record { running = refl; is = inl refl }) }

abbrev pub compacts-2 : Point
compacts-2 = behind compacts-1 compacts_line-2

abbrev pub compacts_line-3 : Line
compacts_line-3 = line 3 0 (Client 1) (events.Write (named (codes "d") (codes "a") 9 (ops.Put (codes "w")) ∷ []) false) (replies.OkAt 3)

-- 3 c1 put d a 9 w = ok 3
pub compacts_legal-3 : IsLegal compacts-2 compacts_line-3
compacts_legal-3 = record { mark = refl; named = refl; reply = inl (record { running = refl; is = inl refl }) }

abbrev pub compacts-3 : Point
compacts-3 = behind compacts-2 compacts_line-3

abbrev pub compacts_line-4 : Line
compacts_line-4 = line 4 0 (Client 1) (events.Raise (codes "d") (ts 8)) replies.Done

-- 4 c1 raise d 8 = ok
pub compacts_legal-4 : IsLegal compacts-3 compacts_line-4
compacts_legal-4 = record { mark = refl; named = refl; reply = inl (record { running = refl; is = inl refl }) }

abbrev pub compacts-4 : Point
compacts-4 = behind compacts-3 compacts_line-4

abbrev pub compacts_line-5 : Line
compacts_line-5 = line 5 0 (Client 1) (events.FlushStart (codes "d")) (replies.OkAt 3)

-- 5 c1 flush d start = ok 3
pub compacts_legal-5 : IsLegal compacts-4 compacts_line-5
compacts_legal-5 = record { mark = refl; named = refl; reply = inl (record { running = refl; is = inl refl }) }

-- not 5 c1 flush d start = ok 2
pub compacts_illegal-5-1 : IsLegal compacts-4 (line 5 0 (Client 1) (events.FlushStart (codes "d")) (replies.OkAt 2)) → ⊥
compacts_illegal-5-1 h = grind (arith)

-- not 5 c1 flush d start = none
pub compacts_illegal-5-2 : IsLegal compacts-4 (line 5 0 (Client 1) (events.FlushStart (codes "d")) replies.Nothing) → ⊥
compacts_illegal-5-2 h = grind (arith)

abbrev pub compacts-5 : Point
compacts-5 = behind compacts-4 compacts_line-5

abbrev pub compacts_line-6 : Line
compacts_line-6 = line 6 0 (Client 1) (events.FlushEnd (codes "d") 5) (replies.Table 3 2 (ts 8))

-- 6 c1 flush d end 5 = table 3 kept 2 floor 8
pub compacts_legal-6 : IsLegal compacts-5 compacts_line-6
compacts_legal-6 = record { mark = refl; named = refl; reply = inl (record { running = refl; is = inl (refl, (refl, refl, refl)) }) }

-- not 6 c1 flush d end 5 = table 3 kept 3 floor 8
pub compacts_illegal-6-1 : IsLegal compacts-5 (line 6 0 (Client 1) (events.FlushEnd (codes "d") 5) (replies.Table 3 3 (ts 8))) → ⊥
compacts_illegal-6-1 h = grind (arith)

-- not 6 c1 flush d end 5 = table 3 kept 2 floor 9
pub compacts_illegal-6-2 : IsLegal compacts-5 (line 6 0 (Client 1) (events.FlushEnd (codes "d") 5) (replies.Table 3 2 (ts 9))) → ⊥
compacts_illegal-6-2 h = grind (arith)

-- not 6 c1 flush d end 4 = table 3 kept 2 floor 8
pub compacts_illegal-6-3 : IsLegal compacts-5 (line 6 0 (Client 1) (events.FlushEnd (codes "d") 4) (replies.Table 3 2 (ts 8))) → ⊥
compacts_illegal-6-3 h = grind (arith)

abbrev pub compacts-6 : Point
compacts-6 = behind compacts-5 compacts_line-6

abbrev pub compacts_line-7 : Line
compacts_line-7 = line 7 0 (Client 1) (events.CompactStart (codes "d") false) (replies.Inputs (3 ∷ []) 6)

-- 7 c1 compact d start = in 3 to 6
pub compacts_legal-7 : IsLegal compacts-6 compacts_line-7
compacts_legal-7 = record { mark = refl; named = refl; reply = inl (record { running = refl; is = inl refl }) }

-- not 7 c1 compact d start = in 3 to 5
pub compacts_illegal-7-1 : IsLegal compacts-6 (line 7 0 (Client 1) (events.CompactStart (codes "d") false) (replies.Inputs (3 ∷ []) 5)) → ⊥
compacts_illegal-7-1 h = grind (arith)

-- not 7 c1 compact d start = in 4 to 6
pub compacts_illegal-7-2 : IsLegal compacts-6 (line 7 0 (Client 1) (events.CompactStart (codes "d") false) (replies.Inputs (4 ∷ []) 6)) → ⊥
compacts_illegal-7-2 h = grind (arith)

abbrev pub compacts-7 : Point
compacts-7 = behind compacts-6 compacts_line-7

abbrev pub compacts_line-8 : Line
compacts_line-8 = line 8 0 (Client 1) (events.CompactEnd (codes "d") 7) (replies.Kept 2 (piece 4 2 ∷ []))

-- 8 c1 compact d end 7 = kept 2 out 4:2
pub compacts_legal-8 : IsLegal compacts-7 compacts_line-8
compacts_legal-8 = record { mark = refl; named = refl; reply = inl (record { running = refl; is = inl (refl, (refl, refl, refl)) }) }

-- not 8 c1 compact d end 7 = kept 1 out 4:1
pub compacts_illegal-8-1 : IsLegal compacts-7 (line 8 0 (Client 1) (events.CompactEnd (codes "d") 7) (replies.Kept 1 (piece 4 1 ∷ []))) → ⊥
compacts_illegal-8-1 h = grind (arith)

-- not 8 c1 compact d end 7 = kept 2 out 3:2
pub compacts_illegal-8-2 : IsLegal compacts-7 (line 8 0 (Client 1) (events.CompactEnd (codes "d") 7) (replies.Kept 2 (piece 3 2 ∷ []))) → ⊥
compacts_illegal-8-2 h = grind (arith)

-- not 8 c1 compact d end 7 = kept 2 out 4:1 5:1
pub compacts_illegal-8-3 : IsLegal compacts-7 (line 8 0 (Client 1) (events.CompactEnd (codes "d") 7) (replies.Kept 2 (piece 4 1 ∷ piece 5 1 ∷ []))) → ⊥
compacts_illegal-8-3 h = grind (arith)

-- not 8 c1 compact d end 7 = kept 2 out 4:1
pub compacts_illegal-8-4 : IsLegal compacts-7 (line 8 0 (Client 1) (events.CompactEnd (codes "d") 7) (replies.Kept 2 (piece 4 1 ∷ []))) → ⊥
compacts_illegal-8-4 h = grind (arith)

abbrev pub compacts-8 : Point
compacts-8 = behind compacts-7 compacts_line-8

-- an opening knows the numbers of live tables alone
pub compacts_used : compacts-8.state.used ≡ 3 ∷ 4 ∷ []
compacts_used = refl

pub compacts_settled : (settled compacts-8.state).used ≡ 4 ∷ []
compacts_settled = refl

-- ---- a compaction that keeps what the floor sees

abbrev pub keeps-0 : Point
keeps-0 = start (unflushed (head (codes "d") Persist 0 ∷ []) [] (record { 0 = 0 }) None)

abbrev pub keeps_line-1 : Line
keeps_line-1 = line 1 0 (Client 1) (events.Write (named (codes "d") (codes "a") 5 (ops.Put (codes "u")) ∷ []) false) (replies.OkAt 1)

-- 1 c1 put d a 5 u = ok 1
pub keeps_legal-1 : IsLegal keeps-0 keeps_line-1
keeps_legal-1 = record { mark = refl; named = refl; reply = inl (record { running = refl; is = inl refl }) }

abbrev pub keeps-1 : Point
keeps-1 = behind keeps-0 keeps_line-1

abbrev pub keeps_line-2 : Line
keeps_line-2 = line 2 0 (Client 1) (events.Write (named (codes "d") (codes "a") 9 (ops.Put (codes "w")) ∷ []) false) (replies.OkAt 2)

-- 2 c1 put d a 9 w = ok 2
pub keeps_legal-2 : IsLegal keeps-1 keeps_line-2
keeps_legal-2 = record { mark = refl; named = refl; reply = inl (record { running = refl; is = inl refl }) }

abbrev pub keeps-2 : Point
keeps-2 = behind keeps-1 keeps_line-2

abbrev pub keeps_line-3 : Line
keeps_line-3 = line 3 0 (Client 1) (events.Raise (codes "d") (ts 8)) replies.Done

-- 3 c1 raise d 8 = ok
pub keeps_legal-3 : IsLegal keeps-2 keeps_line-3
keeps_legal-3 = record { mark = refl; named = refl; reply = inl (record { running = refl; is = inl refl }) }

abbrev pub keeps-3 : Point
keeps-3 = behind keeps-2 keeps_line-3

abbrev pub keeps_line-4 : Line
keeps_line-4 = line 4 0 (Client 1) (events.FlushStart (codes "d")) (replies.OkAt 2)

-- 4 c1 flush d start = ok 2
pub keeps_legal-4 : IsLegal keeps-3 keeps_line-4
keeps_legal-4 = record { mark = refl; named = refl; reply = inl (record { running = refl; is = inl refl }) }

abbrev pub keeps-4 : Point
keeps-4 = behind keeps-3 keeps_line-4

abbrev pub keeps_line-5 : Line
keeps_line-5 = line 5 0 (Client 1) (events.FlushEnd (codes "d") 4) (replies.Table 3 2 (ts 8))

-- 5 c1 flush d end 4 = table 3 kept 2 floor 8
pub keeps_legal-5 : IsLegal keeps-4 keeps_line-5
keeps_legal-5 = record { mark = refl; named = refl; reply = inl (record { running = refl; is = inl (refl, (refl, refl, refl)) }) }

abbrev pub keeps-5 : Point
keeps-5 = behind keeps-4 keeps_line-5

abbrev pub keeps_line-6 : Line
keeps_line-6 = line 6 0 (Client 1) (events.CompactStart (codes "d") false) (replies.Inputs (3 ∷ []) 6)

-- 6 c1 compact d start = in 3 to 6
pub keeps_legal-6 : IsLegal keeps-5 keeps_line-6
keeps_legal-6 = record { mark = refl; named = refl; reply = inl (record { running = refl; is = inl refl }) }

abbrev pub keeps-6 : Point
keeps-6 = behind keeps-5 keeps_line-6

abbrev pub keeps_line-7 : Line
keeps_line-7 = line 7 0 (Client 1) (events.CompactEnd (codes "d") 6) (replies.Kept 2 (piece 4 2 ∷ []))

-- 7 c1 compact d end 6 = kept 2 out 4:2
pub keeps_legal-7 : IsLegal keeps-6 keeps_line-7
keeps_legal-7 = record { mark = refl; named = refl; reply = inl (record { running = refl; is = inl (refl, (refl, refl, refl)) }) }

abbrev pub keeps-7 : Point
keeps-7 = behind keeps-6 keeps_line-7

abbrev pub keeps_line-8 : Line
keeps_line-8 = line 8 0 (Client 1) (events.Get (codes "d") (codes "a") (ts 8) None) (replies.Found (codes "u") stamps.Below)

-- 8 c1 get d a 8 = found u below
pub keeps_legal-8 : IsLegal keeps-7 keeps_line-8
keeps_legal-8 = record { mark = refl; named = refl; reply = inl (record { running = refl; is = inl refl }) }

-- not 8 c1 get d a 8 = found u 5
pub keeps_illegal-8-1 : IsLegal keeps-7 (line 8 0 (Client 1) (events.Get (codes "d") (codes "a") (ts 8) None) (replies.Found (codes "u") (stamps.At (ts 5)))) → ⊥
keeps_illegal-8-1 h = grind (arith)

-- not 8 c1 get d a 8 = absent
pub keeps_illegal-8-2 : IsLegal keeps-7 (line 8 0 (Client 1) (events.Get (codes "d") (codes "a") (ts 8) None) replies.Absent) → ⊥
keeps_illegal-8-2 h = grind (arith)

abbrev pub keeps-8 : Point
keeps-8 = behind keeps-7 keeps_line-8

-- ---- a snapshot keeps what it sees

abbrev pub snaps-0 : Point
snaps-0 = start (unflushed (head (codes "d") Persist 0 ∷ []) [] (record { 0 = 0 }) None)

abbrev pub snaps_line-1 : Line
snaps_line-1 = line 1 0 (Client 1) (events.Write (named (codes "d") (codes "a") 5 (ops.Put (codes "v")) ∷ []) false) (replies.OkAt 1)

-- 1 c1 put d a 5 v = ok 1
pub snaps_legal-1 : IsLegal snaps-0 snaps_line-1
snaps_legal-1 = record { mark = refl; named = refl; reply = inl (record { running = refl; is = inl refl }) }

abbrev pub snaps-1 : Point
snaps-1 = behind snaps-0 snaps_line-1

abbrev pub snaps_line-2 : Line
snaps_line-2 = line 2 0 (Client 1) (events.Snap (codes "s")) (replies.OkAt 1)

-- 2 c1 snap s = ok 1
pub snaps_legal-2 : IsLegal snaps-1 snaps_line-2
snaps_legal-2 = record { mark = refl; named = refl; reply = inl (record { running = refl; is = inl refl }) }

-- not 2 c1 snap s = ok 0
pub snaps_illegal-2-1 : IsLegal snaps-1 (line 2 0 (Client 1) (events.Snap (codes "s")) (replies.OkAt 0)) → ⊥
snaps_illegal-2-1 h = grind (arith)

abbrev pub snaps-2 : Point
snaps-2 = behind snaps-1 snaps_line-2

abbrev pub snaps_line-3 : Line
snaps_line-3 = line 3 0 (Client 1) (events.Write (named (codes "d") (codes "a") 6 (ops.Put (codes "w")) ∷ []) false) (replies.OkAt 2)

-- 3 c1 put d a 6 w = ok 2
pub snaps_legal-3 : IsLegal snaps-2 snaps_line-3
snaps_legal-3 = record { mark = refl; named = refl; reply = inl (record { running = refl; is = inl refl }) }

abbrev pub snaps-3 : Point
snaps-3 = behind snaps-2 snaps_line-3

abbrev pub snaps_line-4 : Line
snaps_line-4 = line 4 0 (Client 1) (events.Raise (codes "d") (ts 7)) replies.Done

-- 4 c1 raise d 7 = ok
pub snaps_legal-4 : IsLegal snaps-3 snaps_line-4
snaps_legal-4 = record { mark = refl; named = refl; reply = inl (record { running = refl; is = inl refl }) }

abbrev pub snaps-4 : Point
snaps-4 = behind snaps-3 snaps_line-4

abbrev pub snaps_line-5 : Line
snaps_line-5 = line 5 0 (Client 1) (events.FlushStart (codes "d")) (replies.OkAt 2)

-- 5 c1 flush d start = ok 2
pub snaps_legal-5 : IsLegal snaps-4 snaps_line-5
snaps_legal-5 = record { mark = refl; named = refl; reply = inl (record { running = refl; is = inl refl }) }

abbrev pub snaps-5 : Point
snaps-5 = behind snaps-4 snaps_line-5

abbrev pub snaps_line-6 : Line
snaps_line-6 = line 6 0 (Client 1) (events.FlushEnd (codes "d") 5) (replies.Table 3 2 (ts 7))

-- 6 c1 flush d end 5 = table 3 kept 2 floor 7
pub snaps_legal-6 : IsLegal snaps-5 snaps_line-6
snaps_legal-6 = record { mark = refl; named = refl; reply = inl (record { running = refl; is = inl (refl, (refl, refl, refl)) }) }

-- not 6 c1 flush d end 5 = table 3 kept 1 floor 7
pub snaps_illegal-6-1 : IsLegal snaps-5 (line 6 0 (Client 1) (events.FlushEnd (codes "d") 5) (replies.Table 3 1 (ts 7))) → ⊥
snaps_illegal-6-1 h = grind (arith)

abbrev pub snaps-6 : Point
snaps-6 = behind snaps-5 snaps_line-6

abbrev pub snaps_line-7 : Line
snaps_line-7 = line 7 0 (Client 1) (events.CompactStart (codes "d") false) (replies.Inputs (3 ∷ []) 6)

-- 7 c1 compact d start = in 3 to 6
pub snaps_legal-7 : IsLegal snaps-6 snaps_line-7
snaps_legal-7 = record { mark = refl; named = refl; reply = inl (record { running = refl; is = inl refl }) }

abbrev pub snaps-7 : Point
snaps-7 = behind snaps-6 snaps_line-7

abbrev pub snaps_line-8 : Line
snaps_line-8 = line 8 0 (Client 1) (events.CompactEnd (codes "d") 7) (replies.Kept 2 (piece 4 2 ∷ []))

-- 8 c1 compact d end 7 = kept 2 out 4:2
pub snaps_legal-8 : IsLegal snaps-7 snaps_line-8
snaps_legal-8 = record { mark = refl; named = refl; reply = inl (record { running = refl; is = inl (refl, (refl, refl, refl)) }) }

abbrev pub snaps-8 : Point
snaps-8 = behind snaps-7 snaps_line-8

abbrev pub snaps_line-9 : Line
snaps_line-9 = line 9 0 (Client 1) (events.Get (codes "d") (codes "a") (ts 7) (Some (codes "s"))) (replies.Found (codes "v") stamps.Below)

-- 9 c1 get d a 7 s = found v below
pub snaps_legal-9 : IsLegal snaps-8 snaps_line-9
snaps_legal-9 = record { mark = refl; named = refl; reply = inl (record { running = refl; is = inl refl }) }

-- not 9 c1 get d a 7 s = found w below
pub snaps_illegal-9-1 : IsLegal snaps-8 (line 9 0 (Client 1) (events.Get (codes "d") (codes "a") (ts 7) (Some (codes "s"))) (replies.Found (codes "w") stamps.Below)) → ⊥
snaps_illegal-9-1 h = grind (arith)

-- not 9 c1 get d a 7 r = found v below
pub snaps_illegal-9-2 : IsLegal snaps-8 (line 9 0 (Client 1) (events.Get (codes "d") (codes "a") (ts 7) (Some (codes "r"))) (replies.Found (codes "v") stamps.Below)) → ⊥
snaps_illegal-9-2 h = grind (arith)

-- not 8.1 c1 get d a 7 s = unbound
pub snaps_illegal-9-3 : IsLegal snaps-8 (line 8 1 (Client 1) (events.Get (codes "d") (codes "a") (ts 7) (Some (codes "s"))) replies.Unbound) → ⊥
snaps_illegal-9-3 h = grind (arith)

abbrev pub snaps-9 : Point
snaps-9 = behind snaps-8 snaps_line-9

abbrev pub snaps_line-10 : Line
snaps_line-10 = line 10 0 (Client 1) (events.Release (codes "s")) replies.Done

-- 10 c1 release s = ok
pub snaps_legal-10 : IsLegal snaps-9 snaps_line-10
snaps_legal-10 = record { mark = refl; named = refl; reply = inl (record { running = refl; is = inl refl }) }

abbrev pub snaps-10 : Point
snaps-10 = behind snaps-9 snaps_line-10

abbrev pub snaps_line-11 : Line
snaps_line-11 = line 11 0 (Client 1) (events.FlushStart (codes "d")) replies.Nothing

-- 11 c1 flush d start = none
pub snaps_legal-11 : IsLegal snaps-10 snaps_line-11
snaps_legal-11 = record { mark = refl; named = refl; reply = inl (record { running = refl; is = inl refl }) }

-- not 11 c1 flush d start = ok 2
pub snaps_illegal-11-1 : IsLegal snaps-10 (line 11 0 (Client 1) (events.FlushStart (codes "d")) (replies.OkAt 2)) → ⊥
snaps_illegal-11-1 h = grind (arith)

abbrev pub snaps-11 : Point
snaps-11 = behind snaps-10 snaps_line-11

abbrev pub snaps_line-12 : Line
snaps_line-12 = line 12 0 (Client 1) (events.CompactStart (codes "d") false) (replies.Inputs (4 ∷ []) 6)

-- 12 c1 compact d start = in 4 to 6
pub snaps_legal-12 : IsLegal snaps-11 snaps_line-12
snaps_legal-12 = record { mark = refl; named = refl; reply = inl (record { running = refl; is = inl refl }) }

abbrev pub snaps-12 : Point
snaps-12 = behind snaps-11 snaps_line-12

abbrev pub snaps_line-13 : Line
snaps_line-13 = line 13 0 (Client 1) (events.CompactEnd (codes "d") 12) (replies.Kept 1 (piece 5 1 ∷ []))

-- 13 c1 compact d end 12 = kept 1 out 5:1
pub snaps_legal-13 : IsLegal snaps-12 snaps_line-13
snaps_legal-13 = record { mark = refl; named = refl; reply = inl (record { running = refl; is = inl (refl, (refl, refl, refl)) }) }

-- not 13 c1 compact d end 12 = kept 2 out 5:2
pub snaps_illegal-13-1 : IsLegal snaps-12 (line 13 0 (Client 1) (events.CompactEnd (codes "d") 12) (replies.Kept 2 (piece 5 2 ∷ []))) → ⊥
snaps_illegal-13-1 h = grind (arith)

-- not 13 c1 compact d end 12 = kept 1 out 3:1
pub snaps_illegal-13-2 : IsLegal snaps-12 (line 13 0 (Client 1) (events.CompactEnd (codes "d") 12) (replies.Kept 1 (piece 3 1 ∷ []))) → ⊥
snaps_illegal-13-2 h = grind (arith)

abbrev pub snaps-13 : Point
snaps-13 = behind snaps-12 snaps_line-13

-- ---- a view sees its pin

abbrev pub views-0 : Point
views-0 = start (unflushed (head (codes "d") Persist 0 ∷ []) [] (record { 0 = 0 }) None)

abbrev pub views_line-1 : Line
views_line-1 = line 1 0 (Client 1) (events.Write (named (codes "d") (codes "a") 5 (ops.Put (codes "v")) ∷ []) false) (replies.OkAt 1)

-- 1 c1 put d a 5 v = ok 1
pub views_legal-1 : IsLegal views-0 views_line-1
views_legal-1 = record { mark = refl; named = refl; reply = inl (record { running = refl; is = inl refl }) }

abbrev pub views-1 : Point
views-1 = behind views-0 views_line-1

abbrev pub views_line-2 : Line
views_line-2 = line 2 0 (Client 1) (events.Pin (codes "p")) replies.Done

-- 2 c1 pin p = ok
pub views_legal-2 : IsLegal views-1 views_line-2
views_legal-2 = record { mark = refl; named = refl; reply = inl (record { running = refl; is = inl refl }) }

abbrev pub views-2 : Point
views-2 = behind views-1 views_line-2

abbrev pub views_line-3 : Line
views_line-3 = line 3 0 (Client 1) (events.Write (named (codes "d") (codes "a") 6 (ops.Put (codes "w")) ∷ []) false) (replies.OkAt 2)

-- 3 c1 put d a 6 w = ok 2
pub views_legal-3 : IsLegal views-2 views_line-3
views_legal-3 = record { mark = refl; named = refl; reply = inl (record { running = refl; is = inl refl }) }

-- not 3 c1 pin p = ok
pub views_illegal-3-1 : IsLegal views-2 (line 3 0 (Client 1) (events.Pin (codes "p")) replies.Done) → ⊥
views_illegal-3-1 h = grind (arith)

abbrev pub views-3 : Point
views-3 = behind views-2 views_line-3

abbrev pub views_line-4 : Line
views_line-4 = line 4 0 (Client 1) (events.Raise (codes "d") (ts 7)) replies.Done

-- 4 c1 raise d 7 = ok
pub views_legal-4 : IsLegal views-3 views_line-4
views_legal-4 = record { mark = refl; named = refl; reply = inl (record { running = refl; is = inl refl }) }

abbrev pub views-4 : Point
views-4 = behind views-3 views_line-4

abbrev pub views_line-5 : Line
views_line-5 = line 5 0 (Client 1) (events.FlushStart (codes "d")) (replies.OkAt 2)

-- 5 c1 flush d start = ok 2
pub views_legal-5 : IsLegal views-4 views_line-5
views_legal-5 = record { mark = refl; named = refl; reply = inl (record { running = refl; is = inl refl }) }

abbrev pub views-5 : Point
views-5 = behind views-4 views_line-5

abbrev pub views_line-6 : Line
views_line-6 = line 6 0 (Client 1) (events.FlushEnd (codes "d") 5) (replies.Table 3 1 (ts 7))

-- 6 c1 flush d end 5 = table 3 kept 1 floor 7
pub views_legal-6 : IsLegal views-5 views_line-6
views_legal-6 = record { mark = refl; named = refl; reply = inl (record { running = refl; is = inl (refl, (refl, refl, refl)) }) }

-- not 6 c1 flush d end 5 = table 3 kept 2 floor 7
pub views_illegal-6-1 : IsLegal views-5 (line 6 0 (Client 1) (events.FlushEnd (codes "d") 5) (replies.Table 3 2 (ts 7))) → ⊥
views_illegal-6-1 h = grind (arith)

abbrev pub views-6 : Point
views-6 = behind views-5 views_line-6

abbrev pub views_line-7 : Line
views_line-7 = line 7 0 (Client 1) (events.CompactStart (codes "d") false) (replies.Inputs (3 ∷ []) 6)

-- 7 c1 compact d start = in 3 to 6
pub views_legal-7 : IsLegal views-6 views_line-7
views_legal-7 = record { mark = refl; named = refl; reply = inl (record { running = refl; is = inl refl }) }

abbrev pub views-7 : Point
views-7 = behind views-6 views_line-7

abbrev pub views_line-8 : Line
views_line-8 = line 8 0 (Client 1) (events.CompactEnd (codes "d") 7) (replies.Kept 1 (piece 4 1 ∷ []))

-- 8 c1 compact d end 7 = kept 1 out 4:1
pub views_legal-8 : IsLegal views-7 views_line-8
views_legal-8 = record { mark = refl; named = refl; reply = inl (record { running = refl; is = inl (refl, (refl, refl, refl)) }) }

abbrev pub views-8 : Point
views-8 = behind views-7 views_line-8

abbrev pub views_line-9 : Line
views_line-9 = line 8 1 (Client 1) (events.ViewGet (codes "p") (codes "d") (codes "a") (ts 5) None) (replies.Found (codes "v") (stamps.At (ts 5)))

-- 8.1 c1 in p get d a 5 = found v 5
pub views_legal-9 : IsLegal views-8 views_line-9
views_legal-9 = record { mark = refl; named = refl; reply = inl (record { running = refl; is = inl refl }) }

-- not 8.1 c1 in p get d a 5 = collapsed 7
pub views_illegal-9-1 : IsLegal views-8 (line 8 1 (Client 1) (events.ViewGet (codes "p") (codes "d") (codes "a") (ts 5) None) (replies.Collapsed (ts 7))) → ⊥
views_illegal-9-1 h = grind (arith)

-- not 8.1 c1 in p get d a 5 = found w 6
pub views_illegal-9-2 : IsLegal views-8 (line 8 1 (Client 1) (events.ViewGet (codes "p") (codes "d") (codes "a") (ts 5) None) (replies.Found (codes "w") (stamps.At (ts 6)))) → ⊥
views_illegal-9-2 h = grind (arith)

-- not 9 c1 in p get d a 5 = found v 5
pub views_illegal-9-3 : IsLegal views-8 (line 9 0 (Client 1) (events.ViewGet (codes "p") (codes "d") (codes "a") (ts 5) None) (replies.Found (codes "v") (stamps.At (ts 5)))) → ⊥
views_illegal-9-3 h = grind (arith)

-- not 8.1 c1 in q get d a 5 = found v 5
pub views_illegal-9-4 : IsLegal views-8 (line 8 1 (Client 1) (events.ViewGet (codes "q") (codes "d") (codes "a") (ts 5) None) (replies.Found (codes "v") (stamps.At (ts 5)))) → ⊥
views_illegal-9-4 h = grind (arith)

-- not 8.2 c1 in p get d a 5 = found v 5
pub views_illegal-9-5 : IsLegal views-8 (line 8 2 (Client 1) (events.ViewGet (codes "p") (codes "d") (codes "a") (ts 5) None) (replies.Found (codes "v") (stamps.At (ts 5)))) → ⊥
views_illegal-9-5 h = grind (arith)

abbrev pub views-9 : Point
views-9 = behind views-8 views_line-9

abbrev pub views_line-10 : Line
views_line-10 = line 9 0 (Client 1) (events.Get (codes "d") (codes "a") (ts 5) None) (replies.Collapsed (ts 7))

-- 9 c1 get d a 5 = collapsed 7
pub views_legal-10 : IsLegal views-9 views_line-10
views_legal-10 = record { mark = refl; named = refl; reply = inl (record { running = refl; is = inl refl }) }

-- not 9 c1 get d a 5 = found v 5
pub views_illegal-10-1 : IsLegal views-9 (line 9 0 (Client 1) (events.Get (codes "d") (codes "a") (ts 5) None) (replies.Found (codes "v") (stamps.At (ts 5)))) → ⊥
views_illegal-10-1 h = grind (arith)

abbrev pub views-10 : Point
views-10 = behind views-9 views_line-10

-- ---- a flush that strips timestamps

abbrev pub strips-0 : Point
strips-0 = start (unflushed (head (codes "d") Strip 0 ∷ []) [] (record { 0 = 0 }) None)

abbrev pub strips_line-1 : Line
strips_line-1 = line 1 0 (Client 1) (events.Write (named (codes "d") (codes "a") 5 (ops.Put (codes "v")) ∷ []) false) (replies.OkAt 1)

-- 1 c1 put d a 5 v = ok 1
pub strips_legal-1 : IsLegal strips-0 strips_line-1
strips_legal-1 = record { mark = refl; named = refl; reply = inl (record { running = refl; is = inl refl }) }

abbrev pub strips-1 : Point
strips-1 = behind strips-0 strips_line-1

abbrev pub strips_line-2 : Line
strips_line-2 = line 2 0 (Client 1) (events.FlushStart (codes "d")) (replies.OkAt 1)

-- 2 c1 flush d start = ok 1
pub strips_legal-2 : IsLegal strips-1 strips_line-2
strips_legal-2 = record { mark = refl; named = refl; reply = inl (record { running = refl; is = inl refl }) }

abbrev pub strips-2 : Point
strips-2 = behind strips-1 strips_line-2

abbrev pub strips_line-3 : Line
strips_line-3 = line 3 0 (Client 1) (events.FlushEnd (codes "d") 2) (replies.Table 3 1 (ts 6))

-- 3 c1 flush d end 2 = table 3 kept 1 floor 6
pub strips_legal-3 : IsLegal strips-2 strips_line-3
strips_legal-3 = record { mark = refl; named = refl; reply = inl (record { running = refl; is = inl (refl, (refl, refl, refl)) }) }

-- not 3 c1 flush d end 2 = table 3 kept 1 floor 0
pub strips_illegal-3-1 : IsLegal strips-2 (line 3 0 (Client 1) (events.FlushEnd (codes "d") 2) (replies.Table 3 1 (ts 0))) → ⊥
strips_illegal-3-1 h = grind (arith)

abbrev pub strips-3 : Point
strips-3 = behind strips-2 strips_line-3

abbrev pub strips_line-4 : Line
strips_line-4 = line 4 0 (Client 1) (events.Get (codes "d") (codes "a") (ts 5) None) (replies.Collapsed (ts 6))

-- 4 c1 get d a 5 = collapsed 6
pub strips_legal-4 : IsLegal strips-3 strips_line-4
strips_legal-4 = record { mark = refl; named = refl; reply = inl (record { running = refl; is = inl refl }) }

-- not 4 c1 get d a 5 = found v 5
pub strips_illegal-4-1 : IsLegal strips-3 (line 4 0 (Client 1) (events.Get (codes "d") (codes "a") (ts 5) None) (replies.Found (codes "v") (stamps.At (ts 5)))) → ⊥
strips_illegal-4-1 h = grind (arith)

abbrev pub strips-4 : Point
strips-4 = behind strips-3 strips_line-4

abbrev pub strips_line-5 : Line
strips_line-5 = line 5 0 (Client 1) (events.Get (codes "d") (codes "a") (ts 6) None) (replies.Found (codes "v") stamps.Below)

-- 5 c1 get d a 6 = found v below
pub strips_legal-5 : IsLegal strips-4 strips_line-5
strips_legal-5 = record { mark = refl; named = refl; reply = inl (record { running = refl; is = inl refl }) }

-- not 5 c1 get d a 6 = found v 0
pub strips_illegal-5-1 : IsLegal strips-4 (line 5 0 (Client 1) (events.Get (codes "d") (codes "a") (ts 6) None) (replies.Found (codes "v") (stamps.At (ts 0)))) → ⊥
strips_illegal-5-1 h = grind (arith)

abbrev pub strips-5 : Point
strips-5 = behind strips-4 strips_line-5

abbrev pub strips_line-6 : Line
strips_line-6 = line 6 0 (Client 1) (events.Write (named (codes "d") (codes "b") 5 (ops.Put (codes "w")) ∷ []) false) (replies.Below 1 (ts 6))

-- 6 c1 put d b 5 w = below 1 6
pub strips_legal-6 : IsLegal strips-5 strips_line-6
strips_legal-6 = record { mark = refl; named = refl; reply = inl (record { running = refl; is = inl refl }) }

abbrev pub strips-6 : Point
strips-6 = behind strips-5 strips_line-6

abbrev pub strips_line-7 : Line
strips_line-7 = line 7 0 Runner events.Sync replies.Done

-- 7 r sync = ok
pub strips_legal-7 : IsLegal strips-6 strips_line-7
strips_legal-7 = record { mark = refl; named = refl; reply = inl (record { running = refl; is = inl refl }) }

abbrev pub strips-7 : Point
strips-7 = behind strips-6 strips_line-7

-- ---- a delete at the floor

abbrev pub spends-0 : Point
spends-0 = start (unflushed (head (codes "d") Persist 0 ∷ []) [] (record { 0 = 0 }) None)

abbrev pub spends_line-1 : Line
spends_line-1 = line 1 0 (Client 1) (events.Write (named (codes "d") (codes "a") 5 (ops.Put (codes "v")) ∷ []) false) (replies.OkAt 1)

-- 1 c1 put d a 5 v = ok 1
pub spends_legal-1 : IsLegal spends-0 spends_line-1
spends_legal-1 = record { mark = refl; named = refl; reply = inl (record { running = refl; is = inl refl }) }

abbrev pub spends-1 : Point
spends-1 = behind spends-0 spends_line-1

abbrev pub spends_line-2 : Line
spends_line-2 = line 2 0 (Client 1) (events.Write (named (codes "d") (codes "a") 6 ops.Del ∷ []) false) (replies.OkAt 2)

-- 2 c1 del d a 6 = ok 2
pub spends_legal-2 : IsLegal spends-1 spends_line-2
spends_legal-2 = record { mark = refl; named = refl; reply = inl (record { running = refl; is = inl refl }) }

abbrev pub spends-2 : Point
spends-2 = behind spends-1 spends_line-2

abbrev pub spends_line-3 : Line
spends_line-3 = line 3 0 (Client 1) (events.Raise (codes "d") (ts 6)) replies.Done

-- 3 c1 raise d 6 = ok
pub spends_legal-3 : IsLegal spends-2 spends_line-3
spends_legal-3 = record { mark = refl; named = refl; reply = inl (record { running = refl; is = inl refl }) }

abbrev pub spends-3 : Point
spends-3 = behind spends-2 spends_line-3

abbrev pub spends_line-4 : Line
spends_line-4 = line 4 0 (Client 1) (events.FlushStart (codes "d")) (replies.OkAt 2)

-- 4 c1 flush d start = ok 2
pub spends_legal-4 : IsLegal spends-3 spends_line-4
spends_legal-4 = record { mark = refl; named = refl; reply = inl (record { running = refl; is = inl refl }) }

abbrev pub spends-4 : Point
spends-4 = behind spends-3 spends_line-4

abbrev pub spends_line-5 : Line
spends_line-5 = line 5 0 (Client 1) (events.FlushEnd (codes "d") 4) (replies.Table 3 1 (ts 6))

-- 5 c1 flush d end 4 = table 3 kept 1 floor 6
pub spends_legal-5 : IsLegal spends-4 spends_line-5
spends_legal-5 = record { mark = refl; named = refl; reply = inl (record { running = refl; is = inl (refl, (refl, refl, refl)) }) }

-- not 5 c1 flush d end 4 = table 3 kept 2 floor 6
pub spends_illegal-5-1 : IsLegal spends-4 (line 5 0 (Client 1) (events.FlushEnd (codes "d") 4) (replies.Table 3 2 (ts 6))) → ⊥
spends_illegal-5-1 h = grind (arith)

abbrev pub spends-5 : Point
spends-5 = behind spends-4 spends_line-5

abbrev pub spends_line-6 : Line
spends_line-6 = line 6 0 (Client 1) (events.CompactStart (codes "d") false) (replies.Inputs (3 ∷ []) 6)

-- 6 c1 compact d start = in 3 to 6
pub spends_legal-6 : IsLegal spends-5 spends_line-6
spends_legal-6 = record { mark = refl; named = refl; reply = inl (record { running = refl; is = inl refl }) }

abbrev pub spends-6 : Point
spends-6 = behind spends-5 spends_line-6

abbrev pub spends_line-7 : Line
spends_line-7 = line 7 0 (Client 1) (events.CompactEnd (codes "d") 6) (replies.Kept 0 [])

-- 7 c1 compact d end 6 = kept 0
pub spends_legal-7 : IsLegal spends-6 spends_line-7
spends_legal-7 = record { mark = refl; named = refl; reply = inl (record { running = refl; is = inl (refl, (refl, refl, refl)) }) }

-- not 7 c1 compact d end 6 = kept 1 out 4:1
pub spends_illegal-7-1 : IsLegal spends-6 (line 7 0 (Client 1) (events.CompactEnd (codes "d") 6) (replies.Kept 1 (piece 4 1 ∷ []))) → ⊥
spends_illegal-7-1 h = grind (arith)

abbrev pub spends-7 : Point
spends-7 = behind spends-6 spends_line-7

-- ---- a delete above the floor

abbrev pub spares-0 : Point
spares-0 = start (unflushed (head (codes "d") Persist 0 ∷ []) [] (record { 0 = 0 }) None)

abbrev pub spares_line-1 : Line
spares_line-1 = line 1 0 (Client 1) (events.Write (named (codes "d") (codes "a") 5 (ops.Put (codes "v")) ∷ []) false) (replies.OkAt 1)

-- 1 c1 put d a 5 v = ok 1
pub spares_legal-1 : IsLegal spares-0 spares_line-1
spares_legal-1 = record { mark = refl; named = refl; reply = inl (record { running = refl; is = inl refl }) }

abbrev pub spares-1 : Point
spares-1 = behind spares-0 spares_line-1

abbrev pub spares_line-2 : Line
spares_line-2 = line 2 0 (Client 1) (events.Write (named (codes "d") (codes "a") 6 ops.Del ∷ []) false) (replies.OkAt 2)

-- 2 c1 del d a 6 = ok 2
pub spares_legal-2 : IsLegal spares-1 spares_line-2
spares_legal-2 = record { mark = refl; named = refl; reply = inl (record { running = refl; is = inl refl }) }

abbrev pub spares-2 : Point
spares-2 = behind spares-1 spares_line-2

abbrev pub spares_line-3 : Line
spares_line-3 = line 3 0 (Client 1) (events.Raise (codes "d") (ts 5)) replies.Done

-- 3 c1 raise d 5 = ok
pub spares_legal-3 : IsLegal spares-2 spares_line-3
spares_legal-3 = record { mark = refl; named = refl; reply = inl (record { running = refl; is = inl refl }) }

abbrev pub spares-3 : Point
spares-3 = behind spares-2 spares_line-3

abbrev pub spares_line-4 : Line
spares_line-4 = line 4 0 (Client 1) (events.FlushStart (codes "d")) (replies.OkAt 2)

-- 4 c1 flush d start = ok 2
pub spares_legal-4 : IsLegal spares-3 spares_line-4
spares_legal-4 = record { mark = refl; named = refl; reply = inl (record { running = refl; is = inl refl }) }

abbrev pub spares-4 : Point
spares-4 = behind spares-3 spares_line-4

abbrev pub spares_line-5 : Line
spares_line-5 = line 5 0 (Client 1) (events.FlushEnd (codes "d") 4) (replies.Table 3 2 (ts 5))

-- 5 c1 flush d end 4 = table 3 kept 2 floor 5
pub spares_legal-5 : IsLegal spares-4 spares_line-5
spares_legal-5 = record { mark = refl; named = refl; reply = inl (record { running = refl; is = inl (refl, (refl, refl, refl)) }) }

abbrev pub spares-5 : Point
spares-5 = behind spares-4 spares_line-5

abbrev pub spares_line-6 : Line
spares_line-6 = line 6 0 (Client 1) (events.CompactStart (codes "d") false) (replies.Inputs (3 ∷ []) 6)

-- 6 c1 compact d start = in 3 to 6
pub spares_legal-6 : IsLegal spares-5 spares_line-6
spares_legal-6 = record { mark = refl; named = refl; reply = inl (record { running = refl; is = inl refl }) }

abbrev pub spares-6 : Point
spares-6 = behind spares-5 spares_line-6

abbrev pub spares_line-7 : Line
spares_line-7 = line 7 0 (Client 1) (events.CompactEnd (codes "d") 6) (replies.Kept 2 (piece 4 2 ∷ []))

-- 7 c1 compact d end 6 = kept 2 out 4:2
pub spares_legal-7 : IsLegal spares-6 spares_line-7
spares_legal-7 = record { mark = refl; named = refl; reply = inl (record { running = refl; is = inl (refl, (refl, refl, refl)) }) }

-- not 7 c1 compact d end 6 = kept 0
pub spares_illegal-7-1 : IsLegal spares-6 (line 7 0 (Client 1) (events.CompactEnd (codes "d") 6) (replies.Kept 0 [])) → ⊥
spares_illegal-7-1 h = grind (arith)

abbrev pub spares-7 : Point
spares-7 = behind spares-6 spares_line-7

-- ---- a flush leaves out what is hidden

abbrev pub hides-0 : Point
hides-0 = start (unflushed (head (codes "d") Persist 0 ∷ []) [] (record { 0 = 0 }) None)

abbrev pub hides_line-1 : Line
hides_line-1 = line 1 0 (Client 1) (events.Write (named (codes "d") (codes "a") 5 (ops.Put (codes "v")) ∷ []) false) (replies.OkAt 1)

-- 1 c1 put d a 5 v = ok 1
pub hides_legal-1 : IsLegal hides-0 hides_line-1
hides_legal-1 = record { mark = refl; named = refl; reply = inl (record { running = refl; is = inl refl }) }

abbrev pub hides-1 : Point
hides-1 = behind hides-0 hides_line-1

abbrev pub hides_line-2 : Line
hides_line-2 = line 2 0 (Client 1) (events.Write (named (codes "d") (codes "a") 5 (ops.Put (codes "w")) ∷ []) false) (replies.OkAt 2)

-- 2 c1 put d a 5 w = ok 2
pub hides_legal-2 : IsLegal hides-1 hides_line-2
hides_legal-2 = record { mark = refl; named = refl; reply = inl (record { running = refl; is = inl refl }) }

abbrev pub hides-2 : Point
hides-2 = behind hides-1 hides_line-2

abbrev pub hides_line-3 : Line
hides_line-3 = line 3 0 (Client 1) (events.FlushStart (codes "d")) (replies.OkAt 2)

-- 3 c1 flush d start = ok 2
pub hides_legal-3 : IsLegal hides-2 hides_line-3
hides_legal-3 = record { mark = refl; named = refl; reply = inl (record { running = refl; is = inl refl }) }

abbrev pub hides-3 : Point
hides-3 = behind hides-2 hides_line-3

abbrev pub hides_line-4 : Line
hides_line-4 = line 4 0 (Client 1) (events.FlushEnd (codes "d") 3) (replies.Table 3 1 (ts 0))

-- 4 c1 flush d end 3 = table 3 kept 1 floor 0
pub hides_legal-4 : IsLegal hides-3 hides_line-4
hides_legal-4 = record { mark = refl; named = refl; reply = inl (record { running = refl; is = inl (refl, (refl, refl, refl)) }) }

-- not 4 c1 flush d end 3 = table 3 kept 2 floor 0
pub hides_illegal-4-1 : IsLegal hides-3 (line 4 0 (Client 1) (events.FlushEnd (codes "d") 3) (replies.Table 3 2 (ts 0))) → ⊥
hides_illegal-4-1 h = grind (arith)

abbrev pub hides-4 : Point
hides-4 = behind hides-3 hides_line-4

abbrev pub hides_line-5 : Line
hides_line-5 = line 5 0 (Client 1) (events.FlushStart (codes "d")) replies.Nothing

-- 5 c1 flush d start = none
pub hides_legal-5 : IsLegal hides-4 hides_line-5
hides_legal-5 = record { mark = refl; named = refl; reply = inl (record { running = refl; is = inl refl }) }

-- not 5 c1 flush d start = ok 2
pub hides_illegal-5-1 : IsLegal hides-4 (line 5 0 (Client 1) (events.FlushStart (codes "d")) (replies.OkAt 2)) → ⊥
hides_illegal-5-1 h = grind (arith)

abbrev pub hides-5 : Point
hides-5 = behind hides-4 hides_line-5

-- ---- a write under a flush that strips

abbrev pub passes-0 : Point
passes-0 = start (unflushed (head (codes "d") Strip 0 ∷ []) [] (record { 0 = 0 }) None)

abbrev pub passes_line-1 : Line
passes_line-1 = line 1 0 (Client 1) (events.Write (named (codes "d") (codes "a") 10 (ops.Put (codes "x")) ∷ []) false) (replies.OkAt 1)

-- 1 c1 put d a 10 x = ok 1
pub passes_legal-1 : IsLegal passes-0 passes_line-1
passes_legal-1 = record { mark = refl; named = refl; reply = inl (record { running = refl; is = inl refl }) }

abbrev pub passes-1 : Point
passes-1 = behind passes-0 passes_line-1

abbrev pub passes_line-2 : Line
passes_line-2 = line 2 0 (Client 1) (events.FlushStart (codes "d")) (replies.OkAt 1)

-- 2 c1 flush d start = ok 1
pub passes_legal-2 : IsLegal passes-1 passes_line-2
passes_legal-2 = record { mark = refl; named = refl; reply = inl (record { running = refl; is = inl refl }) }

abbrev pub passes-2 : Point
passes-2 = behind passes-1 passes_line-2

abbrev pub passes_line-3 : Line
passes_line-3 = line 3 0 (Client 1) (events.Write (named (codes "d") (codes "b") 5 (ops.Put (codes "y")) ∷ []) false) (replies.OkAt 2)

-- 3 c1 put d b 5 y = ok 2
pub passes_legal-3 : IsLegal passes-2 passes_line-3
passes_legal-3 = record { mark = refl; named = refl; reply = inl (record { running = refl; is = inl refl }) }

abbrev pub passes-3 : Point
passes-3 = behind passes-2 passes_line-3

abbrev pub passes_line-4 : Line
passes_line-4 = line 4 0 (Client 1) (events.FlushEnd (codes "d") 2) (replies.Table 3 1 (ts 11))

-- 4 c1 flush d end 2 = table 3 kept 1 floor 11
pub passes_legal-4 : IsLegal passes-3 passes_line-4
passes_legal-4 = record { mark = refl; named = refl; reply = inl (record { running = refl; is = inl (refl, (refl, refl, refl)) }) }

-- not 4 c1 flush d end 2 = table 3 kept 2 floor 11
pub passes_illegal-4-1 : IsLegal passes-3 (line 4 0 (Client 1) (events.FlushEnd (codes "d") 2) (replies.Table 3 2 (ts 11))) → ⊥
passes_illegal-4-1 h = grind (arith)

-- not 4 c1 flush d end 2 = table 3 kept 1 floor 10
pub passes_illegal-4-2 : IsLegal passes-3 (line 4 0 (Client 1) (events.FlushEnd (codes "d") 2) (replies.Table 3 1 (ts 10))) → ⊥
passes_illegal-4-2 h = grind (arith)

-- not 4 c1 flush d end 2 = table 3 kept 1 floor 0
pub passes_illegal-4-3 : IsLegal passes-3 (line 4 0 (Client 1) (events.FlushEnd (codes "d") 2) (replies.Table 3 1 (ts 0))) → ⊥
passes_illegal-4-3 h = grind (arith)

abbrev pub passes-4 : Point
passes-4 = behind passes-3 passes_line-4

abbrev pub passes_line-5 : Line
passes_line-5 = line 5 0 (Client 1) (events.Get (codes "d") (codes "b") (ts 11) None) (replies.Found (codes "y") stamps.Below)

-- 5 c1 get d b 11 = found y below
pub passes_legal-5 : IsLegal passes-4 passes_line-5
passes_legal-5 = record { mark = refl; named = refl; reply = inl (record { running = refl; is = inl refl }) }

-- not 5 c1 get d b 11 = absent
pub passes_illegal-5-1 : IsLegal passes-4 (line 5 0 (Client 1) (events.Get (codes "d") (codes "b") (ts 11) None) replies.Absent) → ⊥
passes_illegal-5-1 h = grind (arith)

abbrev pub passes-5 : Point
passes-5 = behind passes-4 passes_line-5

abbrev pub passes_line-6 : Line
passes_line-6 = line 6 0 (Client 1) (events.Get (codes "d") (codes "b") (ts 10) None) (replies.Collapsed (ts 11))

-- 6 c1 get d b 10 = collapsed 11
pub passes_legal-6 : IsLegal passes-5 passes_line-6
passes_legal-6 = record { mark = refl; named = refl; reply = inl (record { running = refl; is = inl refl }) }

-- not 6 c1 get d b 10 = found y below
pub passes_illegal-6-1 : IsLegal passes-5 (line 6 0 (Client 1) (events.Get (codes "d") (codes "b") (ts 10) None) (replies.Found (codes "y") stamps.Below)) → ⊥
passes_illegal-6-1 h = grind (arith)

abbrev pub passes-6 : Point
passes-6 = behind passes-5 passes_line-6
