-- Writes, reads, floors and scans: each line is legal where it stands, and wrong ones aren't.
use Rattle.std.proofs.Common.{arith, true, false, [], ◌∷◌, codes, Some, None, refl, inl}
use Rattle.ts_key.specs.declared.version.Op.TheVariants as ops
use Rattle.ts_key.specs.declared.version.Form.TheVariants.{Persist}
use Rattle.udt_model.specs.declared.event.Event.TheVariants as events
use Rattle.udt_model.specs.declared.reply.Reply.TheVariants as replies
use Rattle.udt_model.specs.declared.reply.Stamp.TheVariants as stamps
use Rattle.udt_model.specs.declared.line.Line.{Line}
use Rattle.udt_model.specs.declared.line.Who.TheVariants.{Client}
use Rattle.udt_model.specs.State.{unflushed}
use Rattle.udt_model.specs.Histories.{Point, IsLegal, behind, start}
use Rattle.udt_model.proofs.Samples.{ts, named, row, head, line}

-- ---- reads around a put

abbrev pub reads-0 : Point
reads-0 = start (unflushed (head (codes "d") Persist 0 ∷ []) [] (record { 0 = 0 }) None)

abbrev pub reads_line-1 : Line
reads_line-1 = line 1 0 (Client 1) (events.Write (named (codes "d") (codes "a") 5 (ops.Put (codes "v")) ∷ []) false) (replies.OkAt 1)

-- 1 c1 put d a 5 v = ok 1
pub reads_legal-1 : IsLegal reads-0 reads_line-1
reads_legal-1 = record { mark = refl; named = refl; reply = inl (record { running = refl; is = inl refl }) }

-- not 1 c1 put d a 5 v = ok 2
pub reads_illegal-1-1 : IsLegal reads-0 (line 1 0 (Client 1) (events.Write (named (codes "d") (codes "a") 5 (ops.Put (codes "v")) ∷ []) false) (replies.OkAt 2)) → ⊥
reads_illegal-1-1 h = grind (arith)

-- not 2 c1 put d a 5 v = ok 1
pub reads_illegal-1-2 : IsLegal reads-0 (line 2 0 (Client 1) (events.Write (named (codes "d") (codes "a") 5 (ops.Put (codes "v")) ∷ []) false) (replies.OkAt 1)) → ⊥
reads_illegal-1-2 h = grind (arith)

abbrev pub reads-1 : Point
reads-1 = behind reads-0 reads_line-1

abbrev pub reads_line-2 : Line
reads_line-2 = line 2 0 (Client 1) (events.Get (codes "d") (codes "a") (ts 4) None) replies.Absent

-- 2 c1 get d a 4 = absent
pub reads_legal-2 : IsLegal reads-1 reads_line-2
reads_legal-2 = record { mark = refl; named = refl; reply = inl (record { running = refl; is = inl refl }) }

-- not 2 c1 get d a 4 = found v 5
pub reads_illegal-2-1 : IsLegal reads-1 (line 2 0 (Client 1) (events.Get (codes "d") (codes "a") (ts 4) None) (replies.Found (codes "v") (stamps.At (ts 5)))) → ⊥
reads_illegal-2-1 h = grind (arith)

abbrev pub reads-2 : Point
reads-2 = behind reads-1 reads_line-2

abbrev pub reads_line-3 : Line
reads_line-3 = line 3 0 (Client 1) (events.Get (codes "d") (codes "a") (ts 5) None) (replies.Found (codes "v") (stamps.At (ts 5)))

-- 3 c1 get d a 5 = found v 5
pub reads_legal-3 : IsLegal reads-2 reads_line-3
reads_legal-3 = record { mark = refl; named = refl; reply = inl (record { running = refl; is = inl refl }) }

-- not 3 c1 get d a 5 = absent
pub reads_illegal-3-1 : IsLegal reads-2 (line 3 0 (Client 1) (events.Get (codes "d") (codes "a") (ts 5) None) replies.Absent) → ⊥
reads_illegal-3-1 h = grind (arith)

-- not 3 c1 get d a 5 = found v below
pub reads_illegal-3-2 : IsLegal reads-2 (line 3 0 (Client 1) (events.Get (codes "d") (codes "a") (ts 5) None) (replies.Found (codes "v") stamps.Below)) → ⊥
reads_illegal-3-2 h = grind (arith)

-- not 3 c1 get d a 5 = found w 5
pub reads_illegal-3-3 : IsLegal reads-2 (line 3 0 (Client 1) (events.Get (codes "d") (codes "a") (ts 5) None) (replies.Found (codes "w") (stamps.At (ts 5)))) → ⊥
reads_illegal-3-3 h = grind (arith)

-- not 3 c1 get d a 5 = found v 4
pub reads_illegal-3-4 : IsLegal reads-2 (line 3 0 (Client 1) (events.Get (codes "d") (codes "a") (ts 5) None) (replies.Found (codes "v") (stamps.At (ts 4)))) → ⊥
reads_illegal-3-4 h = grind (arith)

-- not 3 c1 get d a 5 = ok 1
pub reads_illegal-3-5 : IsLegal reads-2 (line 3 0 (Client 1) (events.Get (codes "d") (codes "a") (ts 5) None) (replies.OkAt 1)) → ⊥
reads_illegal-3-5 h = grind (arith)

-- not 2.1 c1 get d a 5 = found v 5
pub reads_illegal-3-6 : IsLegal reads-2 (line 2 1 (Client 1) (events.Get (codes "d") (codes "a") (ts 5) None) (replies.Found (codes "v") (stamps.At (ts 5)))) → ⊥
reads_illegal-3-6 h = grind (arith)

abbrev pub reads-3 : Point
reads-3 = behind reads-2 reads_line-3

abbrev pub reads_line-4 : Line
reads_line-4 = line 4 0 (Client 1) (events.Get (codes "d") (codes "a") (ts 18446744073709551615) None) (replies.Found (codes "v") (stamps.At (ts 5)))

-- 4 c1 get d a 18446744073709551615 = found v 5
pub reads_legal-4 : IsLegal reads-3 reads_line-4
reads_legal-4 = record { mark = refl; named = refl; reply = inl (record { running = refl; is = inl refl }) }

abbrev pub reads-4 : Point
reads-4 = behind reads-3 reads_line-4

-- ---- two writes at one timestamp

abbrev pub equals-0 : Point
equals-0 = start (unflushed (head (codes "d") Persist 0 ∷ []) [] (record { 0 = 0 }) None)

abbrev pub equals_line-1 : Line
equals_line-1 = line 1 0 (Client 1) (events.Write (named (codes "d") (codes "a") 5 (ops.Put (codes "v")) ∷ []) false) (replies.OkAt 1)

-- 1 c1 put d a 5 v = ok 1
pub equals_legal-1 : IsLegal equals-0 equals_line-1
equals_legal-1 = record { mark = refl; named = refl; reply = inl (record { running = refl; is = inl refl }) }

abbrev pub equals-1 : Point
equals-1 = behind equals-0 equals_line-1

abbrev pub equals_line-2 : Line
equals_line-2 = line 2 0 (Client 1) (events.Write (named (codes "d") (codes "a") 5 (ops.Put (codes "w")) ∷ []) false) (replies.OkAt 2)

-- 2 c1 put d a 5 w = ok 2
pub equals_legal-2 : IsLegal equals-1 equals_line-2
equals_legal-2 = record { mark = refl; named = refl; reply = inl (record { running = refl; is = inl refl }) }

abbrev pub equals-2 : Point
equals-2 = behind equals-1 equals_line-2

abbrev pub equals_line-3 : Line
equals_line-3 = line 3 0 (Client 1) (events.Get (codes "d") (codes "a") (ts 5) None) (replies.Found (codes "w") (stamps.At (ts 5)))

-- 3 c1 get d a 5 = found w 5
pub equals_legal-3 : IsLegal equals-2 equals_line-3
equals_legal-3 = record { mark = refl; named = refl; reply = inl (record { running = refl; is = inl refl }) }

-- not 3 c1 get d a 5 = found v 5
pub equals_illegal-3-1 : IsLegal equals-2 (line 3 0 (Client 1) (events.Get (codes "d") (codes "a") (ts 5) None) (replies.Found (codes "v") (stamps.At (ts 5)))) → ⊥
equals_illegal-3-1 h = grind (arith)

abbrev pub equals-3 : Point
equals-3 = behind equals-2 equals_line-3

-- ---- a delete

abbrev pub deletes-0 : Point
deletes-0 = start (unflushed (head (codes "d") Persist 0 ∷ []) [] (record { 0 = 0 }) None)

abbrev pub deletes_line-1 : Line
deletes_line-1 = line 1 0 (Client 1) (events.Write (named (codes "d") (codes "a") 5 (ops.Put (codes "v")) ∷ []) false) (replies.OkAt 1)

-- 1 c1 put d a 5 v = ok 1
pub deletes_legal-1 : IsLegal deletes-0 deletes_line-1
deletes_legal-1 = record { mark = refl; named = refl; reply = inl (record { running = refl; is = inl refl }) }

abbrev pub deletes-1 : Point
deletes-1 = behind deletes-0 deletes_line-1

abbrev pub deletes_line-2 : Line
deletes_line-2 = line 2 0 (Client 1) (events.Write (named (codes "d") (codes "a") 7 ops.Del ∷ []) false) (replies.OkAt 2)

-- 2 c1 del d a 7 = ok 2
pub deletes_legal-2 : IsLegal deletes-1 deletes_line-2
deletes_legal-2 = record { mark = refl; named = refl; reply = inl (record { running = refl; is = inl refl }) }

abbrev pub deletes-2 : Point
deletes-2 = behind deletes-1 deletes_line-2

abbrev pub deletes_line-3 : Line
deletes_line-3 = line 3 0 (Client 1) (events.Get (codes "d") (codes "a") (ts 6) None) (replies.Found (codes "v") (stamps.At (ts 5)))

-- 3 c1 get d a 6 = found v 5
pub deletes_legal-3 : IsLegal deletes-2 deletes_line-3
deletes_legal-3 = record { mark = refl; named = refl; reply = inl (record { running = refl; is = inl refl }) }

abbrev pub deletes-3 : Point
deletes-3 = behind deletes-2 deletes_line-3

abbrev pub deletes_line-4 : Line
deletes_line-4 = line 4 0 (Client 1) (events.Get (codes "d") (codes "a") (ts 7) None) replies.Absent

-- 4 c1 get d a 7 = absent
pub deletes_legal-4 : IsLegal deletes-3 deletes_line-4
deletes_legal-4 = record { mark = refl; named = refl; reply = inl (record { running = refl; is = inl refl }) }

-- not 4 c1 get d a 7 = found v 5
pub deletes_illegal-4-1 : IsLegal deletes-3 (line 4 0 (Client 1) (events.Get (codes "d") (codes "a") (ts 7) None) (replies.Found (codes "v") (stamps.At (ts 5)))) → ⊥
deletes_illegal-4-1 h = grind (arith)

abbrev pub deletes-4 : Point
deletes-4 = behind deletes-3 deletes_line-4

-- ---- a timestamp that falls

abbrev pub falling-0 : Point
falling-0 = start (unflushed (head (codes "d") Persist 0 ∷ []) [] (record { 0 = 0 }) None)

abbrev pub falling_line-1 : Line
falling_line-1 = line 1 0 (Client 1) (events.Write (named (codes "d") (codes "a") 5 (ops.Put (codes "v")) ∷ []) false) (replies.OkAt 1)

-- 1 c1 put d a 5 v = ok 1
pub falling_legal-1 : IsLegal falling-0 falling_line-1
falling_legal-1 = record { mark = refl; named = refl; reply = inl (record { running = refl; is = inl refl }) }

abbrev pub falling-1 : Point
falling-1 = behind falling-0 falling_line-1

abbrev pub falling_line-2 : Line
falling_line-2 = line 2 0 (Client 1) (events.Write (named (codes "d") (codes "a") 4 (ops.Put (codes "w")) ∷ []) false) (replies.Fell 1 (ts 5))

-- 2 c1 put d a 4 w = fell 1 5
pub falling_legal-2 : IsLegal falling-1 falling_line-2
falling_legal-2 = record { mark = refl; named = refl; reply = inl (record { running = refl; is = inl refl }) }

-- not 2 c1 put d a 4 w = ok 2
pub falling_illegal-2-1 : IsLegal falling-1 (line 2 0 (Client 1) (events.Write (named (codes "d") (codes "a") 4 (ops.Put (codes "w")) ∷ []) false) (replies.OkAt 2)) → ⊥
falling_illegal-2-1 h = grind (arith)

-- not 2 c1 put d a 4 w = fell 1 4
pub falling_illegal-2-2 : IsLegal falling-1 (line 2 0 (Client 1) (events.Write (named (codes "d") (codes "a") 4 (ops.Put (codes "w")) ∷ []) false) (replies.Fell 1 (ts 4))) → ⊥
falling_illegal-2-2 h = grind (arith)

-- not 2 c1 put d a 4 w = fell 2 5
pub falling_illegal-2-3 : IsLegal falling-1 (line 2 0 (Client 1) (events.Write (named (codes "d") (codes "a") 4 (ops.Put (codes "w")) ∷ []) false) (replies.Fell 2 (ts 5))) → ⊥
falling_illegal-2-3 h = grind (arith)

abbrev pub falling-2 : Point
falling-2 = behind falling-1 falling_line-2

abbrev pub falling_line-3 : Line
falling_line-3 = line 3 0 (Client 1) (events.Get (codes "d") (codes "a") (ts 5) None) (replies.Found (codes "v") (stamps.At (ts 5)))

-- 3 c1 get d a 5 = found v 5
pub falling_legal-3 : IsLegal falling-2 falling_line-3
falling_legal-3 = record { mark = refl; named = refl; reply = inl (record { running = refl; is = inl refl }) }

-- not 3 c1 get d a 5 = found w 5
pub falling_illegal-3-1 : IsLegal falling-2 (line 3 0 (Client 1) (events.Get (codes "d") (codes "a") (ts 5) None) (replies.Found (codes "w") (stamps.At (ts 5)))) → ⊥
falling_illegal-3-1 h = grind (arith)

abbrev pub falling-3 : Point
falling-3 = behind falling-2 falling_line-3

-- ---- reads and writes around a floor

abbrev pub floors-0 : Point
floors-0 = start (unflushed (head (codes "d") Persist 0 ∷ []) [] (record { 0 = 0 }) None)

abbrev pub floors_line-1 : Line
floors_line-1 = line 1 0 (Client 1) (events.Raise (codes "d") (ts 8)) replies.Done

-- 1 c1 raise d 8 = ok
pub floors_legal-1 : IsLegal floors-0 floors_line-1
floors_legal-1 = record { mark = refl; named = refl; reply = inl (record { running = refl; is = inl refl }) }

abbrev pub floors-1 : Point
floors-1 = behind floors-0 floors_line-1

abbrev pub floors_line-2 : Line
floors_line-2 = line 2 0 (Client 1) (events.Write (named (codes "d") (codes "a") 7 (ops.Put (codes "v")) ∷ []) false) (replies.Below 1 (ts 8))

-- 2 c1 put d a 7 v = below 1 8
pub floors_legal-2 : IsLegal floors-1 floors_line-2
floors_legal-2 = record { mark = refl; named = refl; reply = inl (record { running = refl; is = inl refl }) }

-- not 2 c1 put d a 7 v = ok 1
pub floors_illegal-2-1 : IsLegal floors-1 (line 2 0 (Client 1) (events.Write (named (codes "d") (codes "a") 7 (ops.Put (codes "v")) ∷ []) false) (replies.OkAt 1)) → ⊥
floors_illegal-2-1 h = grind (arith)

-- not 2 c1 put d a 7 v = below 1 7
pub floors_illegal-2-2 : IsLegal floors-1 (line 2 0 (Client 1) (events.Write (named (codes "d") (codes "a") 7 (ops.Put (codes "v")) ∷ []) false) (replies.Below 1 (ts 7))) → ⊥
floors_illegal-2-2 h = grind (arith)

abbrev pub floors-2 : Point
floors-2 = behind floors-1 floors_line-2

abbrev pub floors_line-3 : Line
floors_line-3 = line 3 0 (Client 1) (events.Write (named (codes "d") (codes "a") 8 (ops.Put (codes "v")) ∷ []) false) (replies.OkAt 1)

-- 3 c1 put d a 8 v = ok 1
pub floors_legal-3 : IsLegal floors-2 floors_line-3
floors_legal-3 = record { mark = refl; named = refl; reply = inl (record { running = refl; is = inl refl }) }

abbrev pub floors-3 : Point
floors-3 = behind floors-2 floors_line-3

abbrev pub floors_line-4 : Line
floors_line-4 = line 4 0 (Client 1) (events.Get (codes "d") (codes "a") (ts 7) None) (replies.Collapsed (ts 8))

-- 4 c1 get d a 7 = collapsed 8
pub floors_legal-4 : IsLegal floors-3 floors_line-4
floors_legal-4 = record { mark = refl; named = refl; reply = inl (record { running = refl; is = inl refl }) }

-- not 4 c1 get d a 7 = absent
pub floors_illegal-4-1 : IsLegal floors-3 (line 4 0 (Client 1) (events.Get (codes "d") (codes "a") (ts 7) None) replies.Absent) → ⊥
floors_illegal-4-1 h = grind (arith)

abbrev pub floors-4 : Point
floors-4 = behind floors-3 floors_line-4

abbrev pub floors_line-5 : Line
floors_line-5 = line 5 0 (Client 1) (events.Get (codes "d") (codes "a") (ts 8) None) (replies.Found (codes "v") (stamps.At (ts 8)))

-- 5 c1 get d a 8 = found v 8
pub floors_legal-5 : IsLegal floors-4 floors_line-5
floors_legal-5 = record { mark = refl; named = refl; reply = inl (record { running = refl; is = inl refl }) }

-- not 5 c1 get d a 8 = collapsed 8
pub floors_illegal-5-1 : IsLegal floors-4 (line 5 0 (Client 1) (events.Get (codes "d") (codes "a") (ts 8) None) (replies.Collapsed (ts 8))) → ⊥
floors_illegal-5-1 h = grind (arith)

-- not 5 c1 get d a 8 = found v below
pub floors_illegal-5-2 : IsLegal floors-4 (line 5 0 (Client 1) (events.Get (codes "d") (codes "a") (ts 8) None) (replies.Found (codes "v") stamps.Below)) → ⊥
floors_illegal-5-2 h = grind (arith)

abbrev pub floors-5 : Point
floors-5 = behind floors-4 floors_line-5

-- ---- raises to the same floor and below

abbrev pub raises-0 : Point
raises-0 = start (unflushed (head (codes "d") Persist 0 ∷ []) [] (record { 0 = 0 }) None)

abbrev pub raises_line-1 : Line
raises_line-1 = line 1 0 (Client 1) (events.Raise (codes "d") (ts 8)) replies.Done

-- 1 c1 raise d 8 = ok
pub raises_legal-1 : IsLegal raises-0 raises_line-1
raises_legal-1 = record { mark = refl; named = refl; reply = inl (record { running = refl; is = inl refl }) }

abbrev pub raises-1 : Point
raises-1 = behind raises-0 raises_line-1

abbrev pub raises_line-2 : Line
raises_line-2 = line 2 0 (Client 1) (events.Raise (codes "d") (ts 8)) replies.Done

-- 2 c1 raise d 8 = ok
pub raises_legal-2 : IsLegal raises-1 raises_line-2
raises_legal-2 = record { mark = refl; named = refl; reply = inl (record { running = refl; is = inl refl }) }

-- not 2 c1 raise d 8 = floor 8
pub raises_illegal-2-1 : IsLegal raises-1 (line 2 0 (Client 1) (events.Raise (codes "d") (ts 8)) (replies.Floor (ts 8))) → ⊥
raises_illegal-2-1 h = grind (arith)

abbrev pub raises-2 : Point
raises-2 = behind raises-1 raises_line-2

abbrev pub raises_line-3 : Line
raises_line-3 = line 3 0 (Client 1) (events.Raise (codes "d") (ts 7)) (replies.Floor (ts 8))

-- 3 c1 raise d 7 = floor 8
pub raises_legal-3 : IsLegal raises-2 raises_line-3
raises_legal-3 = record { mark = refl; named = refl; reply = inl (record { running = refl; is = inl refl }) }

-- not 3 c1 raise d 7 = ok
pub raises_illegal-3-1 : IsLegal raises-2 (line 3 0 (Client 1) (events.Raise (codes "d") (ts 7)) replies.Done) → ⊥
raises_illegal-3-1 h = grind (arith)

-- not 3 c1 raise d 7 = floor 7
pub raises_illegal-3-2 : IsLegal raises-2 (line 3 0 (Client 1) (events.Raise (codes "d") (ts 7)) (replies.Floor (ts 7))) → ⊥
raises_illegal-3-2 h = grind (arith)

abbrev pub raises-3 : Point
raises-3 = behind raises-2 raises_line-3

-- ---- a scan, keys in order

abbrev pub scans-0 : Point
scans-0 = start (unflushed (head (codes "d") Persist 0 ∷ []) [] (record { 0 = 0 }) None)

abbrev pub scans_line-1 : Line
scans_line-1 = line 1 0 (Client 1) (events.Write (named (codes "d") (codes "a") 5 (ops.Put (codes "v")) ∷ []) false) (replies.OkAt 1)

-- 1 c1 put d a 5 v = ok 1
pub scans_legal-1 : IsLegal scans-0 scans_line-1
scans_legal-1 = record { mark = refl; named = refl; reply = inl (record { running = refl; is = inl refl }) }

abbrev pub scans-1 : Point
scans-1 = behind scans-0 scans_line-1

abbrev pub scans_line-2 : Line
scans_line-2 = line 2 0 (Client 1) (events.Write (named (codes "d") (97 ∷ 0 ∷ []) 5 (ops.Put (codes "w")) ∷ []) false) (replies.OkAt 2)

-- 2 c1 put d 0x6100 5 w = ok 2
pub scans_legal-2 : IsLegal scans-1 scans_line-2
scans_legal-2 = record { mark = refl; named = refl; reply = inl (record { running = refl; is = inl refl }) }

abbrev pub scans-2 : Point
scans-2 = behind scans-1 scans_line-2

abbrev pub scans_line-3 : Line
scans_line-3 = line 3 0 (Client 1) (events.Write (named (codes "d") [] 5 (ops.Put (codes "e")) ∷ []) false) (replies.OkAt 3)

-- 3 c1 put d 0x 5 e = ok 3
pub scans_legal-3 : IsLegal scans-2 scans_line-3
scans_legal-3 = record { mark = refl; named = refl; reply = inl (record { running = refl; is = inl refl }) }

abbrev pub scans-3 : Point
scans-3 = behind scans-2 scans_line-3

abbrev pub scans_line-4 : Line
scans_line-4 = line 4 0 (Client 1) (events.Scan (codes "d") None None (ts 5) 10 true None) (replies.Rows (row [] (codes "e") (stamps.At (ts 5)) ∷ row (codes "a") (codes "v") (stamps.At (ts 5)) ∷ row (97 ∷ 0 ∷ []) (codes "w") (stamps.At (ts 5)) ∷ []))

-- 4 c1 scan d * * 5 10 up = rows 3 0x e 5 a v 5 0x6100 w 5
pub scans_legal-4 : IsLegal scans-3 scans_line-4
scans_legal-4 = record { mark = refl; named = refl; reply = inl (record { running = refl; is = inl refl }) }

-- not 4 c1 scan d * * 5 10 up = rows 3 a v 5 0x e 5 0x6100 w 5
pub scans_illegal-4-1 : IsLegal scans-3 (line 4 0 (Client 1) (events.Scan (codes "d") None None (ts 5) 10 true None) (replies.Rows (row (codes "a") (codes "v") (stamps.At (ts 5)) ∷ row [] (codes "e") (stamps.At (ts 5)) ∷ row (97 ∷ 0 ∷ []) (codes "w") (stamps.At (ts 5)) ∷ []))) → ⊥
scans_illegal-4-1 h = grind (arith)

-- not 4 c1 scan d * * 5 10 up = rows 2 0x e 5 a v 5
pub scans_illegal-4-2 : IsLegal scans-3 (line 4 0 (Client 1) (events.Scan (codes "d") None None (ts 5) 10 true None) (replies.Rows (row [] (codes "e") (stamps.At (ts 5)) ∷ row (codes "a") (codes "v") (stamps.At (ts 5)) ∷ []))) → ⊥
scans_illegal-4-2 h = grind (arith)

-- not 4 c1 scan d * * 5 10 up = collapsed 0
pub scans_illegal-4-3 : IsLegal scans-3 (line 4 0 (Client 1) (events.Scan (codes "d") None None (ts 5) 10 true None) (replies.Collapsed (ts 0))) → ⊥
scans_illegal-4-3 h = grind (arith)

-- not 4 c1 scan d * * 5 10 down = rows 3 0x e 5 a v 5 0x6100 w 5
pub scans_illegal-4-4 : IsLegal scans-3 (line 4 0 (Client 1) (events.Scan (codes "d") None None (ts 5) 10 false None) (replies.Rows (row [] (codes "e") (stamps.At (ts 5)) ∷ row (codes "a") (codes "v") (stamps.At (ts 5)) ∷ row (97 ∷ 0 ∷ []) (codes "w") (stamps.At (ts 5)) ∷ []))) → ⊥
scans_illegal-4-4 h = grind (arith)

-- not 4 c1 scan d * a 5 10 up = rows 2 0x e 5 a v 5
pub scans_illegal-4-5 : IsLegal scans-3 (line 4 0 (Client 1) (events.Scan (codes "d") None (Some (codes "a")) (ts 5) 10 true None) (replies.Rows (row [] (codes "e") (stamps.At (ts 5)) ∷ row (codes "a") (codes "v") (stamps.At (ts 5)) ∷ []))) → ⊥
scans_illegal-4-5 h = grind (arith)

abbrev pub scans-4 : Point
scans-4 = behind scans-3 scans_line-4
