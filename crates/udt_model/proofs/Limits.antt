-- The limits of a history, and plans of compactions.
use Rattle.std.proofs.Common.{arith, ◌≡◌, ℕ, ◌+◌, false, List, [], ◌∷◌, codes, Some, None, refl, inl, inr}
use Rattle.ts_key.specs.declared.version.Op.TheVariants as ops
use Rattle.ts_key.specs.declared.version.Form.TheVariants.{Persist}
use Rattle.udt_model.specs.declared.event.Event.{Event}
use Rattle.udt_model.specs.declared.event.Event.TheVariants as events
use Rattle.udt_model.specs.declared.reply.Reply.TheVariants as replies
use Rattle.udt_model.specs.declared.line.Line.{Line}
use Rattle.udt_model.specs.declared.line.Who.TheVariants.{Client, Flusher}
use Rattle.std.specs.Prelude.{replicate, ◌^◌, ◌-◌}
use Rattle.ts_key.specs.declared.version.Version.{Version}
use Rattle.udt_model.specs.State.{State, LiveTable, unflushed}
use Rattle.udt_model.specs.Jobs.{IsClosed, deeper_of}
use Rattle.udt_model.specs.Histories.{Point, IsLegal, behind, start, start_of}
use Rattle.udt_model.proofs.Samples.{ts, named, head, line}

abbrev pub d : List ℕ
d = codes "d"

abbrev pub fresh : State
fresh = unflushed (head d Persist 0 ∷ []) [] (record { 0 = 0 }) None

-- ---- 1,024 snapshots

abbrev pub snapped : ℕ → State
snapped n = record fresh { snaps = replicate n (record { event = 7; seq = record { 0 = 0 } }) }

abbrev pub almost : Point
almost = start (snapped 1023)

pub last_one : IsLegal almost (line 1 0 (Client 1) (events.Snap (codes "s")) (replies.OkAt 0))
last_one = record { mark = refl; named = refl; reply = inl (record { running = refl; is = inl refl }) }

pub not_yet : IsLegal almost (line 1 0 (Client 1) (events.Snap (codes "s")) (replies.Snapshots 1024)) → ⊥
not_yet h = grind (arith)

abbrev pub crowded : Point
crowded = behind almost (line 1 0 (Client 1) (events.Snap (codes "s")) (replies.OkAt 0))

abbrev pub one_more : Line
one_more = line 2 0 (Client 1) (events.Snap (codes "t")) (replies.Snapshots 1024)

pub too_many : IsLegal crowded one_more
too_many = record { mark = refl; named = refl; reply = inl (record { running = refl; is = inl refl }) }

pub no_more : IsLegal crowded (line 2 0 (Client 1) (events.Snap (codes "t")) (replies.OkAt 0)) → ⊥
no_more h = grind (arith)

abbrev pub refused : Point
refused = behind crowded one_more

pub unbound : IsLegal refused (line 2 1 (Client 1) (events.Get d (codes "a") (ts 0) (Some (codes "t"))) replies.Unbound)
unbound = record { mark = refl; named = refl; reply = refl }

pub unbound_of_no_family : IsLegal refused (line 2 1 (Client 1) (events.Get (codes "z") (codes "a") (ts 0) (Some (codes "t"))) replies.Unbound)
unbound_of_no_family = record { mark = refl; named = refl; reply = refl }

pub bound : IsLegal refused (line 3 0 (Client 1) (events.Get d (codes "a") (ts 0) (Some (codes "t"))) replies.Absent) → ⊥
bound h = grind (arith)

pub no_release : IsLegal refused (line 2 1 (Client 1) (events.Release (codes "t")) replies.Unbound)
no_release = record { mark = refl; named = refl; reply = refl }

-- the name is free again, and none but a snapshot that is in use
pub free_again : IsLegal (behind refused (line 2 1 (Client 1) (events.Release (codes "t")) replies.Unbound)) (line 2 2 (Client 1) (events.Get d (codes "a") (ts 0) (Some (codes "t"))) replies.Unbound) → ⊥
free_again h = grind (arith)

-- another client doesn't have it
pub of_another : IsLegal refused (line 3 0 (Client 2) (events.Get d (codes "a") (ts 0) (Some (codes "s"))) replies.Absent) → ⊥
of_another h = grind (arith)

-- ---- 64 views

abbrev pub viewing : ℕ → Point
viewing n = record (start fresh) { names = λ who. record { snaps = []; views = replicate n (record { name = codes "q"; view = None }) } }

pub last_view : IsLegal (viewing 63) (line 1 0 (Client 1) (events.Pin (codes "p")) replies.Done)
last_view = record { mark = refl; named = refl; reply = inl (record { running = refl; is = inl refl }) }

pub one_view_more : IsLegal (viewing 64) (line 1 0 (Client 1) (events.Pin (codes "p")) replies.Done) → ⊥
one_view_more h = grind (arith)

-- the flusher's pins are free
pub of_flusher : IsLegal (viewing 64) (line 1 0 Flusher (events.Pin (codes "f")) replies.Done)
of_flusher = record { mark = refl; named = refl; reply = inl (record { running = refl; is = inl refl }) }

-- but it has no names: what it uses isn't unbound, it isn't legal
pub no_names_of_flusher : IsLegal (viewing 64) (line 0 1 Flusher (events.Get d (codes "a") (ts 0) (Some (codes "s"))) replies.Unbound) → ⊥
no_names_of_flusher h = grind (arith)

-- ---- 2^56 - 1 sequences

abbrev pub full : Point
full = start (record fresh { last = record { 0 = 2 ^ 56 - 1 } })

abbrev pub write_a : Event
write_a = events.Write (named d (codes "a") 5 (ops.Put (codes "v")) ∷ []) false

pub is_full : IsLegal full (line 1 0 (Client 1) write_a (replies.Full (record { 0 = 2 ^ 56 - 1 })))
is_full = record { mark = refl; named = refl; reply = inl (record { running = refl; is = inl refl }) }

-- ---- the height of a history

pub left_to_commits : IsLegal (start_of (2 ^ 63 - 1) fresh) (line 0 1 (Client 1) (events.Floor d) replies.History)
left_to_commits = record { mark = refl; named = refl; reply = inr (refl, inr (refl, refl, omega arith)) }

pub still_syncs : IsLegal (start_of (2 ^ 63 - 1) fresh) (line 0 1 (Client 1) events.Sync replies.History) → ⊥
still_syncs h = grind (arith)

pub none_left : IsLegal (start_of (2 ^ 63) fresh) (line 0 1 (Client 1) events.Sync replies.History)
none_left = record { mark = refl; named = refl; reply = inr (refl, inr (refl, refl, omega arith)) }

-- ---- plans

abbrev pub version : List ℕ → ℕ → Version
version key seq = record { family = record { 0 = 0 }; key = key; ts = ts 1; seq = record { 0 = seq }; op = ops.Del }

abbrev pub table : ℕ → ℕ → List ℕ → List ℕ → LiveTable
table number level low high = record { number = number; level = level; versions = version low number ∷ version high (number + 20) ∷ [] }

abbrev pub planned : State
planned = record fresh {
  families = record { head = head d Persist 0; through = record { 0 = 30 }; tables = table 3 1 (codes "b") (codes "c") ∷ table 4 1 (codes "x") (codes "z") ∷ table 7 0 (codes "a") (codes "b") ∷ table 8 0 (codes "c") (codes "d") ∷ table 9 0 (codes "b") (codes "f") ∷ table 10 0 (codes "d") (codes "e") ∷ [] } ∷ [];
}

pub closed : IsClosed planned (record { 0 = 0 }) (3 ∷ 7 ∷ 8 ∷ 9 ∷ 10 ∷ []) 1
closed = record { some = refl; ascending = refl; live = refl; level_is = refl; taken_in = refl }

pub none_deeper : deeper_of planned (record { 0 = 0 }) (3 ∷ 7 ∷ 8 ∷ 9 ∷ 10 ∷ []) 1 ≡ []
none_deeper = refl

pub not_without_3 : IsClosed planned (record { 0 = 0 }) (7 ∷ 8 ∷ 9 ∷ 10 ∷ []) 1 → ⊥
not_without_3 h = grind (arith)

-- to level 2 table 3 stands between, and to level 6 too
pub not_over_3 : IsClosed planned (record { 0 = 0 }) (7 ∷ 8 ∷ 9 ∷ 10 ∷ []) 2 → ⊥
not_over_3 h = grind (arith)

pub not_without_8 : IsClosed planned (record { 0 = 0 }) (3 ∷ 7 ∷ 9 ∷ 10 ∷ []) 1 → ⊥
not_without_8 h = grind (arith)

-- table 4 may go down alone, and nothing to level 0 or 7
pub alone : IsClosed planned (record { 0 = 0 }) (4 ∷ []) 2
alone = record { some = refl; ascending = refl; live = refl; level_is = refl; taken_in = refl }

pub not_up : IsClosed planned (record { 0 = 0 }) (4 ∷ []) 0 → ⊥
not_up h = grind (arith)

pub not_under : IsClosed planned (record { 0 = 0 }) (4 ∷ []) 7 → ⊥
not_under h = grind (arith)
