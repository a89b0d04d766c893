-- What a crash may leave of some histories.
use Rattle.std.proofs.Common.{arith, ◌≡◌, ℕ, true, false, List, [], ◌∷◌, codes, None, refl, sym, ap, ◌∙◌, inl, inr}
use Rattle.ts_key.specs.declared.version.Op.TheVariants as ops
use Rattle.ts_key.specs.declared.version.Form.TheVariants.{Persist, Strip}
use Rattle.udt_model.specs.declared.event.Event.TheVariants as events
use Rattle.udt_model.specs.declared.reply.Reply.TheVariants as replies
use Rattle.udt_model.specs.declared.line.Line.{Line}
use Rattle.udt_model.specs.declared.line.Who.TheVariants.{Client, Runner}
use Rattle.udt_model.specs.State.{State, unflushed}
use Rattle.std.specs.Prelude.{slice_index_or, zero, suc, ◌<◌, ◌≤◌}
use Rattle.udt_model.specs.Crashes.{Course, IsOutcome, IsOutcomeUnder, course_behind, course_start, cut_at, settled}
use Rattle.udt_model.specs.Acts.{Act}
use Rattle.udt_model.specs.Histories.{Point, behind, start}
use Rattle.udt_model.proofs.Samples.{ts, named, head, line}

abbrev pub behind_all : Point → List Line → Point
behind_all p [] = p
behind_all p (l ∷ ls) = behind_all (behind p l) ls

-- ---- a fault under a write that syncs: none of the three, or all three, also one of the fronts, but no other part

abbrev pub failed_start : Point
failed_start = start (unflushed (head (codes "d") Persist 0 ∷ []) [] (record { 0 = 0 }) None)

abbrev pub failed_lines : List Line
failed_lines = line 1 0 (Client 1) (events.Write (named (codes "d") (codes "a") 1 (ops.Put (codes "x")) ∷ []) false) (replies.OkAt 1)
    ∷ line 2 0 (Client 1) (events.Write (named (codes "d") (codes "b") 1 (ops.Put (codes "y")) ∷ []) false) (replies.OkAt 2)
    ∷ line 3 0 (Client 1) (events.Write (named (codes "d") (codes "c") 1 (ops.Put (codes "z")) ∷ []) true) replies.Fault
    ∷ line 4 0 Runner events.Sync (replies.Halted 3) ∷ []

abbrev pub failed_end : Point
failed_end = behind_all failed_start failed_lines

abbrev pub failed_course : Course
failed_course = course_behind failed_start (course_start failed_start.state) failed_lines

pub failed_none : IsOutcome failed_end.state failed_course failed_start.state
failed_none = inl (0, (0, omega arith, refl), omega arith, refl)

pub failed_all : IsOutcome failed_end.state failed_course (settled (behind failed_start (line 1 0 (Client 1) (events.Write (named (codes "d") (codes "a") 1 (ops.Put (codes "x")) ∷ named (codes "d") (codes "b") 1 (ops.Put (codes "y")) ∷ named (codes "d") (codes "c") 1 (ops.Put (codes "z")) ∷ []) false) (replies.OkAt 3))).state)
failed_all = inr (replies.OkAt 3, refl, refl, refl, refl)

-- the second write without the first
pub failed_gap : IsOutcome failed_end.state failed_course (settled (behind failed_start (line 1 0 (Client 1) (events.Write (named (codes "d") (codes "b") 1 (ops.Put (codes "y")) ∷ []) false) (replies.OkAt 1))).state) → ⊥
failed_gap h = grind (arith)

-- ---- a flush syncs the other family's writes

abbrev pub flushed_start : Point
flushed_start = start (unflushed (head (codes "d") Persist 0 ∷ head (codes "e") Persist 0 ∷ []) [] (record { 0 = 0 }) None)

abbrev pub flushed_lines : List Line
flushed_lines = line 1 0 (Client 1) (events.Write (named (codes "d") (codes "a") 1 (ops.Put (codes "x")) ∷ []) false) (replies.OkAt 1)
    ∷ line 2 0 (Client 1) (events.Write (named (codes "e") (codes "b") 1 (ops.Put (codes "y")) ∷ []) false) (replies.OkAt 2)
    ∷ line 3 0 (Client 1) (events.FlushStart (codes "e")) (replies.OkAt 2)
    ∷ line 4 0 (Client 1) (events.FlushEnd (codes "e") 3) (replies.Table 3 1 (ts 0)) ∷ []

abbrev pub flushed_end : Point
flushed_end = behind_all flushed_start flushed_lines

abbrev pub flushed_course : Course
flushed_course = course_behind flushed_start (course_start flushed_start.state) flushed_lines

last_end : (k end : ℕ) → k < 3 → slice_index_or (0 ∷ 1 ∷ 2 ∷ []) k end ≡ end → 2 ≤ end → end ≡ 2
last_end zero end within is above = grind (arith)
last_end (suc zero) end within is above = grind (arith)
last_end (suc (suc zero)) end within is above = sym is
last_end (suc (suc (suc k))) end within is above = grind (arith)

pub flushed_both : (left : State) → IsOutcome flushed_end.state flushed_course left → left ≡ settled flushed_end.state
flushed_both left (inl h) = h.3 ∙ ap (cut_at flushed_end.state) (last_end h.1.0 h.0 h.1.1 h.1.2 h.2)
flushed_both left (inr h) = absurd h

-- ---- a stripping flush under way leaves the state before it or the one after it

abbrev pub stripped_start : Point
stripped_start = start (unflushed (head (codes "d") Strip 0 ∷ []) [] (record { 0 = 0 }) None)

abbrev pub stripped_lines : List Line
stripped_lines = line 1 0 (Client 1) (events.Write (named (codes "d") (codes "a") 10 (ops.Put (codes "x")) ∷ []) false) (replies.OkAt 1)
    ∷ line 2 0 (Client 1) (events.FlushStart (codes "d")) (replies.OkAt 1)
    ∷ line 3 0 (Client 1) (events.Write (named (codes "d") (codes "b") 5 (ops.Put (codes "y")) ∷ []) true) (replies.OkAt 2) ∷ []

abbrev pub stripped_end : Point
stripped_end = behind_all stripped_start stripped_lines

abbrev pub stripped_course : Course
stripped_course = course_behind stripped_start (course_start stripped_start.state) stripped_lines

abbrev pub stripped_after_flush : Point
stripped_after_flush = behind stripped_end (line 4 0 (Client 1) (events.FlushEnd (codes "d") 2) (replies.Table 3 1 (ts 11)))

pub stripped_before : IsOutcomeUnder stripped_end.state stripped_course 4 (Act.flush_end (record { 0 = 0 }) 2) (settled stripped_end.state)
stripped_before = inl (inl (2, (2, omega arith, refl), omega arith, refl))

pub stripped_after : IsOutcomeUnder stripped_end.state stripped_course 4 (Act.flush_end (record { 0 = 0 }) 2) (settled stripped_after_flush.state)
stripped_after = inr (replies.Table 3 1 (ts 11), (refl, (refl, refl, refl)), refl, refl, refl)

-- no flush of this number runs
pub not_of_another : IsOutcomeUnder stripped_end.state stripped_course 4 (Act.flush_end (record { 0 = 0 }) 3) (settled stripped_after_flush.state) → ⊥
not_of_another h = grind (arith)
