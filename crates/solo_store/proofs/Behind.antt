-- What the acts of a store leave of a state: names, snapshots and the flush that runs, and those that change nothing.
use Rattle.std.proofs.Common.{◌≡◌, ℕ, zero, suc, Bool, true, false, List, [], ◌∷◌, map, Option, Some, None, refl, ap}
use Rattle.std.specs.Prelude.{IsTrue}
use Rattle.std.proofs.lemmas.Bool.{false≢true}
use Rattle.ts_key.specs.declared.numbers.Ts.{Ts}
use Rattle.udt_model.specs.declared.line.FamilyHead.{FamilyHead}
use Rattle.udt_model.specs.declared.reply.Piece.{Piece}
use Rattle.udt_model.specs.declared.reply.Reply.{Reply}
use Rattle.udt_model.specs.declared.reply.Reply.TheVariants.{Done, DroppedFault, DroppedFiles, DroppedMemory, Fault, Halted, Inputs, Kept, OkAt, Table}
use Rattle.udt_model.specs.State.{Compaction, FamilyState, Flush, State, changed_at}
use Rattle.udt_model.specs.Acts.{Act}
use Rattle.udt_model.specs.Acts.Act.{ask_floor, compact_end, compact_start, flush_end, flush_start, get, make_snapshot, raise, release, sync_all, write}
use Rattle.udt_model.specs.Steps.{after, with_compaction, with_flush, without_job}
use Rattle.udt_model.specs.Crashes.{Course, course_after}
use Rattle.solo_store.specs.Names.{names_in}

-- ---- names

abbrev names_of_families : List FamilyState → List (List ℕ)
names_of_families fs = map (λ (h : FamilyHead). h.name) (map (λ (f : FamilyState). f.head) fs)

names_changed : (n : ℕ) (change : FamilyState → FamilyState) → ((f : FamilyState) → (change f).head.name ≡ f.head.name) → (fs : List FamilyState) → names_of_families (changed_at n change fs) ≡ names_of_families fs
names_changed n change keeps [] = refl
names_changed zero change keeps (f ∷ fs) = ap (λ (name : List ℕ). name ∷ names_of_families fs) (keeps f)
names_changed (suc n) change keeps (f ∷ fs) = ap (λ (names : List (List ℕ)). f.head.name ∷ names) (names_changed n change keeps fs)

names_job : (m : State) (act : Act) → names_in (without_job m act) ≡ names_in m
names_job m (flush_end i start) = refl
names_job m (compact_end i start) = refl
names_job m act = refl

names_flush : (m : State) (o : Option Flush) (table : ℕ) (floor : Ts) → names_in (with_flush m o table floor) ≡ names_in m
names_flush m None table floor = refl
names_flush m (Some job) table floor = names_changed job.family.0 _ (λ f. refl) m.families

names_compaction : (m : State) (o : Option Compaction) (pieces : List Piece) → names_in (with_compaction m o pieces) ≡ names_in m
names_compaction m None pieces = refl
names_compaction m (Some job) pieces = names_changed job.family.0 _ (λ f. refl) m.families

-- the names of the families stay
pub names_after : (m : State) (number : ℕ) (act : Act) (reply : Reply) → names_in (after m number act reply) ≡ names_in m
names_after m number act Fault = names_job m act
names_after m number act (Halted since) = names_job m act
names_after m number act DroppedFault = names_job m act
names_after m number act DroppedMemory = names_job m act
names_after m number act (DroppedFiles next) = names_job m act
names_after m number (raise i floor) Done = names_changed i.0 _ (λ f. refl) m.families
names_after m number (flush_end i start) (Table table kept floor) = names_flush m m.flush table floor
names_after m number (compact_end i start) (Kept kept pieces) = names_compaction m m.compaction pieces
names_after m number (write ops sync) (OkAt last) = refl
names_after m number make_snapshot (OkAt last) = refl
names_after m number (flush_start i) (OkAt last) = refl
names_after m number (release event) Done = refl
names_after m number (compact_start i pick) (Inputs inputs level) = refl
names_after m number act reply = refl

-- ---- snapshots, and the flush that runs

-- an act of a store, that neither starts nor ends a flush
abbrev pub is_plain : Act → Bool
is_plain (write ops sync) = true
is_plain (get family key t snap) = true
is_plain (raise family floor) = true
is_plain (ask_floor family) = true
is_plain sync_all = true
is_plain act = false

abbrev pub is_own : Act → Bool
is_own (flush_start family) = true
is_own (flush_end family start) = true
is_own act = is_plain act

snaps_job : (m : State) (act : Act) → (without_job m act).snaps ≡ m.snaps
snaps_job m (flush_end i start) = refl
snaps_job m (compact_end i start) = refl
snaps_job m act = refl

snaps_flush : (m : State) (o : Option Flush) (table : ℕ) (floor : Ts) → (with_flush m o table floor).snaps ≡ m.snaps
snaps_flush m None table floor = refl
snaps_flush m (Some job) table floor = refl

pub snaps_after : (m : State) (number : ℕ) (act : Act) (reply : Reply) → IsTrue (is_own act) → (after m number act reply).snaps ≡ m.snaps
snaps_after m number act Fault own = snaps_job m act
snaps_after m number act (Halted since) own = snaps_job m act
snaps_after m number act DroppedFault own = snaps_job m act
snaps_after m number act DroppedMemory own = snaps_job m act
snaps_after m number act (DroppedFiles next) own = snaps_job m act
snaps_after m number make_snapshot (OkAt last) own = absurd (false≢true own)
snaps_after m number (release event) Done own = absurd (false≢true own)
snaps_after m number (compact_start i pick) (Inputs inputs level) own = absurd (false≢true own)
snaps_after m number (compact_end i start) (Kept kept pieces) own = absurd (false≢true own)
snaps_after m number (flush_end i start) (Table table kept floor) own = snaps_flush m m.flush table floor
snaps_after m number (write ops sync) (OkAt last) own = refl
snaps_after m number (flush_start i) (OkAt last) own = refl
snaps_after m number (raise i floor) Done own = refl
snaps_after m number act reply own = refl

flush_job : (m : State) (act : Act) → IsTrue (is_plain act) → (without_job m act).flush ≡ m.flush
flush_job m (flush_end i start) plain = absurd (false≢true plain)
flush_job m (compact_end i start) plain = absurd (false≢true plain)
flush_job m act plain = refl

pub flush_after : (m : State) (number : ℕ) (act : Act) (reply : Reply) → IsTrue (is_plain act) → (after m number act reply).flush ≡ m.flush
flush_after m number act Fault plain = flush_job m act plain
flush_after m number act (Halted since) plain = flush_job m act plain
flush_after m number act DroppedFault plain = flush_job m act plain
flush_after m number act DroppedMemory plain = flush_job m act plain
flush_after m number act (DroppedFiles next) plain = flush_job m act plain
flush_after m number (flush_start i) (OkAt last) plain = absurd (false≢true plain)
flush_after m number (flush_end i start) (Table table kept floor) plain = absurd (false≢true plain)
flush_after m number (compact_start i pick) (Inputs inputs level) plain = absurd (false≢true plain)
flush_after m number (compact_end i start) (Kept kept pieces) plain = absurd (false≢true plain)
flush_after m number make_snapshot (OkAt last) plain = absurd (false≢true plain)
flush_after m number (release event) Done plain = absurd (false≢true plain)
flush_after m number (write ops sync) (OkAt last) plain = refl
flush_after m number (raise i floor) Done plain = refl
flush_after m number act reply plain = refl

pub plain_own : (act : Act) → IsTrue (is_plain act) → IsTrue (is_own act)
plain_own (flush_start i) plain = refl
plain_own (flush_end i start) plain = refl
plain_own act plain = plain

-- ---- what changes nothing

-- with this reply the act changes neither the state nor its course
abbrev pub is_still : Act → Reply → Bool
is_still act Fault = false
is_still (write ops sync) (OkAt last) = false
is_still (raise family floor) Done = false
is_still sync_all Done = false
is_still (flush_start family) (OkAt through) = false
is_still make_snapshot reply = false
is_still (release event) reply = false
is_still (flush_end family start) reply = false
is_still (compact_start family pick) reply = false
is_still (compact_end family start) reply = false
is_still act reply = true

pub after_still : (m : State) (number : ℕ) (act : Act) (reply : Reply) → IsTrue (is_still act reply) → after m number act reply ≡ m
after_still m number act Fault still = absurd (false≢true still)
after_still m number (write ops sync) (OkAt last) still = absurd (false≢true still)
after_still m number (raise family floor) Done still = absurd (false≢true still)
after_still m number (flush_start family) (OkAt through) still = absurd (false≢true still)
after_still m number make_snapshot reply still = absurd (false≢true still)
after_still m number (release event) reply still = absurd (false≢true still)
after_still m number (flush_end family start) reply still = absurd (false≢true still)
after_still m number (compact_start family pick) reply still = absurd (false≢true still)
after_still m number (compact_end family start) reply still = absurd (false≢true still)
after_still m number act reply still = refl

pub course_still : (m : State) (number : ℕ) (c : Course) (act : Act) (reply : Reply) → IsTrue (is_still act reply) → course_after m number c act reply ≡ c
course_still m number c act Fault still = absurd (false≢true still)
course_still m number c (write ops sync) (OkAt last) still = absurd (false≢true still)
course_still m number c (raise family floor) Done still = absurd (false≢true still)
course_still m number c sync_all Done still = absurd (false≢true still)
course_still m number c (flush_start family) (OkAt through) still = absurd (false≢true still)
course_still m number c make_snapshot reply still = absurd (false≢true still)
course_still m number c (release event) reply still = absurd (false≢true still)
course_still m number c (flush_end family start) reply still = absurd (false≢true still)
course_still m number c (compact_start family pick) reply still = absurd (false≢true still)
course_still m number c (compact_end family start) reply still = absurd (false≢true still)
course_still m number c (write ops sync) reply still = refl
course_still m number c (raise family floor) reply still = refl
course_still m number c act reply still = refl
