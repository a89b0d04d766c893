-- The versions that batches make, and their sequences.
use Rattle.std.proofs.Common.{◌≡◌, ℕ, suc, ◌+◌, ◌-◌, ◌<◌, ◌≤◌, Bool, true, false, cond, List, [], ◌∷◌, ◌++◌, length, map, refl, sym, ap, ◌∙◌, subst, arith}
use Rattle.std.proofs.Common.{Some, None}
use Rattle.std.specs.Prelude.{All, nat_le, filter}
use Rattle.std.proofs.lemmas.Bool.{le-leb}
use Rattle.std.proofs.lemmas.Bool.Decides.{leb_tells}
use Rattle.std.proofs.Common.{⊎_elim}
use Rattle.std.proofs.lemmas.List.{append-nil, append_assoc}
use Rattle.std.proofs.lemmas.List.Elements.{All-head, All-tail, All-nil, All-append, filter-append}
use Rattle.ts_key.specs.declared.batch.WriteOp.{WriteOp}
use Rattle.ts_key.specs.declared.version.Version.{Version}
use Rattle.udt_disk.specs.declared.file.DiskFile.{Ghosts}
use Rattle.udt_model.specs.declared.event.NamedOp.{NamedOp}
use Rattle.udt_model.specs.State.{State, unflushed}
use Rattle.solo_runner.specs.Named.{family_of_op, versions_made, version_of_op}
use Rattle.udt_model.specs.Crashes.{cut_at, settled}
use Rattle.udt_model.proofs.Laws.{settled_unflushed}
use Rattle.wal.specs.declared.numbered.Numbered.{Numbered}
use Rattle.wal.specs.declared.wal.Wal.{Wal}
use Rattle.wal.specs.Bodies.{AreBodiesOf}
use Rattle.wal.specs.Records.{IsLoggedBatch}
use Rattle.wal.specs.Sequences.{sequence_after, GoesOn, IsInSequence}
use Rattle.wal.specs.Wals.{IsWalOf}
use Rattle.head_manifest.specs.declared.fold.Folded.{Folded}
use Rattle.solo_runner.specs.Adding.{op_of_version}
use Rattle.solo_runner.specs.Logging.{numbered_of}
use Rattle.udt_model.specs.Versions.{logged}
use Rattle.plain_recovery.specs.Stores.{head_of, last_of, state_of, versions_of}

-- each batch begins behind this sequence, and behind the batch before it, and has an operation
abbrev pub Above : ℕ → List Numbered → Type 0
Above e [] = Unit {0}
Above e (b ∷ bs) = (e < b.first.0) × (1 ≤ length b.batch) × Above (b.first.0 + length b.batch - 1) bs

above_goes : (k e : ℕ) (bs : List Numbered) → GoesOn (Some (e + 1)) bs → All (IsLoggedBatch k) bs → Above e bs
above_goes k e [] goes all = tt
above_goes k e (b ∷ bs) goes all =
    let one : IsLoggedBatch k b = All-head (IsLoggedBatch k) b bs all in
    let next : sequence_after b ≡ b.first.0 + length b.batch - 1 + 1 = omega (arith, one.some) in
    (omega (arith, goes.0), one.some, above_goes k (b.first.0 + length b.batch - 1) bs (subst (λ (n : ℕ). GoesOn (Some n) bs) next goes.1) (All-tail (IsLoggedBatch k) b bs all))

pub above_sequence : (k : ℕ) (bs : List Numbered) → IsInSequence bs → All (IsLoggedBatch k) bs → Above 0 bs
above_sequence k [] goes all = tt
above_sequence k (b ∷ bs) goes all =
    let one : IsLoggedBatch k b = All-head (IsLoggedBatch k) b bs all in
    let next : sequence_after b ≡ b.first.0 + length b.batch - 1 + 1 = omega (arith, one.some) in
    (omega (arith, one.first), one.some, above_goes k (b.first.0 + length b.batch - 1) bs (subst (λ (n : ℕ). GoesOn (Some n) bs) next goes.1) (All-tail (IsLoggedBatch k) b bs all))

-- the last sequence isn't before the one that they are behind
pub last_up : (e : ℕ) (bs : List Numbered) → Above e bs → e ≤ last_of e bs
last_up e [] above = omega arith
last_up e (b ∷ bs) above = omega (arith, above.0, above.1, last_up (b.first.0 + length b.batch - 1) bs above.2)

pub last_behind : (e : ℕ) (b : Numbered) (bs : List Numbered) → Above e (b ∷ bs) → e < last_of e (b ∷ bs)
last_behind e b bs above = omega (arith, above.0, above.1, last_up (b.first.0 + length b.batch - 1) bs above.2)

pub last_append : (e : ℕ) (bs ws : List Numbered) → last_of e (bs ++ ws) ≡ last_of (last_of e bs) ws
last_append e [] ws = refl
last_append e (b ∷ bs) ws = last_append (b.first.0 + length b.batch - 1) bs ws

pub above_behind : (e : ℕ) (bs ws : List Numbered) → Above e (bs ++ ws) → Above (last_of e bs) ws
above_behind e [] ws above = above
above_behind e (b ∷ bs) ws above = above_behind (b.first.0 + length b.batch - 1) bs ws above.2

pub above_front : (e : ℕ) (bs ws : List Numbered) → Above e (bs ++ ws) → Above e bs
above_front e [] ws above = tt
above_front e (b ∷ bs) ws above = (above.0, above.1, above_front (b.first.0 + length b.batch - 1) bs ws above.2)

pub versions_append : (bs ws : List Numbered) → versions_of (bs ++ ws) ≡ versions_of bs ++ versions_of ws
versions_append [] ws = refl
versions_append (b ∷ bs) ws =
    ap (λ (vs : List Version). logged b.first.0 b.batch ++ vs) (versions_append bs ws) ∙ sym (append_assoc (logged b.first.0 b.batch) (versions_of bs) (versions_of ws))

-- ---- what a cut keeps

abbrev up_to : ℕ → Version → Bool
up_to end v = nat_le v.seq.0 end

passes : (n end : ℕ) → n ≤ end → nat_le n end ≡ true
passes n end le = le-leb n end le

fails : (n end : ℕ) → end < n → nat_le n end ≡ false
fails n end lt = ⊎_elim (λ yes. absurd (omega (arith, lt, yes.1))) (λ no. no.0) (leb_tells n end)

logged_kept : (end n : ℕ) (ops : List WriteOp) → n + length ops ≤ end + 1 → filter (up_to end) (logged n ops) ≡ logged n ops
logged_kept end n [] within = refl
logged_kept end n (op ∷ ops) within =
    let v : Version = record { family = op.family; key = op.key; ts = op.ts; seq = record { 0 = n }; op = op.op } in
    ap (λ (b : Bool). cond b (v ∷ filter (up_to end) (logged (n + 1) ops)) (filter (up_to end) (logged (n + 1) ops))) (passes n end (omega (arith, within)))
    ∙ ap (λ (vs : List Version). v ∷ vs) (logged_kept end (n + 1) ops (omega (arith, within)))

logged_cut : (end n : ℕ) (ops : List WriteOp) → end < n → filter (up_to end) (logged n ops) ≡ []
logged_cut end n [] behind = refl
logged_cut end n (op ∷ ops) behind =
    let v : Version = record { family = op.family; key = op.key; ts = op.ts; seq = record { 0 = n }; op = op.op } in
    ap (λ (b : Bool). cond b (v ∷ filter (up_to end) (logged (n + 1) ops)) (filter (up_to end) (logged (n + 1) ops))) (fails n end behind)
    ∙ logged_cut end (n + 1) ops (omega (arith, behind))

versions_kept : (end e : ℕ) (bs : List Numbered) → Above e bs → last_of e bs ≤ end → filter (up_to end) (versions_of bs) ≡ versions_of bs
versions_kept end e [] above within = refl
versions_kept end e (b ∷ bs) above within =
    let next : ℕ = b.first.0 + length b.batch - 1 in
    filter-append (up_to end) (logged b.first.0 b.batch) (versions_of bs)
    ∙ ap (λ (vs : List Version). vs ++ filter (up_to end) (versions_of bs)) (logged_kept end b.first.0 b.batch (omega (arith, above.1, within, last_up next bs above.2)))
    ∙ ap (λ (vs : List Version). logged b.first.0 b.batch ++ vs) (versions_kept end next bs above.2 within)

versions_cut : (end e : ℕ) (bs : List Numbered) → Above e bs → end ≤ e → filter (up_to end) (versions_of bs) ≡ []
versions_cut end e [] above within = refl
versions_cut end e (b ∷ bs) above within =
    let next : ℕ = b.first.0 + length b.batch - 1 in
    filter-append (up_to end) (logged b.first.0 b.batch) (versions_of bs)
    ∙ ap (λ (vs : List Version). vs ++ filter (up_to end) (versions_of bs)) (logged_cut end b.first.0 b.batch (omega (arith, above.0, within)))
    ∙ versions_cut end next bs above.2 (omega (arith, above.0, above.1, within))

-- batches stand for what an opening gives
pub settled_state : (fold : Folded) (bs : List Numbered) → settled (state_of fold bs) ≡ state_of fold bs
settled_state fold bs = settled_unflushed (map head_of fold.families) (versions_of bs) (record { 0 = last_of fold.last.0 bs }) None

-- the batches that don't wait are the writes up to their last sequence
pub cut_state : (fold : Folded) (bs ws : List Numbered) → Above fold.last.0 (bs ++ ws) → state_of fold bs ≡ cut_at (state_of fold (bs ++ ws)) (last_of fold.last.0 bs)
cut_state fold bs ws above =
    let end : ℕ = last_of fold.last.0 bs in
    let kept : filter (up_to end) (versions_of (bs ++ ws)) ≡ versions_of bs =
    ap (filter (up_to end)) (versions_append bs ws)
    ∙ filter-append (up_to end) (versions_of bs) (versions_of ws)
    ∙ ap (λ (vs : List Version). vs ++ filter (up_to end) (versions_of ws)) (versions_kept end fold.last.0 bs (above_front fold.last.0 bs ws above) (omega arith))
    ∙ ap (λ (vs : List Version). versions_of bs ++ vs) (versions_cut end end ws (above_behind fold.last.0 bs ws above) (omega arith))
    ∙ append-nil (versions_of bs) in
    ap (λ (vs : List Version). let m : State = unflushed (map head_of fold.families) (vs) (record { 0 = end }) None in m) (sym kept)
    ∙ sym (settled_unflushed (map head_of fold.families) (filter (up_to end) (versions_of (bs ++ ws))) (record { 0 = end }) None)

-- and all of them are all writes
pub whole_state : (fold : Folded) (bs : List Numbered) → Above 0 bs → state_of fold bs ≡ cut_at (state_of fold bs) (last_of fold.last.0 bs)
whole_state fold [] above = sym (settled_state fold [])
whole_state fold (b ∷ bs) above =
    let end : ℕ = last_of 0 (b ∷ bs) in
    ap (λ (vs : List Version). let m : State = unflushed (map head_of fold.families) (vs) (record { 0 = end }) None in m) (sym (versions_kept end 0 (b ∷ bs) above (omega arith)))
    ∙ sym (settled_unflushed (map head_of fold.families) (filter (up_to end) (versions_of (b ∷ bs))) (record { 0 = end }) None)

-- ---- a write, and its batch

pub length-made : (m : State) (n : ℕ) (os : List NamedOp) → length (versions_made m n os) ≡ length os
length-made m n [] = refl
length-made m n (o ∷ os) = ap suc (length-made m (n + 1) os)

pub length-ops : (m : State) (n : ℕ) (os : List NamedOp) → length (map op_of_version (versions_made m n os)) ≡ length os
length-ops m n [] = refl
length-ops m n (o ∷ os) = ap suc (length-ops m (n + 1) os)

logged_made : (m : State) (n : ℕ) (os : List NamedOp) → logged (n + 1) (map op_of_version (versions_made m n os)) ≡ versions_made m n os
logged_made m n [] = refl
logged_made m n (o ∷ os) = ap (λ (vs : List Version). version_of_op (family_of_op m o) o (n + 1) ∷ vs) (logged_made m (n + 1) os)

-- what a write makes of the state of batches
pub state_more : (fold : Folded) (m : State) (all : List Numbered) (os : List NamedOp) → m ≡ state_of fold all
    → (let n : State = record m { versions = m.versions ++ versions_made m m.last.0 os; last = record { 0 = m.last.0 + length os }; halted = None } in n) ≡ state_of fold (all ++ numbered_of m os ∷ [])
state_more fold m all os is =
    let b : Numbered = numbered_of m os in
    let versions : m.versions ++ versions_made m m.last.0 os ≡ versions_of (all ++ b ∷ []) =
    ap (λ (s : State). s.versions ++ versions_made m m.last.0 os) is
    ∙ ap (λ (vs : List Version). versions_of all ++ vs) (sym (logged_made m m.last.0 os) ∙ sym (append-nil (logged (m.last.0 + 1) b.batch)))
    ∙ sym (versions_append all (b ∷ [])) in
    let last : m.last.0 + length os ≡ last_of fold.last.0 (all ++ b ∷ []) =
    let e : m.last.0 + length os ≡ m.last.0 + 1 + length b.batch - 1 = omega (arith, length-ops m m.last.0 os) in
    e ∙ sym (last_append fold.last.0 all (b ∷ [])) in
    ap (λ (s : State). let n : State = record s { versions = m.versions ++ versions_made m m.last.0 os; last = record { 0 = m.last.0 + length os }; halted = None } in n) is
    ∙ ap (λ (vs : List Version). let n : State = unflushed (map head_of fold.families) (vs) (record { 0 = m.last.0 + length os }) None in n) versions
    ∙ ap (λ (k : ℕ). let n : State = unflushed (map head_of fold.families) (versions_of (all ++ b ∷ [])) (record { 0 = k }) None in n) last

-- ---- the batches of a log

bodies_allowed : (sizes : List ℕ) (first : Bool) (bodies : List (List ℕ)) (bs : List Numbered) → AreBodiesOf sizes first bodies bs → All (IsLoggedBatch (length sizes)) bs
bodies_allowed sizes first [] bs held = subst (All (IsLoggedBatch (length sizes))) (sym held) (All-nil (IsLoggedBatch (length sizes)))
bodies_allowed sizes first (body ∷ bodies) bs held =
    subst (All (IsLoggedBatch (length sizes))) (sym held.2) (All-append (IsLoggedBatch (length sizes)) held.0 held.1 held.3.allowed (bodies_allowed sizes false bodies held.1 held.4))

-- the sequences of a log, with what waits
pub wal_above : {F : Type 0} (g : Ghosts F) (wal : Wal F g) (bs ws : List Numbered) → IsWalOf g wal bs ws → Above 0 (bs ++ ws)
wal_above g wal bs ws shown =
    above_sequence (length wal.sizes) (bs ++ ws) shown.sequence (All-append (IsLoggedBatch (length wal.sizes)) bs ws (bodies_allowed wal.sizes true shown.bodies bs shown.held.held) shown.allowed)
