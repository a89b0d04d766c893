-- What the bytes of a folder fix: what they say, and so all of the states that it stands for but the versions that tables no longer tell.
use Rattle.std.proofs.Common.{◌≡◌, ℕ, zero, suc, ◌<◌, ◌≤◌, ◌==◌, ◌&&◌, Bool, List, [], ◌∷◌, map, length, Some, None, refl, sym, ap, ◌∙◌, subst, arith}
use Rattle.std.specs.Prelude.{Contains, nat_le, nat_lt, slice_get}
use Rattle.std.proofs.lemmas.Bool.{and_from, and_parts, le-leb}
use Rattle.std.proofs.lemmas.List.{length-map}
use Rattle.ts_key.specs.declared.numbers.Family.{Family}
use Rattle.ts_key.specs.declared.numbers.Seq.{Seq}
use Rattle.ts_key.specs.declared.version.Version.{Version}
use Rattle.udt_disk.specs.Crash.{Image}
use Rattle.udt_disk.specs.Joint.{Folder}
use Rattle.udt_disk.specs.declared.name.FileName.TheVariants.{Log, Table}
use Rattle.wal.specs.declared.numbered.Numbered.{Numbered}
use Rattle.wal.specs.Replays.{ReadsAs}
use Rattle.wal.proofs.Logs.{log_holds_one}
use Rattle.udt_model.specs.Versions.{AreWritten, between}
use Rattle.udt_model.specs.State.{FamilyState, State, family_at}
use Rattle.manifest_fold.specs.declared.fold.Folded.{Folded}
use Rattle.manifest_fold.specs.Bodies.{LeadAll}
use Rattle.manifest.specs.Files.{HasFold}
use Rattle.manifest.specs.Folders.{chosen}
use Rattle.manifest.specs.Folds.{IsManifest, family_fold, fold_of, sizes_of}
use Rattle.manifest.proofs.Meanings.{fold_once}
use Rattle.floor_laws.proofs.Members.{In, All-In, filter-In, filter_every, filter_within}
use Rattle.floor_laws.proofs.Reopening.{written_fixed}
use Rattle.engine_laws.specs.Logs.{above, is_above_through, last_over, versions_of}
use Rattle.engine_laws.specs.Manifests.{IsLive}
use Rattle.engine_laws.specs.Standing.{Alike, FolderStands, Grammar, IsOneSaid, FolderSays, Says, TableReads, TableSays, live_batches}
use Rattle.engine_laws.specs.Engine.{AreSameKept, SameLive}
use Rattle.engine_laws.proofs.Folding.{families_length}
use Rattle.engine_laws.proofs.Calls.{same_settled}
use Rattle.engine_laws.proofs.Keeping.{same_batches, same_families}

-- ---- one account of a folder

all_few : (fold end : Folded) (bodies : List (List ℕ)) → LeadAll fold bodies end → length fold.families ≤ 16 → length end.families ≤ 16
all_few fold end [] h le = subst (λ (z : Folded). length z.families ≤ 16) (sym h) le
all_few fold end (body ∷ bodies) h le =
    let k = families_length fold h.1.edit h.1.edit.family h.1.accepted.part in
    all_few h.0 end bodies h.2 (subst (λ (z : Folded). length z.families ≤ 16) (sym h.1.is) (omega (arith, k, le)))

manifest_few : (bodies : List (List ℕ)) (fold : Folded) → IsManifest bodies fold → length fold.families ≤ 16
manifest_few [] fold h = absurd h
manifest_few (body ∷ bodies) fold h =
    let e : length (map family_fold h.0) ≡ length h.0 = simp length-map in
    let l = h.1.new.few in
    all_few (fold_of h.0) fold bodies h.2 (omega (arith, e, l))

fold_few : (image : Image) (fold : Folded) → HasFold image fold → length fold.families ≤ 16
fold_few None fold h = absurd h
fold_few (Some bytes) fold h = manifest_few h.0 fold h.2

log_once : (sizes : List ℕ) (one other : List Numbered) (image : Image) → length sizes ≤ 16 → ReadsAs sizes one image → ReadsAs sizes other image → one ≡ other
log_once sizes one other None few p q = absurd p
log_once sizes one other (Some bytes) few p q = log_holds_one sizes one other bytes few p q

table_once : (g : Grammar) (image : Image) (a b : TableSays) → IsOneSaid g → TableReads g image a → TableReads g image b → a ≡ b
table_once g None a b one p q = absurd p
table_once g (Some bytes) a b one p q = one bytes a b p q

-- a folder says one thing of what is live
pub reads_once : (g : Grammar) (folder : Folder) (a b : Says) → IsOneSaid g → FolderSays g folder a → FolderSays g folder b → SameLive a b
reads_once g folder a b one p q =
    let fold : a.fold ≡ b.fold = fold_once (folder (chosen folder)) a.fold b.fold p.means.1 q.means.1 in
    let few : length (sizes_of a.fold) ≤ 16 = let e : length (sizes_of a.fold) ≡ length a.fold.families = simp length-map in let l = fold_few (folder (chosen folder)) a.fold p.means.1 in omega (arith, e, l) in
    record {
      fold = sym fold;
      logs = λ n i. sym (log_once (sizes_of a.fold) (a.logs n) (b.logs n) (folder (Log n)) few (p.logs n i)
          (subst (λ z. ReadsAs (sizes_of z) (b.logs n) (folder (Log n))) (sym fold) (q.logs n (subst (λ (z : Folded). Contains z.logs n) fold i))));
      tables = λ i f t l. sym (table_once g (folder (Table t.number)) (a.tables t.number) (b.tables t.number) one (p.tables i f t l) (q.tables i f t (subst (λ z. IsLive z i f t) fold l)));
    }

-- ---- the states

-- a sequence is known by its number
seq_same : (a b : Seq) → a.0 ≡ b.0 → a ≡ b
seq_same a b e = ap (λ z. let s : Seq = record { 0 = z } in s) e

-- two states that a folder stands for differ in what lies up to each `through` alone
pub states_alike : (g : Grammar) (folder : Folder) (m n : State) → IsOneSaid g → FolderStands g folder m → FolderStands g folder n → Alike m n
states_alike g folder m n one p q =
    let h = reads_once g folder p.says q.says one p.reads q.reads in
    let b = same_batches p.says q.says h in
    let f : n.families ≡ m.families = q.stands.families ∙ same_families p.says q.says h ∙ sym p.stands.families in
    record {
      families = f;
      last = seq_same n.last m.last (q.stands.last ∙ ap (λ (z : Folded). last_over z.last.0 (live_batches q.says)) h.fold ∙ ap (last_over p.says.fold.last.0) b ∙ sym p.stands.last);
      unflushed = λ i x e. q.stands.unflushed i x (subst (λ z. slice_get z i.0 ≡ Some x) (sym f) e) ∙ ap (λ z. above i x.through.0 (versions_of z)) b ∙ sym (p.stands.unflushed i x e);
    }

-- where all is up to a sequence, the versions above another one are those between
between_all : (i : Family) (low last : ℕ) (w : List Version) → ((v : Version) → In v w → v.seq.0 ≤ last) → between i low last w ≡ above i low w
between_all i low last w bound =
    let p : Version → Bool = λ (v : Version). v.family.0 == i.0 && nat_lt low v.seq.0 && nat_le v.seq.0 last in
    sym (filter_within p (is_above_through i low) w (λ v q. (and_parts (v.family.0 == i.0 && nat_lt low v.seq.0) (nat_le v.seq.0 last) q).0))
    ∙ filter_every p (above i low w) (λ v j. let r = filter-In (is_above_through i low) v w j in and_from (v.family.0 == i.0 && nat_lt low v.seq.0) (nat_le v.seq.0 last) r.1 (le-leb v.seq.0 last (bound v r.0)))

get_there : {X : Type 0} (xs : List X) (n : ℕ) → n < length xs → (x : X) × (slice_get xs n ≡ Some x)
get_there [] n l = absurd (omega (arith, l))
get_there (x ∷ xs) zero l = (x, refl)
get_there (x ∷ xs) (suc n) l = get_there xs n (omega (arith, l))

bounded : (count last : ℕ) (w : List Version) → AreWritten count last w → (v : Version) → In v w → v.seq.0 ≤ last
bounded count last w h v i = All-In (λ (z : Version). z.seq.0 ≤ last) w v h.bounded i

-- where nothing was flushed, the rest is all
pub one_state : (g : Grammar) (folder : Folder) (m n : State) → IsOneSaid g → FolderStands g folder m → FolderStands g folder n → ((i : Family) (f : FamilyState) → family_at m i ≡ Some f → f.through.0 ≡ 0) → m ≡ n
one_state g folder m n one p q none =
    let a = states_alike g folder m n one p q in
    let w = p.stands.sound.written in
    let few : length n.families ≡ length m.families = ap length a.families in
    let v : AreWritten (length m.families) n.last.0 n.versions = subst (λ z. AreWritten z n.last.0 n.versions) few q.stands.sound.written in
    let vs : m.versions ≡ n.versions = written_fixed (length m.families) m.last.0 n.last.0 m.versions n.versions w v (λ i l.
    let f = get_there m.families i.0 l in
    let e = subst (λ z. above i z n.versions ≡ above i z m.versions) (none i f.0 f.1) (a.unflushed i f.0 f.1) in
    between_all i 0 m.last.0 m.versions (bounded (length m.families) m.last.0 m.versions w) ∙ sym e ∙ sym (between_all i 0 n.last.0 n.versions (bounded (length m.families) n.last.0 n.versions v))) in
    let k : AreSameKept m n = record { families = a.families; versions = sym vs; last = a.last } in
    sym p.stands.settled ∙ sym (same_settled m n k) ∙ q.stands.settled
