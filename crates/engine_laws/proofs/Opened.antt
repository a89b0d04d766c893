-- A folder that stands for a state gives an engine that holds it; and a new store stands for nothing written.
use Rattle.std.proofs.Common.{◌≡◌, ℕ, ◌+◌, ◌-◌, ◌<◌, ◌≤◌, true, false, Bool, List, [], ◌∷◌, map, length, Some, None, refl, sym, ap, ◌∙◌, subst, arith, inl, inr}
use Rattle.std.specs.Prelude.{All, Contains}
use Rattle.std.proofs.lemmas.List.{append-nil, length-map}
use Rattle.std.proofs.lemmas.List.Elements.{All-nil, All-append, All-head, All-tail, Contains-push}
use Rattle.ts_key.specs.declared.limits.TheConstants.{SEQUENCE_LIMIT}
use Rattle.ts_key.specs.declared.version.Version.{Version}
use Rattle.udt_disk.specs.Crash.{Image}
use Rattle.udt_disk.specs.Joint.{Folder}
use Rattle.udt_disk.specs.declared.name.FileName.TheVariants.{Log}
use Rattle.udt_model.specs.declared.line.FamilyHead.{FamilyHead}
use Rattle.udt_model.specs.Versions.{AreWritten}
use Rattle.udt_model.specs.State.{State, head_with_floor, live_numbers, unflushed_family}
use Rattle.udt_model.specs.Crashes.{course_start}
use Rattle.wal.specs.declared.numbered.Numbered.{Numbered}
use Rattle.wal.specs.Records.{IsLoggedBatch}
use Rattle.wal.specs.Bodies.{AreBodiesOf}
use Rattle.wal.specs.Replays.{ReadsAs}
use Rattle.manifest_fold.specs.declared.fold.Folded.{Folded}
use Rattle.manifest.specs.Files.{HasFold}
use Rattle.manifest.specs.Folders.{chosen}
use Rattle.manifest.specs.Folds.{IsManifest, family_fold, fold_of, sizes_of}
use Rattle.floor_laws.proofs.Members.{In, In-contains, contains_In}
use Rattle.floor_laws.proofs.Courses.{course_begins}
use Rattle.floor_laws.proofs.Reopening.{sound_fresh}
use Rattle.engine_laws.specs.Logs.{above, batches_of, last_of, last_over, versions_of}
use Rattle.engine_laws.specs.Manifests.{IsWell}
use Rattle.engine_laws.specs.Standing.{FolderStands, Grammar, FolderSays, Says, StandsFor, TableSays, family_said, fresh_says, live_batches, new_state}
use Rattle.engine_laws.specs.Engine.{HoldsState}
use Rattle.engine_laws.proofs.Batches.{last_over_is}
use Rattle.engine_laws.proofs.Folding.{all_well, head_dead, head_well}

-- ---- what reading tells

pub manifest_well : (bodies : List (List ℕ)) (fold : Folded) → IsManifest bodies fold → IsWell fold
manifest_well [] fold h = absurd h
manifest_well (body ∷ bodies) fold h = all_well (fold_of h.0) fold bodies h.2 (head_well h.0)

fold_well : (image : Image) (fold : Folded) → HasFold image fold → IsWell fold
fold_well None fold h = absurd h
fold_well (Some bytes) fold h = manifest_well h.0 fold h.2

bodies_logged : (sizes : List ℕ) (is_first : Bool) (bodies : List (List ℕ)) (batches : List Numbered) → AreBodiesOf sizes is_first bodies batches → All (IsLoggedBatch (length sizes)) batches
bodies_logged sizes is_first [] batches h = subst (λ z. All (IsLoggedBatch (length sizes)) z) (sym h) (All-nil (IsLoggedBatch (length sizes)))
bodies_logged sizes is_first (body ∷ bodies) batches h =
    subst (λ z. All (IsLoggedBatch (length sizes)) z) (sym h.2) (All-append (IsLoggedBatch (length sizes)) h.0 h.1 h.3.allowed (bodies_logged sizes false bodies h.1 h.4))

read_logged : (sizes : List ℕ) (batches : List Numbered) (image : Image) → ReadsAs sizes batches image → All (IsLoggedBatch (length sizes)) batches
read_logged sizes batches None h = absurd h
read_logged sizes batches (Some bytes) h = bodies_logged sizes true h.bodies batches h.held.held

all_logged : (k : ℕ) (logs : ℕ → List Numbered) (ns : List ℕ) → ((n : ℕ) → In n ns → All (IsLoggedBatch k) (logs n)) → All (IsLoggedBatch k) (batches_of logs ns)
all_logged k logs [] h = All-nil (IsLoggedBatch k)
all_logged k logs (n ∷ ns) h = All-append (IsLoggedBatch k) (logs n) (batches_of logs ns) (h n (inl refl)) (all_logged k logs ns (λ m i. h m (inr i)))

last_within : (k fl : ℕ) (bs : List Numbered) → fl ≤ SEQUENCE_LIMIT → All (IsLoggedBatch k) bs → last_of fl bs ≤ SEQUENCE_LIMIT
last_within k fl [] low h = low
last_within k fl (b ∷ bs) low h =
    let one = All-head (IsLoggedBatch k) b bs h in
    let a = one.last in let c = one.first in
    last_within k (b.first.0 + length b.batch - 1) bs (omega (arith, a, c)) (All-tail (IsLoggedBatch k) b bs h)

-- what reading a folder tells of its fold and its batches
module _ (g : Grammar) (folder : Folder) (s : Says) (r : FolderSays g folder s) where
  pub reads_well : IsWell s.fold
  reads_well = fold_well (folder (chosen folder)) s.fold r.means.1

  pub reads_logged : All (IsLoggedBatch (length s.fold.families)) (live_batches s)
  reads_logged =
      let e : length (sizes_of s.fold) ≡ length s.fold.families = simp length-map in
      all_logged (length s.fold.families) s.logs s.fold.logs (λ n i. subst (λ z. All (IsLoggedBatch z) (s.logs n)) e (read_logged (sizes_of s.fold) (s.logs n) (folder (Log n)) (r.logs n (In-contains s.fold.logs n i))))

-- ---- opening

-- files that stand for a state, of a fold that a manifest may have, give an engine that holds it
pub stands_holds : (m : State) (s : Says) → IsWell s.fold → All (IsLoggedBatch (length s.fold.families)) (live_batches s) → StandsFor s m → HoldsState m (course_start m) s []
stands_holds m s w logged h =
    let all = append-nil (live_batches s) in
    record {
      families = h.families;
      unflushed = λ i f q. h.unflushed i f q ∙ ap (λ z. above i f.through.0 (versions_of z)) (sym all);
      last = h.last ∙ ap (last_over s.fold.last.0) (sym all);
      within = let e = h.last ∙ last_over_is s.fold.last.0 (live_batches s) h.behind in let l = last_within (length s.fold.families) s.fold.last.0 (live_batches s) w.last logged in omega (arith, e, l);
      sequence = h.sequence;
      goes_on = tt;
      logged = subst (λ z. All (IsLoggedBatch (length s.fold.families)) z) (sym all) logged;
      behind = h.behind;
      fits = h.fits;
      well = w;
      sound = h.sound;
      course = record {
        here = subst (λ z. Contains (m.last.0 ∷ []) z) h.last (Contains-push [] m.last.0);
        all = Contains-push [] m.last.0;
        synced = let e = h.last in omega (arith, e);
        sound = course_begins m h.sound;
      };
    }

-- the engine of a folder that was opened holds what the folder stands for
pub opened_holds : (g : Grammar) (folder : Folder) (m : State) (h : FolderStands g folder m) → HoldsState m (course_start m) h.says []
opened_holds g folder m h = stands_holds m h.says (reads_well g folder h.says h.reads) (reads_logged g folder h.says h.reads) h.stands

-- ---- a new store

families_new : (tables : ℕ → TableSays) (heads : List FamilyHead) → map unflushed_family (map (head_with_floor (record { 0 = 0 })) heads) ≡ map (family_said tables) (map family_fold heads)
families_new tables [] = refl
families_new tables (h ∷ heads) = ap (λ z. unflushed_family (head_with_floor (record { 0 = 0 }) h) ∷ z) (families_new tables heads)

none_live : (heads : List FamilyHead) → live_numbers (new_state heads) ≡ []
none_live [] = refl
none_live (h ∷ heads) = none_live heads

none_written : (n : ℕ) → AreWritten n 0 []
none_written n = record {
  ascending = λ i j d lt l. absurd (omega (arith, l));
  positive = All-nil (λ (v : Version). 1 ≤ v.seq.0);
  bounded = All-nil (λ (v : Version). v.seq.0 ≤ 0);
  families = All-nil (λ (v : Version). v.family.0 < n);
  rising = λ a b x y q l. absurd (contains_In [] a x);
}

pub new_stands : (heads : List FamilyHead) (tables : ℕ → TableSays) → StandsFor (fresh_says heads tables) (new_state heads)
new_stands heads tables =
    let new = map (head_with_floor (record { 0 = 0 })) heads in
    record {
      families = families_new tables heads;
      unflushed = λ i f q. refl;
      last = refl;
      behind = omega arith;
      sequence = tt;
      fits = λ i f t l. absurd (head_dead heads i f t l);
      sound = sound_fresh new [] (record { 0 = 0 }) None (none_written (length new));
      settled = ap (λ z. let r : State = record (new_state heads) { used = z } in r) (none_live heads);
    }
