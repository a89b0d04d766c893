-- A store over the parts of an opened one.
use Rattle.std.proofs.Common.{◌≡◌, ℕ, ◌≤◌, List, [], ◌∷◌, length, map, None, refl, sym, ap, ◌∙◌, subst}
use Rattle.std.specs.Prelude.{IsTrue}
use Rattle.std.proofs.lemmas.List.{length-map}
use Rattle.ts_key.specs.declared.limits.TheConstants.{FAMILY_LIMIT}
use Rattle.udt_disk.specs.Causes.{plus_faults}
use Rattle.udt_disk.specs.Joint.{Folder, Joint}
use Rattle.udt_disk.specs.Moments.{holding}
use Rattle.udt_disk.specs.declared.file.DiskFile as file
use Rattle.udt_disk.specs.declared.disk.Disk as disk
use Rattle.udt_model.specs.declared.line.FamilyHead.{FamilyHead}
use Rattle.udt_model.specs.Crashes.{course_start}
use Rattle.udt_model.specs.State.{FamilyState, State}
use Rattle.wal.specs.Wals.{wal_file}
use Rattle.manifest.specs.Folders.{Meaning, Means}
use Rattle.manifest.specs.Folders.Meaning.{bad_at, no_store, store}
use Rattle.manifest.specs.Manifest.{manifest_file, manifest_folded}
use Rattle.manifest.proofs.Meanings.{means_once}
use Rattle.manifest_fold.specs.declared.fold.FamilyFold.{FamilyFold}
use Rattle.manifest_fold.specs.declared.fold.Folded.{Folded}
use Rattle.super_version.specs.declared.version.SuperVersion.{SuperVersion}
use Rattle.engine_laws.specs.Standing.{FolderStands, TableSays, family_said}
use Rattle.recovery.specs.Tables.{ReadsAsTable}
use Rattle.recovery.specs.declared.opening.Parts.{Parts}
use Rattle.recovery.proofs.Openings.{usable_from}
use Rattle.store_engine.specs.Engines.{HoldsNow, IsCurrent, IsOneFolder, IsRunning, engine_faults, held}
use Rattle.store_engine.specs.Parts.{ArePartsOf}
use Rattle.store_engine.specs.declared.engine.Engine.{Engine}
use Rattle.solo_store.specs.Names.{names_in}
use Rattle.solo_store.specs.Stores.{HoldsStore, IsStoreReady, engine_of, names_of_fold, now_of, parts_faults}
use Rattle.solo_store.specs.declared.store.Store.{Store}
use Rattle.solo_store.proofs.Holding.{goes_on_live, since_live}

-- what a meaning says, and this where it says nothing
fold_in : Folded → Meaning → Folded
fold_in none no_store = none
fold_in none (store fold) = fold
fold_in none (bad_at at) = none

fold_once : (folder : Folder) (a b : Folded) → Means folder (store a) → Means folder (store b) → a ≡ b
unfolding fold_in
fold_once folder a b x y = ap (fold_in a) (means_once folder (store a) (store b) x y)

-- the names are those of the fold
said_names : (tables : ℕ → TableSays) (fs : List FamilyFold) → map (λ (h : FamilyHead). h.name) (map (λ (f : FamilyState). f.head) (map (family_said tables) fs)) ≡ map (λ (f : FamilyFold). f.name) fs
said_names tables [] = refl
said_names tables (f ∷ fs) = ap (λ (names : List (List ℕ)). f.name ∷ names) (said_names tables fs)

module _ {D F : Type 0} (d : disk.Ghosts D F) (f : file.Ghosts F) (old : D) (parts : Parts D F f) (are : ArePartsOf d f old parts) where
  pub opened_ready : (made : Store D F f) → made.halted ≡ None → made.flush ≡ None → IsRunning (engine_of made) → IsCurrent (engine_of made) parts.version → IsOneFolder d f (engine_of made) → now_of made ≡ parts.version
      → made.names.items ≡ names_of_fold (manifest_folded parts.manifest) → IsStoreReady d f made
  opened_ready made works idle running current one is names =
      let fold = manifest_folded parts.manifest in
      let count : length (names_of_fold fold) ≡ length fold.families = length-map fold.families (λ (x : FamilyFold). x.name) in
      record {
        goes_on = goes_on_live d f made.halted (engine_of made) (now_of made) works running (subst (λ (v : SuperVersion). IsCurrent (engine_of made) v) (sym is) current);
        one = one;
        families = ap (λ (v : SuperVersion). length v.families) is ∙ (are.fits.all ∙ (sym count ∙ ap length (sym names)));
        few = subst (λ (n : ℕ). n ≤ FAMILY_LIMIT) (sym (ap length names ∙ count)) (usable_from fold are.folds).few;
        may_end = rw idle tt;
      }

  pub opened_holds : (made : Store D F f) (m : State) → made.halted ≡ None → made.flush ≡ None → now_of made ≡ parts.version → made.names.items ≡ names_of_fold (manifest_folded parts.manifest)
      → IsTrue (d.is_told old) → FolderStands ReadsAsTable (d.stands old) m → HoldsNow d f (engine_of made) parts.version m (course_start m) → HoldsStore d f made m (course_start m)
  opened_holds made m works idle is names told stands holds =
      let same = fold_once (d.stands old) (manifest_folded parts.manifest) stands.says.fold (are.opened told).means stands.reads.means in
      let own : names_in m ≡ names_of_fold stands.says.fold = ap (λ (fs : List FamilyState). map (λ (h : FamilyHead). h.name) (map (λ (g : FamilyState). g.head) fs)) stands.stands.families ∙ said_names stands.says.tables stands.says.fold.families in
      record {
        names = names ∙ (ap names_of_fold same ∙ sym own);
        flush = ap (λ (n : State). n.flush) (sym stands.stands.settled) ∙ rw idle refl;
        snaps = ap (λ (n : State). n.snaps) (sym stands.stands.settled);
        holds = since_live d f made.halted (engine_of made) (now_of made) m (course_start m) works (subst (λ (v : SuperVersion). HoldsNow d f (engine_of made) v m (course_start m)) (sym is) holds);
      }

  -- the faults of what is held
  first_of : F → List F → F
  first_of none [] = none
  first_of none (x ∷ xs) = x

  rest_of : List F → List F
  rest_of [] = []
  rest_of (x ∷ xs) = xs

  faults_held : F → Joint D F → ℕ
  faults_held none j = plus_faults (plus_faults (d.faults j.disk) (f.faults (first_of none j.files))) (f.faults (first_of none (rest_of j.files)))

  pub opened_faults : (engine : Engine D F f) → held engine ≡ holding parts.disk (wal_file parts.wal ∷ manifest_file parts.manifest ∷ []) → engine_faults d f engine ≡ parts_faults d f parts
  unfolding faults_held first_of rest_of
  opened_faults engine is = ap (faults_held (wal_file parts.wal)) is
