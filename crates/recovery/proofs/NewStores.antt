-- Making a store, step by step.
use Rattle.std.proofs.Common.{◌≡◌, ◌≢◌, inl, inr, ⊎_elim, ℕ, List, [], ◌∷◌, refl, sym, ◌∙◌, subst, arith}
use Rattle.std.specs.Prelude.{Contains, IsTrue, None, Some, Result, Ok, Err, OnErr}
use Rattle.ts_key.specs.declared.version.Form.TheVariants.{Persist}
use Rattle.udt_disk.specs.Crash.{Image, Only}
use Rattle.udt_disk.specs.Joint.{Folder, LeavesNow, Ran}
use Rattle.udt_disk.specs.Joint.Ran.{rests}
use Rattle.udt_disk.specs.Touches.{Touches}
use Rattle.udt_disk.specs.Moments.{IsClean, MayLeaveFolder, OnlyReads, alone}
use Rattle.udt_disk.specs.declared.name.FileName.{FileName}
use Rattle.udt_disk.specs.declared.name.FileName.TheVariants.{Current, Made, Manifest0, Log}
use Rattle.udt_disk.specs.declared.file.DiskFile as file
use Rattle.udt_disk.specs.declared.disk.Disk as disk
use Rattle.udt_disk.proofs.Joints.{ran_on, ran_more, ran_stands}
use Rattle.udt_disk.proofs.Moments.{ran_only, stands_all, leaves_all, disk_step}
use Rattle.udt_model.specs.declared.line.FamilyHead.{FamilyHead}
use Rattle.wal.specs.Replays.{LogHolds, ReadsAs}
use Rattle.wal.proofs.Bodies.{holds_none}
use Rattle.manifest.specs.Folds.{fold_of, sizes_of}
use Rattle.manifest.specs.Files.{HasFold}
use Rattle.manifest.specs.Folders.{Means, chosen_by}
use Rattle.manifest.specs.Folders.Meaning.{no_store, store}
use Rattle.manifest.specs.Making.{IsStoreName, IsUnmade, IsNoneOrAll}
use Rattle.floor_laws.proofs.Members.{contains_In}
use Rattle.engine_laws.specs.Standing.{FolderStands, TableSays, fresh_says, new_state}
use Rattle.engine_laws.proofs.Folding.{head_dead}
use Rattle.engine_laws.proofs.Opened.{new_stands as new_is_new}
use Rattle.recovery.specs.Making.{IsMakingName, IsNewStore, IsNoneOrNew, KeepsOthers}
use Rattle.recovery.specs.Tables.{ReadsAsTable}

-- ---- a new store

-- a closed gate alone is a log without batches
empty_log : (sizes : List ℕ) → LogHolds sizes [] (90 ∷ [])
empty_log sizes = record { bodies = []; log = record { gate = 90; rest = []; shut = λ is. omega (arith, is); is = refl; fit = tt }; held = holds_none sizes }

-- of tables that aren't there anything may be said
no_tables : ℕ → TableSays
no_tables n = record { family = record { 0 = 0 }; form = Persist; collected_by = record { 0 = 0 }; versions = [] }

first_alone : (n : ℕ) → Contains (1 ∷ []) n → n ≡ 1
first_alone n is = ⊎_elim (λ one. sym one) (λ none. absurd none) (contains_In (1 ∷ []) n is)

-- a new manifest beside a log without batches
new_stands : (folder : Folder) (families : List FamilyHead) → Means folder (store (fold_of families)) → folder (Log 1) ≡ Some (90 ∷ []) → FolderStands ReadsAsTable folder (new_state families)
new_stands folder families means log =
    let sizes = sizes_of (fold_of families) in
    let first : ReadsAs sizes [] (folder (Log 1)) = subst (ReadsAs sizes []) (sym log) (empty_log sizes) in
    record {
      says = fresh_says families no_tables;
      reads = record {
        means = means;
        logs = λ n is. subst (λ (k : ℕ). ReadsAs sizes [] (folder (Log k))) (sym (first_alone n is)) first;
        tables = λ i f t live. absurd (head_dead families i f t live);
      };
      stands = new_is_new families no_tables;
    }

pub new_store : (folder : Folder) (families : List FamilyHead) → Means folder (store (fold_of families)) → folder (Log 1) ≡ Some (90 ∷ []) → IsNewStore families folder
new_store folder families means log = record { means = means; stands = new_stands folder families means log }

-- what stands once the manifest is given back
pub made_means : (families : List FamilyHead) (folder : Folder) (bytes : List ℕ) → folder Made ≡ Some [] → chosen_by (folder Current) ≡ Manifest0 → folder Manifest0 ≡ Some bytes → HasFold (Some bytes) (fold_of families) → Means folder (store (fold_of families))
made_means families folder bytes made first is has =
    let none : folder Made ≢ None = λ gone. let same = sym made ∙ gone in cc in
    (none, subst (λ (n : FileName). HasFold (folder n) (fold_of families)) (sym first) (subst (λ (i : Image). HasFold i (fold_of families)) (sym is) has))

-- ---- names

pub made_isn't_first : Made ≢ Manifest0
made_isn't_first is = cc

pub current_isn't_first : Current ≢ Manifest0
current_isn't_first is = cc

made_isn't_log : Made ≢ Log 1
made_isn't_log is = cc

current_isn't_log : Current ≢ Log 1
current_isn't_log is = cc

pub log_isn't_touched : ¬ IsStoreName (Log 1)
log_isn't_touched (inl (inl is)) = cc
log_isn't_touched (inl (inr is)) = cc
log_isn't_touched (inr is) = cc

-- ---- moments

module _ {D F : Type 0} (d : disk.Ghosts D F) (f : file.Ghosts F) where
  module _ (families : List FamilyHead) where
    -- before the first call
    pub at_rest : (old : D) → IsUnmade d old → Ran d f (IsNoneOrNew families) (alone old) (alone old)
    at_rest old unmade = rests (λ folder image. inl (unmade.made (folder Made) (image.others Made (λ x held. absurd held))))

    -- there is still no store
    pub still_unmade : (old mid : D) → IsUnmade d old → Touches d (λ n. n ≡ Log 1) old mid → IsUnmade d mid
    still_unmade old mid unmade run = record {
      told = subst IsTrue (sym run.told) unmade.told;
      made = λ c left. unmade.made c (run.no_more Made c made_isn't_log left);
      current = λ none c left. unmade.current (sym (run.same Current current_isn't_log) ∙ none) c (run.no_more Current c current_isn't_log left);
    }

    module _ (disk_now : (x : D) (n : FileName) (c : Image) → d.left_since x (d.moment x) n c → d.may_leave x n c) (file_now : (x : F) (c : Image) → f.left_since x (f.moment x) c → f.may_leave x c) (old mid : D) (unmade : IsUnmade d old) (touches : Touches d (λ n. n ≡ Log 1) old mid) where
      -- the first log is made
      pub log_step : Ran d f (IsNoneOrNew families) (alone old) (alone mid)
      log_step =
          ran_only d f (λ n. n ≡ Log 1) (IsNoneOrNew families) (alone old) (alone mid) (λ folder each. inl (unmade.made (folder Made) ((each Made made_isn't_log).free (λ x held. absurd held)))) (disk_step d f disk_now file_now [] (λ n. n ≡ Log 1) old mid touches)

      module _ (new : D) (durable : Only (90 ∷ []) (d.may_leave mid (Log 1))) where
        -- the manifest is made
        pub manifest_step : (IsUnmade d mid → Ran d f (IsNoneOrAll d mid families) (alone mid) (alone new)) → Ran d f (IsNoneOrNew families) (alone old) (alone new)
        manifest_step manifest =
            ran_on d f (IsNoneOrNew families) (alone old) (alone mid) (alone new) log_step
            (ran_more d f (IsNoneOrAll d mid families) (IsNoneOrNew families) (λ folder all. ⊎_elim (λ none. inl none)
            (λ means. inr (new_store folder families means (durable (folder (Log 1)) (all.others (Log 1) log_isn't_touched)))) all.store) (alone mid) (alone new) (manifest (still_unmade old mid unmade touches)))

        -- and on the disk
        pub all_there : Touches d IsStoreName mid new → LeavesNow d f (λ (folder : Folder). Means folder (store (fold_of families))) (alone new) → LeavesNow d f (IsNewStore families) (alone new)
        all_there run means folder image =
            new_store folder families (means folder image) (durable (folder (Log 1)) (run.no_more (Log 1) (folder (Log 1)) log_isn't_touched (image.others (Log 1) (λ x held. absurd held))))

  -- ---- behind the look for a store

  -- there is no store still
  pub still_none : (old mid : D) → IsTrue (d.is_told old) → Means (d.stands old) no_store → OnlyReads d f (alone old) (alone mid) → Means (d.stands mid) no_store
  still_none old mid told none look = stands_all d f old mid look told Made ∙ none

  -- nor does one come back in a folder that was just opened
  pub unmade_opened : (disk : D) → IsTrue (d.is_told disk) → IsClean d disk → Means (d.stands disk) no_store → IsUnmade d disk
  unmade_opened disk told clean none = record { told = told; made = λ c left. clean Made c left ∙ none; current = λ missing c left. clean Current c left ∙ missing }

  module _ (old mid : D) (unmade : IsUnmade d old) (look : OnlyReads d f (alone old) (alone mid)) where
    pub unmade_behind : IsUnmade d mid
    unmade_behind = record {
      told = subst IsTrue (sym look.told) unmade.told;
      made = λ c left. unmade.made c (leaves_all d f old mid look Made c left);
      current = λ missing c left. unmade.current (sym (stands_all d f old mid look unmade.told Current) ∙ missing) c (leaves_all d f old mid look Current c left);
    }

    pub still_none_left : (folder : Folder) → MayLeaveFolder d mid folder → Means folder no_store
    still_none_left folder left = unmade.made (folder Made) (leaves_all d f old mid look Made (folder Made) (left Made))

    pub behind_look : (families : List FamilyHead) → Ran d f (IsNoneOrNew families) (alone old) (alone mid)
    behind_look families = ran_only d f (λ n. ⊥) (IsNoneOrNew families) (alone old) (alone mid) (λ folder each. inl (unmade.made (folder Made) ((each Made (λ no. no)).free (λ x held. absurd held)))) look

    pub files_step : (families : List FamilyHead) (new : D) → (IsUnmade d mid → Ran d f (IsNoneOrNew families) (alone mid) (alone new)) → Ran d f (IsNoneOrNew families) (alone old) (alone new)
    files_step families new run = ran_on d f (IsNoneOrNew families) (alone old) (alone mid) (alone new) (behind_look families) (run unmade_behind)

  -- ---- other names

  -- a look keeps all
  pub look_keeps : (old new : D) → OnlyReads d f (alone old) (alone new) → IsTrue (d.is_told old) → KeepsOthers d old new
  look_keeps old new look told = record { stands = λ n free. stands_all d f old new look told n; no_more = λ n c free left. leaves_all d f old new look n c left }

  -- and so do the calls behind it
  pub keeps_behind : (old mid new : D) → OnlyReads d f (alone old) (alone mid) → IsTrue (d.is_told old) → (IsTrue (d.is_told mid) → Touches d IsMakingName mid new) → KeepsOthers d old new
  keeps_behind old mid new look told run =
      let touches = run (subst IsTrue (sym look.told) told) in
      record {
        stands = λ n free. touches.same n free ∙ stands_all d f old mid look told n;
        no_more = λ n c free left. leaves_all d f old mid look n c (touches.no_more n c free left);
      }

  -- what a crash leaves once a run is over
  pub leaves : (P : Folder → Type 0) (new : D) → LeavesNow d f P (alone new) → (folder : Folder) → MayLeaveFolder d new folder → P folder
  leaves P new here folder left = here folder (record { held = λ x held. absurd held; others = λ n free. left n })

  pub leaves_behind : (P : Folder → Type 0) (old new : D) → Ran d f P (alone old) (alone new) → (folder : Folder) → MayLeaveFolder d new folder → P folder
  leaves_behind P old new run = leaves P new (ran_stands d f P (alone old) (alone new) run)

-- what holds in any case holds of an error
pub on_err : {T E : Type 0} (r : Result T E) (P : Type 0) → P → OnErr r P
on_err (Ok v) P p = tt
on_err (Err e) P p = p
