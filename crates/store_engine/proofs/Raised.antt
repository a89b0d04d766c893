-- A floor that was written to the manifest: what the engine holds behind it.
use Rattle.std.proofs.Common.{◌≡◌, ◌<◌, List, [], ◌∷◌, Result, Ok, Err, refl, sym, ap, ◌∙◌, subst}
use Rattle.std.specs.Prelude.{All, Contains, OnOk}
use Rattle.udt_disk.specs.Joint.{Ran}
use Rattle.udt_disk.specs.Moments.{MayLeave, holding}
use Rattle.udt_disk.specs.Runs.{Leaves}
use Rattle.udt_disk.specs.declared.file.DiskFile as file
use Rattle.udt_disk.specs.declared.disk.Disk as disk
use Rattle.udt_disk.specs.declared.name.FileName.{FileName}
use Rattle.wal.specs.declared.numbered.Numbered.{Numbered}
use Rattle.wal.specs.Wals as log
use Rattle.wal.specs.Wals.{wal_file}
use Rattle.udt_model.specs.State.{State}
use Rattle.udt_model.specs.Crashes.{Course}
use Rattle.manifest_edit.specs.declared.edit.TableAt.{TableAt}
use Rattle.manifest_edit.specs.declared.edit.Edit.{Edit}
use Rattle.manifest_fold.specs.Folds.{fold_with, newest_log}
use Rattle.manifest.specs.Files.{HasFold, IsEditImage}
use Rattle.manifest.specs.Manifest.{FoldRests, manifest_file, manifest_folded}
use Rattle.manifest.proofs.Edits.{rests_fold}
use Rattle.super_version.specs.declared.version.SuperVersion.{SuperVersion}
use Rattle.engine_laws.specs.Joints.{IsNowLast, OneRan}
use Rattle.engine_laws.specs.JointLaws.{RestIn}
use Rattle.engine_laws.specs.Moves.{IsEditReady, TableRests, added_tables}
use Rattle.engine_laws.specs.Standing.{Says, StandsForSome}
use Rattle.engine_laws.specs.Engine.{HoldsState, IsOutcomeOr, MayEdit, newest_log_of, with_edit}
use Rattle.engine_laws.proofs.Joined.{edit_rests, ran_edit}
use Rattle.engine_laws.proofs.Moving.{edit_ready}
use Rattle.floor_laws.proofs.Members.{contains_In}
use Rattle.recovery.specs.Tables.{ReadsAsTable}
use Rattle.store_engine.specs.Engines.{HoldsNow, IsEngineOf, held}
use Rattle.store_engine.specs.Older.{CoversOlder}
use Rattle.store_engine.specs.Steps.{IsEdited, ReservesEdit}
use Rattle.store_engine.specs.declared.engine.Engine.{Engine}
use Rattle.store_engine.specs.declared.fault.EngineFault.{EngineFault}
use Rattle.store_engine.proofs.Files.{same_joint, second_ran}
use Rattle.store_engine.proofs.Together.{named_on}

module _ {D F : Type 0} (d : disk.Ghosts D F) (f : file.Ghosts F) (now_last : IsNowLast d f) where
  module _ (old mid : Engine D F f) (edit : Edit) (result : Result (Unit {0}) EngineFault) (kept : ReservesEdit f edit old mid result) where
    pub reserved_held : held mid ≡ held old
    reserved_held = same_joint mid.disk old.disk (wal_file mid.wal) (wal_file old.wal) (manifest_file mid.manifest) (manifest_file old.manifest) kept.disk (ap (λ w. wal_file w) kept.wal) kept.file

    pub reserved_of : (s : Says) (waiting : List Numbered) → IsEngineOf d f old s waiting → IsEngineOf d f mid s waiting
    reserved_of s waiting of =
        let told : d.is_told mid.disk ≡ d.is_told old.disk = ap d.is_told kept.disk in
        let model : d.keeps_model mid.disk ≡ d.keeps_model old.disk = ap d.keeps_model kept.disk in
        record {
          rests = subst (λ j. RestIn d f ReadsAsTable j (f.name (manifest_file mid.manifest)) s) (sym reserved_held) (subst (λ x. RestIn d f ReadsAsTable (held old) (f.name x) s) (sym kept.file) of.rests);
          fold = kept.fold ∙ of.fold;
          edits = kept.rests of.edits;
          log = subst (λ w. log.Holds f w (s.logs (newest_log_of s)) waiting) (sym kept.wal) of.log;
          one = record {
            named = named_on f old.manifest mid.manifest old.wal mid.wal (ap f.name kept.file) (ap (λ w. f.name (wal_file w)) kept.wal) of.one.named;
            wal_told = ap (λ w. f.is_told (wal_file w)) kept.wal ∙ of.one.wal_told ∙ sym told;
            wal_model = ap (λ w. f.keeps_model (wal_file w)) kept.wal ∙ of.one.wal_model ∙ sym model;
            manifest_told = ap f.is_told kept.file ∙ of.one.manifest_told ∙ sym told;
            manifest_model = ap f.keeps_model kept.file ∙ of.one.manifest_model ∙ sym model;
          };
        }

    -- it holds what it held
    pub reserved_now : (now : SuperVersion) (m : State) (c : Course) → HoldsNow d f old now m c → HoldsNow d f mid now m c
    reserved_now now m c h = record {
      says = h.says;
      waiting = h.waiting;
      engine_of = reserved_of h.says h.waiting h.engine_of;
      holds = h.holds;
      shows = h.shows;
      used = subst (λ k. All (λ n. n < k) m.used) (sym kept.next) h.used;
      covers = subst (λ o. CoversOlder o h.says) (sym kept.older) h.covers;
      runs = h.runs;
      unfailed = h.unfailed;
    }

  -- ---- the edit

  module _ (edit : Edit) (two new : Engine D F f) (result : Result (Unit {0}) EngineFault) (edited : IsEdited f edit two new result) where
    pub edited_held : held new ≡ holding two.disk (wal_file two.wal ∷ manifest_file new.manifest ∷ [])
    edited_held = same_joint new.disk two.disk (wal_file new.wal) (wal_file two.wal) (manifest_file new.manifest) (manifest_file new.manifest) edited.disk (ap (λ w. wal_file w) edited.wal) refl

    module _ (m next : State) (c : Course) (s : Says) (h : HoldsState m c s []) (of : IsEngineOf d f two s []) (may : MayEdit m s edit next) (logs : edit.add_logs ≡ []) (tables : (t : TableAt) → Contains (added_tables edit.family) t → TableRests ReadsAsTable (MayLeave d f (held two)) s t.number) where
      abbrev name : FileName
      name = f.name (manifest_file two.manifest)

      abbrev start : List F
      start = wal_file two.wal ∷ manifest_file two.manifest ∷ []

      abbrev done : List F
      done = wal_file two.wal ∷ manifest_file new.manifest ∷ []

      ready : IsEditReady ReadsAsTable (MayLeave d f (holding two.disk start)) s edit
      ready = edit_ready ReadsAsTable (MayLeave d f (holding two.disk start)) name s edit may.leads.accepted of.rests (λ n i. absurd (contains_In [] n (subst (λ ns. Contains ns n) logs i))) tables

      ran_one : OneRan f start done (manifest_file two.manifest) (manifest_file new.manifest)
      ran_one = second_ran f (wal_file two.wal) (manifest_file two.manifest) (manifest_file new.manifest) edited.same.name

      pub edited_ran : Ran d f (λ folder. StandsForSome ReadsAsTable folder (IsOutcomeOr m c next)) (held two) (held new)
      edited_ran = subst (λ j. Ran d f (λ folder. StandsForSome ReadsAsTable folder (IsOutcomeOr m c next)) (held two) j) (sym edited_held)
          (ran_edit d f now_last ReadsAsTable name of.one.named.of_manifest m next c s edit two.disk start done (manifest_file two.manifest) (manifest_file new.manifest) ran_one refl may of.rests ready h
          (subst (λ fold. Leaves f (manifest_file two.manifest) (manifest_file new.manifest) (IsEditImage fold edit)) of.fold (edited.moments of.edits)))

      -- where it ended well, the engine holds what the files say with the edit
      pub edited_of : newest_log (fold_with s.fold edit).logs ≡ newest_log_of s → OnOk result (IsEngineOf d f new (with_edit s edit) [])
      edited_of newest = elim result as (λ r. OnOk r (manifest_folded new.manifest ≡ fold_with (manifest_folded two.manifest) edit) → OnOk r (FoldRests f new.manifest) → OnOk r (IsEngineOf d f new (with_edit s edit) [])) [
        | Ok u ↦ λ fold rests.
            let is : manifest_folded new.manifest ≡ fold_with s.fold edit = fold ∙ ap (λ z. fold_with z edit) of.fold in
            let told : d.is_told new.disk ≡ d.is_told two.disk = ap d.is_told edited.disk in
            let model : d.keeps_model new.disk ≡ d.keeps_model two.disk = ap d.keeps_model edited.disk in
            record {
              rests = subst (λ j. RestIn d f ReadsAsTable j (f.name (manifest_file new.manifest)) (with_edit s edit)) (sym edited_held)
                  (subst (λ n. RestIn d f ReadsAsTable (holding two.disk done) n (with_edit s edit)) (sym edited.same.name)
                  (edit_rests d f now_last ReadsAsTable name of.one.named.of_manifest m next c s edit two.disk start done (manifest_file two.manifest) (manifest_file new.manifest) ran_one refl may of.rests ready
                  (λ i left. subst (HasFold i) is (rests_fold f new.manifest rests i left))));
              fold = is;
              edits = rests;
              log = subst (λ w. log.Holds f w (s.logs (newest_log (fold_with s.fold edit).logs)) []) (sym edited.wal) (subst (λ n. log.Holds f two.wal (s.logs n) []) (sym newest) of.log);
              one = record {
                named = named_on f two.manifest new.manifest two.wal new.wal edited.same.name (ap (λ w. f.name (wal_file w)) edited.wal) of.one.named;
                wal_told = ap (λ w. f.is_told (wal_file w)) edited.wal ∙ of.one.wal_told ∙ sym told;
                wal_model = ap (λ w. f.keeps_model (wal_file w)) edited.wal ∙ of.one.wal_model ∙ sym model;
                manifest_told = edited.same.told ∙ of.one.manifest_told ∙ sym told;
                manifest_model = edited.same.model ∙ of.one.manifest_model ∙ sym model;
              };
            }
        | Err e ↦ λ fold rests. tt
      ] edited.fold (edited.rests of.edits)
