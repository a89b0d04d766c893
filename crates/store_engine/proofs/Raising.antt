-- The steps of a raise, one after another.
use Rattle.std.proofs.Common.{◌≡◌, ℕ, ◌+◌, ◌<◌, ◌≤◌, [], Result, Ok, refl, sym, ap, ◌∙◌, subst, arith, inl}
use Rattle.std.specs.Prelude.{All, Contains, OnOk, Some, slice_get}
use Rattle.ts_key.specs.declared.numbers.Family.{Family}
use Rattle.ts_key.specs.declared.numbers.Ts.{Ts}
use Rattle.udt_disk.specs.Causes.{HasCause, plus_faults}
use Rattle.udt_disk.specs.Joint.{Ran}
use Rattle.udt_disk.specs.declared.file.DiskFile as file
use Rattle.udt_disk.specs.declared.disk.Disk as disk
use Rattle.udt_disk.proofs.Joints.{ran_more, ran_on}
use Rattle.wal.specs.Wals.{MayGoOn, wal_file, wal_pending}
use Rattle.udt_model.specs.declared.reply.Reply.TheVariants.{Done}
use Rattle.udt_model.specs.State.{State}
use Rattle.udt_model.specs.Acts.Act.{raise}
use Rattle.udt_model.specs.Steps.{IsReplyTo, after}
use Rattle.udt_model.specs.Crashes.{Course, IsOutcome, IsOutcomeUnder, course_after}
use Rattle.manifest_edit.specs.declared.edit.Edit.{Edit}
use Rattle.manifest_edit.specs.declared.edit.TableAt.{TableAt}
use Rattle.manifest_fold.specs.declared.fold.FamilyFold.{FamilyFold}
use Rattle.manifest_fold.specs.Folds.{fold_with}
use Rattle.manifest.specs.Manifest.{manifest_file, manifest_folded}
use Rattle.super_version.specs.declared.version.SuperVersion.{SuperVersion}
use Rattle.floor_laws.proofs.Members.{contains_In}
use Rattle.floor_laws.proofs.Told.{told_of}
use Rattle.engine_laws.specs.Installs.{IsNextFile, raise_edit}
use Rattle.engine_laws.specs.Joints.{IsNowLast}
use Rattle.engine_laws.specs.Moves.{added_tables}
use Rattle.engine_laws.specs.Standing.{Says, StandsForSome}
use Rattle.engine_laws.specs.Engine.{HoldsState, IsOutcomeOr, MayEdit, with_batches, with_edit}
use Rattle.engine_laws.proofs.Acting.{act_holds}
use Rattle.engine_laws.proofs.Calls.{under_act}
use Rattle.engine_laws.proofs.Installing.{raise_may}
use Rattle.engine_laws.proofs.Syncing.{sync_unasked}
use Rattle.recovery.specs.Tables.{ReadsAsTable}
use Rattle.recovery.specs.Versions.{FitsFold}
use Rattle.store_engine.specs.Calls.{RanUnder}
use Rattle.store_engine.specs.Engines.{HoldsAsBefore, HoldsNow, IsCurrent, IsEngineOf, engine_faults, held}
use Rattle.store_engine.specs.Now.{IsNow}
use Rattle.store_engine.specs.Steps.{IsEdited, IsLogSynced, ReservesEdit, IsSameFolder}
use Rattle.store_engine.specs.Together.{AreTogether}
use Rattle.store_engine.specs.declared.engine.Engine.{Engine}
use Rattle.store_engine.specs.declared.fault.EngineFault.{EngineFault}
use Rattle.store_engine.proofs.Answering.{folder_on, on_ok}
use Rattle.store_engine.proofs.Counts.{cause_third}
use Rattle.store_engine.proofs.Covering.{covers_same_logs, covers_synced}
use Rattle.store_engine.proofs.Raised.{edited_of, edited_ran, reserved_held, reserved_now, reserved_of}
use Rattle.store_engine.proofs.Synced.{synced_cause, synced_folder, synced_of, synced_ran}
use Rattle.store_engine.proofs.Together.{newest_stays}

module _ {D F : Type 0} (d : disk.Ghosts D F) (f : file.Ghosts F) (now_last : IsNowLast d f) where
  -- ---- the manifest was made ready

  module _ (old mid : Engine D F f) (edit : Edit) (ended : Result (Unit {0}) EngineFault) (kept : ReservesEdit f edit old mid ended) where
    pub kept_before : HoldsAsBefore d f old mid
    kept_before = record {
      current = λ now cur. record {
        fits = subst (λ fold. FitsFold fold now) (sym kept.fold) cur.fits;
        goes_on = subst (λ w. MayGoOn f w (now.last.0 + 1)) (sym kept.wal) cur.goes_on;
        room = let e = ap (λ w. wal_pending w) kept.wal in let r = cur.room in omega (arith, e, r);
      };
      holds = λ now m c h. reserved_now d f now_last old mid edit ended kept now m c h;
      running = λ k. kept.running;
    }

    pub kept_faults : engine_faults d f mid ≡ engine_faults d f old
    kept_faults = ap (λ k. plus_faults (plus_faults (d.faults k) (f.faults (wal_file mid.wal))) (f.faults (manifest_file mid.manifest))) kept.disk
        ∙ ap (λ w. plus_faults (plus_faults (d.faults old.disk) (f.faults (wal_file w))) (f.faults (manifest_file mid.manifest))) kept.wal
        ∙ ap (λ x. plus_faults (plus_faults (d.faults old.disk) (f.faults (wal_file old.wal))) (f.faults x)) kept.file

    pub kept_folder : IsSameFolder f old mid
    kept_folder = record {
      disk = kept.disk;
      wal = record { name = ap (λ w. f.name (wal_file w)) kept.wal; told = ap (λ w. f.is_told (wal_file w)) kept.wal; model = ap (λ w. f.keeps_model (wal_file w)) kept.wal };
      manifest = record { name = ap f.name kept.file; told = ap f.is_told kept.file; model = ap f.keeps_model kept.file };
    }

    -- ---- the log was synced

    module _ (two : Engine D F f) (first : Result (Unit {0}) EngineFault) (synced : IsLogSynced f mid two first) where
      pub first_cause : HasCause (engine_faults d f old) (engine_faults d f two) first
      first_cause = subst (λ n. HasCause n (engine_faults d f two) first) kept_faults (synced_cause d f now_last mid two first synced)

      pub first_folder : IsSameFolder f old two
      first_folder = folder_on f old mid two kept_folder (synced_folder d f now_last mid two first synced)

      module _ (now : SuperVersion) (m : State) (c : Course) (number : ℕ) (family : Family) (floor : Ts) (h : HoldsNow d f old now m c) where
        of_mid : IsEngineOf d f mid h.says h.waiting
        of_mid = reserved_of d f now_last old mid edit ended kept h.says h.waiting h.engine_of

        pub first_ran : RanUnder d f m c number (raise family floor) old two
        first_ran = subst (λ j. Ran d f (λ folder. StandsForSome ReadsAsTable folder (IsOutcomeUnder m c number (raise family floor))) j (held two)) (reserved_held d f now_last old mid edit ended kept)
            (ran_more d f (λ folder. StandsForSome ReadsAsTable folder (IsOutcome m c)) (λ folder. StandsForSome ReadsAsTable folder (IsOutcomeUnder m c number (raise family floor))) (λ folder o. (o.0, o.1, inl o.2)) (held mid) (held two)
            (synced_ran d f now_last mid two first synced m c h.says h.waiting h.holds of_mid kept.running.together))

    -- ---- and the edit was added

    pub edited_folder : (two new : Engine D F f) (second : Result (Unit {0}) EngineFault) → IsLogSynced f mid two (Ok tt) → IsEdited f edit two new second → IsSameFolder f old new
    edited_folder two new second synced edited =
        folder_on f old mid new kept_folder (folder_on f mid two new (synced_folder d f now_last mid two (Ok tt) synced) (record {
          disk = edited.disk;
          wal = record { name = ap (λ w. f.name (wal_file w)) edited.wal; told = ap (λ w. f.is_told (wal_file w)) edited.wal; model = ap (λ w. f.keeps_model (wal_file w)) edited.wal };
          manifest = edited.same;
        }))

    module _ (two new : Engine D F f) (synced : IsLogSynced f mid two (Ok tt)) (second : Result (Unit {0}) EngineFault) (edited : IsEdited f edit two new second) where
      pub second_cause : HasCause (engine_faults d f old) (engine_faults d f new) second
      second_cause =
          let a = plus_faults (d.faults two.disk) (f.faults (wal_file two.wal)) in
          let cause = cause_third a (f.faults (manifest_file two.manifest)) (f.faults (manifest_file new.manifest)) second edited.cause in
          let same : plus_faults a (f.faults (manifest_file new.manifest)) ≡ engine_faults d f new =
          ap (λ k. plus_faults (plus_faults (d.faults k) (f.faults (wal_file two.wal))) (f.faults (manifest_file new.manifest))) (sym edited.disk)
          ∙ ap (λ w. plus_faults (plus_faults (d.faults new.disk) (f.faults (wal_file w))) (f.faults (manifest_file new.manifest))) (sym edited.wal) in
          let before : engine_faults d f two ≡ engine_faults d f old = (first_cause two (Ok tt) synced).kept in
          subst (λ n. HasCause n (engine_faults d f new) second) before (subst (λ n. HasCause (engine_faults d f two) n second) same cause)

      module _ (now : SuperVersion) (family : Family) (floor : Ts) (fam : FamilyFold) (there : slice_get (manifest_folded old.manifest).families family.0 ≡ Some fam) (is : edit ≡ raise_edit now.last old.next family fam floor) (together : AreTogether old.manifest old.wal old.next) where
        module _ (m : State) (c : Course) (number : ℕ) (h : HoldsNow d f old now m c) (told : IsReplyTo m (raise family floor) Done) where
          abbrev s1 : Says
          s1 = with_batches h.says h.waiting

          h1 : HoldsState m c s1 []
          h1 = sync_unasked m c h.says h.waiting h.holds

          of_two : IsEngineOf d f two s1 []
          of_two = synced_of d f now_last mid two (Ok tt) synced m c h.says h.waiting h.holds (of_mid two (Ok tt) synced now m c number family floor h) kept.running.together

          fold_is : manifest_folded old.manifest ≡ h.says.fold
          fold_is = h.engine_of.fold

          next_file : IsNextFile m s1 old.next
          next_file = record {
            more = subst (λ z. z.next_file ≤ old.next) fold_is together.more;
            most = together.most;
            used = h.used;
          }

          edit_is : edit ≡ raise_edit m.last old.next family fam floor
          edit_is = is ∙ ap (λ q. raise_edit q old.next family fam floor) h.shows.last

          may : MayEdit m s1 edit (after m number (raise family floor) Done)
          may = subst (λ e. MayEdit m s1 e (after m number (raise family floor) Done)) (sym edit_is)
              (raise_may m c s1 number family floor fam old.next h1 told (subst (λ z. slice_get z.families family.0 ≡ Some fam) fold_is there) next_file)

          no_logs : edit.add_logs ≡ []
          no_logs = ap (λ (e : Edit). e.add_logs) is

          no_tables : (t : TableAt) → Contains (added_tables edit.family) t → ⊥
          no_tables t held = contains_In [] t (subst (λ o. Contains (added_tables o) t) (ap (λ (e : Edit). e.family) is) held)

          pub second_ran : RanUnder d f m c number (raise family floor) old new
          second_ran = ran_on d f (λ folder. StandsForSome ReadsAsTable folder (IsOutcomeUnder m c number (raise family floor))) (held old) (held two) (held new) (first_ran two (Ok tt) synced now m c number family floor h)
              (ran_more d f (λ folder. StandsForSome ReadsAsTable folder (IsOutcomeOr m c (after m number (raise family floor) Done))) (λ folder. StandsForSome ReadsAsTable folder (IsOutcomeUnder m c number (raise family floor)))
              (λ folder o. (o.0, o.1, under_act m c number (raise family floor) Done o.0 (told_of m (raise family floor) Done told (λ e. absurd (cc)) (λ b. b)) refl refl o.2)) (held two) (held new)
              (edited_ran d f now_last edit two new second edited m (after m number (raise family floor) Done) c s1 h1 of_two may no_logs (λ t i. absurd (no_tables t i))))

          pub second_now : (next : SuperVersion) → IsNow next (after m number (raise family floor) Done) → OnOk second (HoldsNow d f new next (after m number (raise family floor) Done) (course_after m number c (raise family floor) Done))
          second_now next shows = on_ok second (IsEngineOf d f new (with_edit s1 edit) []) (HoldsNow d f new next (after m number (raise family floor) Done) (course_after m number c (raise family floor) Done))
              (λ of_new. record {
                says = with_edit s1 edit;
                waiting = [];
                engine_of = of_new;
                holds = act_holds m c h.says h.waiting number (raise family floor) Done edit h.holds told refl refl may;
                shows = shows;
                used = subst (λ k. All (λ n. n < k) m.used) (sym (edited.next ∙ synced.next ∙ kept.next)) h.used;
                covers = covers_same_logs two.older new.older s1 edit edited.older no_logs (ap (λ (e : Edit). e.drop_logs) is) (covers_synced old.older two.older h.says h.waiting (synced.older ∙ kept.older) h.covers);
                runs = h.runs;
                unfailed = h.unfailed;
              })
              (edited_of d f now_last edit two new second edited m (after m number (raise family floor) Done) c s1 h1 of_two may no_logs (λ t i. absurd (no_tables t i)) (newest_stays s1.fold edit no_logs may.leads.accepted.logs.one))

        -- a version goes on with it, whether or not the disk tells
        pub second_current : (next : SuperVersion) → FitsFold (fold_with (manifest_folded old.manifest) edit) next → next.last ≡ now.last → IsCurrent old now → OnOk second (IsCurrent new next)
        second_current next fits last current =
            let fold : manifest_folded two.manifest ≡ manifest_folded old.manifest = ap (λ k. manifest_folded k) synced.manifest ∙ kept.fold in
            let mid_goes = subst (λ w. MayGoOn f w (now.last.0 + 1)) (sym kept.wal) current.goes_on in
            let goes : MayGoOn f two.wal (next.last.0 + 1) = subst (λ q. MayGoOn f two.wal (q.0 + 1)) (sym last) (synced.goes_on (now.last.0 + 1) mid_goes) in
            let none = synced.pending in
            on_ok second (manifest_folded new.manifest ≡ fold_with (manifest_folded two.manifest) edit) (IsCurrent new next)
            (λ is_fold. record {
              fits = subst (λ z. FitsFold z next) (sym (is_fold ∙ ap (λ z. fold_with z edit) fold)) fits;
              goes_on = subst (λ w. MayGoOn f w (next.last.0 + 1)) (sym edited.wal) goes;
              room = let e = ap (λ w. wal_pending w) edited.wal in omega (arith, e, none);
            }) edited.fold
