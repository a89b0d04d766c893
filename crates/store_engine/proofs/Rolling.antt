-- The log goes on with a new file, which the manifest then names: what the engine holds behind it.
use Rattle.std.proofs.Common.{◌≡◌, ◌≢◌, ℕ, ◌+◌, ◌-◌, ◌^◌, ◌<◌, ◌≤◌, List, [], ◌∷◌, ◌++◌, length, drop, min, Result, Ok, Err, refl, sym, ap, ◌∙◌, subst, arith, inl, inr}
use Rattle.std.specs.Prelude.{Contains, IsTrue, OnErr, OnOk}
use Rattle.udt_disk.specs.Causes.{HasCause, Rose, plus_faults}
use Rattle.udt_disk.specs.Joint.{IsFree, Ran}
use Rattle.udt_disk.specs.Moments.{AsAtBut, MayLeave, holding}
use Rattle.udt_disk.specs.Runs.{Leaves}
use Rattle.udt_disk.specs.declared.file.DiskFile as file
use Rattle.udt_disk.specs.declared.disk.Disk as disk
use Rattle.udt_disk.specs.declared.name.FileName.{FileName}
use Rattle.udt_disk.specs.declared.name.FileName.TheVariants.{Log}
use Rattle.udt_disk.proofs.Joints.{ran_more}
use Rattle.wal.specs.declared.wal.Wal.{Wal}
use Rattle.wal.specs.Making.{IsWhileMade}
use Rattle.wal.specs.Replays.{ReadsAs}
use Rattle.wal.specs.Wals as log
use Rattle.wal.specs.Wals.{wal_file}
use Rattle.wal.proofs.Showing.{images_read}
use Rattle.udt_model.specs.State.{State}
use Rattle.udt_model.specs.Crashes.{Course, IsOutcome}
use Rattle.manifest_edit.specs.declared.edit.Edit.{Edit}
use Rattle.manifest_edit.specs.declared.edit.TableAt.{TableAt}
use Rattle.manifest_fold.specs.declared.limits.TheConstants.{FILE_NUMBER_LIMIT}
use Rattle.manifest_fold.specs.Folds.{IsAccepted, fold_with, newest_log}
use Rattle.manifest.specs.declared.manifest.Manifest.{Manifest}
use Rattle.manifest.specs.Files.{HasFold, IsEditImage}
use Rattle.manifest.specs.Folders.{IsManifestName}
use Rattle.manifest.specs.Folds.{sizes_of}
use Rattle.manifest.specs.Manifest.{FoldRests, IsManifestReady, manifest_file, manifest_folded}
use Rattle.manifest.proofs.Edits.{rests_fold}
use Rattle.floor_laws.proofs.Members.{All-In, contains_In}
use Rattle.engine_laws.specs.Engine.{AreSameKept, HoldsState, IsOutcomeOr, MayEdit, newest_log_of, with_edit}
use Rattle.engine_laws.specs.Joints.{IsNowLast, OneRan}
use Rattle.engine_laws.specs.JointLaws.{RestIn}
use Rattle.engine_laws.specs.Manifests.{IsWell}
use Rattle.engine_laws.specs.Moves.{AreDead, IsEditReady, IsLiveName, LogRests, added_tables}
use Rattle.engine_laws.specs.Standing.{FolderSays, Says, StandsForSome}
use Rattle.engine_laws.proofs.Ascending.{newest_last}
use Rattle.engine_laws.proofs.Calls.{under_none}
use Rattle.engine_laws.proofs.Editing.{newest_not, sizes_stay}
use Rattle.engine_laws.proofs.Folding.{edit_well}
use Rattle.engine_laws.proofs.Joined.{dead_reads, dead_rests, edit_rests, ran_edit, roll_leaves}
use Rattle.engine_laws.proofs.Moving.{edit_ready, log_same}
use Rattle.engine_laws.proofs.Resting.{stands_rest}
use Rattle.recovery.specs.Tables.{ReadsAsTable}
use Rattle.store_engine.specs.Calls.{RanOn}
use Rattle.store_engine.specs.Engines.{IsEngineOf, IsOneFolder, engine_faults, held}
use Rattle.store_engine.specs.Sealing.{IsLogRolled}
use Rattle.store_engine.specs.Steps.{IsEdited, IsLogSynced}
use Rattle.store_engine.specs.Together.{AreTogether, IsReadyFor}
use Rattle.store_engine.specs.declared.engine.Engine.{Engine}
use Rattle.store_engine.specs.declared.fault.EngineFault.{EngineFault}
use Rattle.store_engine.specs.declared.older.OlderLogs.{OlderLogs}
use Rattle.store_engine.proofs.Counts.{cause_left}
use Rattle.store_engine.proofs.Files.{same_joint, second_ran}
use Rattle.store_engine.proofs.Raised.{edited_held}
use Rattle.store_engine.proofs.Synced.{log_is, sizes_are}

not_log : (n : FileName) (k : ℕ) → IsManifestName n → Log k ≢ n
not_log n k a q = elim a [ inl e ↦ let r = q ∙ e in cc | inr e ↦ let r = q ∙ e in cc ]

-- ---- the manifest and the log together

-- an edit that was made ready was added
pub together_ready : {F : Type 0} (f : file.Ghosts F) (manifest other : Manifest F f) (wal : Wal F f) (next : ℕ) (edit : Edit) → IsReadyFor manifest wal next edit → IsAccepted (manifest_folded manifest) edit
    → manifest_folded other ≡ fold_with (manifest_folded manifest) edit → IsManifestReady f other → AreTogether other wal next
together_ready f manifest other wal next edit ready accepted is shows = record {
  well = subst IsWell (sym is) (edit_well (manifest_folded manifest) edit accepted ready.well);
  name = ready.name ∙ ap (λ z. Log (newest_log z.logs)) (sym is);
  sizes = ready.sizes ∙ sym (sizes_stay (manifest_folded manifest) edit accepted) ∙ ap sizes_of (sym is);
  edits = shows;
  log = ready.log;
  more = subst (λ z. z.next_file ≤ next) (sym is) ready.more;
  most = ready.most;
}

module _ {D F : Type 0} (d : disk.Ghosts D F) (f : file.Ghosts F) where
  -- behind a roll the edit that adds the log may be added
  pub ready_rolled : (old two three : Engine D F f) (edit : Edit) (older : OlderLogs) → old.next < FILE_NUMBER_LIMIT → edit.add_logs ≡ old.next ∷ [] → edit.next_file ≡ old.next + 1
      → IsLogSynced f old two (Ok tt) → IsLogRolled d f older two three (Ok tt) → IsReadyFor three.manifest three.wal three.next edit
  ready_rolled old two three edit older low add next synced rolled =
      let t = synced.running.together in
      let fold = manifest_folded three.manifest in
      let newest : newest_log (fold_with fold edit).logs ≡ old.next = ap (λ z. newest_log (drop (length edit.drop_logs) fold.logs ++ z)) add ∙ newest_last (drop (length edit.drop_logs) fold.logs) old.next in
      let up = rolled.next in
      let same = synced.next in
      record {
        well = subst (λ k. IsWell (manifest_folded k)) (sym rolled.manifest) t.well;
        name = rolled.name ∙ ap Log (same ∙ sym newest);
        sizes = rolled.sizes ∙ t.sizes ∙ ap (λ k. sizes_of (manifest_folded k)) (sym rolled.manifest);
        edits = subst (IsManifestReady f) (sym rolled.manifest) t.edits;
        log = λ told. let r = rolled.goes_on 1 told in (r.0, r.1, r.2);
        more = omega (arith, next, up, same);
        most = omega (arith, up, same, low);
      }

-- ---- counts of faults

plus_none : (most a b : ℕ) → min (min (a + b) most + 0) most ≡ min (a + b) most
plus_none most a b = omega arith

module _ {D F : Type 0} (d : disk.Ghosts D F) (f : file.Ghosts F) (older : OlderLogs) (two three : Engine D F f) (result : Result (Unit {0}) EngineFault) (rolled : IsLogRolled d f older two three result) where
  pub rolled_cause : HasCause (engine_faults d f two) (engine_faults d f three) result
  rolled_cause =
      let a = d.faults two.disk in
      let b = d.faults three.disk in
      let w = f.faults (wal_file two.wal) in
      let k = f.faults (manifest_file two.manifest) in
      let v = f.faults (wal_file three.wal) in
      let files : engine_faults d f three ≡ plus_faults (plus_faults b v) k = ap (λ m. plus_faults (plus_faults b v) (f.faults (manifest_file m))) rolled.manifest in
      subst (λ n. HasCause (plus_faults (plus_faults a w) k) n result) (sym files) (
      elim result as (λ r. OnOk r (v ≡ 0) → OnOk r (b ≡ plus_faults a w) → OnErr r (three.wal ≡ two.wal) → OnErr r (Rose a b) → HasCause (plus_faults (plus_faults a w) k) (plus_faults (plus_faults b v) k) r) [
        | Ok u ↦ λ fresh counted still cause.
            let same : plus_faults b v ≡ plus_faults a w = ap (λ n. plus_faults b n) fresh ∙ ap (λ n. plus_faults n 0) counted ∙ plus_none (2 ^ 64 - 1) a w in
            let is : plus_faults (plus_faults b v) k ≡ plus_faults (plus_faults a w) k = ap (λ n. plus_faults n k) same in
            record { later = omega (arith, is); failed = tt; kept = is }
        | Err e ↦ λ fresh counted still cause.
            let one : HasCause a b (Err e) = record { later = rolled.later; failed = cause; kept = tt } in
            let is : v ≡ w = ap (λ l. f.faults (wal_file l)) still in
            subst (λ n. HasCause {T = Unit {0}} (plus_faults (plus_faults a w) k) (plus_faults (plus_faults b n) k) (Err e)) (sym is)
            (cause_left k (plus_faults a w) (plus_faults b w) (Err e) (cause_left w a b (Err e) one))
      ] rolled.fresh rolled.counted rolled.still rolled.cause)

-- ---- what the files say

module _ {D F : Type 0} (d : disk.Ghosts D F) (f : file.Ghosts F) (now_last : IsNowLast d f) (older : OlderLogs) (two : Engine D F f) (m : State) (c : Course) (s : Says) (h : HoldsState m c s []) (of : IsEngineOf d f two s []) (together : AreTogether two.manifest two.wal two.next) where
  abbrev wal : F
  wal = wal_file two.wal

  abbrev manifest : F
  manifest = manifest_file two.manifest

  abbrev IsNew : FileName → Type 0
  IsNew n = n ≡ Log two.next

  named : IsManifestName (f.name manifest)
  named = of.one.named.of_manifest

  newest : f.name wal ≡ Log (newest_log_of s)
  newest = log_is d f now_last two s [] of together

  -- the number of the next file is none of a live log
  pub high : s.fold.next_file ≤ two.next
  high = subst (λ fold. fold.next_file ≤ two.next) of.fold together.more

  free_new : IsFree d f (holding two.disk (wal ∷ manifest ∷ [])) (Log two.next)
  free_new x (inl q) e = newest_not s.fold two.next h.well high (log_same two.next (newest_log_of s) (e ∙ ap f.name (sym q) ∙ newest))
  free_new x (inr (inl q)) e = not_log (f.name manifest) two.next named (e ∙ ap f.name (sym q))
  free_new x (inr (inr none)) e = none

  free_old : IsFree d f (holding two.disk (manifest ∷ [])) (f.name wal)
  free_old x (inl q) e = not_log (f.name manifest) (newest_log_of s) named (sym newest ∙ e ∙ ap f.name (sym q))
  free_old x (inr none) e = none

  dead : AreDead (f.name manifest) s.fold IsNew
  dead n is live =
      let there : Contains s.fold.logs two.next = subst (λ k. IsLiveName (f.name manifest) s.fold k) is live in
      let low = All-In (λ k. k < s.fold.next_file) s.fold.logs two.next h.well.logs (contains_In s.fold.logs two.next there) in
      let up = high in
      omega (arith, low, up)

  module _ (three : Engine D F f) where
    abbrev files : List F
    files = wal_file three.wal ∷ manifest ∷ []

    held_three : three.manifest ≡ two.manifest → held three ≡ holding three.disk files
    held_three same = same_joint three.disk three.disk (wal_file three.wal) (wal_file three.wal) (manifest_file three.manifest) manifest refl refl (ap (λ k. manifest_file k) same)

    -- while the log rolled a crash left only folders that stand for outcomes
    pub rolled_ran : (result : Result (Unit {0}) EngineFault) → IsLogRolled d f older two three result → RanOn d f m c two three
    rolled_ran result rolled =
        let run : Ran d f (AsAtBut d f IsNew (held two)) (held two) (holding three.disk files) =
        ran_more d f (IsWhileMade d f (held two) (Log two.next)) (AsAtBut d f IsNew (held two)) (λ folder made. made.others) (held two) (holding three.disk files) (rolled.moments (manifest ∷ []) free_new free_old) in
        subst (λ j. Ran d f (λ folder. StandsForSome ReadsAsTable folder (IsOutcome m c)) (held two) j) (sym (held_three rolled.manifest))
        (ran_more d f (λ folder. FolderSays ReadsAsTable folder s) (λ folder. StandsForSome ReadsAsTable folder (IsOutcome m c)) (λ folder says. stands_rest ReadsAsTable folder m c s [] h says) (held two) (holding three.disk files)
        (dead_reads d f now_last ReadsAsTable (f.name manifest) named s IsNew (held two) (holding three.disk files) of.rests dead run))

    module _ (rolled : IsLogRolled d f older two three (Ok tt)) (empty : s.logs two.next ≡ []) where
      rests_files : RestIn d f ReadsAsTable (holding three.disk files) (f.name manifest) s
      rests_files = dead_rests d f now_last ReadsAsTable (f.name manifest) named s IsNew (held two) (holding three.disk files) of.rests dead
          (λ n i ne left. roll_leaves d f now_last two.disk three.disk (manifest ∷ []) wal (wal_file three.wal) two.next rolled.name free_old rolled.touches rolled.given_back n i ne left)

      abbrev name : FileName
      name = f.name (manifest_file three.manifest)

      rests_three : RestIn d f ReadsAsTable (held three) name s
      rests_three = subst (λ j. RestIn d f ReadsAsTable j name s) (sym (held_three rolled.manifest)) (subst (λ k. RestIn d f ReadsAsTable (holding three.disk files) (f.name (manifest_file k)) s) (sym rolled.manifest) rests_files)

      told_two : IsTrue (d.is_told two.disk)
      told_two = subst IsTrue of.one.wal_told of.log.shown.logged.told

      holds_three : log.Holds f three.wal [] []
      holds_three = rolled.holds told_two

      log_rests : LogRests (MayLeave d f (held three)) s two.next
      log_rests i left = subst (λ bs. ReadsAs (sizes_of s.fold) bs i) (sym empty) (subst (λ sizes. ReadsAs sizes [] i) (rolled.sizes ∙ sizes_are d f now_last two s [] of together) (images_read f three.wal [] [] holds_three i (left.held (wal_file three.wal) (inl refl) rolled.name)))

      one_three : IsOneFolder d f three
      one_three = record {
        named = record { of_manifest = subst (λ k. IsManifestName (f.name (manifest_file k))) (sym rolled.manifest) named; of_log = (two.next, rolled.name) };
        wal_told = rolled.wal_told ∙ sym rolled.touches.told;
        wal_model = rolled.wal_model ∙ sym rolled.touches.model;
        manifest_told = ap (λ k. f.is_told (manifest_file k)) rolled.manifest ∙ of.one.manifest_told ∙ sym rolled.touches.told;
        manifest_model = ap (λ k. f.keeps_model (manifest_file k)) rolled.manifest ∙ of.one.manifest_model ∙ sym rolled.touches.model;
      }

      module _ (edit : Edit) (new : Engine D F f) (result : Result (Unit {0}) EngineFault) (edited : IsEdited f edit three new result) (may : MayEdit m s edit m) (add : edit.add_logs ≡ two.next ∷ []) (tables : (t : TableAt) → Contains (added_tables edit.family) t → ⊥) where
        abbrev start : List F
        start = wal_file three.wal ∷ manifest_file three.manifest ∷ []

        abbrev done : List F
        done = wal_file three.wal ∷ manifest_file new.manifest ∷ []

        fold_three : manifest_folded three.manifest ≡ s.fold
        fold_three = ap manifest_folded rolled.manifest ∙ of.fold

        edits_three : FoldRests f three.manifest
        edits_three = subst (FoldRests f) (sym rolled.manifest) of.edits

        of_new : (n : ℕ) → Contains edit.add_logs n → LogRests (MayLeave d f (held three)) s n
        of_new n i = elim (contains_In (two.next ∷ []) n (subst (λ ns. Contains ns n) add i)) [ inl q ↦ subst (λ k. LogRests (MayLeave d f (held three)) s k) q log_rests | inr none ↦ absurd none ]

        ready : IsEditReady ReadsAsTable (MayLeave d f (held three)) s edit
        ready = edit_ready ReadsAsTable (MayLeave d f (held three)) name s edit may.leads.accepted rests_three of_new (λ t i. absurd (tables t i))

        ran_one : OneRan f start done (manifest_file three.manifest) (manifest_file new.manifest)
        ran_one = second_ran f (wal_file three.wal) (manifest_file three.manifest) (manifest_file new.manifest) edited.same.name

        -- while the edit was added a crash left only folders that stand for outcomes
        pub added_ran : RanOn d f m c three new
        added_ran =
            let same : AreSameKept m m = record { families = refl; versions = refl; last = refl } in
            ran_more d f (λ folder. StandsForSome ReadsAsTable folder (IsOutcomeOr m c m)) (λ folder. StandsForSome ReadsAsTable folder (IsOutcome m c)) (λ folder o. (o.0, o.1, under_none m c s m o.0 h same o.2)) (held three) (held new)
            (subst (λ j. Ran d f (λ folder. StandsForSome ReadsAsTable folder (IsOutcomeOr m c m)) (held three) j) (sym (edited_held d f now_last edit three new result edited))
            (ran_edit d f now_last ReadsAsTable name one_three.named.of_manifest m m c s edit three.disk start done (manifest_file three.manifest) (manifest_file new.manifest) ran_one refl may rests_three ready h
            (subst (λ fold. Leaves f (manifest_file three.manifest) (manifest_file new.manifest) (IsEditImage fold edit)) fold_three (edited.moments edits_three))))

        -- and where it ended well the engine holds what the files say with it
        pub added_of : newest_log (fold_with s.fold edit).logs ≡ two.next → OnOk result (IsEngineOf d f new (with_edit s edit) [])
        added_of newest_is = elim result as (λ r. OnOk r (manifest_folded new.manifest ≡ fold_with (manifest_folded three.manifest) edit) → OnOk r (FoldRests f new.manifest) → OnOk r (IsEngineOf d f new (with_edit s edit) [])) [
          | Ok u ↦ λ fold rests.
              let is : manifest_folded new.manifest ≡ fold_with s.fold edit = fold ∙ ap (λ z. fold_with z edit) fold_three in
              let told : d.is_told new.disk ≡ d.is_told three.disk = ap d.is_told edited.disk in
              let model : d.keeps_model new.disk ≡ d.keeps_model three.disk = ap d.keeps_model edited.disk in
              record {
                rests = subst (λ j. RestIn d f ReadsAsTable j (f.name (manifest_file new.manifest)) (with_edit s edit)) (sym (edited_held d f now_last edit three new result edited))
                    (subst (λ n. RestIn d f ReadsAsTable (holding three.disk done) n (with_edit s edit)) (sym edited.same.name)
                    (edit_rests d f now_last ReadsAsTable name one_three.named.of_manifest m m c s edit three.disk start done (manifest_file three.manifest) (manifest_file new.manifest) ran_one refl may rests_three ready
                    (λ i left. subst (HasFold i) is (rests_fold f new.manifest rests i left))));
                fold = is;
                edits = rests;
                log = subst (λ w. log.Holds f w (s.logs (newest_log (fold_with s.fold edit).logs)) []) (sym edited.wal) (subst (λ n. log.Holds f three.wal (s.logs n) []) (sym newest_is) (subst (λ bs. log.Holds f three.wal bs []) (sym empty) holds_three));
                one = record {
                  named = record { of_manifest = subst IsManifestName (sym edited.same.name) one_three.named.of_manifest; of_log = (two.next, ap (λ w. f.name (wal_file w)) edited.wal ∙ rolled.name) };
                  wal_told = ap (λ w. f.is_told (wal_file w)) edited.wal ∙ one_three.wal_told ∙ sym told;
                  wal_model = ap (λ w. f.keeps_model (wal_file w)) edited.wal ∙ one_three.wal_model ∙ sym model;
                  manifest_told = edited.same.told ∙ one_three.manifest_told ∙ sym told;
                  manifest_model = edited.same.model ∙ one_three.manifest_model ∙ sym model;
                };
              }
          | Err e ↦ λ fold rests. tt
        ] edited.fold (edited.rests edits_three)
