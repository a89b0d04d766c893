-- A table's file that was given back: what the engine holds behind that, and what a crash leaves of the file.
use Rattle.std.proofs.Common.{◌≡◌, ℕ, ◌-◌, ◌^◌, List, [], ◌∷◌, Result, Some, refl, sym, ap, ◌∙◌, subst, inl, inr}
use Rattle.std.specs.Prelude.{Contains}
use Rattle.udt_disk.specs.Causes.{plus_faults}
use Rattle.udt_disk.specs.Crash.{Image}
use Rattle.udt_disk.specs.Joint.{Folder, IsFree, Ran}
use Rattle.udt_disk.specs.Moments.{MayLeave}
use Rattle.udt_disk.specs.declared.file.DiskFile as file
use Rattle.udt_disk.specs.declared.disk.Disk as disk
use Rattle.udt_disk.specs.declared.name.FileName.{FileName}
use Rattle.udt_disk.specs.declared.name.FileName.TheVariants.{Table}
use Rattle.udt_disk.proofs.Joints.{ran_more}
use Rattle.wal.specs.declared.numbered.Numbered.{Numbered}
use Rattle.wal.specs.Wals.{wal_file}
use Rattle.udt_model.specs.State.{State}
use Rattle.udt_model.specs.Crashes.{Course, IsOutcome}
use Rattle.manifest_edit.specs.declared.edit.Edit.{Edit}
use Rattle.manifest_fold.specs.Folds.{is_live}
use Rattle.manifest.specs.Folders.{IsManifestName}
use Rattle.manifest.specs.Manifest.{manifest_file, manifest_folded}
use Rattle.block_table.specs.Held.{Held}
use Rattle.super_version.specs.declared.version.SuperVersion.{SuperVersion}
use Rattle.engine_laws.specs.Joints.{IsNowLast}
use Rattle.engine_laws.specs.Moves.{AreDead}
use Rattle.engine_laws.specs.Standing.{FolderSays, Says, StandsForSome, TableReads}
use Rattle.engine_laws.specs.Engine.{HoldsState}
use Rattle.engine_laws.proofs.Resting.{stands_rest}
use Rattle.recovery.specs.Replayed.{IsLogName}
use Rattle.recovery.specs.Tables.{ReadsAsTable, says_of}
use Rattle.store_engine.specs.Calls.{RanOn}
use Rattle.store_engine.specs.Engines.{HoldsAsBefore, HoldsNow, IsCurrent, IsEngineOf, IsRunning, engine_faults, held}
use Rattle.store_engine.specs.Asides.{IsGivenBack}
use Rattle.store_engine.specs.Installing.{IsFileOfTable}
use Rattle.store_engine.specs.Jobs.{IsJobNumber}
use Rattle.store_engine.specs.Steps.{ReservesEdit}
use Rattle.store_engine.specs.Together.{AreNamed}
use Rattle.store_engine.specs.declared.engine.Engine.{Engine}
use Rattle.store_engine.specs.declared.fault.EngineFault.{EngineFault}
use Rattle.store_engine.proofs.Aside.{aside_current, aside_now, aside_of, aside_ran, aside_running, table_dead}
use Rattle.store_engine.proofs.Counts.{more_faults}
use Rattle.store_engine.proofs.Raised.{reserved_held, reserved_now, reserved_of}
use Rattle.store_engine.proofs.Raising.{kept_before, kept_faults}

-- ---- names

log_no_table : (n : FileName) (number : ℕ) → IsLogName n → Table number ≡ n → ⊥
log_no_table n number log is = let e = is ∙ log.1 in cc

manifest_no_table : (n : FileName) (number : ℕ) → IsManifestName n → Table number ≡ n → ⊥
manifest_no_table n number either is = elim either [ inl q ↦ let e = is ∙ q in cc | inr q ↦ let e = is ∙ q in cc ]

module _ {D F : Type 0} (d : disk.Ghosts D F) (f : file.Ghosts F) (now_last : IsNowLast d f) where
  -- no held file bears the name of a table
  pub table_apart : (engine : Engine D F f) (number : ℕ) → AreNamed engine.manifest engine.wal → IsFree d f (held engine) (Table number)
  table_apart engine number named x there is = elim there [
    | inl q ↦ log_no_table (f.name (wal_file engine.wal)) number named.of_log (is ∙ ap f.name (sym q))
    | inr more ↦ elim more [
      | inl q ↦ manifest_no_table (f.name (manifest_file engine.manifest)) number named.of_manifest (is ∙ ap f.name (sym q))
      | inr none ↦ absurd none
    ]
  ]

  module _ (old mid new : Engine D F f) (edit : Edit) (ended : Result (Unit {0}) EngineFault) (given : F) (kept : ReservesEdit f edit old mid ended) (back : IsGivenBack d f given mid new) where
    abbrev names : List FileName
    names = f.name given ∷ []

    pub back_running : IsRunning new
    back_running = aside_running d f now_last names mid new back.aside kept.running

    pub back_current : (now : SuperVersion) → IsCurrent old now → IsCurrent new now
    back_current now current = aside_current d f now_last names mid new back.aside now ((kept_before d f now_last old mid edit ended kept).current now current)

    pub back_fold : manifest_folded new.manifest ≡ manifest_folded old.manifest
    back_fold = ap (λ k. manifest_folded k) back.aside.manifest ∙ kept.fold

    pub back_faults : engine_faults d f new ≡ plus_faults (engine_faults d f old) (f.faults given)
    back_faults =
        let x = d.faults mid.disk in
        let w = f.faults (wal_file mid.wal) in
        let k = f.faults (manifest_file mid.manifest) in
        ap (λ n. plus_faults (plus_faults n (f.faults (wal_file new.wal))) (f.faults (manifest_file new.manifest))) back.faults
        ∙ ap (λ z. plus_faults (plus_faults (plus_faults x (f.faults given)) (f.faults (wal_file z))) (f.faults (manifest_file new.manifest))) back.aside.wal
        ∙ ap (λ z. plus_faults (plus_faults (plus_faults x (f.faults given)) w) (f.faults (manifest_file z))) back.aside.manifest
        ∙ more_faults (2 ^ 64 - 1) x w k (f.faults given)
        ∙ ap (λ n. plus_faults n (f.faults given)) (kept_faults d f now_last old mid edit ended kept)

    module _ (number : ℕ) (named : f.name given ≡ Table number) (job : IsJobNumber old number) where
      given_dead : AreDead (f.name (manifest_file mid.manifest)) (manifest_folded mid.manifest) (Contains names)
      given_dead = subst (λ n. AreDead (f.name (manifest_file mid.manifest)) (manifest_folded mid.manifest) (Contains (n ∷ []))) (sym named)
          (table_dead (f.name (manifest_file mid.manifest)) (manifest_folded mid.manifest) number (ap (λ fold. is_live fold.families number) kept.fold ∙ job.free))

      pub back_of : (s : Says) (waiting : List Numbered) → IsEngineOf d f old s waiting → IsEngineOf d f new s waiting
      back_of s waiting of = aside_of d f now_last names mid new back.aside given_dead s waiting (reserved_of d f now_last old mid edit ended kept s waiting of)

      pub back_now : (now : SuperVersion) (m : State) (c : Course) → HoldsNow d f old now m c → HoldsNow d f new now m c
      back_now now m c h = aside_now d f now_last names mid new back.aside given_dead now m c (reserved_now d f now_last old mid edit ended kept now m c h)

      pub back_ran : (m : State) (c : Course) (s : Says) (waiting : List Numbered) → HoldsState m c s waiting → IsEngineOf d f old s waiting → RanOn d f m c old new
      back_ran m c s waiting h of =
          let P : Folder → Type 0 = λ folder. StandsForSome ReadsAsTable folder (IsOutcome m c) in
          subst (λ j. Ran d f P j (held new)) (reserved_held d f now_last old mid edit ended kept)
          (ran_more d f (λ folder. FolderSays ReadsAsTable folder s) P (λ folder r. stands_rest ReadsAsTable folder m c s waiting h r) (held mid) (held new)
          (aside_ran d f now_last names mid new back.aside given_dead s waiting (reserved_of d f now_last old mid edit ended kept s waiting of)))

      pub back_before : HoldsAsBefore d f old new
      back_before = record { current = back_current; holds = back_now; running = λ r. back_running }

      -- what the file holds is what a crash leaves of it, as long as the disk isn't called again
      pub table_rests : (engine : Engine D F f) (table : Held) → engine.disk ≡ new.disk → AreNamed engine.manifest engine.wal → IsFileOfTable f given table → (image : Image) → MayLeave d f (held engine) (Table number) image → TableReads ReadsAsTable image (says_of table.contents)
      table_rests engine table same are_named holds image left =
          let on_disk : d.may_leave new.disk (Table number) image = subst (λ x. d.may_leave x (Table number) image) same (left.free (table_apart engine number are_named)) in
          let is : image ≡ Some table.image = holds.rests image (back.crash image (subst (λ n. d.may_leave new.disk n image) (sym named) on_disk)) in
          subst (λ i. TableReads ReadsAsTable i (says_of table.contents)) (sym is) (record { short = holds.short; contents = table.contents; table = holds.is; is = refl })
