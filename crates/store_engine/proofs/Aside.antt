-- Calls on the disk under names that aren't live: what the engine holds behind them.
use Rattle.std.proofs.Common.{◌≡◌, ℕ, ◌+◌, ◌<◌, ◌==◌, true, false, List, [], ◌∷◌, map, refl, sym, ap, ◌∙◌, subst, inl, inr}
use Rattle.std.specs.Prelude.{All, Contains}
use Rattle.std.proofs.lemmas.Bool.{eq-eqb, false≢true}
use Rattle.ts_key.specs.declared.numbers.Family.{Family}
use Rattle.udt_disk.specs.Joint.{Ran}
use Rattle.udt_disk.specs.Moments.{OnlyTouches, holding}
use Rattle.udt_disk.specs.declared.file.DiskFile as file
use Rattle.udt_disk.specs.declared.disk.Disk as disk
use Rattle.udt_disk.specs.declared.name.FileName.{FileName}
use Rattle.udt_disk.specs.declared.name.FileName.TheVariants.{Log, Table}
use Rattle.udt_disk.proofs.Moments.{disk_step}
use Rattle.wal.specs.declared.numbered.Numbered.{Numbered}
use Rattle.wal.specs.Wals as log
use Rattle.wal.specs.Wals.{MayGoOn, wal_file, wal_pending}
use Rattle.wal.specs.declared.wal.TheConstants.{PENDING_LIMIT}
use Rattle.udt_model.specs.State.{State}
use Rattle.udt_model.specs.Crashes.{Course}
use Rattle.manifest_edit.specs.declared.edit.TableAt.{TableAt}
use Rattle.manifest_edit.specs.declared.edit.Edit.{Edit}
use Rattle.manifest_edit.specs.LiveTables.{has_table_number}
use Rattle.manifest_fold.specs.declared.fold.FamilyFold.{FamilyFold}
use Rattle.manifest_fold.specs.declared.fold.Folded.{Folded}
use Rattle.manifest_fold.specs.Folds.{IsAccepted, fold_with, is_live}
use Rattle.manifest.specs.Manifest.{FoldRests, manifest_file, manifest_folded}
use Rattle.super_version.specs.declared.version.SuperVersion.{SuperVersion}
use Rattle.floor_laws.proofs.Members.{any-In, contains_In, map-In}
use Rattle.engine_laws.specs.Joints.{IsNowLast}
use Rattle.engine_laws.specs.JointLaws.{RestIn}
use Rattle.engine_laws.specs.Manifests.{IsLive, IsWell}
use Rattle.engine_laws.specs.Moves.{AreDead, IsLiveName, IsLiveTable}
use Rattle.engine_laws.specs.Standing.{FolderSays, Says}
use Rattle.engine_laws.specs.Engine.{newest_log_of}
use Rattle.engine_laws.proofs.Folding.{dropped_dead, live_In}
use Rattle.engine_laws.proofs.Joined.{dead_reads, dead_rests}
use Rattle.engine_laws.proofs.Places.{get-In}
use Rattle.recovery.specs.Tables.{ReadsAsTable}
use Rattle.recovery.specs.Versions.{FitsFold}
use Rattle.store_engine.specs.Engines.{HoldsNow, IsCurrent, IsEngineOf, IsOneFolder, IsRunning, held}
use Rattle.store_engine.specs.Asides.{IsAside}
use Rattle.store_engine.specs.Older.{CoversOlder}
use Rattle.store_engine.specs.Together.{AreTogether}
use Rattle.store_engine.specs.declared.engine.Engine.{Engine}
use Rattle.store_engine.proofs.Files.{same_joint}
use Rattle.store_engine.proofs.Together.{named_on}

-- ---- names that aren't live

pub live_true : (fold : Folded) (i : Family) (f : FamilyFold) (t : TableAt) → IsLive fold i f t → is_live fold.families t.number ≡ true
live_true fold i f t live =
    any-In (λ (x : FamilyFold). has_table_number x.tables t.number) f fold.families (get-In fold.families i.0 f live.family)
    (any-In (λ (u : TableAt). u.number == t.number) t f.tables (live_In fold i f t live) (eq-eqb t.number t.number refl))

-- a number that isn't that of a live table
pub table_free : (fold : Folded) (n : ℕ) → is_live fold.families n ≡ false → (i : Family) (f : FamilyFold) (t : TableAt) → IsLive fold i f t → t.number ≡ n → ⊥
table_free fold n free i f t live is = false≢true (sym free ∙ ap (is_live fold.families) (sym is) ∙ live_true fold i f t live)

pub table_dead : (manifest : FileName) (fold : Folded) (n : ℕ) → is_live fold.families n ≡ false → AreDead manifest fold (Contains (Table n ∷ []))
table_dead manifest fold n free name there live = elim (contains_In (Table n ∷ []) name there) [
  | inl q ↦ let l : IsLiveTable fold n = subst (IsLiveName manifest fold) (sym q) live in table_free fold n free l.0 l.1 l.2 l.3 l.4
  | inr none ↦ absurd none
]

-- the logs that an edit drops
pub dropped_names : (manifest : FileName) (fold : Folded) (edit : Edit) → IsAccepted fold edit → IsWell fold → AreDead manifest (fold_with fold edit) (Contains (map Log edit.drop_logs))
dropped_names manifest fold edit accepted well name there live =
    let r = map-In Log name edit.drop_logs (contains_In (map Log edit.drop_logs) name there) in
    let l = subst (IsLiveName manifest (fold_with fold edit)) (sym r.2) live in
    dropped_dead fold edit r.0 accepted well r.1 (contains_In (fold_with fold edit).logs r.0 l)

module _ {D F : Type 0} (d : disk.Ghosts D F) (f : file.Ghosts F) (now_last : IsNowLast d f) where
  module _ (names : List FileName) (old new : Engine D F f) (aside : IsAside d names old new) where
    abbrev files : List F
    files = wal_file old.wal ∷ manifest_file old.manifest ∷ []

    aside_held : held new ≡ holding new.disk files
    aside_held = same_joint new.disk new.disk (wal_file new.wal) (wal_file old.wal) (manifest_file new.manifest) (manifest_file old.manifest) refl (ap (λ w. wal_file w) aside.wal) (ap (λ k. manifest_file k) aside.manifest)

    pub aside_only : OnlyTouches d f (Contains names) (held old) (held new)
    aside_only = subst (OnlyTouches d f (Contains names) (held old)) (sym aside_held) (disk_step d f now_last.disk now_last.file files (Contains names) old.disk new.disk aside.touches)

    pub aside_running : IsRunning old → IsRunning new
    aside_running r = record {
      together = subst (λ k. AreTogether new.manifest new.wal k) (sym aside.next) (subst (λ w. AreTogether new.manifest w old.next) (sym aside.wal) (subst (λ k. AreTogether k old.wal old.next) (sym aside.manifest) r.together));
      runs = aside.failed ∙ r.runs;
    }

    pub aside_current : (now : SuperVersion) → IsCurrent old now → IsCurrent new now
    aside_current now current = record {
      fits = subst (λ k. FitsFold (manifest_folded k) now) (sym aside.manifest) current.fits;
      goes_on = subst (λ w. MayGoOn f w (now.last.0 + 1)) (sym aside.wal) current.goes_on;
      room = subst (λ w. wal_pending w < PENDING_LIMIT) (sym aside.wal) current.room;
    }

    pub aside_one : IsOneFolder d f old → IsOneFolder d f new
    aside_one one = record {
      named = named_on f old.manifest new.manifest old.wal new.wal (ap (λ k. f.name (manifest_file k)) aside.manifest) (ap (λ w. f.name (wal_file w)) aside.wal) one.named;
      wal_told = ap (λ w. f.is_told (wal_file w)) aside.wal ∙ one.wal_told ∙ sym aside.touches.told;
      wal_model = ap (λ w. f.keeps_model (wal_file w)) aside.wal ∙ one.wal_model ∙ sym aside.touches.model;
      manifest_told = ap (λ k. f.is_told (manifest_file k)) aside.manifest ∙ one.manifest_told ∙ sym aside.touches.told;
      manifest_model = ap (λ k. f.keeps_model (manifest_file k)) aside.manifest ∙ one.manifest_model ∙ sym aside.touches.model;
    }

    module _ (dead : AreDead (f.name (manifest_file old.manifest)) (manifest_folded old.manifest) (Contains names)) (s : Says) (waiting : List Numbered) (of : IsEngineOf d f old s waiting) where
      abbrev name : FileName
      name = f.name (manifest_file old.manifest)

      says_dead : AreDead name s.fold (Contains names)
      says_dead = subst (λ fold. AreDead name fold (Contains names)) of.fold dead

      -- at each moment a crash leaves a folder that says the same
      pub aside_ran : Ran d f (λ folder. FolderSays ReadsAsTable folder s) (held old) (held new)
      aside_ran = dead_reads d f now_last ReadsAsTable name of.one.named.of_manifest s (Contains names) (held old) (held new) of.rests says_dead aside_only.run

      pub aside_of : IsEngineOf d f new s waiting
      aside_of = record {
        rests = subst (λ k. RestIn d f ReadsAsTable (held new) (f.name (manifest_file k)) s) (sym aside.manifest)
            (dead_rests d f now_last ReadsAsTable name of.one.named.of_manifest s (Contains names) (held old) (held new) of.rests says_dead aside_only.no_more);
        fold = ap (λ k. manifest_folded k) aside.manifest ∙ of.fold;
        edits = subst (FoldRests f) (sym aside.manifest) of.edits;
        log = subst (λ w. log.Holds f w (s.logs (newest_log_of s)) waiting) (sym aside.wal) of.log;
        one = aside_one of.one;
      }

    pub aside_now : AreDead (f.name (manifest_file old.manifest)) (manifest_folded old.manifest) (Contains names) → (now : SuperVersion) (m : State) (c : Course) → HoldsNow d f old now m c → HoldsNow d f new now m c
    aside_now dead now m c h = record {
      says = h.says;
      waiting = h.waiting;
      engine_of = aside_of dead h.says h.waiting h.engine_of;
      holds = h.holds;
      shows = h.shows;
      used = subst (λ k. All (λ n. n < k) m.used) (sym aside.next) h.used;
      covers = subst (λ o. CoversOlder o h.says) (sym aside.older) h.covers;
      runs = h.runs;
      unfailed = h.unfailed;
    }
