-- What an engine holds.
use Rattle.std.specs.Prelude.{◌≡◌, ℕ, ◌+◌, ◌<◌, Bool, false, List, [], ◌∷◌, All, None}
use Rattle.udt_disk.specs.Causes.{plus_faults}
use Rattle.udt_disk.specs.Joint.{Joint}
use Rattle.udt_disk.specs.Moments.{holding}
use Rattle.udt_disk.specs.declared.file.DiskFile as file
use Rattle.udt_disk.specs.declared.disk.Disk as disk
use Rattle.wal.specs.declared.numbered.Numbered.{Numbered}
use Rattle.wal.specs.Wals as log
use Rattle.wal.specs.Wals.{MayGoOn, wal_file, wal_pending}
use Rattle.wal.specs.declared.wal.TheConstants.{PENDING_LIMIT}
use Rattle.udt_model.specs.State.{State}
use Rattle.udt_model.specs.Crashes.{Course}
use Rattle.manifest.specs.Manifest.{FoldRests, manifest_file, manifest_folded}
use Rattle.super_version.specs.declared.version.SuperVersion.{SuperVersion}
use Rattle.engine_laws.specs.Standing.{Says}
use Rattle.engine_laws.specs.Engine.{HoldsState, newest_log_of}
use Rattle.engine_laws.specs.JointLaws.{RestIn}
use Rattle.recovery.specs.Tables.{ReadsAsTable}
use Rattle.recovery.specs.Versions.{FitsFold}
use Rattle.store_engine.specs.Now.{IsNow}
use Rattle.store_engine.specs.Older.{CoversOlder}
use Rattle.store_engine.specs.Together.{AreNamed, AreTogether}
use Rattle.store_engine.specs.declared.engine.Engine.{Engine}

module _ {D F : Type 0} {f : file.Ghosts F} where
  -- its disk, and the two files of it that are held: the newest log's and the manifest's
  abbrev pub held : Engine D F f → Joint D F
  held engine = holding engine.disk (wal_file engine.wal ∷ manifest_file engine.manifest ∷ [])

  abbrev pub has_failed : Engine D F f → Bool
  has_failed engine = engine.failed

  -- It may be called: no disk has failed in a call, and its manifest and its log go on together.
  pub record IsRunning (engine : Engine D F f) : Type 0 where
    pub together : AreTogether engine.manifest engine.wal engine.next
    pub runs : has_failed engine ≡ false

  -- It may go on with this super version, which has the manifest's families, and whose last sequence is that of the log.
  pub record IsCurrent (engine : Engine D F f) (now : SuperVersion) : Type 0 where
    pub fits : FitsFold (manifest_folded engine.manifest) now
    pub goes_on : MayGoOn f engine.wal (now.last.0 + 1)
    pub room : wal_pending engine.wal < PENDING_LIMIT

module _ {D F : Type 0} (d : disk.Ghosts D F) (f : file.Ghosts F) where
  -- the faults of the disk and of the two files
  abbrev pub engine_faults : Engine D F f → ℕ
  engine_faults engine = plus_faults (plus_faults (d.faults engine.disk) (f.faults (wal_file engine.wal))) (f.faults (manifest_file engine.manifest))

  -- The two files are held under the names of a log and of a manifest. They and the disk tell what they hold, and keep the model of
  -- crashes, all or none.
  pub record IsOneFolder (engine : Engine D F f) : Type 0 where
    pub named : AreNamed engine.manifest engine.wal
    pub wal_told : f.is_told (wal_file engine.wal) ≡ d.is_told engine.disk
    pub wal_model : f.keeps_model (wal_file engine.wal) ≡ d.keeps_model engine.disk
    pub manifest_told : f.is_told (manifest_file engine.manifest) ≡ d.is_told engine.disk
    pub manifest_model : f.keeps_model (manifest_file engine.manifest) ≡ d.keeps_model engine.disk

  -- The files that it holds, and the live ones beside them, say this, and these batches wait in its log. A crash leaves nothing else.
  pub record IsEngineOf (engine : Engine D F f) (s : Says) (waiting : List Numbered) : Type 0 where
    pub rests : RestIn d f ReadsAsTable (held engine) (f.name (manifest_file engine.manifest)) s
    pub fold : manifest_folded engine.manifest ≡ s.fold
    pub edits : FoldRests f engine.manifest
    pub log : log.Holds f engine.wal (s.logs (newest_log_of s)) waiting
    pub one : IsOneFolder engine

  -- The engine and this super version hold the state on its course. No disk has failed under it, each number that a table has had is
  -- below that of the next file, and what is known of the older logs is so.
  pub record HoldsNow (engine : Engine D F f) (now : SuperVersion) (m : State) (c : Course) : Type 0 where
    pub says : Says
    pub waiting : List Numbered
    pub engine_of : IsEngineOf engine says waiting
    pub holds : HoldsState m c says waiting
    pub shows : IsNow now m
    pub used : All (λ n. n < engine.next) m.used
    pub covers : CoversOlder engine.older says
    pub runs : m.halted ≡ None
    pub unfailed : c.failing ≡ None

  -- whatever the one holds, with whatever super version, the other holds
  pub record HoldsAsBefore (old new : Engine D F f) : Type 0 where
    pub current : (now : SuperVersion) → IsCurrent old now → IsCurrent new now
    pub holds : (now : SuperVersion) (m : State) (c : Course) → HoldsNow old now m c → HoldsNow new now m c
    pub running : IsRunning old → IsRunning new
