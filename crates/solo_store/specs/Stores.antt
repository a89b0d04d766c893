-- What a store holds.
use Rattle.std.specs.Prelude.{◌≡◌, ℕ, ◌<◌, ◌≤◌, List, [], length, map, slice_get, option_map, Option, Some, None, ⊤}
use Rattle.std.specs.Arc.{arc_value}
use Rattle.ts_key.specs.declared.limits.TheConstants.{FAMILY_LIMIT}
use Rattle.udt_disk.specs.declared.file.DiskFile as file
use Rattle.udt_disk.specs.declared.disk.Disk as disk
use Rattle.udt_disk.specs.Causes.{plus_faults}
use Rattle.wal.specs.Wals.{wal_file, wal_pending}
use Rattle.manifest_fold.specs.declared.fold.FamilyFold.{FamilyFold}
use Rattle.manifest_fold.specs.declared.fold.Folded.{Folded}
use Rattle.manifest.specs.Manifest.{manifest_file}
use Rattle.recovery.specs.declared.opening.Parts.{Parts}
use Rattle.udt_model.specs.State.{Flush, State}
use Rattle.udt_model.specs.Crashes.{Course}
use Rattle.floor_laws.specs.Sound.{IsSoundState}
use Rattle.super_version.specs.declared.family.FamilyState.{FamilyState}
use Rattle.super_version.specs.declared.version.SuperVersion.{SuperVersion}
use Rattle.store_engine.specs.Calls.{LeavesOutcomes}
use Rattle.store_engine.specs.Engines.{HoldsNow, IsCurrent, IsOneFolder, IsRunning, engine_faults, held}
use Rattle.store_engine.specs.Now.{IsNow}
use Rattle.store_engine.specs.declared.engine.Engine.{Engine}
use Rattle.solo_store.specs.Names.{names_in}
use Rattle.solo_store.specs.declared.store.RunningFlush.{RunningFlush}
use Rattle.solo_store.specs.declared.store.Store.{Store}

-- the flush of the model that it is: there are no snapshots
abbrev pub job_of : RunningFlush → Flush
job_of flush = record { start = flush.start; family = flush.family; through = flush.through; floor = flush.floor; seqs = [] }

-- The flush may be ended: there is its family, what is flushed of it ends at or below what the flush takes, and that by the last sequence.
pub record MayEnd (flush : RunningFlush) (now : SuperVersion) : Type 0 where
  pub known : flush.family.0 < length now.families
  pub from : (g : FamilyState) → slice_get now.families flush.family.0 ≡ Some g → g.through.0 ≤ flush.through.0
  pub to : flush.through.0 ≤ now.last.0

abbrev pub MayEndIf : Option RunningFlush → SuperVersion → Type 0
MayEndIf None now = ⊤
MayEndIf (Some flush) now = MayEnd flush now

-- the names of a manifest's families
abbrev pub names_of_fold : Folded → List (List ℕ)
names_of_fold fold = map (λ (f : FamilyFold). f.name) fold.families

module _ {D F : Type 0} {f : file.Ghosts F} where
  abbrev pub engine_of : Store D F f → Engine D F f
  engine_of store = store.engine

  abbrev pub names_of : Store D F f → List (List ℕ)
  names_of store = store.names.items

  -- the flush that runs, where one does
  abbrev pub flush_of : Store D F f → Option RunningFlush
  flush_of store = store.flush

  -- the number of the event under which the disk failed, where it did
  abbrev pub halted_of : Store D F f → Option ℕ
  halted_of store = store.halted

  abbrev pub now_of : Store D F f → SuperVersion
  now_of store = arc_value store.version

  -- the number of the next file
  abbrev pub store_next : Store D F f → ℕ
  store_next store = (engine_of store).next

  -- how many bytes wait in its log
  abbrev pub store_pending : Store D F f → ℕ
  store_pending store = wal_pending (engine_of store).wal

module _ {D F : Type 0} (d : disk.Ghosts D F) (f : file.Ghosts F) where
  -- The disk failed under the event of this number. The super version shows the state still, and a crash leaves only outcomes.
  pub record HoldsHalted (since : ℕ) (engine : Engine D F f) (now : SuperVersion) (m : State) (c : Course) : Type 0 where
    pub halted : m.halted ≡ Some since
    pub shows : IsNow now m
    pub sound : IsSoundState m
    pub leaves : LeavesOutcomes d f m c (held engine)

  abbrev pub HoldsSince : Option ℕ → Engine D F f → SuperVersion → State → Course → Type 0
  HoldsSince None engine now m c = HoldsNow d f engine now m c
  HoldsSince (Some since) engine now m c = HoldsHalted since engine now m c

  -- The store holds the state on its course, also once the disk failed. It knows the names of the families and the flush that runs, and
  -- has no snapshot.
  pub record HoldsStore (store : Store D F f) (m : State) (c : Course) : Type 0 where
    pub names : store.names.items ≡ names_in m
    pub flush : m.flush ≡ option_map job_of store.flush
    pub snaps : m.snaps ≡ []
    pub holds : HoldsSince store.halted (engine_of store) (now_of store) m c

  -- the engine may go on with the super version, unless the disk failed
  abbrev pub GoesOnUnless : Option ℕ → Engine D F f → SuperVersion → Type 0
  GoesOnUnless None engine now = IsRunning engine × IsCurrent engine now
  GoesOnUnless (Some since) engine now = ⊤

  -- The next event may be made, whether or not the disk tells what it holds.
  pub record IsStoreReady (store : Store D F f) : Type 0 where
    pub goes_on : GoesOnUnless store.halted (engine_of store) (now_of store)
    pub one : IsOneFolder d f (engine_of store)
    pub families : length (now_of store).families ≡ length store.names.items
    pub few : length store.names.items ≤ FAMILY_LIMIT
    pub may_end : MayEndIf store.flush (now_of store)

  -- the faults of the disk and of the files of it that are held
  abbrev pub store_faults : Store D F f → ℕ
  store_faults store = engine_faults d f (engine_of store)

  abbrev pub parts_faults : Parts D F f → ℕ
  parts_faults parts = plus_faults (plus_faults (d.faults parts.disk) (f.faults (wal_file parts.wal))) (f.faults (manifest_file parts.manifest))
