-- What an install of a flush needs, does and leaves.
use Rattle.std.specs.Prelude.{◌≡◌, ◌≢◌, ◌⊎◌, ℕ, ◌^◌, ◌<◌, ◌≤◌, max, IsTrue, false, IfErr, OnOk, List, [], ◌∷◌, length, map, slice_get, take, Contains, Option, Some, None, Result, Ok, Err}
use Rattle.std.specs.Arc.{arc_value}
use Rattle.ts_key.specs.declared.numbers.Family.{Family}
use Rattle.ts_key.specs.declared.numbers.Seq.{Seq}
use Rattle.ts_key.specs.declared.numbers.Ts.{Ts}
use Rattle.udt_disk.specs.Causes.{IsCause, Rose, plus_faults}
use Rattle.udt_disk.specs.Crash.{NoMore, Only}
use Rattle.udt_disk.specs.Runs.{IsSameFile}
use Rattle.udt_disk.specs.Touches.{Touches}
use Rattle.udt_disk.specs.declared.name.FileName.{FileName}
use Rattle.udt_disk.specs.declared.name.FileName.TheVariants.{Log, Table}
use Rattle.udt_disk.specs.declared.disk.Disk as disk
use Rattle.udt_disk.specs.declared.file.DiskFile as file
use Rattle.wal.specs.Wals.{wal_file, wal_pending}
use Rattle.manifest_edit.specs.declared.edit.Edit.{Edit}
use Rattle.manifest_fold.specs.Folds.{fold_with}
use Rattle.manifest.specs.Manifest.{manifest_file, manifest_folded}
use Rattle.block_table.specs.Held.{Held}
use Rattle.block_table.specs.Tables.{IsTable}
use Rattle.udt_model.specs.declared.reply.Reply.{Reply}
use Rattle.udt_model.specs.declared.reply.Reply.TheVariants as replies
use Rattle.udt_model.specs.Acts.Act.{flush_end}
use Rattle.udt_model.specs.Crashes.{Course, course_after}
use Rattle.udt_model.specs.Jobs.{are_new, flush_kept, flush_taken, floor_over}
use Rattle.udt_model.specs.State.{Flush, State, form_at}
use Rattle.udt_model.specs.Steps.{after}
use Rattle.super_version.specs.Changes.{ChangesFamily, family_with_flush}
use Rattle.super_version.specs.Contents.{version_of_item}
use Rattle.super_version.specs.Live.{Live}
use Rattle.super_version.specs.declared.family.FamilyState.{FamilyState}
use Rattle.super_version.specs.declared.jobs.TableOut.{TableOut}
use Rattle.super_version.specs.declared.version.SuperVersion.{SuperVersion}
use Rattle.engine_laws.specs.Installs.{flush_edit}
use Rattle.store_engine.specs.Asides.{AreAbsent, AreRemoved, IsGivenBack}
use Rattle.store_engine.specs.Calls.{is_disk_failure}
use Rattle.store_engine.specs.Dropping.{AreGone}
use Rattle.store_engine.specs.Engines.{IsOneFolder, IsRunning, engine_faults, has_failed}
use Rattle.store_engine.specs.Jobs.{IsJobNumber}
use Rattle.store_engine.specs.Now.{FitsFamily}
use Rattle.store_engine.specs.Replies.{is_disk_fault}
use Rattle.store_engine.specs.Steps.{IsEdited, IsLogSynced, ReservesEdit}
use Rattle.store_engine.specs.declared.engine.Engine.{Engine}
use Rattle.store_engine.specs.declared.fault.EngineFault.{EngineFault}
use Rattle.store_engine.specs.declared.install.FlushEnd.{FlushEnd}
use Rattle.store_engine.specs.declared.install.Install.{Install}

-- the table under its number
abbrev pub live_with : ℕ → Held → Live
live_with number table = record { number = number; table = table }

-- the names of the oldest logs of a list
abbrev pub oldest_names : ℕ → List ℕ → List FileName
oldest_names count logs = map Log (take count logs)

-- An install of a flush that ended so: the next version has the table in place of the memtables, and the edit says so. It drops the oldest
-- logs that no family needs then, whose files are gone with it.
pub record IsFlushInstall {D F : Type 0} {f : file.Ghosts F} (engine : Engine D F f) (now : SuperVersion) (end : FlushEnd) (table : Held) (install : Install) : Type 0 where
  pub changes : ChangesFamily end.family.0 (family_with_flush end.gone end.through end.floor (live_with end.number table)) now (arc_value install.next)
  pub count : ℕ
  pub are_gone : AreGone (arc_value install.next).families engine.older (manifest_folded engine.manifest).logs count
  pub edit : install.edit ≡ flush_edit now.last engine.next (take count (manifest_folded engine.manifest).logs) end.family end.floor end.through end.number
  pub gone : install.gone.items ≡ oldest_names count (manifest_folded engine.manifest).logs

-- ---- steps

-- The log was synced, then the edit was added to the manifest, and then the files were removed. Where the disk fails before that, it ends there.
abbrev pub IsInstalled : {D F : Type 0} (d : disk.Ghosts D F) (f : file.Ghosts F) → Install → Engine D F f → Engine D F f → Result (Unit {0}) EngineFault → Type 0
IsInstalled {D} {F} d f install old new (Ok u) = (synced : Engine D F f) × (edited : Engine D F f) × IsLogSynced f old synced (Ok tt) × IsEdited f install.edit synced edited (Ok tt) × AreRemoved d install.gone.items edited new
IsInstalled {D} {F} d f install old new (Err fault) = IsLogSynced f old new (Err fault) ⊎ ((synced : Engine D F f) × IsLogSynced f old synced (Ok tt) × IsEdited f install.edit synced new (Err fault))

-- A flush was ended so: where memory ran out nothing was installed; the table's file was given back in any case, before the install.
pub data IsFlushEnded {D F A : Type 0} (d : disk.Ghosts D F) (f : file.Ghosts F) (value : A → SuperVersion) (now : SuperVersion) (end : FlushEnd) (table : Held) (given : F) (old new : Engine D F f) : Result A EngineFault → Type 0 where
  refused : (edit : Edit) (mid : Engine D F f) (fault : EngineFault) → ReservesEdit f edit old mid (Err fault) → IsGivenBack d f given mid new → IsFlushEnded d f value now end table given old new (Err fault)
  stopped : (install : Install) (mid back : Engine D F f) (fault : EngineFault) → IsFlushInstall old now end table install → ReservesEdit f install.edit old mid (Ok tt) → IsGivenBack d f given mid back → IsInstalled d f install back new (Err fault) → IsFlushEnded d f value now end table given old new (Err fault)
  ended : (install : Install) (mid back : Engine D F f) (next : A) → IsFlushInstall old now end table install → ReservesEdit f install.edit old mid (Ok tt) → IsGivenBack d f given mid back → IsInstalled d f install back new (Ok tt) → value next ≡ arc_value install.next → IsFlushEnded d f value now end table given old new (Ok next)

-- ---- what an install needs

-- the greater of this floor and the one that the family has
abbrev pub floor_with : Option FamilyState → Ts → Ts
floor_with None floor = floor
floor_with (Some g) floor = record { 0 = max g.floor.0 floor.0 }

abbrev pub floor_over_now : SuperVersion → Family → Ts → Ts
floor_over_now now family floor = floor_with (slice_get now.families family.0) floor

-- There is the family, what is flushed of it ends at or above what was, and by the last sequence. The table's number was given, and is
-- live in no family; its file is that of the number.
pub record MayInstall {D F : Type 0} (f : file.Ghosts F) (engine : Engine D F f) (now : SuperVersion) (family : Family) (through : Seq) (number : ℕ) (given : F) : Type 0 where
  pub known : family.0 < length now.families
  pub from : (g : FamilyState) → slice_get now.families family.0 ≡ Some g → g.through.0 ≤ through.0
  pub to : through.0 ≤ now.last.0
  pub unused : IsJobNumber engine number
  pub name : f.name given ≡ Table number

-- the file holds the table, and a crash leaves nothing else of it
pub record IsFileOfTable {F : Type 0} (f : file.Ghosts F) (given : F) (table : Held) : Type 0 where
  pub told : IsTrue (f.is_told given)
  pub rests : Only table.image (f.may_leave given)
  pub is : IsTable table.contents table.image
  pub short : length table.image < 2 ^ 64

-- The flush that runs ends so: with all sealed memtables of its family, and a table under a new number, whose file holds it and which
-- has what the flush keeps, with the floor that the flush leaves.
pub record EndsFlushBy {F : Type 0} (f : file.Ghosts F) (m : State) (now : SuperVersion) (job : Flush) (family : Family) (gone : ℕ) (through : Seq) (number : ℕ) (given : F) (out : TableOut) : Type 0 where
  pub runs : m.flush ≡ Some job
  pub of_family : job.family ≡ family
  pub up_to : job.through ≡ through
  pub all_sealed : (g : FamilyState) → slice_get now.families family.0 ≡ Some g → gone ≡ length g.sealed
  pub fresh : IsTrue (are_new m.used (number ∷ []))
  pub file : IsFileOfTable f given out.table
  pub own : out.table.contents.family ≡ family.0
  pub fits : (g : FamilyState) → slice_get now.families family.0 ≡ Some g → FitsFamily g.form g.floor (live_with number out.table)
  pub holds : map (version_of_item family) out.table.contents.items ≡ flush_kept m job
  pub kept : out.kept ≡ length (flush_kept m job)
  pub floor : out.floor ≡ floor_over (form_at m family) job.floor (flush_taken m job)

-- ---- the model's act

-- the model's reply where the flush ends so
abbrev pub flush_end_reply : SuperVersion → Family → ℕ → TableOut → Reply
flush_end_reply now family number out = replies.Table number out.kept (floor_over_now now family out.floor)

abbrev pub after_flush_end : State → ℕ → Family → Flush → Reply → State
after_flush_end m event family job reply = after m event (flush_end family job.start) reply

abbrev pub course_after_flush_end : State → ℕ → Course → Family → Flush → Reply → Course
course_after_flush_end m event c family job reply = course_after m event c (flush_end family job.start) reply

-- ---- what it leaves

-- the files of these names are gone and the faults are those from before and of the file that was given back, or there are more
abbrev pub IsInstallRemoval : {D F : Type 0} (d : disk.Ghosts D F) (f : file.Ghosts F) → List FileName → F → Engine D F f → Engine D F f → Type 0
IsInstallRemoval {D} {F} d f names given old new =
    let before = plus_faults (engine_faults d f old) (f.faults given) in
    (AreAbsent d names new.disk × (engine_faults d f new ≡ before)) ⊎ Rose before (engine_faults d f new)

-- The manifest has the edit of the flush: the table is live, and of the logs the oldest, which no family needs with the next version, are
-- live no more. Their files are gone and no fault was met, or a remove failed.
pub record IsFlushInstalled {D F : Type 0} (d : disk.Ghosts D F) (f : file.Ghosts F) (now : SuperVersion) (family : Family) (floor : Ts) (through : Seq) (number : ℕ) (given : F) (old new : Engine D F f) (next : SuperVersion) : Type 0 where
  pub count : ℕ
  pub are_gone : AreGone next.families old.older (manifest_folded old.manifest).logs count
  pub fold : manifest_folded new.manifest ≡ fold_with (manifest_folded old.manifest) (flush_edit now.last old.next (take count (manifest_folded old.manifest).logs) family floor through number)
  pub removed : IsInstallRemoval d f (oldest_names count (manifest_folded old.manifest).logs) given old new

-- the log of this name was live, and is no more
abbrev pub IsDropped : List ℕ → List ℕ → FileName → Type 0
IsDropped old new name = (n : ℕ) × (name ≡ Log n) × Contains old n × ¬ Contains new n

-- the count of faults, which has those of the file that is given back; on Ok a remove may have failed
abbrev pub IsInstallCause : {A : Type 0} → Result A EngineFault → ℕ → ℕ → Type 0
IsInstallCause (Ok a) before now = before ≤ now
IsInstallCause (Err fault) before now = IsCause (is_disk_fault fault) before now

-- What an install of a table of this number leaves, whether or not the disk tells what it holds: the same folder, still one, in which beside
-- the two held files only the table's file, which was given back, and logs that are live no more were touched; the number of the next file,
-- and those that other jobs have; an engine that may be called unless the disk failed; and the faults of the file that was given back, with
-- more where the disk failed.
pub record IsInstallCalled {D F A : Type 0} (d : disk.Ghosts D F) (f : file.Ghosts F) (number : ℕ) (given : F) (old new : Engine D F f) (result : Result A EngineFault) : Type 0 where
  pub wal : IsSameFile f (wal_file old.wal) (wal_file new.wal)
  pub manifest : IsSameFile f (manifest_file old.manifest) (manifest_file new.manifest)
  pub touches : Touches d (λ name. (name ≡ f.name given) ⊎ IsDropped (manifest_folded old.manifest).logs (manifest_folded new.manifest).logs name) old.disk new.disk
  pub one : IsOneFolder d f old → IsOneFolder d f new
  pub given_back : NoMore (f.may_leave given) (d.may_leave new.disk (f.name given))
  pub next : new.next ≡ old.next
  pub older : new.older ≡ old.older
  pub jobs : (n : ℕ) → n ≢ number → IsJobNumber old n → IsJobNumber new n
  pub untouched : IfErr result (λ fault. is_disk_fault fault ≡ false → (new.wal ≡ old.wal) × (manifest_file new.manifest ≡ manifest_file old.manifest))
  pub running : is_disk_failure result ≡ false → IsRunning new
  pub failed : has_failed new ≡ is_disk_failure result
  pub counted : IsInstallCause result (plus_faults (engine_faults d f old) (f.faults given)) (engine_faults d f new)
  pub pending : OnOk result (wal_pending new.wal ≡ 0)
