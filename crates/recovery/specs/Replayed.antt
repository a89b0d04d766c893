-- What the live logs of a fold say together, while they are read one by one.
use Rattle.std.specs.Prelude.{◌≡◌, ◌⊎◌, ℕ, ◌+◌, ◌-◌, ◌≤◌, ◌==◌, Bool, true, false, nat_lt, if◌then◌else◌, List, [], ◌∷◌, ◌++◌, filter, Option, Some, None, ⊤, slice_get, IfSome, Result, Ok, Err}
use Rattle.std.specs.List.Sorted.{IsStrictlyIncreasing}
use Rattle.ts_key.specs.declared.limits.TheConstants.{SEQUENCE_LIMIT}
use Rattle.ts_key.specs.declared.version.Version.{Version}
use Rattle.udt_disk.specs.Crash.{Image}
use Rattle.udt_disk.specs.Joint.{Folder}
use Rattle.udt_disk.specs.declared.name.FileName.{FileName}
use Rattle.udt_disk.specs.declared.file.DiskFile as file
use Rattle.udt_disk.specs.declared.disk.Disk as disk
use Rattle.udt_disk.specs.declared.name.FileName.TheVariants.{Log}
use Rattle.wal.specs.declared.numbered.Numbered.{Numbered}
use Rattle.wal.specs.declared.wal.Wal.{Wal}
use Rattle.wal.specs.Replays.{ReadsAs}
use Rattle.wal.specs.Wals.{Holds, IsWalOf, wal_file}
use Rattle.wal.specs.Sequences.{IsInSequence, next_sequence, sequence_after}
use Rattle.manifest_fold.specs.declared.fold.FamilyFold.{FamilyFold}
use Rattle.manifest_fold.specs.declared.fold.Folded.{Folded}
use Rattle.manifest_fold.specs.Folds.{newest_log}
use Rattle.manifest.specs.Folds.{sizes_of}
use Rattle.engine_laws.specs.Logs.{batches_of, last_of, versions_of}
use Rattle.recovery.specs.Refusals.{AreRefused, AreReplayed, IsBadLogFile, IsFirstBadLog, IsFirstGap}
use Rattle.recovery.specs.declared.fault.OpenFault.{OpenFault}
use Rattle.recovery.specs.declared.fault.OpenFault.TheVariants as faults
use Rattle.recovery.specs.declared.gathered.Gathered.{Gathered}

abbrev pub IsLogName : FileName → Type 0
IsLogName n = (number : ℕ) × (n ≡ Log number)

-- ---- versions

abbrev pub is_over : Option FamilyFold → ℕ → Bool
is_over None n = false
is_over (Some f) n = nat_lt f.through.0 n

-- its family's `through` is below it
abbrev pub is_unflushed : List FamilyFold → Version → Bool
is_unflushed families v = is_over (slice_get families v.family.0) v.seq.0

-- the versions of batches that are in no table
abbrev pub above_through : List FamilyFold → List Version → List Version
above_through families w = filter (is_unflushed families) w

-- ---- sequences

-- the sequence that comes behind these batches, where this one comes before them
abbrev pub next_behind : Option ℕ → List Numbered → Option ℕ
next_behind next [] = next
next_behind next (b ∷ batches) = next_behind (Some (sequence_after b)) batches

-- the sequence that comes next, where there is a batch, follows one that is at most the greatest
abbrev pub IsNextWithin : Option ℕ → Type 0
IsNextWithin next = IfSome next (λ n. n ≤ SEQUENCE_LIMIT + 1)

-- the first batch, where there is one, begins with the sequence that comes next
abbrev pub starts_at : Option ℕ → List Numbered → Bool
starts_at None batches = true
starts_at (Some n) [] = true
starts_at (Some n) (b ∷ batches) = b.first.0 == n

abbrev pub gap_behind : Option ℕ → Option ℕ → ℕ → List Numbered → Option ℕ
gap_behind (Some m) next n batches = Some m
gap_behind None next n batches = if starts_at next batches then None else Some n

-- the first gap among logs
abbrev pub IsGap : (ℕ → List Numbered) → List ℕ → Option ℕ → Type 0
IsGap logs ns None = IsInSequence (batches_of logs ns)
IsGap logs ns (Some n) = IsFirstGap logs ns n

-- ---- logs that were read

-- what is gathered is what the files of these logs say
pub record IsGathered (fold : Folded) (folder : Folder) (ns : List ℕ) (g : Gathered) : Type 0 where
  pub logs : ℕ → List Numbered
  pub read : AreReplayed (sizes_of fold) folder logs ns
  pub versions : g.versions.items ≡ above_through fold.families (versions_of (batches_of logs ns))
  pub next : g.next ≡ next_sequence (batches_of logs ns)
  pub gap : IsGap logs ns g.gap

-- why the log of this number isn't read
abbrev pub RefusesLog : List ℕ → Image → ℕ → OpenFault → Type 0
RefusesLog sizes image n faults.NoStore = ⊥
RefusesLog sizes image n (faults.BadManifest at) = ⊥
RefusesLog sizes image n (faults.MissingTable k) = ⊥
RefusesLog sizes image n (faults.BadTable k) = ⊥
RefusesLog sizes image n (faults.BadLog k at) = (k ≡ n) × IsBadLogFile sizes image at
RefusesLog sizes image n faults.DiskFault = ⊤
RefusesLog sizes image n faults.NoMemory = ⊤

-- one of these, which are the oldest live logs, isn't read
abbrev pub RefusesOldest : Folded → Folder → OpenFault → Type 0
RefusesOldest fold folder faults.NoStore = ⊥
RefusesOldest fold folder (faults.BadManifest at) = ⊥
RefusesOldest fold folder (faults.MissingTable k) = ⊥
RefusesOldest fold folder (faults.BadTable k) = ⊥
RefusesOldest fold folder (faults.BadLog n at) = IsFirstBadLog fold folder n at
RefusesOldest fold folder faults.DiskFault = ⊤
RefusesOldest fold folder faults.NoMemory = ⊤

-- ---- logs in files

module _ {F : Type 0} {g : file.Ghosts F} where
  -- the files that an answer holds
  abbrev pub files_taken : {A E : Type 0} → Result (Wal F g × A) E → List F
  files_taken (Ok taken) = wal_file taken.0 ∷ []
  files_taken (Err e) = []

-- What stood under the log's name is a log of these batches, which it shows. Where a crash left nothing else, it rests.
pub record IsReplayed {D F : Type 0} (d : disk.Ghosts D F) (f : file.Ghosts F) (old : D) (sizes : List ℕ) (number : ℕ) (wal : Wal F f) (batches : List Numbered) : Type 0 where
  pub held : ReadsAs sizes batches (d.stands old (Log number))
  pub sequence : IsInSequence batches
  pub shown : IsWalOf f wal batches []
  pub rests : ((c : Image) → d.may_leave old (Log number) c → c ≡ d.stands old (Log number)) → Holds f wal batches []

-- ---- all live logs

-- the sequence that comes next is one above a last sequence that is below this one
abbrev pub is_last_ahead : ℕ → Option ℕ → Bool
is_last_ahead last None = false
is_last_ahead last (Some n) = nat_lt (n - 1) last

-- The live logs of the fold were read: they have no gap, and the manifest's last sequence isn't above theirs.
pub record AreInLine (fold : Folded) (folder : Folder) (g : Gathered) : Type 0 where
  pub gathered : IsGathered fold folder fold.logs g
  pub sequence : IsInSequence (batches_of gathered.logs fold.logs)
  pub behind : fold.last.0 ≤ last_of fold.last.0 (batches_of gathered.logs fold.logs)

-- why the live logs aren't opened
abbrev pub RefusesLogs : Folded → Folder → OpenFault → Type 0
RefusesLogs fold folder faults.NoStore = ⊥
RefusesLogs fold folder (faults.BadManifest at) = ⊥
RefusesLogs fold folder (faults.MissingTable k) = ⊥
RefusesLogs fold folder (faults.BadTable k) = ⊥
RefusesLogs fold folder (faults.BadLog n at) = IsFirstBadLog fold folder n at ⊎ AreRefused fold folder n at
RefusesLogs fold folder faults.DiskFault = ⊤
RefusesLogs fold folder faults.NoMemory = ⊤

-- the newest of the live logs holds these batches, and the others were gathered
pub record IsNewestOf (fold : Folded) (folder : Folder) (oldest : List ℕ) (newest : ℕ) (batches : List Numbered) (g : Gathered) : Type 0 where
  pub logs : fold.logs ≡ oldest ++ newest ∷ []
  pub rising : IsStrictlyIncreasing fold.logs
  pub so_far : IsGathered fold folder oldest g
  pub held : ReadsAs (sizes_of fold) batches (folder (Log newest))
  pub sequence : IsInSequence batches

-- what all live logs say together is refused
abbrev pub IsJudged : ℕ → ℕ → Gathered → OpenFault → Type 0
IsJudged last newest g faults.NoStore = ⊥
IsJudged last newest g (faults.BadManifest at) = ⊥
IsJudged last newest g (faults.MissingTable k) = ⊥
IsJudged last newest g (faults.BadTable k) = ⊥
IsJudged last newest g (faults.BadLog k at) = (at ≡ 0) × ((g.gap ≡ Some k) ⊎ ((g.gap ≡ None) × (is_last_ahead last g.next ≡ true) × (k ≡ newest)))
IsJudged last newest g faults.DiskFault = ⊥
IsJudged last newest g faults.NoMemory = ⊥

-- what stood under the name of the newest live log is what this one shows
pub record IsNewestLog {D F : Type 0} (d : disk.Ghosts D F) (f : file.Ghosts F) (old : D) (fold : Folded) (wal : Wal F f) : Type 0 where
  pub batches : List Numbered
  pub replayed : IsReplayed d f old (sizes_of fold) (newest_log fold.logs) wal batches
