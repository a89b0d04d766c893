-- Which live tables and logs of a fold keep a folder from being opened.
use Rattle.std.specs.Prelude.{◌≡◌, ◌≢◌, ◌⊎◌, ℕ, ◌≤◌, List, [], ◌∷◌, ◌++◌, Contains, Some, None}
use Rattle.ts_key.specs.declared.numbers.Family.{Family}
use Rattle.udt_disk.specs.Crash.{Image}
use Rattle.udt_disk.specs.Joint.{Folder}
use Rattle.udt_disk.specs.declared.name.FileName.TheVariants.{Log, Table}
use Rattle.wal.specs.declared.numbered.Numbered.{Numbered}
use Rattle.wal.specs.Replays.{IsBadLogAt, LogHolds, ReadsAs}
use Rattle.wal.specs.Sequences.{IsInSequence}
use Rattle.manifest_edit.specs.declared.edit.TableAt.{TableAt}
use Rattle.manifest_fold.specs.declared.fold.FamilyFold.{FamilyFold}
use Rattle.manifest_fold.specs.declared.fold.Folded.{Folded}
use Rattle.manifest_fold.specs.Folds.{newest_log}
use Rattle.manifest.specs.Folds.{sizes_of}
use Rattle.engine_laws.specs.Logs.{batches_of, last_of}
use Rattle.engine_laws.specs.Manifests.{IsLive}
use Rattle.recovery.specs.Tables.{AreTablesInOrder, AreInOrderBelow, IsTableInOrder}

-- ---- tables

-- this number is that of a live table, and all live tables below it are in order
pub record IsReached (fold : Folded) (folder : Folder) (family : Family) (f : FamilyFold) (t : TableAt) : Type 0 where
  pub live : IsLive fold family f t
  pub below : AreInOrderBelow fold folder t.number

-- the first live table whose file isn't in order has no file
pub record IsMissingTable (fold : Folded) (folder : Folder) (n : ℕ) : Type 0 where
  pub family : Family
  pub f : FamilyFold
  pub table : TableAt
  pub number : table.number ≡ n
  pub reached : IsReached fold folder family f table
  pub missing : folder (Table n) ≡ None

-- it has a file
pub record IsBadTable (fold : Folded) (folder : Folder) (n : ℕ) : Type 0 where
  pub family : Family
  pub f : FamilyFold
  pub table : TableAt
  pub number : table.number ≡ n
  pub reached : IsReached fold folder family f table
  pub there : folder (Table n) ≢ None
  pub bad : IsTableInOrder folder family f table → ⊥

-- ---- logs

-- the file of a log is missing, or outside of its grammar: what is wrong with it stands first at this offset
abbrev pub IsBadLogFile : List ℕ → Image → ℕ → Type 0
IsBadLogFile sizes None at = at ≡ 0
IsBadLogFile sizes (Some bytes) at = IsBadLogAt sizes bytes at × ((batches : List Numbered) → LogHolds sizes batches bytes → ⊥)

-- the files of logs of these numbers hold these batches
abbrev pub AreReplayed : List ℕ → Folder → (ℕ → List Numbered) → List ℕ → Type 0
AreReplayed sizes folder logs ns = (n : ℕ) → Contains ns n → ReadsAs sizes (logs n) (folder (Log n))

-- of the live logs the first whose file isn't in the grammar
pub record IsFirstBadLog (fold : Folded) (folder : Folder) (n at : ℕ) : Type 0 where
  pub before : List ℕ
  pub after : List ℕ
  pub is : fold.logs ≡ before ++ n ∷ after
  pub logs : ℕ → List Numbered
  pub read : AreReplayed (sizes_of fold) folder logs before
  pub bad : IsBadLogFile (sizes_of fold) (folder (Log n)) at

-- of the logs the first that doesn't go on where those before it end
pub record IsFirstGap (logs : ℕ → List Numbered) (ns : List ℕ) (n : ℕ) : Type 0 where
  pub before : List ℕ
  pub after : List ℕ
  pub is : ns ≡ before ++ n ∷ after
  pub sequence : IsInSequence (batches_of logs before)
  pub gap : IsInSequence (batches_of logs (before ++ n ∷ [])) → ⊥

-- the logs have no gap, but the manifest's last sequence is above theirs
pub record IsAhead (fold : Folded) (logs : ℕ → List Numbered) (n : ℕ) : Type 0 where
  pub sequence : IsInSequence (batches_of logs fold.logs)
  pub ahead : fold.last.0 ≤ last_of fold.last.0 (batches_of logs fold.logs) → ⊥
  pub newest : n ≡ newest_log fold.logs

-- each live log's file is in the grammar, and together they are refused
pub record AreRefused (fold : Folded) (folder : Folder) (n at : ℕ) : Type 0 where
  pub logs : ℕ → List Numbered
  pub read : AreReplayed (sizes_of fold) folder logs fold.logs
  pub why : IsFirstGap logs fold.logs n ⊎ IsAhead fold logs n
  pub place : at ≡ 0

-- the live tables are in order, and the live logs are refused
pub record IsBadLog (fold : Folded) (folder : Folder) (n at : ℕ) : Type 0 where
  pub tables : AreTablesInOrder fold folder
  pub why : IsFirstBadLog fold folder n at ⊎ AreRefused fold folder n at
