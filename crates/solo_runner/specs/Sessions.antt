-- Runs over a store with its log.
use Rattle.std.specs.Prelude.{◌≡◌, ℕ, ◌≤◌, List, length}
use Rattle.udt_disk.specs.declared.file.DiskFile.{Ghosts}
use Rattle.udt_model.specs.declared.line.Line.{Line}
use Rattle.udt_model.specs.declared.line.Mark.{Mark}
use Rattle.udt_model.specs.Crashes.{Course, course_start, course_behind}
use Rattle.udt_model.specs.Histories.{start}
use Rattle.udt_disk.specs.Runs.{IsSameFile}
use Rattle.wal.specs.Wals.{wal_file, wal_sizes}
use Rattle.head_manifest.specs.declared.fold.Folded.{Folded}
use Rattle.client_lang.specs.declared.command.Command.{Command}
use Rattle.solo_runner.specs.Keeping.{Keeps}
use Rattle.solo_runner.specs.LoggedStores.{IsInStep, store_state, wal_of}
use Rattle.solo_runner.specs.Solo.{HasRun, HasSynced, AreSoundUnless}
use Rattle.plain_recovery.specs.Stores.{sizes_of}
use Rattle.solo_runner.specs.declared.logged.LoggedStore.{LoggedStore}

module _ {F : Type 0} (g : Ghosts F) where
  -- how often the file of the log has failed
  abbrev pub log_faults : LoggedStore F g → ℕ
  log_faults s = g.faults (wal_file (wal_of s))

  -- What a crash may leave of the log are outcomes of the history so far, in a folder whose manifest has this fold.
  abbrev pub KeepsCourse : LoggedStore F g → Folded → Course → Type 0
  KeepsCourse s fold c = (fold.last.0 ≡ 0) × (sizes_of fold ≡ wal_sizes (wal_of s)) × Keeps g fold (wal_of s) (store_state s) c

  -- the log keeps these lines as it kept what was before them, and tells where the disk failed
  pub record GoesWith (old new : LoggedStore F g) (lines : List Line) : Type 0 where
    pub in_step : IsInStep g (wal_of new) (store_state new)
    pub kept : (fold : Folded) → KeepsCourse old fold (course_start (store_state old)) → KeepsCourse new fold (course_behind (start (store_state old)) (course_start (store_state old)) lines)
    pub later : log_faults old ≤ log_faults new
    pub sound : AreSoundUnless (log_faults old) (log_faults new) lines
    pub same : IsSameFile g (wal_file (wal_of old)) (wal_file (wal_of new))

  -- client 1 has made these commands
  pub record HasRunOn (old new : LoggedStore F g) (commands : List Command) (lines : List Line) (last : Mark) : Type 0 where
    pub run : HasRun (store_state old) commands lines (store_state new) last
    pub log : GoesWith old new lines
    pub counted : length lines ≡ length commands

  -- and the runner has made its sync
  pub record HasSession (old new : LoggedStore F g) (commands : List Command) (lines : List Line) : Type 0 where
    pub run : HasSynced (store_state old) commands lines (store_state new)
    pub log : GoesWith old new lines
