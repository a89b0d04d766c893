-- What an engine knows of the live logs that take no more batches.
use Rattle.std.specs.Prelude.{ℕ, ◌==◌, ◌<◌, ◌≤◌, find, All, Contains, Option, Some, None}
use Rattle.ts_key.specs.declared.version.Version.{Version}
use Rattle.engine_laws.specs.Logs.{versions_of}
use Rattle.engine_laws.specs.Standing.{Says}
use Rattle.engine_laws.specs.Engine.{newest_log_of}
use Rattle.store_engine.specs.declared.older.OlderLogs.{OlderLogs}
use Rattle.store_engine.specs.declared.older.RolledLog.{RolledLog}

-- the last sequence of a log, and this one where there is none
abbrev pub last_rolled : ℕ → Option RolledLog → ℕ
last_rolled opened None = opened
last_rolled opened (Some log) = log.last.0

-- the sequence up to which the log of this number may have versions
abbrev pub last_in : OlderLogs → ℕ → ℕ
last_in older n = last_rolled older.opened.0 (find (λ log. log.number == n) older.rolled.items)

-- No live log but the newest has a version above what is known to be its last, and the logs that were rolled are older than the newest.
pub record CoversOlder (older : OlderLogs) (s : Says) : Type 0 where
  pub within : (n : ℕ) (v : Version) → Contains s.fold.logs n → n < newest_log_of s → Contains (versions_of (s.logs n)) v → v.seq.0 ≤ last_in older n
  pub rolled : All (λ (log : RolledLog). log.number < newest_log_of s) older.rolled.items
