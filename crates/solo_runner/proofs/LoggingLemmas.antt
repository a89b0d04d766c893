-- Adding batches to a log, step by step.
use Rattle.std.proofs.Common.{◌≡◌, inr, ℕ, Bool, true, false, List, [], ◌∷◌, ◌++◌, subst}
use Rattle.std.specs.Prelude.{Ok}
use Rattle.udt_disk.specs.declared.file.DiskFile.{Ghosts}
use Rattle.udt_disk.specs.Runs.{IsSameFile}
use Rattle.udt_disk.specs.Runs.{Leaves}
use Rattle.wal.specs.declared.numbered.Numbered.{Numbered}
use Rattle.wal.specs.declared.wal.Wal.{Wal}
use Rattle.wal.specs.Replays.{IsBeforeOrAfter}
use Rattle.wal.specs.Wals.{Holds, wal_file, wal_sizes}
use Rattle.solo_runner.specs.Logging.{HoldsLogged}

module _ {F : Type 0} (g : Ghosts F) where
  -- after a sync the batch is on the disk, where that was asked or not
  pub holds_synced : (wal : Wal F g) (bs ws : List Numbered) (n : Numbered) (sync : Bool) → Holds g wal (bs ++ (ws ++ n ∷ [])) [] → HoldsLogged g wal bs ws n sync (Ok tt)
  holds_synced wal bs ws n true holds = holds
  holds_synced wal bs ws n false holds = inr holds

  -- a run of calls from the same file
  pub run_from : (old mid : Wal F g) (new : F) (bs ws : List Numbered) → wal_file mid ≡ wal_file old → wal_sizes mid ≡ wal_sizes old → Leaves g (wal_file mid) new (IsBeforeOrAfter (wal_sizes mid) bs ws) → Leaves g (wal_file old) new (IsBeforeOrAfter (wal_sizes old) bs ws)
  run_from old mid new bs ws file sizes run =
      subst (λ (x : F). Leaves g x new (IsBeforeOrAfter (wal_sizes old) bs ws)) file (subst (λ (s : List ℕ). Leaves g (wal_file mid) new (IsBeforeOrAfter s bs ws)) sizes run)

  pub same_from : (old mid new : F) → mid ≡ old → IsSameFile g mid new → IsSameFile g old new
  same_from old mid new is same = subst (λ (x : F). IsSameFile g x new) is same

pub is_asked : (sync : Bool) → sync ≡ false → sync ≡ true → ⊥
is_asked true isn't is = cc
is_asked false isn't is = cc
