-- Tables that are filled with what a compaction keeps.
use Rattle.std.specs.Prelude.{◌≡◌, ℕ, List, ◌∷◌, ◌++◌, Option, Some, None}
use Rattle.ts_key.specs.declared.numbers.Family.{Family}
use Rattle.ts_key.specs.declared.numbers.Ts.{Ts}
use Rattle.ts_key.specs.declared.version.Form.{Form}
use Rattle.ts_key.specs.declared.version.Version.{Version}
use Rattle.ts_key.specs.Items.{items_of}
use Rattle.ts_key.specs.Lists.{IsSorted}
use Rattle.block_table.specs.Pushed.{HasPushed, contents_of}
use Rattle.flush_job.specs.declared.feed.Feed.{Ghosts}
use Rattle.flush_job.specs.declared.kept.Kept.{Kept}
use Rattle.flush_job.specs.Keeping.{GivesOne}
use Rattle.compaction.specs.declared.fill.Filled.{Filled}
use Rattle.compaction.specs.Made.{TableEndsBefore, IsPiece}

-- the key of a version, where there is one
abbrev pub key_of : Option Version → Option (List ℕ)
key_of None = None
key_of (Some v) = Some v.key

-- a table of the versions that were given behind these, from `v` on, and before the next
pub record IsFilled {S : Type 0} (g : Ghosts S) (family : Family) (form : Form) (floor : Ts) (k : Kept S) (given : List Version) (v : Version) (f : Filled) : Type 0 where
  pub own : List Version
  pub first : (rest : List Version) × (own ≡ v ∷ rest)
  pub pushed : HasPushed f.writer (contents_of family form floor (items_of own))
  pub sorted : IsSorted (items_of own)
  pub piece : IsPiece (contents_of family form floor (items_of own))
  pub ends : TableEndsBefore (contents_of family form floor (items_of own)) (key_of f.next)
  pub next : GivesOne g k (given ++ own) f.next
