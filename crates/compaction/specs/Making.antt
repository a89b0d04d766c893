-- Tables that are made one after another of what is kept.
use Rattle.std.specs.Prelude.{◌≡◌, ◌<◌, List, ◌∷◌, ◌++◌, MatchOption, ⊤, Option}
use Rattle.ts_key.specs.declared.numbers.Family.{Family}
use Rattle.ts_key.specs.declared.numbers.Ts.{Ts}
use Rattle.ts_key.specs.declared.version.Form.{Form}
use Rattle.ts_key.specs.declared.version.Version.{Version}
use Rattle.ts_key.specs.Items.{items_of}
use Rattle.block_table.specs.Contents.{Contents}
use Rattle.block_table.specs.Pushed.{contents_of}
use Rattle.flush_job.specs.declared.feed.Feed.{Ghosts}
use Rattle.flush_job.specs.declared.kept.Kept.{Kept}
use Rattle.flush_job.specs.Keeping.{GivesOne, left_of}
use Rattle.compaction.specs.Filling.{key_of}
use Rattle.compaction.specs.Made.{TableEndsBefore, IsPiece}

-- a table of the versions that were given behind these, from `v` on, and before the next
pub record IsNext {S : Type 0} (g : Ghosts S) (family : Family) (form : Form) (floor : Ts) (k : Kept S) (given : List Version) (v : Version) (t : Contents) (next : Option Version) : Type 0 where
  pub own : List Version
  pub first : (rest : List Version) × (own ≡ v ∷ rest)
  pub contents : t ≡ contents_of family form floor (items_of own)
  pub piece : IsPiece t
  pub ends : TableEndsBefore t (key_of next)
  pub gave : GivesOne g k (given ++ own) next

-- fewer are left, where one comes next
abbrev pub IsNearer : {S : Type 0} (g : Ghosts S) → Kept S → Kept S → Option Version → Type 0
IsNearer g old new next = MatchOption next ⊤ (λ _. left_of g new < left_of g old)
