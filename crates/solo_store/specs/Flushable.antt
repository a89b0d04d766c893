-- Versions that may be flushed.
use Rattle.std.specs.Prelude.{◌≡◌, ℕ, All, List}
use Rattle.ts_key.specs.declared.numbers.Family.{Family}
use Rattle.ts_key.specs.declared.version.Form.TheVariants.{Persist}
use Rattle.ts_key.specs.declared.version.Version.{Version}
use Rattle.ts_key.specs.StoredKeys.{IsSequence, IsStamp}

-- the sequence of a version
abbrev pub sequence_of : Version → ℕ
sequence_of v = v.seq.0

-- the version has a spelling
pub record MayBeFlushed (v : Version) : Type 0 where
  pub stamp : IsStamp Persist v.ts.0
  pub sequence : IsSequence v.seq.0

-- the versions are of the family, and each has a spelling
pub record AreVersionsSpelled (family : Family) (vs : List Version) : Type 0 where
  pub own : All (λ (v : Version). v.family ≡ family) vs
  pub each : All MayBeFlushed vs
