-- How a command ends: what of its text the sink took.
use Rattle.std.specs.Prelude.{◌≡◌, ℕ, ◌⊎◌, List, Option}
use Rattle.std.specs.Io.KnownBytes.{Appends}
use Rattle.client_runner.specs.Flows.{AppendsFront}
use Rattle.client_runner.specs.declared.status.Status.{Status}
use Rattle.client_runner.specs.declared.status.Status.TheVariants as statuses

-- the sink took the whole text, and the status stays; or the sink failed, and took a front of it
abbrev pub IsPrinted : Status → Status → List ℕ → Option (List ℕ) → Option (List ℕ) → (sink_failed : Type 0) → Type 0
IsPrinted status meant text old new sink_failed =
    ((status ≡ meant) × Appends old new text) ⊎ ((status ≡ statuses.SinkFault) × sink_failed × AppendsFront old new text)

-- what was to be printed is printed, as far as the sink took it
pub record IsWorkEnd (Work : Status → List ℕ → Type 0) (status : Status) (old new : Option (List ℕ)) (sink_failed : Type 0) : Type 0 where
  pub meant : Status
  pub text : List ℕ
  pub work : Work meant text
  pub printed : IsPrinted status meant text old new sink_failed
