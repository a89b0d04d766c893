-- Timestamps of lists of versions.
use Rattle.std.specs.Prelude.{◌≤◌, nat_lt, if◌then◌else◌, List, All, Option, Some, None}
use Rattle.ts_key.specs.declared.numbers.Ts.{Ts}
use Rattle.ts_key.specs.declared.version.Version.{Version}

-- no version of the list has a timestamp above this one
abbrev pub IsBound : Ts → List Version → Type 0
IsBound ts w = All (λ (v : Version). v.ts.0 ≤ ts.0) w

-- the timestamp of a version, where it is above ts
abbrev pub above : Ts → Option Version → Option Ts
above ts None = None
above ts (Some v) = if nat_lt ts.0 v.ts.0 then Some v.ts else None
