-- Versions that are stripped key by key.
use Rattle.std.specs.Prelude.{◌≡◌, ℕ, ◌-◌, Bool, true, List, length, slice_get, Contains, Option, Some, None}
use Rattle.std.specs.Str.{bytes_eq}
use Rattle.ts_key.specs.declared.version.Version.{Version}

-- two of these with one sequence are one
abbrev pub AreToldBySequence : List Version → Type 0
AreToldBySequence vs = (v w : Version) → Contains vs v → Contains vs w → v.seq.0 ≡ w.seq.0 → v ≡ w

-- there is none, or it is of this key
abbrev pub is_of_key : Option Version → List ℕ → Bool
is_of_key None key = true
is_of_key (Some v) key = bytes_eq v.key key

-- the last one is
abbrev pub ends_in_key : List Version → List ℕ → Bool
ends_in_key vs key = is_of_key (slice_get vs (length vs - 1)) key
