-- Versions that are taken one by one.
use Rattle.std.specs.Prelude.{◌≡◌, List, [], ◌∷◌, ◌++◌, Option, Some, None, Result, Ok, Err}
use Rattle.ts_key.specs.declared.version.Version.{Version}

-- there is none to come, or the first of those was taken
abbrev pub TakesOne : {S : Type 0} → (S → List Version) → (S → List Version) → S → S → Option Version → Type 0
TakesOne taken coming old new None = (coming old ≡ []) × (coming new ≡ []) × (taken new ≡ taken old)
TakesOne taken coming old new (Some v) = (coming old ≡ v ∷ coming new) × (taken new ≡ taken old ++ v ∷ [])

-- where memory is wanting none is taken
abbrev pub Takes : {S E : Type 0} → (S → List Version) → (S → List Version) → S → S → Result (Option Version) E → Type 0
Takes taken coming old new (Ok next) = TakesOne taken coming old new next
Takes taken coming old new (Err e) = (coming new ≡ coming old) × (taken new ≡ taken old)
