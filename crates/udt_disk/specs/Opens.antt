-- What stands under the paths of a host, and what it means to open a source.
use Rattle.std.specs.Prelude.{◌≡◌, ◌≢◌, ℕ, List, ⊤, Option, Some, None, Result, Ok, Err}

-- what source stands under a path: None where it isn't told, Some None where there is none, else the bytes that it has left
abbrev pub Standing : Type 0
Standing = Option (Option (List ℕ))

-- no source stands there
abbrev pub IsMissing : Standing → Type 0
IsMissing None = ⊤
IsMissing (Some standing) = standing ≡ None

-- this source stands there, by what it tells of the bytes that it has left
abbrev pub IsStanding : Standing → Option (List ℕ) → Type 0
IsStanding None left = ⊤
IsStanding (Some None) left = ⊥
IsStanding (Some (Some bytes)) left = left ≡ Some bytes

-- where it is told what stands there, it is a source whose bytes have P
abbrev pub Told : Standing → (List ℕ → Type 0) → Type 0
Told None P = ⊤
Told (Some None) P = ⊥
Told (Some (Some bytes)) P = P bytes

-- what stands there once the source is taken out
abbrev pub without_source : Standing → Standing
without_source None = None
without_source (Some standing) = Some None

-- under every path stands what stood there
abbrev pub StaysAll : (List ℕ → Standing) → (List ℕ → Standing) → Type 0
StaysAll old new = (path : List ℕ) → new path ≡ old path

-- under every other path stands what stood there
abbrev pub StaysBut : List ℕ → (List ℕ → Standing) → (List ℕ → Standing) → Type 0
StaysBut path old new = (other : List ℕ) → other ≢ path → new other ≡ old other

-- None comes exactly where no source stands there; else the source is the one that stood there, and stands there no more
abbrev pub Opens : {I E : Type 0} → (I → Option (List ℕ)) → (List ℕ → Standing) → (List ℕ → Standing) → List ℕ → Result (Option I) E → Type 0
Opens left old new path (Ok None) = IsMissing (old path) × StaysAll old new
Opens left old new path (Ok (Some input)) = IsStanding (old path) (left input) × (new path ≡ without_source (old path)) × StaysBut path old new
Opens left old new path (Err e) = StaysAll old new
