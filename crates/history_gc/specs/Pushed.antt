-- Versions that are pushed one after another: which may come next, and which are of the last key.
use Rattle.std.specs.Prelude.{◌≡◌, ℕ, Bool, true, false, not, List, [], ◌∷◌, ◌++◌, filter, Option, Some, None}
use Rattle.std.specs.List.{AllByRecursion}
use Rattle.std.specs.Str.{bytes_eq}
use Rattle.ts_key.specs.declared.version.Version.{Version}
use Rattle.udt_model.specs.Orders.{is_version_before}

-- both are of one family, and u stands before v in the stored order
abbrev pub StandsBefore : Version → Version → Type 0
StandsBefore u v = (u.family.0 ≡ v.family.0) × (is_version_before u v ≡ true)

-- v may be pushed after ps: each of them stands before it
abbrev pub MayFollow : List Version → Version → Type 0
MayFollow ps v = AllByRecursion (λ u. StandsBefore u v) ps

-- each may be pushed after the ones before it
abbrev pub AreInOrder : List Version → Type 0
AreInOrder [] = Unit {0}
AreInOrder (v ∷ vs) = AllByRecursion (λ w. StandsBefore v w) vs × AreInOrder vs

-- the last version
abbrev pub last_from : Option Version → List Version → Option Version
last_from o [] = o
last_from o (v ∷ vs) = last_from (Some v) vs

abbrev pub has_key_of : Option Version → Version → Bool
has_key_of None u = false
has_key_of (Some v) u = bytes_eq v.key u.key

-- the versions of the last one's key
abbrev pub of_last_key : List Version → List Version
of_last_key ps = filter (has_key_of (last_from None ps)) ps

-- the versions of all other keys: no more of them come
abbrev pub of_other_keys : List Version → List Version
of_other_keys ps = filter (λ u. not (has_key_of (last_from None ps) u)) ps

-- the list begins with these
abbrev pub BeginsWith : List Version → List Version → Type 0
BeginsWith xs ys = (rest : List Version) × (xs ++ rest ≡ ys)
