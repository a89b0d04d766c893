-- The order of keys, the order in which versions are stored, and spans of keys.
use Rattle.std.specs.Prelude.{ℕ, Bool, ◌&&◌, ◌||◌, if◌then◌else◌, List, [], ◌∷◌}
use Rattle.std.specs.Str.{bytes_eq}
use Rattle.std.specs.Cmp.Lexicographic.{slice_cmp}
use Rattle.std.specs.Ordering.{nat_cmp, is_lt, is_le}
use Rattle.std.specs.List.{list_any}
use Rattle.ts_key.specs.declared.version.Version.{Version}
use Rattle.udt_model.specs.declared.reply.KeySpan.{KeySpan}
use Rattle.udt_model.specs.Versions.{is_newer}

-- bytewise
abbrev pub is_below : List ℕ → List ℕ → Bool
is_below a b = is_lt (slice_cmp nat_cmp a b)

abbrev pub is_at_most : List ℕ → List ℕ → Bool
is_at_most a b = is_le (slice_cmp nat_cmp a b)

-- ---- the stored order

-- by key, and of one key the newer first
abbrev pub is_version_before : Version → Version → Bool
is_version_before a b = is_below a.key b.key || (bytes_eq a.key b.key && is_newer a b)

-- put where it belongs in a list that is in order
abbrev pub with_version : Version → List Version → List Version
with_version v [] = v ∷ []
with_version v (o ∷ os) = if is_version_before o v then o ∷ with_version v os else v ∷ o ∷ os

-- the versions in the stored order
abbrev pub stored : List Version → List Version
stored [] = []
stored (v ∷ vs) = with_version v (stored vs)

-- ---- spans of keys

abbrev pub is_in : KeySpan → List ℕ → Bool
is_in span key = is_at_most span.low key && is_at_most key span.high

abbrev pub is_in_some : List KeySpan → List ℕ → Bool
is_in_some spans key = list_any (λ span. is_in span key) spans

abbrev pub meets : KeySpan → KeySpan → Bool
meets a b = is_at_most a.low b.high && is_at_most b.low a.high

abbrev pub lower_of : List ℕ → List ℕ → List ℕ
lower_of a b = if is_below b a then b else a

abbrev pub higher_of : List ℕ → List ℕ → List ℕ
higher_of a b = if is_below a b then b else a

-- the span from the lowest to the highest of both
abbrev pub span_of_both : KeySpan → KeySpan → KeySpan
span_of_both a b = record { low = lower_of a.low b.low; high = higher_of a.high b.high }

-- the hull of a span and others
abbrev pub hull_with : KeySpan → List KeySpan → KeySpan
hull_with a [] = a
hull_with a (b ∷ bs) = hull_with (span_of_both a b) bs

-- the span of one key
abbrev pub span_of_key : List ℕ → KeySpan
span_of_key key = record { low = key; high = key }

-- the span of the keys of versions; where there is none, that of the empty key
abbrev pub span_of : List Version → KeySpan
span_of [] = span_of_key []
span_of (v ∷ []) = span_of_key v.key
span_of (v ∷ w ∷ vs) = span_of_both (span_of_key v.key) (span_of (w ∷ vs))
