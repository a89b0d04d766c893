-- Where versions stand, and the stored order.
use Rattle.std.specs.Prelude.{ℕ, Bool, List}
use Rattle.std.specs.declared.cmp.Ordering.{Ordering}
use Rattle.std.specs.Ordering.{then_cmp, on, flip_args, nat_cmp, is_lt}
use Rattle.std.specs.Cmp.Lexicographic.{slice_cmp}
use Rattle.ts_key.specs.declared.lent.KeyRef.{KeyRef}

-- what versions are sorted by
pub record SortKey : Type 0 where
  pub key : List ℕ
  pub ts : ℕ
  pub seq : ℕ

abbrev pub sort_key_of : KeyRef → SortKey
sort_key_of k = record { key = k.key.now; ts = k.ts.0; seq = k.seq.0 }

-- the key bytewise ascending, then the timestamp and then the sequence, the larger first
abbrev pub sort_cmp : SortKey → SortKey → Ordering
sort_cmp = then_cmp (on (λ p. p.key) (slice_cmp nat_cmp)) (then_cmp (flip_args (on (λ p. p.ts) nat_cmp)) (flip_args (on (λ p. p.seq) nat_cmp)))

-- a stands before b
abbrev pub is_before : SortKey → SortKey → Bool
is_before a b = is_lt (sort_cmp a b)
