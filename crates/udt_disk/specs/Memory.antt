-- The source and the sink in memory, as contracts see them.
use Rattle.std.specs.Prelude.{ℕ, ◌-◌, ◌==◌, Bool, false, List, Option, Some, None, option_map}

-- a source: the bytes that are left, in how many reads from now the one comes that is made to fail, and how many were
pub record Reading : Type 0 where
  pub left : List ℕ
  pub fails_in : Option ℕ
  pub faults : ℕ

-- a sink: the bytes that it took, in how many writes from now the one comes that is made to fail, how many were, and
-- how many found no memory
pub record Writing : Type 0 where
  pub taken : List ℕ
  pub fails_in : Option ℕ
  pub failed : ℕ
  pub starved : ℕ

-- this call is the one that is made to fail
abbrev pub fails_now : Option ℕ → Bool
fails_now None = false
fails_now (Some n) = n == 1

-- in how many calls the one comes that is made to fail, after this call; at 0 none comes any more
abbrev pub fails_later : Option ℕ → Option ℕ
fails_later fails_in = option_map (λ n. n - 1) fails_in
