-- Texts that are pushed to a buffer.
use Rattle.std.specs.Prelude.{◌≡◌, ℕ, ◌+◌, ◌<◌, ◌≤◌, List, ◌++◌, length, take, vec_len, vec_capacity, Result, OnOk, OnErr}
use Rattle.std.specs.declared.vec.Vec.{Vec}
use Rattle.std.specs.declared.alloc.Global.{Global}

-- The text stands at the buffer's end. The call fails only where the buffer hadn't the room for it, and what it leaves
-- then begins with what was there.
pub record Pushes {T E : Type 0} (old new : Vec ℕ Global) (result : Result T E) (text : List ℕ) : Type 0 where
  pub pushed : OnOk result (new.items ≡ old.items ++ text)
  pub full : OnErr result (vec_capacity old < vec_len old + length text)
  pub front : OnErr result (take (vec_len old) new.items ≡ old.items)
  pub room : vec_capacity old ≤ vec_capacity new
