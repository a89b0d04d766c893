-- Which version a read sees, said without going through the list.
use Rattle.std.specs.Prelude.{◌≡◌, ◌≢◌, ℕ, Bool, false, ◌&&◌, IsTrue, MatchOption, List, AllPairs, Contains, Some}
use Rattle.ts_key.specs.declared.numbers.Family.{Family}
use Rattle.ts_key.specs.declared.numbers.Ts.{Ts}
use Rattle.ts_key.specs.declared.numbers.Seq.{Seq}
use Rattle.ts_key.specs.declared.version.Version.{Version}
use Rattle.udt_model.specs.Versions.{is_newer, is_of, is_within, visible}

-- a read of the key at this timestamp and this sequence may see it
abbrev pub is_seen : Family → List ℕ → Ts → Seq → Version → Bool
is_seen family key t s v = is_of family key v && is_within t s v

-- the list has it, the read may see it, and none that the read may see is newer
pub record IsGreatest (w : List Version) (family : Family) (key : List ℕ) (t : Ts) (s : Seq) (v : Version) : Type 0 where
  pub listed : Contains w v
  pub seen : IsTrue (is_seen family key t s v)
  pub newest : (u : Version) → Contains w u → IsTrue (is_seen family key t s u) → is_newer u v ≡ false

-- a read sees the greatest, and nothing only where there is nothing that it may see
abbrev pub SeesTheGreatest : Type 0
SeesTheGreatest = (w : List Version) (family : Family) (key : List ℕ) (t : Ts) (s : Seq)
    → MatchOption (visible w family key t s) ((u : Version) → Contains w u → is_seen family key t s u ≡ false) (IsGreatest w family key t s)

-- where no two versions have one sequence, there is one greatest
abbrev pub HasOneGreatest : Type 0
HasOneGreatest = (w : List Version) (family : Family) (key : List ℕ) (t : Ts) (s : Seq) (v : Version)
    → AllPairs (λ (a b : Version). a.seq.0 ≢ b.seq.0) w → IsGreatest w family key t s v → visible w family key t s ≡ Some v
