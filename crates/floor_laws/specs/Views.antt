-- What a view of an earlier state shows in a later one.
use Rattle.std.specs.Prelude.{◌≡◌, ℕ, List, Option, Some}
use Rattle.ts_key.specs.declared.numbers.Family.{Family}
use Rattle.ts_key.specs.declared.numbers.Ts.{Ts}
use Rattle.udt_model.specs.Reads.{read}
use Rattle.udt_model.specs.State.{State, FamilyState, family_at, place_at, sight}
use Rattle.udt_model.specs.Names.{View, pinned}
use Rattle.udt_model.specs.Steps.{got, reply_of_read}
use Rattle.floor_laws.specs.Sound.{lists_of}

-- the state in which reads of the view are judged
abbrev pub view_state : State → View → State
view_state now view = pinned now (Some view)

-- a get in the state p answers what a read of the lists of a family does, as they are in the state `at`
abbrev pub GetsFromLists : State → State → Family → FamilyState → List ℕ → Ts → Option ℕ → Type 0
GetsFromLists at p family f key t snap = got p (place_at p family) key t (sight p snap) ≡ reply_of_read (read (lists_of at family f) f.head.floor family key t (sight p snap))

-- The view shows in the state `now` what was in the state `at`: the versions, the last sequence, and the families with their floors. And
-- each get in it, with whatever snapshot of now, answers from the lists that were there.
pub record ShowsPin (at now : State) (view : View) : Type 0 where
  pub versions : (view_state now view).versions ≡ at.versions
  pub last : (view_state now view).last ≡ at.last
  pub places : (family : Family) → place_at (view_state now view) family ≡ place_at at family
  pub gets : (family : Family) (f : FamilyState) (key : List ℕ) (t : Ts) (snap : Option ℕ) → family_at at family ≡ Some f → GetsFromLists at (view_state now view) family f key t snap
