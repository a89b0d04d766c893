-- The state of the core.
use Rattle.std.specs.Prelude.{ℕ, List, [], map, None}
use Rattle.ts_key.specs.declared.numbers.Ts.{Ts}
use Rattle.ts_key.specs.declared.numbers.Seq.{Seq}
use Rattle.ts_key.specs.declared.version.Form.{Form}
use Rattle.ts_key.specs.declared.version.Version.{Version}
use Rattle.udt_model.specs.declared.line.FamilyHead.{FamilyHead}
use Rattle.udt_model.specs.State.{State, live_numbers, unflushed}

-- what a view keeps of a family: its form, its floor, and the versions of its lists
pub record PinnedFamily : Type 0 where
  pub form : Form
  pub floor : Ts
  pub versions : List Version

-- a view: the number of its pin, and the last sequence, the families and the snapshots' sequences there
pub record PinnedView : Type 0 where
  pub number : ℕ
  pub last : Seq
  pub families : List PinnedFamily
  pub seqs : List Seq

-- The store, with the list of every version that was ever written; the views, each as it was pinned; and how many events there were.
-- A table's number counts as used while the table is live.
pub record CoreState : Type 0 where
  pub store : State
  pub pins : List PinnedView
  pub events : ℕ

-- with the numbers of its live tables as the used ones
abbrev pub with_live_numbers : State → State
with_live_numbers m = record m { used = live_numbers m }

-- a family of this form has no name, floor 0 and no version
abbrev pub new_head : Form → FamilyHead
new_head form = record { name = []; form = form; floor = record { 0 = 0 } }

-- the core before every event, with families of these forms
abbrev pub fresh_core : List Form → CoreState
fresh_core forms = record { store = unflushed (map new_head forms) [] (record { 0 = 0 }) None; pins = []; events = 0 }
