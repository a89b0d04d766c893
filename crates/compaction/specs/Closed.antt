-- Plans are closed: they leave out no table that has to be taken in, and say exactly which spans lie deeper.
use Rattle.std.specs.Prelude.{◌≡◌, ℕ, List, map, Some}
use Rattle.std.specs.List.{AllByRecursion}
use Rattle.ts_key.specs.declared.numbers.Family.{Family}
use Rattle.ts_key.specs.Lists.{IsSorted}
use Rattle.udt_model.specs.State.{State, LiveTable, tables_of}
use Rattle.udt_model.specs.Jobs.{IsClosed, deeper_of}
use Rattle.floor_laws.specs.Tables.{AreTablesOrdered}
use Rattle.super_version.specs.declared.family.FamilyState.{FamilyState}
use Rattle.super_version.specs.declared.jobs.Plan.{Plan}
use Rattle.super_version.specs.Contents.{version_of_item}
use Rattle.compaction.specs.Plans.{Leveled, picked_plan, tables_in, whole_plan}

-- a live table as the model has it
abbrev pub model_table : Family → Leveled → LiveTable
model_table family t = record { number = t.table.number; level = t.level; versions = map (version_of_item family) t.table.table.contents.items }

-- the state has the tables of the family, in order, and each holds its versions in the stored order
pub record ShowsTables (m : State) (family : Family) (f : FamilyState) : Type 0 where
  pub tables : tables_of m family ≡ map (model_table family) (tables_in f)
  pub ordered : AreTablesOrdered (tables_of m family)
  pub sorted : AllByRecursion (λ (t : Leveled). IsSorted t.table.table.contents.items) (tables_in f)

abbrev pub input_numbers : Plan → List ℕ
input_numbers plan = map (λ t. t.number) plan.inputs

-- a compaction of the state may take these inputs to this level, and the deeper spans are those of the tables below it that it leaves out
pub record IsPlanOf (m : State) (family : Family) (plan : Plan) : Type 0 where
  pub family_is : plan.family ≡ family
  pub closed : IsClosed m family (input_numbers plan) plan.level
  pub deeper : plan.deeper ≡ deeper_of m family (input_numbers plan) plan.level

abbrev pub WholePlansAreClosed : Type 0
WholePlansAreClosed = (m : State) (family : Family) (f : FamilyState) (plan : Plan) → ShowsTables m family f → whole_plan family (Some f) ≡ Some plan → IsPlanOf m family plan

abbrev pub PickedPlansAreClosed : Type 0
PickedPlansAreClosed = (m : State) (family : Family) (f : FamilyState) (plan : Plan) → ShowsTables m family f → picked_plan family (Some f) ≡ Some plan → IsPlanOf m family plan
