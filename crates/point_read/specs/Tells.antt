-- What a read tells.
use Rattle.std.specs.Prelude.{ℕ, Bool, false, nat_lt, List, Option, Some, None, option_map}
use Rattle.ts_key.specs.declared.lent.Hit.{Hit}
use Rattle.ts_key.specs.declared.numbers.Family.{Family}
use Rattle.ts_key.specs.declared.numbers.Ts.{Ts}
use Rattle.ts_key.specs.Items.{Item, found}
use Rattle.udt_model.specs.declared.read.Answer.TheVariants as answers
use Rattle.udt_model.specs.declared.read.ModelRead.{ModelRead}
use Rattle.udt_model.specs.declared.read.ModelRead.TheVariants as reads
use Rattle.udt_model.specs.Reads.{answer_of}
use Rattle.super_version.specs.Contents.{version_of_item}
use Rattle.point_read.specs.declared.read.Read.{Read}
use Rattle.point_read.specs.declared.read.Read.TheVariants.{Collapsed, Absent, Found}

-- the read of the model that it is
abbrev pub model_read : Read → ModelRead
model_read (Collapsed floor) = reads.Collapsed floor
model_read Absent = reads.Told answers.Absent
model_read (Found value stamp) = reads.Told (answers.Found value.now stamp)

-- what the newest version that a read sees answers, where there is one
abbrev pub answered : Ts → Family → List ℕ → Option Hit → ModelRead
answered floor family key hit = reads.Told (answer_of floor (option_map (version_of_item family) (found key hit)))

-- there is one, and its timestamp is above this one
abbrev pub is_item_above : Option Item → ℕ → Bool
is_item_above None ts = false
is_item_above (Some v) ts = nat_lt ts v.sort_key.ts
