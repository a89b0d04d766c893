-- Laws of scans.
use Rattle.std.specs.Prelude.{◌≡◌}
use Rattle.ts_key.specs.declared.numbers.Family.{Family}
use Rattle.ts_key.specs.declared.numbers.Ts.{Ts}
use Rattle.ts_key.specs.declared.numbers.Seq.{Seq}
use Rattle.ts_key.specs.Lists.{stored_items}
use Rattle.super_version.specs.declared.family.FamilyState.{FamilyState}
use Rattle.super_version.specs.Contents.{versions_in, version_of_item}
use Rattle.udt_model.specs.Scans.{Range, rows_of}
use Rattle.std.specs.Prelude.{map}
use Rattle.ts_iterator.specs.Sources.{runs_and_tables}

-- the runs and tables of a family merged stand for its lists: a scan of either has the same rows
abbrev pub MergedStandsForLists : Type 0
MergedStandsForLists = (family : Family) (f : FamilyState) (floor : Ts) (range : Range) (t : Ts) (s : Seq) → rows_of (map (version_of_item family) (stored_items (runs_and_tables f))) floor family range t s ≡ rows_of (versions_in family f) floor family range t s
