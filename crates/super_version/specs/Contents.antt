-- What the lists of a family hold together.
use Rattle.std.specs.Prelude.{ℕ, List, ◌++◌, map, Option, Some, None}
use Rattle.std.specs.List.{flat_map}
use Rattle.ts_key.specs.declared.numbers.Family.{Family}
use Rattle.ts_key.specs.declared.version.Kind.{Kind}
use Rattle.ts_key.specs.declared.version.Kind.TheVariants as kinds
use Rattle.ts_key.specs.declared.version.Op.{Op}
use Rattle.ts_key.specs.declared.version.Op.TheVariants as ops
use Rattle.ts_key.specs.declared.version.Version.{Version}
use Rattle.ts_key.specs.Items.{Item, items_of}
use Rattle.ts_key.specs.Visible.{newest_ts}
use Rattle.memtable.specs.Memtables.{Memtable, versions_of_memtable}
use Rattle.super_version.specs.declared.family.FamilyState.{FamilyState}
use Rattle.super_version.specs.Live.{Live}

abbrev pub items_of_memtable : Memtable → List Item
items_of_memtable m = items_of (versions_of_memtable m)

abbrev pub items_of_table : Live → List Item
items_of_table t = t.table.contents.items

-- the tables of a level
abbrev pub items_of_level : List Live → List Item
items_of_level tables = flat_map items_of_table tables

-- the active memtable, the sealed ones, and the tables level by level
abbrev pub items_of_family : FamilyState → List Item
items_of_family f = items_of_memtable f.active ++ (flat_map items_of_memtable f.sealed ++ flat_map items_of_level f.levels)

-- the greatest timestamp of a key in all lists of a family, where there is the family
abbrev pub newest_in_family : Option FamilyState → List ℕ → Option ℕ
newest_in_family None key = None
newest_in_family (Some f) key = newest_ts (items_of_family f) key

-- ---- whole versions

abbrev pub op_of_kind : Kind → List ℕ → Op
op_of_kind kinds.Del value = ops.Del
op_of_kind kinds.Put value = ops.Put value

-- the version of a family that an item is
abbrev pub version_of_item : Family → Item → Version
version_of_item family v = record { family = family; key = v.sort_key.key; ts = record { 0 = v.sort_key.ts }; seq = record { 0 = v.sort_key.seq }; op = op_of_kind v.kind v.value }

-- all versions of a family, list after list
abbrev pub versions_in : Family → FamilyState → List Version
versions_in family f = map (version_of_item family) (items_of_family f)
