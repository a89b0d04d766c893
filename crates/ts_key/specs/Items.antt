-- Versions without their family.
use Rattle.std.specs.Prelude.{◌≡◌, ℕ, ◌≤◌, List, [], length, map, Option, Some, None}
use Rattle.ts_key.specs.Order.{SortKey, sort_key_of}
use Rattle.ts_key.specs.declared.limits.TheConstants.{VALUE_LIMIT}
use Rattle.ts_key.specs.declared.version.Kind.{Kind}
use Rattle.ts_key.specs.declared.version.Kind.TheVariants as kinds
use Rattle.ts_key.specs.declared.version.Op.{Op}
use Rattle.ts_key.specs.declared.version.Op.TheVariants as ops
use Rattle.ts_key.specs.declared.version.Version.{Version}
use Rattle.ts_key.specs.declared.lent.KeyRef.{KeyRef}
use Rattle.ts_key.specs.declared.lent.Hit.{Hit}

pub record Item : Type 0 where
  pub sort_key : SortKey
  pub kind : Kind
  pub value : List ℕ

abbrev pub kind_of : Op → Kind
kind_of ops.Del = kinds.Del
kind_of (ops.Put value) = kinds.Put

abbrev pub value_of : Op → List ℕ
value_of ops.Del = []
value_of (ops.Put value) = value

abbrev pub item_of : Version → Item
item_of v = record { sort_key = record { key = v.key; ts = v.ts.0; seq = v.seq.0 }; kind = kind_of v.op; value = value_of v.op }

abbrev pub items_of : List Version → List Item
items_of vs = map item_of vs

-- what a key and a hit show
abbrev pub shown : KeyRef × Hit → Item
shown x = record { sort_key = sort_key_of x.0; kind = x.1.kind; value = x.1.value.now }

abbrev pub shown_by : Option (KeyRef × Hit) → Option Item
shown_by None = None
shown_by (Some x) = Some (shown x)

-- what a hit at a key shows
abbrev pub hit_at : List ℕ → Hit → Item
hit_at key h = record { sort_key = record { key = key; ts = h.ts.0; seq = h.seq.0 }; kind = h.kind; value = h.value.now }

abbrev pub found : List ℕ → Option Hit → Option Item
found key None = None
found key (Some h) = Some (hit_at key h)

-- a version of this kind may have this value: a delete's is empty
abbrev pub IsValue : Kind → List ℕ → Type 0
IsValue kinds.Del value = value ≡ []
IsValue kinds.Put value = length value ≤ VALUE_LIMIT
