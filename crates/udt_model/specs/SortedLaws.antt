-- What ties the stored order, and what a read sees in it, to the order of stored keys.
use Rattle.std.specs.Prelude.{◌≡◌, ℕ, ◌&&◌, List}
use Rattle.std.specs.List.{AllByRecursion}
use Rattle.std.specs.Option.{option_map}
use Rattle.ts_key.specs.declared.numbers.Family.{Family}
use Rattle.ts_key.specs.declared.numbers.Ts.{Ts}
use Rattle.ts_key.specs.declared.numbers.Seq.{Seq}
use Rattle.ts_key.specs.declared.version.Version.{Version}
use Rattle.ts_key.specs.Order as keys
use Rattle.ts_key.specs.Items.{item_of, items_of}
use Rattle.ts_key.specs.Lists as lists
use Rattle.ts_key.specs.Visible as seen
use Rattle.udt_model.specs.Versions.{newest_of, is_of, of_key, is_within, visible}
use Rattle.udt_model.specs.Orders.{is_version_before, stored}

-- versions stand as their sort keys do
abbrev pub OrdersAgree : Type 0
OrdersAgree = (a b : Version) → is_version_before a b ≡ keys.is_before (item_of a).sort_key (item_of b).sort_key

-- sorting forgets the families alone
abbrev pub SortingAgrees : Type 0
SortingAgrees = (w : List Version) → items_of (stored w) ≡ lists.stored_items (items_of w)

-- of one family a read sees the same with the families forgotten
abbrev pub VisibleAgrees : Type 0
VisibleAgrees = (w : List Version) (family : Family) (key : List ℕ) (t : Ts) (s : Seq) → AllByRecursion (λ v. v.family.0 ≡ family.0) w → option_map item_of (visible w family key t s) ≡ seen.visible_item (items_of w) key t.0 s.0

-- in the stored order the first version that a read may see is the newest
abbrev pub FirstIsVisible : Type 0
FirstIsVisible = (w : List Version) (family : Family) (key : List ℕ) (t : Ts) (s : Seq) → lists.IsOrdered (items_of w) → visible w family key t s ≡ seen.first_of (λ v. is_of family key v && is_within t s v) w

-- and the first of a key the newest of the key
abbrev pub FirstIsNewest : Type 0
FirstIsNewest = (w : List Version) (family : Family) (key : List ℕ) → lists.IsOrdered (items_of w) → newest_of (of_key w family key) ≡ seen.first_of (is_of family key) w
