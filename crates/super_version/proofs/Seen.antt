-- What reads see after a change.
use Rattle.std.proofs.Common.{◌≡◌, ℕ, List, ◌++◌, refl, sym, ap, ◌∙◌, append_assoc}
use Rattle.std.specs.List.{flat_map}
use Rattle.std.proofs.lemmas.List.{map-append}
use Rattle.ts_key.specs.declared.numbers.Ts.{Ts}
use Rattle.ts_key.specs.declared.version.Version.{Version}
use Rattle.ts_key.specs.Items.{Item, item_of, items_of}
use Rattle.ts_key.specs.Visible.{is_item_seen, newer_item, visible_item}
use Rattle.sorted_run.specs.Sorts.{sorted}
use Rattle.memtable.specs.Memtables.{versions_of_memtable}
use Rattle.memtable.proofs.Bests.{visible-sorted}
use Rattle.super_version.specs.declared.family.FamilyState.{FamilyState}
use Rattle.super_version.specs.Changes.{family_with_floor, family_with_seal}
use Rattle.super_version.specs.Contents.{items_of_family, items_of_level, items_of_memtable}
use Rattle.super_version.specs.Writes.{IsWrittenTo}
use Rattle.super_version.proofs.Greatest.{tested-append}

pub floor_same : (floor : Ts) (f : FamilyState) → items_of_family (family_with_floor floor f) ≡ items_of_family f
floor_same floor f = refl

pub seal_same : (f : FamilyState) → items_of_family (family_with_seal f) ≡ items_of_family f
seal_same f = append_assoc (items_of_memtable f.active) (flat_map items_of_memtable f.sealed) (flat_map items_of_level f.levels)

-- sorted or not, the versions in front are seen alike
front_sorted : (vs : List Version) (rest : List Item) (key : List ℕ) (t s : ℕ) → visible_item (items_of (sorted vs) ++ rest) key t s ≡ visible_item (items_of vs ++ rest) key t s
front_sorted vs rest key t s =
    tested-append (is_item_seen key t s) (items_of (sorted vs)) rest
    ∙ ap (λ o. newer_item o (visible_item rest key t s)) (visible-sorted vs key t s)
    ∙ sym (tested-append (is_item_seen key t s) (items_of vs) rest)

pub write_seen : (vs : List Version) (f g : FamilyState) → IsWrittenTo vs f g → (key : List ℕ) (t s : ℕ) → visible_item (items_of_family g) key t s ≡ visible_item (items_of vs ++ items_of_family f) key t s
write_seen vs f g w key t s =
    let rest = flat_map items_of_memtable f.sealed ++ flat_map items_of_level f.levels in
    let old = versions_of_memtable f.active in
    ap (λ (h : FamilyState). visible_item (items_of_family h) key t s) w.others
    ∙ ap (λ (us : List Version). visible_item (items_of us ++ rest) key t s) w.versions
    ∙ front_sorted (vs ++ old) rest key t s
    ∙ ap (λ (is : List Item). visible_item (is ++ rest) key t s) (map-append item_of vs old)
    ∙ ap (λ (is : List Item). visible_item is key t s) (append_assoc (items_of vs) (items_of old) rest)
