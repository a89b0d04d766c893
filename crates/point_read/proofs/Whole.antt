-- A read of whole versions sees what it sees without their family.
use Rattle.std.proofs.Common.{◌≡◌, ℕ, ◌<◌, ◌≤◌, Bool, true, false, cond, List, [], ◌∷◌, map, Option, Some, None, refl, sym, ap, ◌∙◌, inl, inr, arith}
use Rattle.std.specs.Prelude.{nat_lt, option_map, ◌==◌}
use Rattle.std.specs.Str.{bytes_eq}
use Rattle.std.proofs.lemmas.Bool.{cases_Bool}
use Rattle.std.proofs.lemmas.Bool.Decides.{nat_tests}
use Rattle.ts_key.specs.declared.numbers.Family.{Family}
use Rattle.ts_key.specs.declared.numbers.Seq.{Seq}
use Rattle.ts_key.specs.declared.numbers.Ts.{Ts}
use Rattle.ts_key.specs.declared.version.Version.{Version}
use Rattle.ts_key.specs.declared.lent.Hit.{Hit}
use Rattle.ts_key.specs.Items.{Item, found}
use Rattle.ts_key.specs.Visible.{is_item_newer, newer_item, visible_item}
use Rattle.udt_model.specs.Versions as model
use Rattle.udt_model.specs.declared.read.ModelRead.TheVariants as reads
use Rattle.udt_model.specs.Reads.{answer_of, read}
use Rattle.super_version.specs.declared.family.FamilyState.{FamilyState}
use Rattle.super_version.specs.Contents.{items_of_family, version_of_item, versions_in}
use Rattle.point_read.specs.Tells.{answered}

same_number : (n : ℕ) → (n == n) ≡ true
same_number n = grind (arith, nat_tests)

module _ (family : Family) where
  abbrev whole : Item → Version
  whole v = version_of_item family v

  whole-newer : (a b : Option Item) → model.newer (option_map whole a) (option_map whole b) ≡ option_map whole (newer_item a b)
  whole-newer None b = refl
  whole-newer (Some a) None = refl
  whole-newer (Some a) (Some b) = out (is_item_newer b a) a b
    where
      out : (c : Bool) (a b : Item) → cond c (Some (whole b)) (Some (whole a)) ≡ option_map whole (cond c (Some b) (Some a))
      out true a b = refl
      out false a b = refl

  pub whole-visible : (vs : List Item) (key : List ℕ) (t : Ts) (s : Seq) → model.visible (map whole vs) family key t s ≡ option_map whole (visible_item vs key t.0 s.0)
  whole-visible [] key t s = refl
  whole-visible (v ∷ vs) key t s =
      let same : (family.0 == family.0) ≡ true = same_number family.0 in
      let rest = whole-visible vs key t s in
      elim (cases_Bool (bytes_eq v.sort_key.key key)) [
        | inl y ↦ elim (cases_Bool (model.is_within t s (whole v))) [
          | inl z ↦ rw (same, y, z) (ap (model.newer (Some (whole v))) rest ∙ whole-newer (Some v) (visible_item vs key t.0 s.0))
          | inr z ↦ rw (same, y, z) rest
        ]
        | inr y ↦ rw (same, y) rest
      ]

-- ---- what a read answers

pub collapses : (family : Family) (f : FamilyState) (key : List ℕ) (t : Ts) (s : Seq) → t.0 < f.floor.0 → reads.Collapsed f.floor ≡ read (versions_in family f) f.floor family key t s
collapses family f key t s l = let y : nat_lt t.0 f.floor.0 ≡ true = grind (arith, nat_tests) in rw y refl

pub answers : (family : Family) (f : FamilyState) (key : List ℕ) (t : Ts) (s : Seq) (hit : Option Hit) → f.floor.0 ≤ t.0 → found key hit ≡ visible_item (items_of_family f) key t.0 s.0 → answered f.floor family key hit ≡ read (versions_in family f) f.floor family key t s
answers family f key t s hit l e =
    let y : nat_lt t.0 f.floor.0 ≡ false = grind (arith, nat_tests) in
    rw y (ap (λ (o : Option Version). reads.Told (answer_of f.floor o)) (ap (option_map (version_of_item family)) e ∙ sym (whole-visible family (items_of_family f) key t s)))
