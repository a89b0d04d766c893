-- A table is known by its bytes.
use Rattle.std.proofs.Common.{◌≡◌, ℕ, ◌+◌, ◌^◌, ◌<◌, List, [], ◌∷◌, length, get_or, drop, refl, sym, ap, subst, ◌∙◌, arith}
use Rattle.std.specs.List.{AllByRecursion}
use Rattle.ts_key.specs.Items.{Item}
use Rattle.ts_key.specs.Lists.{joined_lists}
use Rattle.ts_key.specs.declared.version.Form.{Form}
use Rattle.data_block.specs.Grammar.{block, IsBlock}
use Rattle.data_block.proofs.Faulting.{blocks_unique}
use Rattle.data_block.proofs.Fielded.{cut}
use Rattle.block_table.specs.declared.handle.BlockHandle.{BlockHandle}
use Rattle.block_table.specs.Contents.{Contents, properties_of}
use Rattle.block_table.specs.Tables.{blocks, handles, index, properties, IsTable}
use Rattle.block_table.specs.Gathering.{handle_of}
use Rattle.block_table.proofs.Cuts.{length-handles}
use Rattle.block_table.proofs.Handles.{index_once}
use Rattle.block_table.proofs.Heads.{ended, number_once, form_once}
use Rattle.block_table.proofs.Reading.{told, own_handles}

-- blocks of the same handles with the same bytes are the same
cuts_once : (form : Form) (at : ℕ) (xs ys : List (List Item)) → AllByRecursion (IsBlock form) xs → AllByRecursion (IsBlock form) ys → handles form at xs ≡ handles form at ys → blocks form xs ≡ blocks form ys → xs ≡ ys
cuts_once form at [] [] a b h e = refl
cuts_once form at [] (y ∷ ys) a b h e = absurd (omega (arith, ap length h, length-handles form at (y ∷ ys)))
cuts_once form at (x ∷ xs) [] a b h e = absurd (omega (arith, ap length h, length-handles form at (x ∷ xs)))
cuts_once form at (x ∷ xs) (y ∷ ys) a b h e =
    let len : length (block form x) ≡ length (block form y) = ap (λ (hs : List BlockHandle). (get_or hs 0 (handle_of form at x)).length) h in
    let parts = cut (block form x) (block form y) (blocks form xs) (blocks form ys) len e in
    let first : x ≡ y = blocks_unique form x y a.0 b.0 parts.0 in
    let next : handles form (at + length (block form x)) xs ≡ handles form (at + length (block form x)) ys = ap (drop 1) h ∙ ap (λ (n : ℕ). handles form (at + n) ys) (sym len) in
    let rest : xs ≡ ys = cuts_once form (at + length (block form x)) xs ys a.1 b.1 next parts.1 in
    λ i. first i ∷ rest i

-- an image is the table of one contents alone
pub tables_once : (image : List ℕ) (t u : Contents) → length image < 2 ^ 64 → IsTable t image → IsTable u image → t ≡ u
tables_once image t u small x y =
    let bs = blocks t.form x.cuts in
    let is = index (handles t.form 0 x.cuts) in
    let ps = properties (properties_of t) in
    let w = told image bs is ps x.spelled small u y in
    let a = ended ps (properties_of t) refl in
    let b = ended ps (properties_of u) w.2 in
    let family : t.family ≡ u.family = number_once 4 t.family u.family (omega (arith, x.blocks.family)) (omega (arith, y.blocks.family)) (sym a.family ∙ b.family) in
    let form : t.form ≡ u.form = form_once t.form u.form (sym a.form ∙ b.form) in
    let floor : t.collected_by ≡ u.collected_by = number_once 8 t.collected_by u.collected_by (omega (arith, x.blocks.collected_by)) (omega (arith, y.blocks.collected_by)) (sym a.collected_by ∙ b.collected_by) in
    let its : handles t.form 0 x.cuts ≡ handles u.form 0 y.cuts = index_once (handles t.form 0 x.cuts) (handles u.form 0 y.cuts) (own_handles image bs is ps x.spelled small t x) (own_handles image bs is ps x.spelled small u y) w.1 in
    let each : AllByRecursion (IsBlock t.form) y.cuts = subst (λ (f : Form). AllByRecursion (IsBlock f) y.cuts) (sym form) y.blocks.each in
    let same-handles : handles t.form 0 x.cuts ≡ handles t.form 0 y.cuts = its ∙ ap (λ (f : Form). handles f 0 y.cuts) (sym form) in
    let same-blocks : blocks t.form x.cuts ≡ blocks t.form y.cuts = w.0 ∙ ap (λ (f : Form). blocks f y.cuts) (sym form) in
    let cuts : x.cuts ≡ y.cuts = cuts_once t.form 0 x.cuts y.cuts x.blocks.each each same-handles same-blocks in
    let items : t.items ≡ u.items = x.blocks.joins ∙ ap joined_lists cuts ∙ sym y.blocks.joins in
    λ i. record { family = family i; form = form i; collected_by = floor i; items = items i }
