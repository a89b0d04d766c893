use Rattle.std.proofs.Common.{◌≡◌, ◌<◌, ◌^◌, List, ℕ, length, refl, sym, ap, subst, ◌∙◌, arith}
use Rattle.std.specs.Prelude.{Ok, Err, None}
use Rattle.std.proofs.lemmas.Result.{err_from_is_err_and}
use Rattle.block_table.specs.Tables.{properties}
use Rattle.block_table.specs.Parts.{ReadsParts}
use Rattle.block_table.specs.Indexes.{ReadsIndex}
use Rattle.block_table.specs.Reads.{ReadsContents}
use Rattle.block_table.proofs.Reading.{no_parts, longer, moved_blocks, some_read, no_head, no_index, blocks_failed, other_properties, is_read}
use Rattle.block_table.proofs.table.read_contents.Goals as goal

pub returns-in_default : goal.returns-in_default
returns-in_default c = no_parts c.args.image.now (subst (λ (b : List ℕ). ReadsParts b None) c.as_slice.ensures c.in_default.ensures.parts)

pub returns-in_default-head_of : goal.returns-in_default-head_of
returns-in_default-head_of c =
    let x = c.in-Some.parts in
    let is = sym c.as_slice.ensures ∙ c.in-Some.ensures.parts in
    let small : length c.args.image.now < 2 ^ 64 = omega (arith, ap length c.as_slice.ensures, c.in-Some.ensures.bound) in
    no_head c.args.image.now x.blocks.now x.index.now x.properties.now is small c.in_default-head_of.ensures.head

pub returns-in-None : goal.returns-in-None
returns-in-None c =
    let x = c.in-Some.parts in
    let is = sym c.as_slice.ensures ∙ c.in-Some.ensures.parts in
    let small : length c.args.image.now < 2 ^ 64 = omega (arith, ap length c.as_slice.ensures, c.in-Some.ensures.bound) in
    no_index c.args.image.now x.blocks.now x.index.now x.properties.now is small (subst (ReadsIndex x.index.now) c.in-None.is c.in_ok-handles.ensures)

pub read_blocks-requires : goal.read_blocks-requires
read_blocks-requires c =
    let x = c.in-Some.parts in
    let is = sym c.as_slice.ensures ∙ c.in-Some.ensures.parts in
    let small : length c.args.image.now < 2 ^ 64 = omega (arith, ap length c.as_slice.ensures, c.in-Some.ensures.bound) in
    omega (arith, ap length c.in_ok-clone.ensures.cases, longer x.blocks.now x.index.now x.properties.now, ap length is)

pub returns-in_err-versions : goal.returns-in_err-versions
returns-in_err-versions c =
    let image = c.args.image.now in
    let x = c.in-Some.parts in
    let is = sym c.as_slice.ensures ∙ c.in-Some.ensures.parts in
    let small : length c.args.image.now < 2 ^ 64 = omega (arith, ap length c.as_slice.ensures, c.in-Some.ensures.bound) in
    let head = c.in-Some-head_of.head in
    let hs = c.in-Some-2.handles.items in
    let index = subst (ReadsIndex x.index.now) c.in-Some-2.is c.in_ok-handles.ensures in
    let told = err_from_is_err_and c.from_residual-in_err-versions.result c.from_residual-in_err-versions.ensures.1 in
    let e = c.in_err-versions.field-0.0 in
    let read = moved_blocks head.form _ image _ (length x.blocks.now) _ hs (Err e) c.in_ok-clone.ensures.cases refl c.deref.ensures.value c.in_err-versions.ensures in
    subst (ReadsContents image) (sym (told.1 ∙ ap Err told.2))
    (blocks_failed image x.blocks.now x.index.now x.properties.now is small head c.in-Some-head_of.ensures.head hs index.0 index.1 e read)

pub properties_in-requires : goal.properties_in-requires
properties_in-requires c = some_read _ _ _ _ _ c.in_ok-versions.ensures

pub returns-then-not-branch : goal.returns-then-not-branch
returns-then-not-branch c =
    let image = c.args.image.now in
    let x = c.in-Some.parts in
    let is = sym c.as_slice.ensures ∙ c.in-Some.ensures.parts in
    let small : length c.args.image.now < 2 ^ 64 = omega (arith, ap length c.as_slice.ensures, c.in-Some.ensures.bound) in
    let head = c.in-Some-head_of.head in
    let hs = c.in-Some-2.handles.items in
    let items = c.in_ok-versions.versions in
    let index = subst (ReadsIndex x.index.now) c.in-Some-2.is c.in_ok-handles.ensures in
    let own = moved_blocks head.form _ image _ (length x.blocks.now) _ hs (Ok items) c.in_ok-clone.ensures.cases refl c.deref.ensures.value c.in_ok-versions.ensures in
    let wrong : x.properties.now ≡ properties c.in_ok-p.p → ⊥ = λ same. (let t = c.in_ok-is_spelled.ensures.1 same in let q = c.if-not-branch.true in cc) in
    other_properties image x.blocks.now x.index.now x.properties.now is small head c.in-Some-head_of.ensures.head hs index.0 index.1 items own c.in_ok-p.p c.in_ok-p.ensures wrong

pub returns : goal.returns
returns c =
    let image = c.args.image.now in
    let x = c.in-Some.parts in
    let is = sym c.as_slice.ensures ∙ c.in-Some.ensures.parts in
    let small : length c.args.image.now < 2 ^ 64 = omega (arith, ap length c.as_slice.ensures, c.in-Some.ensures.bound) in
    let head = c.in-Some-head_of.head in
    let hs = c.in-Some-2.handles.items in
    let items = c.in_ok-versions.versions in
    let index = subst (ReadsIndex x.index.now) c.in-Some-2.is c.in_ok-handles.ensures in
    let own = moved_blocks head.form _ image _ (length x.blocks.now) _ hs (Ok items) c.in_ok-clone.ensures.cases refl c.deref.ensures.value c.in_ok-versions.ensures in
    is_read image x.blocks.now x.index.now x.properties.now is small head c.in-Some-head_of.ensures.head hs index.0 index.1 items own c.in_ok-p.p c.in_ok-p.ensures c.in-Some-head_of.ensures.fits (c.in_ok-is_spelled.ensures.0 c.if-not-branch.false)
