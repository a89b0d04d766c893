-- A table that is read part by part.
use Rattle.std.proofs.Common.{◌≡◌, ℕ, ◌+◌, ◌^◌, ◌<◌, ◌≤◌, List, [], ◌∷◌, ◌++◌, length, take, refl, sym, ap, subst, ◌∙◌, arith, length-append, append_assoc, Some}
use Rattle.std.specs.List.{AllByRecursion}
use Rattle.std.proofs.lemmas.List.{take_at}
use Rattle.ts_key.specs.Numbers.{number_bytes}
use Rattle.ts_key.specs.Items.{Item}
use Rattle.ts_key.specs.Lists.{IsSorted, joined_lists}
use Rattle.ts_key.specs.declared.version.Form.{Form}
use Rattle.data_block.specs.Grammar.{block}
use Rattle.data_block.proofs.Fielded.{cut}
use Rattle.block_table.specs.declared.handle.BlockHandle.{BlockHandle}
use Rattle.block_table.specs.declared.parts.Head.{Head}
use Rattle.block_table.specs.declared.properties.Properties.{Properties}
use Rattle.block_table.specs.Contents.{Contents, properties_of}
use Rattle.block_table.specs.Tables.{magic, footer, with_footer, blocks, handles, index, properties, IsTable}
use Rattle.block_table.specs.Parts.{ReadsParts, FitsHead, FitsFound, IsFoundHead}
use Rattle.block_table.specs.Indexes.{IsHandle, AreHandles}
use Rattle.std.specs.Prelude.{Result, Err, None}
use Rattle.block_table.specs.declared.fault.TableFault.{TableFault}
use Rattle.block_table.specs.declared.fault.TableFault.TheVariants.{Bad, NoMemory}
use Rattle.block_table.specs.Gathering.{AreBlocksOf, AreOnlyBlocksOf, ReadsBlocks}
use Rattle.block_table.specs.Reads.{contents_in, contents_with, IsOnlyTable, AreOnlyContents, ReadsContents}
use Rattle.block_table.proofs.Cuts.{length-handles}
use Rattle.block_table.proofs.Footers.{Split, footed, length-footer}
use Rattle.block_table.proofs.Handles.{index_once}
use Rattle.block_table.proofs.Newest.{items_of_blocks}
use Rattle.ts_key.specs.StoredKeys.{IsItem}

-- an image has one split into parts
pub parts_once : (b i p c j q : List ℕ) → with_footer b i p ≡ with_footer c j q → length (with_footer b i p) < 2 ^ 64 → (b ≡ c) × (i ≡ j) × (p ≡ q)
unfolding with_footer
parts_once b i p c j q e small =
    let at = length b in
    let to = length b + length i in
    let front = b ++ i ++ p in
    let len : length (front ++ footer at to) ≡ length b + length i + length p + 24 =
    length-append front (footer at to) ∙ omega (arith, length-footer at to, length-append (b ++ i) p, length-append b i) in
    let s : Split (front ++ footer at to) front (footer at to) (number_bytes 8 at) (number_bytes 8 to ++ magic) (number_bytes 8 to) magic at to = record {
      whole = refl;
      size = length-footer at to;
      cut_first = append_assoc (number_bytes 8 at) (number_bytes 8 to) magic;
      cut_second = refl;
      index_at = refl;
      properties_at = refl;
      small_index = omega (arith, len, small);
      small_properties = omega (arith, len, small);
      small = small;
    } in
    let f = footed (front ++ footer at to) front (footer at to) (number_bytes 8 at) (number_bytes 8 to ++ magic) (number_bytes 8 to) magic at to c j q s e in
    let one = cut (b ++ i) (c ++ j) p q (omega (arith, length-append b i, length-append c j, f.properties_at)) f.front_is in
    let two = cut b c i j f.index_at one.0 in
    (two.0, two.1, one.1)

take_blocks : (b i p : List ℕ) → take (length b) (with_footer b i p) ≡ b
unfolding with_footer
take_blocks b i p =
    let foot = footer (length b) (length b + length i) in
    ap (take (length b)) (append_assoc (b ++ i) p foot ∙ append_assoc b i (p ++ foot)) ∙ take_at b (i ++ (p ++ foot)) (length b) refl

pub longer : (b i p : List ℕ) → length b ≤ length (with_footer b i p)
unfolding with_footer
longer b i p =
    let foot = footer (length b) (length b + length i) in
    omega (arith, length-append (b ++ i ++ p) foot, length-append (b ++ i) p, length-append b i)

-- an image with no parts is no table
pub no_parts : (image : List ℕ) → ReadsParts image None → (t : Contents) → IsTable t image → ⊥
no_parts image none t h = none (blocks t.form h.cuts) (index (handles t.form 0 h.cuts)) (properties (properties_of t)) h.spelled

-- the same blocks, told of by other terms
pub moved_blocks : (form : Form) (image other : List ℕ) (end to : ℕ) (hs ks : List BlockHandle) (r : Result (List Item) TableFault) → image ≡ other → end ≡ to → hs ≡ ks → ReadsBlocks form image end hs r → ReadsBlocks form other to ks r
moved_blocks form image other end to hs ks r a b c h =
    subst (λ (xs : List BlockHandle). ReadsBlocks form other to xs r) c (subst (λ (n : ℕ). ReadsBlocks form other n hs r) b (subst (λ (bs : List ℕ). ReadsBlocks form bs end hs r) a h))

some_on : (form : Form) (image : List ℕ) (end : ℕ) (hs : List BlockHandle) (items : List Item) (cuts : List (List Item)) → AreBlocksOf form image end hs cuts → items ≡ joined_lists cuts → 0 < length items
some_on form image end hs items [] a e = absurd (let s = a.some in omega (arith, s))
some_on form image end hs items (vs ∷ rest) a e = let s = a.each.0.some in omega (arith, s, ap length e, length-append vs (joined_lists rest))

-- blocks that were read have a version
pub some_read : (form : Form) (image : List ℕ) (end : ℕ) (hs : List BlockHandle) (items : List Item) → AreOnlyBlocksOf form image end hs items → 0 < length items
some_read form image end hs items o = some_on form image end hs items o.cuts o.are o.joins

-- handles of blocks whose numbers fit
are_handles : (form : Form) (at : ℕ) (cuts : List (List Item)) → AllByRecursion (λ vs. length vs < 2 ^ 32) cuts → at + length (blocks form cuts) < 2 ^ 64 → AllByRecursion IsHandle (handles form at cuts)
are_handles form at [] few small = tt
are_handles form at (vs ∷ cuts) few small =
    let len : length (blocks form (vs ∷ cuts)) ≡ length (block form vs) + length (blocks form cuts) = length-append (block form vs) (blocks form cuts) in
    (record { offset = omega arith; length = omega arith; versions = omega (arith, few.0) }, are_handles form (at + length (block form vs)) cuts few.1 (omega arith))

few_versions : (form : Form) (at : ℕ) (cuts : List (List Item)) → AllByRecursion IsHandle (handles form at cuts) → AllByRecursion (λ vs. length vs < 2 ^ 32) cuts
few_versions form at [] h = tt
few_versions form at (vs ∷ cuts) h = (h.0.versions, few_versions form (at + length (block form vs)) cuts h.1)

module _ (image b i p : List ℕ) (is : image ≡ with_footer b i p) (small : length image < 2 ^ 64) where
  -- the parts of an image that is a table
  pub told : (t : Contents) (h : IsTable t image) → (b ≡ blocks t.form h.cuts) × (i ≡ index (handles t.form 0 h.cuts)) × (p ≡ properties (properties_of t))
  told t h =
      let len : length (with_footer b i p) ≡ length image = ap length (sym is) in
      parts_once b i p (blocks t.form h.cuts) (index (handles t.form 0 h.cuts)) (properties (properties_of t)) (sym is ∙ h.spelled) (omega arith)

  fits_of : (t : Contents) → IsTable t image → FitsHead (properties_of t)
  fits_of t h = record { family = h.blocks.family; collected_by = h.blocks.collected_by }

  pub own_handles : (t : Contents) (h : IsTable t image) → AreHandles (handles t.form 0 h.cuts)
  own_handles t h =
      let short = h.blocks.short in
      let n : length (handles t.form 0 h.cuts) ≡ length h.cuts = length-handles t.form 0 h.cuts in
      let few = h.blocks.count in
      record { each = are_handles t.form 0 h.cuts h.blocks.versions (omega arith); count = omega arith }

  pub no_head : ((q : Properties) → FitsHead q → p ≡ properties q → ⊥) → (t : Contents) → IsTable t image → ⊥
  no_head none t h = let w = told t h in none (properties_of t) (fits_of t h) w.2

  pub no_index : ((hs : List BlockHandle) → AreHandles hs → i ≡ index hs → ⊥) → (t : Contents) → IsTable t image → ⊥
  no_index none t h = let w = told t h in none (handles t.form 0 h.cuts) (own_handles t h) w.1

  module _ (head : Head) (knows : (q : Properties) → FitsHead q → p ≡ properties q → IsFoundHead q (Some head)) (hs : List BlockHandle) (are : AreHandles hs) (index-is : i ≡ index hs) where
    -- the blocks of a table stand where its handles say
    pub its_blocks : (t : Contents) (h : IsTable t image) → AreBlocksOf head.form image (length b) hs h.cuts
    its_blocks t h =
        let w = told t h in
        let k = knows (properties_of t) (fits_of t h) w.2 in
        let same : hs ≡ handles t.form 0 h.cuts = index_once hs (handles t.form 0 h.cuts) are (own_handles t h) (sym index-is ∙ w.1) in
        let x : AreBlocksOf t.form image (length b) hs h.cuts = record {
          some = h.blocks.some;
          cut = h.blocks.cut;
          each = h.blocks.each;
          sorted = subst IsSorted h.blocks.joins h.blocks.sorted;
          handles = same;
          spelled = ap (take (length b)) is ∙ take_blocks b i p ∙ w.0;
        } in
        subst (λ (f : Form). AreBlocksOf f image (length b) hs h.cuts) (sym k.form) x

    -- where no blocks stand there, the image is no table
    pub blocks_failed : (e : TableFault) → ReadsBlocks head.form image (length b) hs (Err e) → ReadsContents image (Err e)
    blocks_failed Bad none = λ t h. none h.cuts (its_blocks t h)
    blocks_failed NoMemory none = tt

    module _ (items : List Item) (own : AreOnlyBlocksOf head.form image (length b) hs items) (q : Properties) (q-is : q ≡ properties_of (contents_with head items)) where
      -- a table has these contents
      one : (t : Contents) → IsTable t image → t ≡ contents_with head items
      one t h =
          let w = told t h in
          let k = knows (properties_of t) (fits_of t h) w.2 in
          let is-items : t.items ≡ items = h.blocks.joins ∙ ap joined_lists (own.only h.cuts (its_blocks t h)) ∙ sym own.joins in
          λ j. record { family = sym k.family j; form = sym k.form j; collected_by = sym k.collected_by j; items = is-items j }

      pub other_properties : (p ≡ properties q → ⊥) → (t : Contents) → IsTable t image → ⊥
      other_properties wrong t h = let w = told t h in wrong (w.2 ∙ ap (λ (u : Contents). properties (properties_of u)) (one t h) ∙ ap properties (sym q-is))

      same_contents : contents_in q items ≡ contents_with head items
      same_contents = ap (λ (r : Properties). contents_in r items) q-is

      pub is_read : FitsFound head → p ≡ properties q → AreOnlyContents image q items
      is_read fits p-is =
          let t = contents_with head items in
          let cuts = own.cuts in
          let a = own.are in
          let items-are = own.joins in
          let n : length (handles head.form 0 cuts) ≡ length cuts = length-handles head.form 0 cuts in
          let count = are.count in
          let b-is : b ≡ blocks head.form cuts = sym (take_blocks b i p) ∙ ap (take (length b)) (sym is) ∙ a.spelled in
          let i-is : i ≡ index (handles head.form 0 cuts) = index-is ∙ ap index a.handles in
          let spelled : image ≡ with_footer (blocks head.form cuts) (index (handles head.form 0 cuts)) (properties (properties_of t)) =
          is ∙ (λ j. with_footer (b-is j) (i-is j) ((p-is ∙ ap properties q-is) j)) in
          let within : length b ≤ length image = subst (λ (n : ℕ). length b ≤ n) (ap length (sym is)) (longer b i p) in
          let table : IsTable t image = record {
            cuts = cuts;
            blocks = record {
              some = a.some;
              count = omega (arith, ap length a.handles);
              versions = few_versions head.form 0 cuts (subst (AllByRecursion IsHandle) a.handles are.each);
              joins = items-are;
              cut = a.cut;
              each = a.each;
              sorted = subst IsSorted (sym items-are) a.sorted;
              family = fits.family;
              collected_by = fits.collected_by;
              short = omega (arith, ap length b-is, small, within);
            };
            spelled = spelled;
          } in
          let only-table : IsOnlyTable t image = record { is = table; only = one } in
          record {
            told = q-is ∙ ap properties_of (sym same_contents);
            fit = subst (λ (r : Properties). AllByRecursion (IsItem r.form) items) (sym q-is) (subst (AllByRecursion (IsItem head.form)) (sym items-are) (items_of_blocks head.form cuts a.each));
            table = subst (λ (u : Contents). IsOnlyTable u image) (sym same_contents) only-table;
          }
