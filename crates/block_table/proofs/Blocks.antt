-- Blocks that were read, one block more.
use Rattle.std.proofs.Common.{◌≡◌, ℕ, zero, suc, ◌+◌, ◌-◌, ◌<◌, ◌≤◌, Bool, true, false, List, [], ◌∷◌, ◌++◌, length, get_or, take, drop, refl, sym, ap, subst, ◌∙◌, ⊎_elim, eqb, eq-eqb, ne_eqb, arith, length-append, append_assoc}
use Rattle.std.specs.List.{AllByRecursion, slice_range}
use Rattle.std.proofs.lemmas.List.{append-nil, take_at, drop_at, take_all, take_more, take-append-drop, length-take-le}
use Rattle.std.proofs.Math.Seq.{take-add}
use Rattle.ts_key.specs.Items.{Item}
use Rattle.ts_key.specs.Lists.{IsSorted, joined_lists}
use Rattle.ts_key.specs.declared.version.Form.{Form}
use Rattle.data_block.specs.Grammar.{block, IsBlock}
use Rattle.data_block.proofs.Joins.{sorted_join}
use Rattle.data_block.proofs.Written.{all_snoc}
use Rattle.data_block.proofs.Faulting.{blocks_unique}
use Rattle.block_table.specs.declared.handle.BlockHandle.{BlockHandle}
use Rattle.block_table.specs.Tables.{EndsInTime, IsFull, AreCut, blocks, handles}
use Rattle.block_table.specs.Pushed.{IsDone}
use Rattle.std.specs.Prelude.{Err}
use Rattle.std.proofs.lemmas.Bool.{cases_lt}
use Rattle.block_table.specs.declared.fault.TableFault.{TableFault}
use Rattle.block_table.specs.declared.fault.TableFault.TheVariants.{Bad, NoMemory}
use Rattle.block_table.specs.Gathering.{handle_of, IsBlockAt, HasAddedBlock, AddsBlock, AreBlocksOf, AreOnlyBlocksOf, ReadsBlocks, HasReadBlocks}
use Rattle.block_table.proofs.Cuts.{joined_more, blocks_more, handles_more, length-handles, cut_more}
use Rattle.block_table.proofs.Lists.{all_right, comes_after_in, joined_append}

pub blocks_append : (form : Form) (xs ys : List (List Item)) → blocks form (xs ++ ys) ≡ blocks form xs ++ blocks form ys
blocks_append form [] ys = refl
blocks_append form (x ∷ xs) ys = ap (λ (bs : List ℕ). block form x ++ bs) (blocks_append form xs ys) ∙ sym (append_assoc (block form x) (blocks form xs) (blocks form ys))

handle_at : (form : Form) (at : ℕ) (done : List (List Item)) (vs : List Item) (rest : List (List Item)) (d : BlockHandle) → get_or (handles form at (done ++ vs ∷ rest)) (length done) d ≡ handle_of form (at + length (blocks form done)) vs
handle_at form at [] vs rest d =
    let z : at ≡ at + 0 = omega arith in
    ap (λ (n : ℕ). handle_of form n vs) z
handle_at form at (e ∷ done) vs rest d =
    let z : at + length (block form e) + length (blocks form done) ≡ at + length (block form e ++ blocks form done) = omega (arith, length-append (block form e) (blocks form done)) in
    handle_at form (at + length (block form e)) done vs rest d ∙ ap (λ (n : ℕ). handle_of form n vs) z

cut_at : (form : Form) (done : List (List Item)) (vs : List Item) (rest : List (List Item)) → AreCut form (done ++ vs ∷ rest) → EndsInTime form vs × (0 < length rest → IsFull form vs)
cut_at form [] vs [] c = (c, λ l. absurd (omega (arith, l)))
cut_at form [] vs (ws ∷ rest) c = (c.1, λ l. c.0)
cut_at form (d ∷ []) vs rest c = cut_at form [] vs rest c.2
cut_at form (d ∷ e ∷ done) vs rest c = cut_at form (e ∷ done) vs rest c.2

get_or_any : (hs : List BlockHandle) (n : ℕ) (a b : BlockHandle) → n < length hs → get_or hs n a ≡ get_or hs n b
get_or_any [] n a b l = absurd (omega (arith, l))
get_or_any (h ∷ hs) zero a b l = refl
get_or_any (h ∷ hs) (suc n) a b l = get_or_any hs n a b (omega (arith, l))

module _ (form : Form) (image : List ℕ) (end : ℕ) (hs : List BlockHandle) (fits : end ≤ length image) where
  -- the block behind those that were read, of those that are there
  pub record NextBlock (done : List (List Item)) (items : List Item) (h : BlockHandle) (at : ℕ) (last : Bool) (cuts : List (List Item)) : Type 0 where
    pub vs : List Item
    pub rest : List (List Item)
    pub is : cuts ≡ done ++ vs ∷ rest
    pub there : IsBlockAt form image items h at end last vs

  next_on : (n at : ℕ) (items : List Item) (h : BlockHandle) (last : Bool) (cuts : List (List Item)) (r : HasReadBlocks form image end hs n at items) → AreBlocksOf form image end hs cuts → n < length hs → h ≡ get_or hs n h → (last ≡ false → n + 1 < length hs)
      → (rest : List (List Item)) → cuts ≡ r.done ++ rest → NextBlock r.done items h at last cuts
  next_on n at items h last cuts r a l h-is more [] is =
      let len : length hs ≡ length cuts = ap length a.handles ∙ length-handles form 0 cuts in
      absurd (omega (arith, len, ap length (is ∙ append-nil r.done), r.count))
  next_on n at items h last cuts r a l h-is more (vs ∷ rest) is =
      let done = r.done in
      let b = block form vs in
      let bs = blocks form rest in
      let each : AllByRecursion (IsBlock form) (vs ∷ rest) = all_right (IsBlock form) done (vs ∷ rest) (subst (AllByRecursion (IsBlock form)) is a.each) in
      let parts : take end image ≡ blocks form done ++ (b ++ bs) = a.spelled ∙ ap (blocks form) is ∙ blocks_append form done (vs ∷ rest) in
      let end-len : length (take end image) ≡ end = length-take-le end image fits in
      let len : end ≡ length (blocks form done) + (length b + length bs) = sym end-len ∙ ap length parts ∙ length-append (blocks form done) (b ++ bs) ∙ ap (λ (n : ℕ). length (blocks form done) + n) (length-append b bs) in
      let whole : image ≡ blocks form done ++ (b ++ (bs ++ drop end image)) =
      sym (take-append-drop end image) ∙ ap (λ (xs : List ℕ). xs ++ drop end image) parts ∙ append_assoc (blocks form done) (b ++ bs) (drop end image)
      ∙ ap (λ (xs : List ℕ). blocks form done ++ xs) (append_assoc b bs (drop end image)) in
      let dropped : drop at image ≡ b ++ (bs ++ drop end image) = ap (drop at) whole ∙ drop_at (blocks form done) (b ++ (bs ++ drop end image)) at (sym r.place) in
      let size : at + length b - at ≡ length b = omega arith in
      let slice : slice_range image at (at + length b) ≡ b = ap (λ (m : ℕ). take m (drop at image)) size ∙ ap (take (length b)) dropped ∙ take_at b (bs ++ drop end image) (length b) refl in
      let cut = cut_at form done vs rest (subst (AreCut form) is a.cut) in
      let handle : h ≡ handle_of form at vs =
      h-is ∙ ap (λ (ks : List BlockHandle). get_or ks n h) (a.handles ∙ ap (handles form 0) is) ∙ ap (λ (m : ℕ). get_or (handles form 0 (done ++ vs ∷ rest)) m h) (sym r.count)
      ∙ handle_at form 0 done vs rest h ∙ ap (λ (m : ℕ). handle_of form m vs) (omega (arith, r.place)) in
      let hs-len : length hs ≡ length done + (1 + length rest) = ap length (a.handles ∙ ap (handles form 0) is) ∙ length-handles form 0 (done ++ vs ∷ rest) ∙ length-append done (vs ∷ rest) ∙ ap (λ (m : ℕ). length done + m) (omega arith) in
      let sorted : IsSorted (items ++ (vs ++ joined_lists rest)) = subst IsSorted (ap joined_lists is ∙ joined_append done (vs ∷ rest) ∙ ap (λ (us : List Item). us ++ (vs ++ joined_lists rest)) (sym r.versions)) a.sorted in
      record {
        vs = vs;
        rest = rest;
        is = is;
        there = record {
          is_block = each.0;
          there = slice;
          within = omega (arith, r.place, len);
          handle = handle;
          in_time = cut.0;
          full = λ no. cut.1 (omega (arith, more no, hs-len, r.count));
          follows = comes_after_in items vs (joined_lists rest) sorted;
        };
      }

  pub next_block : (n at : ℕ) (items : List Item) (h : BlockHandle) (last : Bool) (cuts : List (List Item)) (r : HasReadBlocks form image end hs n at items) → AreBlocksOf form image end hs cuts → n < length hs → h ≡ get_or hs n h → (last ≡ false → n + 1 < length hs) → NextBlock r.done items h at last cuts
  next_block n at items h last cuts r a l h-is more = let o = r.only cuts a in next_on n at items h last cuts r a l h-is more o.0 o.1

  -- there is no block where the next one was to stand
  pub block_failed : (n at : ℕ) (items new : List Item) (h : BlockHandle) (last : Bool) (e : TableFault) → HasReadBlocks form image end hs n at items → AddsBlock form image items new h at end last (Err e) → n < length hs → h ≡ get_or hs n h → (last ≡ false → n + 1 < length hs) → ReadsBlocks form image end hs (Err e)
  block_failed n at items new h last Bad r none l h-is more = λ cuts a. let x = next_block n at items h last cuts r a l h-is more in none x.vs x.there
  block_failed n at items new h last NoMemory r none l h-is more = tt

  -- there is a block
  pub no_handles : length hs ≡ 0 → (cuts : List (List Item)) → AreBlocksOf form image end hs cuts → ⊥
  no_handles none cuts a = let some = a.some in omega (arith, none, some, ap length a.handles, length-handles form 0 cuts)

  -- two blocks of one handle at one place are one
  same_block : (items : List Item) (h : BlockHandle) (at : ℕ) (last : Bool) (vs ws : List Item) → IsBlockAt form image items h at end last vs → IsBlockAt form image items h at end last ws → ws ≡ vs
  same_block items h at last vs ws x y =
      let len : length (block form ws) ≡ length (block form vs) = ap (λ (k : BlockHandle). k.length) (sym y.handle ∙ x.handle) in
      blocks_unique form ws vs y.is_block x.is_block (sym y.there ∙ ap (λ (m : ℕ). slice_range image at (at + m)) len ∙ x.there)

  -- one block more
  pub more_read : (n at to : ℕ) (items new : List Item) (h : BlockHandle) (last : Bool) (vs : List Item) → HasReadBlocks form image end hs n at items → IsBlockAt form image items h at end last vs → n < length hs → h ≡ get_or hs n h → (last ≡ false → n + 1 < length hs) → (n + 1 < length hs → last ≡ false)
      → to ≡ at + length (block form vs) → new ≡ items ++ vs → HasReadBlocks form image end hs (n + 1) to new
  more_read n at to items new h last vs r x l h-is more not-last to-is new-is =
      let done = r.done in
      let b = block form vs in
      let bm = blocks_more form done vs in
      let size : at + length b - at ≡ length b = omega arith in
      record {
        done = done ++ vs ∷ [];
        count = length-append done (vs ∷ []) ∙ omega (arith, r.count);
        place = to-is ∙ omega (arith, r.place, ap length bm, length-append (blocks form done) b);
        there = ap (λ (m : ℕ). take m image) to-is ∙ take-add at (length b) image ∙ ap (λ (xs : List ℕ). xs ++ take (length b) (drop at image)) r.there
            ∙ ap (λ (xs : List ℕ). blocks form done ++ xs) (ap (λ (m : ℕ). take m (drop at image)) (sym size) ∙ x.there) ∙ sym bm;
        within = omega (arith, to-is, x.within);
        cut = cut_more form done vs (r.full l) x.in_time;
        full = λ m. all_snoc (IsDone form) done vs (r.full l) (record { full = x.full (not-last m); in_time = x.in_time });
        each = all_snoc (IsBlock form) done vs r.each x.is_block;
        handles = handles_more form 0 done vs ∙ ap (λ (m : ℕ). handles form 0 done ++ handle_of form m vs ∷ []) (omega (arith, r.place)) ∙ ap (λ (k : BlockHandle). handles form 0 done ++ k ∷ []) (sym x.handle ∙ h-is)
            ∙ ap (λ (ks : List BlockHandle). ks ++ get_or hs n h ∷ []) r.handles ∙ sym (take_more hs n h l);
        versions = new-is ∙ ap (λ (us : List Item). us ++ vs) r.versions ∙ sym (joined_more done vs);
        sorted = subst IsSorted (sym new-is) (sorted_join items vs r.sorted x.is_block.sorted x.follows);
        only = λ cuts a.
            let nx = next_block n at items h last cuts r a l h-is more in
            let same : nx.vs ≡ vs = same_block items h at last vs nx.vs x nx.there in
            (nx.rest, nx.is ∙ ap (λ (us : List Item). done ++ us ∷ nx.rest) same ∙ sym (append_assoc done (vs ∷ []) nx.rest));
      }

  -- the block of the handle with index n, of m
  module _ (n at m : ℕ) (items new : List Item) (h : BlockHandle) (r : HasReadBlocks form image end hs n at items) (d : BlockHandle) (m-is : m ≡ length hs) (l : n < length hs) (is : h ≡ get_or hs n d) (source : List ℕ) (source-is : source ≡ image) where
    h-is : h ≡ get_or hs n h
    h-is = is ∙ get_or_any hs n d h l

    goes_on : (eqb (n + 1) m) ≡ false → n + 1 < length hs
    goes_on not_last = ⊎_elim (λ (less : n + 1 < length hs). less) (λ (most : length hs ≤ n + 1). absurd (let y : (eqb (n + 1) m) ≡ true = eq-eqb (n + 1) m (omega arith) in cc)) (cases_lt (n + 1) (length hs))

    pub failed_at : (e : TableFault) → AddsBlock form source items new h at end (eqb (n + 1) m) (Err e) → ReadsBlocks form image end hs (Err e)
    failed_at e none = block_failed n at items new h (eqb (n + 1) m) e r (subst (λ (b : List ℕ). AddsBlock form b items new h at end (eqb (n + 1) m) (Err e)) source-is none) l h-is goes_on

    pub read_at : (to : ℕ) → HasAddedBlock form source items new h at end (eqb (n + 1) m) to → HasReadBlocks form image end hs (n + 1) to new
    read_at to y = let x = subst (λ (b : List ℕ). HasAddedBlock form b items new h at end (eqb (n + 1) m) to) source-is y in more_read n at to items new h (eqb (n + 1) m) x.vs r x.is_at l h-is goes_on (λ less. ne_eqb (n + 1) m (λ same. omega arith)) x.ends x.behind

  -- before the first block
  pub none_read : (items : List Item) → items ≡ [] → HasReadBlocks form image end hs 0 0 items
  none_read items e = record {
    done = [];
    count = refl;
    place = refl;
    there = refl;
    within = omega arith;
    cut = tt;
    full = λ l. tt;
    each = tt;
    handles = refl;
    versions = e;
    sorted = subst IsSorted (sym e) tt;
    only = λ cuts a. (cuts, refl);
  }

  -- behind the last one
  pub all_read : (n at : ℕ) (items : List Item) (r : HasReadBlocks form image end hs n at items) → length hs ≤ n → 0 < length hs → at ≡ end → AreBlocksOf form image end hs r.done
  all_read n at items r most some ends =
      let full : handles form 0 r.done ≡ hs = r.handles ∙ take_all n hs most in
      record {
        some = omega (arith, ap length full, length-handles form 0 r.done);
        cut = r.cut;
        each = r.each;
        sorted = subst IsSorted r.versions r.sorted;
        handles = sym full;
        spelled = ap (λ (m : ℕ). take m image) (sym ends) ∙ r.there;
      }

  -- no others are there
  pub only_read : (n at : ℕ) (items : List Item) (r : HasReadBlocks form image end hs n at items) → length hs ≤ n → (others : List (List Item)) → AreBlocksOf form image end hs others → others ≡ r.done
  only_read n at items r most others a = let o = r.only others a in on o.0 o.1
    where
      on : (rest : List (List Item)) → others ≡ r.done ++ rest → others ≡ r.done
      on [] is = is ∙ append-nil r.done
      on (vs ∷ rest) is =
          let len : length hs ≡ length others = ap length a.handles ∙ length-handles form 0 others in
          absurd (omega (arith, len, ap length is, length-append r.done (vs ∷ rest), r.count))

  pub blocks_read : (n at : ℕ) (items : List Item) → HasReadBlocks form image end hs n at items → length hs ≤ n → 0 < length hs → at ≡ end → AreOnlyBlocksOf form image end hs items
  blocks_read n at items r most some ends = record { cuts = r.done; are = all_read n at items r most some ends; joins = r.versions; only = only_read n at items r most }

  -- they end elsewhere
  pub ends_wrong : (n at : ℕ) (items : List Item) → HasReadBlocks form image end hs n at items → length hs ≤ n → (at ≡ end → ⊥) → (cuts : List (List Item)) → AreBlocksOf form image end hs cuts → ⊥
  ends_wrong n at items r most wrong cuts a =
      let o = r.only cuts a in
      on o.0 o.1
    where
      on : (rest : List (List Item)) → cuts ≡ r.done ++ rest → ⊥
      on [] is =
          let end-len : length (take end image) ≡ end = length-take-le end image fits in
          let same : take end image ≡ blocks form r.done = a.spelled ∙ ap (blocks form) (is ∙ append-nil r.done) in
          wrong (r.place ∙ sym (ap length same) ∙ end-len)
      on (vs ∷ rest) is =
          let len : length hs ≡ length cuts = ap length a.handles ∙ length-handles form 0 cuts in
          let done-len : length (handles form 0 r.done) ≡ length r.done = length-handles form 0 r.done in
          absurd (omega (arith, len, ap length is, length-append r.done (vs ∷ rest), r.count))
