-- A block that was read, and how it was cut.
use Rattle.std.proofs.Common.{◌≡◌, ℕ, ◌+◌, ◌<◌, ◌≤◌, Bool, true, false, List, [], ◌∷◌, ◌++◌, length, refl, sym, ap, subst, ◌∙◌, ◌⊎◌, inl, inr, arith}
use Rattle.std.specs.List.{slice_range}
use Rattle.std.proofs.lemmas.Bool.{cases_Bool}
use Rattle.ts_key.specs.Items.{Item}
use Rattle.ts_key.specs.declared.version.Form.{Form}
use Rattle.data_block.specs.declared.gather.BlockCut.{BlockCut}
use Rattle.data_block.specs.Grammar.{block_target, block_entries, block, IsBlock}
use Rattle.data_block.specs.Gathered.{ComesAfter, IsCutOf}
use Rattle.data_block.proofs.Faulting.{blocks_unique}
use Rattle.block_table.specs.declared.handle.BlockHandle.{BlockHandle}
use Rattle.block_table.specs.Gathering.{IsCutRightly, IsBlockAt}

snoc_on : (v : Item) (vs : List Item) → (front : List Item) × (last : Item) × (v ∷ vs ≡ front ++ last ∷ [])
snoc_on v [] = ([], v, refl)
snoc_on v (w ∷ vs) = let r = snoc_on w vs in (v ∷ r.0, r.1, ap (λ (us : List Item). v ∷ us) r.2)

snoc_view : (vs : List Item) → 0 < length vs → (front : List Item) × (last : Item) × (vs ≡ front ++ last ∷ [])
snoc_view [] l = absurd (omega arith)
snoc_view (v ∷ vs) l = snoc_on v vs

module _ (form : Form) (image : List ℕ) (before : List Item) (h : BlockHandle) (at end to : ℕ) (last : Bool) (p : BlockCut) (ws : List Item) (is : IsBlock form ws) (spelled : slice_range image at to ≡ block form ws) (extent : IsCutOf form before ws p) (to-is : to ≡ at + h.length) where
  -- a block of the handle there is the one that was read, and passes
  pub passes : (vs : List Item) → IsBlockAt form image before h at end last vs → IsCutRightly p h last
  passes vs b =
      let len : h.length ≡ length (block form vs) = ap (λ (k : BlockHandle). k.length) b.handle in
      let there : block form ws ≡ block form vs = sym spelled ∙ ap (λ (n : ℕ). slice_range image at n) (to-is ∙ ap (λ (n : ℕ). at + n) len) ∙ b.there in
      let same : vs ≡ ws = blocks_unique form vs ws b.is_block is (sym there) in
      let view = snoc_view vs b.is_block.some in
      let begins : p.before_last ≡ length (block_entries form view.0) = extent.begins view.0 view.1 (sym same ∙ view.2) in
      let early : length (block_entries form view.0) < block_target = b.in_time view.0 view.1 view.2 in
      record {
        versions = extent.versions ∙ ap length (sym same) ∙ sym (ap (λ (k : BlockHandle). k.versions) b.handle);
        follows = extent.follows.1 (subst (λ (us : List Item). ComesAfter before us) same b.follows);
        in_time = omega (arith, begins, early);
        full = elim (cases_Bool last) [
          | inl y ↦ inl y
          | inr n ↦ inr (let f = b.full n in omega (arith, f, extent.entries, ap (λ (us : List Item). length (block_entries form us)) same))
        ];
      }

  not_last : (x : Bool) (n : ℕ) → (x ≡ true) ⊎ (block_target ≤ n) → x ≡ false → block_target ≤ n
  not_last x n (inl y) e = absurd (let z : true ≡ false = sym y ∙ e in cc)
  not_last x n (inr l) e = l

  -- a block that was read and passes is one of the handle
  pub is_there : h.offset ≡ at → length (slice_range image at to) ≡ h.length → to ≤ end → IsCutRightly p h last → IsBlockAt form image before h at end last ws
  is_there offset size within r =
      let len : length (block form ws) ≡ h.length = sym (ap length spelled) ∙ size in
      let n : h.versions ≡ length ws = sym r.versions ∙ extent.versions in
      record {
        is_block = is;
        there = ap (λ (m : ℕ). slice_range image at m) (ap (λ (m : ℕ). at + m) len ∙ sym to-is) ∙ spelled;
        within = omega (arith, len, to-is, within);
        handle = λ i. record { offset = offset i; length = sym len i; versions = n i };
        in_time = λ front v e. let b = extent.begins front v e in let t = r.in_time in omega (arith, b, t);
        full = λ no. let f = not_last last p.entries r.full no in omega (arith, f, extent.entries);
        follows = extent.follows.0 r.follows;
      }
