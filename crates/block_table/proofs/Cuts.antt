-- Versions that are cut into blocks, one block more.
use Rattle.std.proofs.Common.{◌≡◌, ℕ, suc, ◌+◌, ◌<◌, List, [], ◌∷◌, ◌++◌, length, refl, sym, ap, subst, ◌∙◌, arith, length-append}
use Rattle.std.specs.List.{AllByRecursion}
use Rattle.std.proofs.lemmas.List.{append_assoc, append-nil}
use Rattle.ts_key.specs.Items.{Item}
use Rattle.ts_key.specs.Lists.{joined_lists}
use Rattle.ts_key.specs.declared.version.Form.{Form}
use Rattle.data_block.specs.Grammar.{block_target, entries, block_entries, block, entry_of, last_key}
use Rattle.data_block.proofs.Written.{entries_snoc}
use Rattle.block_table.specs.declared.handle.BlockHandle.{BlockHandle}
use Rattle.block_table.specs.Tables.{EndsInTime, AreCut, blocks, handles}
use Rattle.block_table.specs.Pushed.{IsDone}
use Rattle.block_table.specs.Gathering.{handle_of}

-- ---- one more

pub joined_more : (done : List (List Item)) (vs : List Item) → joined_lists (done ++ vs ∷ []) ≡ joined_lists done ++ vs
joined_more [] vs = append-nil vs
joined_more (ws ∷ done) vs = ap (λ (xs : List Item). ws ++ xs) (joined_more done vs) ∙ sym (append_assoc ws (joined_lists done) vs)

pub blocks_more : (form : Form) (done : List (List Item)) (vs : List Item) → blocks form (done ++ vs ∷ []) ≡ blocks form done ++ block form vs
blocks_more form [] vs = append-nil (block form vs)
blocks_more form (ws ∷ done) vs = ap (λ (xs : List ℕ). block form ws ++ xs) (blocks_more form done vs) ∙ sym (append_assoc (block form ws) (blocks form done) (block form vs))

pub handles_more : (form : Form) (at : ℕ) (done : List (List Item)) (vs : List Item) → handles form at (done ++ vs ∷ []) ≡ handles form at done ++ handle_of form (at + length (blocks form done)) vs ∷ []
handles_more form at [] vs =
    let z : at ≡ at + 0 = omega arith in
    ap (λ (n : ℕ). handle_of form n vs ∷ []) z
handles_more form at (ws ∷ done) vs =
    let z : at + length (block form ws) + length (blocks form done) ≡ at + length (block form ws ++ blocks form done) = omega (arith, length-append (block form ws) (blocks form done)) in
    ap (λ (hs : List BlockHandle). handle_of form at ws ∷ hs)
    (handles_more form (at + length (block form ws)) done vs ∙ ap (λ (n : ℕ). handles form (at + length (block form ws)) done ++ handle_of form n vs ∷ []) z)

pub length-handles : (form : Form) (at : ℕ) (cuts : List (List Item)) → length (handles form at cuts) ≡ length cuts
length-handles form at [] = refl
length-handles form at (vs ∷ cuts) = ap suc (length-handles form (at + length (block form vs)) cuts)

pub cut_more : (form : Form) (done : List (List Item)) (vs : List Item) → AllByRecursion (IsDone form) done → EndsInTime form vs → AreCut form (done ++ vs ∷ [])
cut_more form [] vs each last = last
cut_more form (ws ∷ []) vs each last = (each.0.full, each.0.in_time, last)
cut_more form (ws ∷ xs ∷ done) vs each last = (each.0.full, each.0.in_time, cut_more form (xs ∷ done) vs each.1 last)

pub cut_done : (form : Form) (done : List (List Item)) → AllByRecursion (IsDone form) done → AreCut form done
cut_done form [] each = tt
cut_done form (ws ∷ []) each = each.0.in_time
cut_done form (ws ∷ xs ∷ done) each = (each.0.full, each.0.in_time, cut_done form (xs ∷ done) each.1)

-- ---- where a block ends

pub snoc_front : {A : Type 0} (xs ys : List A) (x y : A) → xs ++ x ∷ [] ≡ ys ++ y ∷ [] → xs ≡ ys
snoc_front [] [] x y e = refl
snoc_front [] (b ∷ ys) x y e = absurd (omega (arith, ap length e, length-append ys (y ∷ [])))
snoc_front (a ∷ xs) [] x y e = absurd (omega (arith, ap length e, length-append xs (x ∷ [])))
snoc_front (a ∷ xs) (b ∷ ys) x y e =
    let h : a ≡ b = cc in
    let t : xs ++ x ∷ [] ≡ ys ++ y ∷ [] = cc in
    let r : xs ≡ ys = snoc_front xs ys x y t in
    cc

-- a block that wasn't full, and one version more
pub ends_with : (form : Form) (vs : List Item) (v : Item) → length (block_entries form vs) < block_target → EndsInTime form (vs ++ v ∷ [])
ends_with form vs v room before w e =
    subst (λ (us : List Item). length (block_entries form us) < block_target) (snoc_front vs before v w e) room

-- a block that isn't full
pub ends_open : (form : Form) (vs : List Item) → length (block_entries form vs) < block_target → EndsInTime form vs
ends_open form vs room before w e =
    let more : entries form 0 [] (before ++ w ∷ []) ≡ entries form 0 [] before ++ entry_of form (0 + length before) (last_key form [] before) w = entries_snoc form 0 [] before w in
    let len : length (block_entries form vs) ≡ length (entries form 0 [] before ++ entry_of form (0 + length before) (last_key form [] before) w) = ap (λ (us : List Item). length (entries form 0 [] us)) e ∙ ap length more in
    omega (arith, len, length-append (entries form 0 [] before) (entry_of form (0 + length before) (last_key form [] before) w))
