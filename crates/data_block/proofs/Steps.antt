-- One step of reading a region.
use Rattle.std.proofs.Common.{◌≡◌, ℕ, suc, ◌+◌, zero-add, ◌-◌, ◌≤◌, List, [], ◌∷◌, ◌++◌, length, take, drop, refl, sym, ap, subst, ◌∙◌, All, append_assoc, length-append, length-drop, arith}
use Rattle.std.specs.Prelude.{slice_range}
use Rattle.std.proofs.lemmas.List.{take_at, drop_at, drop-drop}
use Rattle.ts_key.specs.Items.{Item}
use Rattle.ts_key.specs.StoredKeys.{IsItem}
use Rattle.ts_key.specs.declared.version.Form.{Form}
use Rattle.ts_key.specs.Numbers.{number_bytes}
use Rattle.data_block.specs.declared.index.Index.{Index}
use Rattle.data_block.specs.declared.index.Entry.{Entry}
use Rattle.data_block.specs.declared.fields.Fields.{Fields}
use Rattle.data_block.specs.Grammar.{stored_key_of, shared, block_entries, restart, block_restarts, last_key}
use Rattle.data_block.specs.Fields.{fields, Fit, bytes_of_fields, IsFit}
use Rattle.data_block.specs.Index.{IsWithin, items_at}
use Rattle.data_block.specs.Reading.{IsNextEntry, IsJoined, EndsBefore}
use Rattle.data_block.specs.Regions.{IsRun, HasRead, items_in}
use Rattle.data_block.proofs.Lengths.{length-fields}
use Rattle.data_block.proofs.Nexts.{entry_fields, gives}
use Rattle.data_block.proofs.Written.{all_snoc, last_key_snoc, restarts_snoc}
use Rattle.data_block.proofs.Runs.{own_fit, next_once, sorted_snoc, run_more}

-- no entry is at the front where no parts are
pub no_parts : (form : Form) (n : ℕ) (last bytes : List ℕ) → ((s : ℕ) (k v rest : List ℕ) → Fit s k v → bytes ≡ fields s k v ++ rest → ⊥) → (v : Item) (after : List ℕ) → IsNextEntry form n last bytes v after → ⊥
no_parts form n last bytes none v after h =
    let key = stored_key_of form v in
    let s = shared n last key in
    none s (drop s key) v.value after (own_fit form n last v h.item) (h.parts ∙ ap (λ (x : List ℕ). x ++ after) (entry_fields s key v.value))

-- no entry is at the front where its parts share the wrong number of bytes
pub not_joined : (form : Form) (n : ℕ) (last bytes : List ℕ) (f : Fields) → IsFit f → bytes ≡ bytes_of_fields f → (IsJoined n last f → ⊥) → (v : Item) (after : List ℕ) → IsNextEntry form n last bytes v after → ⊥
not_joined form n last bytes f fit e bad v after h =
    bad (gives form n last f v after fit (subst (λ (x : List ℕ). IsNextEntry form n last x v after) e h)).joined

-- an entry at the front is the one that was read there
pub the_next : (form : Form) (n : ℕ) (last bytes : List ℕ) (f : Fields) (w : Item) → bytes ≡ bytes_of_fields f → IsNextEntry form n last (bytes_of_fields f) w f.rest.now → (vs : List Item) → (EndsBefore vs w.sort_key → ⊥) → (v : Item) (after : List ℕ) → IsNextEntry form n last bytes v after → EndsBefore vs v.sort_key → ⊥
the_next form n last bytes f w e h vs bad v after g ends =
    let same = next_once form n last (bytes_of_fields f) w v f.rest.now after h (subst (λ (x : List ℕ). IsNextEntry form n last x v after) e g) in
    bad (subst (λ (x : Item). EndsBefore vs x.sort_key) (sym same.0) ends)

pub length-items_at : (keys image : List ℕ) (es : List Entry) → length (items_at keys image es) ≡ length es
length-items_at keys image [] = refl
length-items_at keys image (e ∷ es) = ap suc (length-items_at keys image es)

-- the parts at an offset, and what stands behind them
pub record PartsAt (region : List ℕ) (at : ℕ) (f : Fields) : Type 0 where
  pub within : at + 8 + length f.key.now + length f.value.now ≤ length region
  pub value : slice_range region (at + 8 + length f.key.now) (at + 8 + length f.key.now + length f.value.now) ≡ f.value.now
  pub rest : drop (at + 8 + length f.key.now + length f.value.now) region ≡ f.rest.now

pub parts_at : (region : List ℕ) (at : ℕ) (f : Fields) → at ≤ length region → drop at region ≡ bytes_of_fields f → PartsAt region at f
parts_at region at f le e =
    let k = f.key.now in
    let v = f.value.now in
    let r = f.rest.now in
    let head : List ℕ = number_bytes 2 f.shared ++ number_bytes 2 (length k) ++ number_bytes 4 (length v) ++ k in
    let len = length-fields f.shared k v in
    let head-len : length head ≡ 8 + length k = omega (arith, len, length-append head v) in
    let whole : length region - at ≡ 8 + length k + length v + length r = sym (length-drop at region) ∙ ap length e ∙ omega (arith, length-append (fields f.shared k v) r, len) in
    let behind : drop (at + (8 + length k)) region ≡ v ++ r = sym (drop-drop (8 + length k) at region) ∙ ap (drop (8 + length k)) (e ∙ append_assoc head v r) ∙ drop_at head (v ++ r) (8 + length k) head-len in
    let from : at + 8 + length k ≡ at + (8 + length k) = omega arith in
    let size : at + 8 + length k + length v - (at + 8 + length k) ≡ length v = omega arith in
    let end : at + 8 + length k + length v ≡ at + (8 + length k) + length v = omega arith in
    record {
      within = omega (arith, whole);
      value = ap (λ (n : ℕ). take n (drop (at + 8 + length k) region)) size ∙ ap (take (length v)) (ap (λ (n : ℕ). drop n region) from ∙ behind) ∙ take_at v r (length v) refl;
      rest = ap (λ (n : ℕ). drop n region) end ∙ sym (drop-drop (length v) (at + (8 + length k)) region) ∙ ap (drop (length v)) behind ∙ drop_at v r (length v) refl;
    }

snoc_front : (vs ws : List Item) (v w : Item) → vs ++ v ∷ [] ≡ ws ++ w ∷ [] → vs ≡ ws
snoc_front vs ws v w e =
    let len : length vs ≡ length ws = omega (arith, ap length e, length-append vs (v ∷ []), length-append ws (w ∷ [])) in
    sym (take_at vs (v ∷ []) (length ws) len) ∙ ap (take (length ws)) e ∙ take_at ws (w ∷ []) (length ws) refl

-- one more version was read
pub read_more : (form : Form) (region : List ℕ) (at end : ℕ) (old new : Index) (last next-last rest : List ℕ) (v : Item)
    → HasRead form region at old last → IsNextEntry form (length old.entries.items) last (drop at region) v rest → EndsBefore (items_in region old) v.sort_key
    → end ≤ length region → drop end region ≡ rest
    → All (IsWithin new.keys.items region) new.entries.items → items_in region new ≡ items_in region old ++ v ∷ [] → new.restarts.items ≡ old.restarts.items ++ restart (length old.entries.items) at → next-last ≡ stored_key_of form v → new.last_at ≡ at
    → HasRead form region end new next-last
read_more form region at end old new last next-last rest v h next ends fits rest-is within items-is restarts-is last-is begins-is =
    let vs = items_in region old in
    let count : length old.entries.items ≡ length vs = sym (length-items_at old.keys.items region old.entries.items) in
    let next' : IsNextEntry form (length vs) (last_key form [] vs) (drop at region) v rest = subst (λ (n : ℕ). IsNextEntry form n (last_key form [] vs) (drop at region) v rest) count (subst (λ (l : List ℕ). IsNextEntry form (length old.entries.items) l (drop at region) v rest) h.ends next) in
    let placed : at ≡ 0 + length (block_entries form vs) = (let le = h.fits in omega (arith, ap length h.run.parts, length-append (block_entries form vs) (drop at region), length-drop at region)) in
    let counted : length old.entries.items ≡ 0 + length vs = omega (arith, count) in
    let parts : region ≡ block_entries form (vs ++ v ∷ []) ++ rest = run_more form region (drop at region) rest vs v h.run.parts next' in
    let run : IsRun form region (vs ++ v ∷ []) (drop end region) = record { parts = parts ∙ ap (λ (x : List ℕ). block_entries form (vs ++ v ∷ []) ++ x) (sym rest-is); items = all_snoc (IsItem form) vs v h.run.items next.item; sorted = sorted_snoc vs v h.run.sorted ends } in
    let starts : new.restarts.items ≡ block_restarts form (vs ++ v ∷ []) = restarts-is ∙ (λ i. h.restarts i ++ restart (counted i) (placed i)) ∙ sym (restarts_snoc form 0 [] 0 vs v) in
    record {
      fits = fits;
      within = within;
      run = subst (λ (ws : List Item). IsRun form region ws (drop end region)) (sym items-is) run;
      restarts = starts ∙ ap (block_restarts form) (sym items-is);
      begins = λ before w e. begins-is ∙ placed ∙ zero-add (length (block_entries form vs)) ∙ ap (λ (us : List Item). length (block_entries form us)) (snoc_front vs before v w (sym items-is ∙ e));
      ends = last-is ∙ sym (last_key_snoc form [] vs v) ∙ ap (last_key form []) (sym items-is);
    }

pub joined_moved : (n m : ℕ) (last same : List ℕ) (f : Fields) → n ≡ m → last ≡ same → IsJoined n last f → IsJoined m same f
joined_moved n m last same f e g j = subst (λ (k : ℕ). IsJoined k same f) e (subst (λ (l : List ℕ). IsJoined n l f) g j)
