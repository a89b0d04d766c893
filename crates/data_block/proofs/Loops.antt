-- Reading a region from its begin to its end.
use Rattle.std.proofs.Common.{◌≡◌, ℕ, ◌<◌, ◌≤◌, List, [], ◌∷◌, ◌++◌, length, drop, refl, sym, ap, subst, ◌∙◌, All, length-append, length-drop, arith}
use Rattle.std.specs.Prelude.{None}
use Rattle.std.proofs.lemmas.List.{nil_from_length}
use Rattle.std.proofs.lemmas.List.Elements.{All-nil}
use Rattle.ts_key.specs.Items.{Item}
use Rattle.ts_key.specs.Lists.{IsSorted}
use Rattle.ts_key.specs.declared.version.Form.{Form}
use Rattle.data_block.specs.declared.index.Index.{Index}
use Rattle.data_block.specs.declared.index.Entry.{Entry}
use Rattle.data_block.specs.Grammar.{entries, restarts, block_entries, block_restarts, last_key}
use Rattle.data_block.specs.Index.{IsWithin, items_at}
use Rattle.data_block.specs.Reading.{IsNextEntry, EndsBefore}
use Rattle.data_block.specs.Regions.{IsRun, StopsAt, HasRead, NoneAt, ReadsRegion, items_in}
use Rattle.data_block.proofs.Steps.{length-items_at}

pub nothing_read : (form : Form) (region : List ℕ) (x : Index) (last : List ℕ) → x.keys.items ≡ [] → x.entries.items ≡ [] → x.restarts.items ≡ [] → last ≡ [] → HasRead form region 0 x last
unfolding entries restarts
nothing_read form region x last k e r l =
    let none : items_in region x ≡ [] = ap (items_at x.keys.items region) e in
    let within : All (IsWithin x.keys.items region) [] = All-nil (IsWithin x.keys.items region) in
    let run : IsRun form region [] region = record { parts = refl; items = tt; sorted = tt } in
    record {
      fits = omega arith;
      within = subst (λ (es : List Entry). All (IsWithin x.keys.items region) es) (sym e) within;
      run = subst (λ (vs : List Item). IsRun form region vs region) (sym none) run;
      restarts = r ∙ ap (block_restarts form) (sym none);
      begins = λ before v e. absurd (omega (arith, ap length none, ap length e, length-append before (v ∷ [])));
      ends = l ∙ ap (last_key form []) (sym none);
    }

-- the offset is where the entries end
pub placed : (form : Form) (region : List ℕ) (at : ℕ) (x : Index) (last : List ℕ) → HasRead form region at x last → at ≡ length (block_entries form (items_in region x))
placed form region at x last h = let le = h.fits in omega (arith, ap length h.run.parts, length-append (block_entries form (items_in region x)) (drop at region), length-drop at region)

sorted_ends : (vs : List Item) (v : Item) → IsSorted (vs ++ v ∷ []) → EndsBefore vs v.sort_key
sorted_ends [] v h = tt
sorted_ends (x ∷ []) v h = h.0.0
sorted_ends (x ∷ y ∷ vs) v h = sorted_ends (y ∷ vs) v h.1

-- where there is no next entry, reading stops
pub stopped : (form : Form) (region : List ℕ) (at : ℕ) (x : Index) (last : List ℕ) → HasRead form region at x last → at < length region → NoneAt form region at x last → StopsAt form region at
stopped form region at x last h lt none =
    let vs = items_in region x in
    let count : length x.entries.items ≡ length vs = sym (length-items_at x.keys.items region x.entries.items) in
    record {
      vs = vs;
      rest = drop at region;
      run = h.run;
      at = placed form region at x last h;
      some = omega (arith, length-drop at region);
      none = λ v after next sorted. none v after (subst (λ (n : ℕ). IsNextEntry form n last (drop at region) v after) (sym count) (subst (λ (l : List ℕ). IsNextEntry form (length vs) l (drop at region) v after) (sym h.ends) next)) (sorted_ends vs v sorted);
    }

-- at its end the whole region was read
pub whole : (form : Form) (region : List ℕ) (at : ℕ) (x : Index) (last : List ℕ) → HasRead form region at x last → length region ≤ at → ReadsRegion form region x None
whole form region at x last h le =
    let end : drop at region ≡ [] = nil_from_length (drop at region) (omega (arith, length-drop at region)) in
    record { within = h.within; run = subst (IsRun form region (items_in region x)) end h.run; restarts = h.restarts; begins = h.begins }
