-- Bytes with a fault spell no list, and there is one place of the fault.
use Rattle.std.proofs.Common.{◌≡◌, ℕ, List, [], length, take, refl, sym, ap, subst, ◌∙◌}
use Rattle.std.proofs.lemmas.List.{append-nil}
use Rattle.ts_key.specs.Items.{Item}
use Rattle.ts_key.specs.declared.version.Form.{Form}
use Rattle.data_block.specs.Grammar.{block, block_entries, IsBlock}
use Rattle.data_block.specs.Regions.{IsRun, StopsAt}
use Rattle.data_block.specs.Faults.{IsBlockFault}
use Rattle.data_block.specs.Faults.IsBlockFault.{no_end, bad_entry, bad_tail}
use Rattle.data_block.proofs.Runs.{entries_once}
use Rattle.data_block.proofs.Stopping.{stops_right, stops_once}
use Rattle.data_block.proofs.Ends.{ends_once, own_end, own_run}

-- one region has one list of versions
pub runs_once : (form : Form) (region : List ℕ) (vs ws : List Item) → IsRun form region vs [] → IsRun form region ws [] → vs ≡ ws
runs_once form region vs ws a b =
    entries_once form 0 [] vs ws a.items b.items (sym (append-nil (block_entries form vs)) ∙ sym a.parts ∙ b.parts ∙ append-nil (block_entries form ws))

pub faults_right : (form : Form) (image : List ℕ) (at : ℕ) → IsBlockFault form image at → (vs : List Item) → IsBlock form vs → image ≡ block form vs → ⊥
faults_right form image at (no_end none e) vs h is = none (length (block_entries form vs)) (own_end form image vs h is)
faults_right form image at (bad_entry n ends stops) vs h is =
    stops_right form (take n image) at stops vs (own_run form image vs n h is (ends_once image (length (block_entries form vs)) n (own_end form image vs h is) ends))
faults_right form image at (bad_tail ends bad) vs h is =
    let run = own_run form image vs at h is (ends_once image (length (block_entries form vs)) at (own_end form image vs h is) ends) in
    let same : vs ≡ bad.vs = runs_once form (take at image) vs bad.vs run bad.run in
    bad.wrong (subst (IsBlock form) same h) (is ∙ ap (block form) same)

pub faults_single : (form : Form) (image : List ℕ) (a b : ℕ) → IsBlockFault form image a → IsBlockFault form image b → a ≡ b
faults_single form image a b (no_end none e) (no_end other f) = e ∙ sym f
faults_single form image a b (no_end none e) (bad_entry n ends stops) = absurd (none n ends)
faults_single form image a b (no_end none e) (bad_tail ends bad) = absurd (none b ends)
faults_single form image a b (bad_entry n ends stops) (no_end none e) = absurd (none n ends)
faults_single form image a b (bad_entry n ends stops) (bad_entry m other last) =
    stops_once form (take m image) a b (subst (λ (k : ℕ). StopsAt form (take k image) a) (ends_once image n m ends other) stops) last
faults_single form image a b (bad_entry n ends stops) (bad_tail other bad) =
    absurd (stops_right form (take b image) a (subst (λ (k : ℕ). StopsAt form (take k image) a) (ends_once image n b ends other) stops) bad.vs bad.run)
faults_single form image a b (bad_tail ends bad) (no_end none e) = absurd (none a ends)
faults_single form image a b (bad_tail ends bad) (bad_entry n other stops) =
    absurd (stops_right form (take a image) b (subst (λ (k : ℕ). StopsAt form (take k image) b) (ends_once image n a other ends) stops) bad.vs bad.run)
faults_single form image a b (bad_tail ends bad) (bad_tail other last) = ends_once image a b ends other

pub blocks_unique : (form : Form) (vs ws : List Item) → IsBlock form vs → IsBlock form ws → block form vs ≡ block form ws → vs ≡ ws
blocks_unique form vs ws a b e =
    let n = length (block_entries form vs) in
    let at : length (block_entries form ws) ≡ n = ends_once (block form vs) (length (block_entries form ws)) n (own_end form (block form vs) ws b e) (own_end form (block form vs) vs a refl) in
    runs_once form (take n (block form vs)) vs ws (own_run form (block form vs) vs n a refl refl) (own_run form (block form vs) ws n b e at)
