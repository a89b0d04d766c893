-- Where the entries of a block end, and its tail begins.
use Rattle.std.proofs.Common.{◌≡◌, ℕ, ◌+◌, ◌-◌, ◌*◌, ◌^◌, ◌<◌, ◌≤◌, List, [], ◌∷◌, ◌++◌, length, take, drop, get_or, All, refl, sym, ap, subst, ◌∙◌, append_assoc, length-append, arith}
use Rattle.std.specs.List.{flat_map}
use Rattle.std.proofs.lemmas.List.{take_at, drop_at, append-nil, take_more}
use Rattle.std.proofs.lemmas.List.Elements.{All-push}
use Rattle.ts_key.specs.Numbers.{number_bytes}
use Rattle.ts_key.specs.Items.{Item}
use Rattle.ts_key.specs.declared.version.Form.{Form}
use Rattle.ts_key.proofs.NumberBytes.{length-number_bytes, number_bytes-unique}
use Rattle.data_block.specs.Grammar.{numbers, block, block_entries, block_restarts, IsBlock}
use Rattle.data_block.specs.Regions.{IsRun}
use Rattle.data_block.specs.Faults.{EndsAt, HasNoEnd}

pub ends_once : (image : List ℕ) (a b : ℕ) → EndsAt image a → EndsAt image b → a ≡ b
ends_once image a b x y =
    let wx = x.whole in
    let wy = y.whole in
    let sx = x.small in
    let sy = y.small in
    let at : a + 4 * x.count ≡ b + 4 * y.count = omega arith in
    let same = number_bytes-unique 4 x.count y.count [] [] (omega arith) (omega arith) (append-nil (number_bytes 4 x.count) ∙ sym x.told ∙ ap (λ (n : ℕ). drop n image) at ∙ y.told ∙ sym (append-nil (number_bytes 4 y.count))) in
    omega (arith, same.0)

pub ends_here : (image last : List ℕ) (count : ℕ) → 4 ≤ length image → last ≡ drop (length image - 4) image → last ≡ number_bytes 4 count → count < 2 ^ 32 → 4 * count ≤ length image - 4 → EndsAt image (length image - 4 - 4 * count)
ends_here image last count long last-is told small fits =
    let at : length image - 4 - 4 * count + 4 * count ≡ length image - 4 = omega arith in
    record { count = count; small = small; whole = omega arith; told = ap (λ (n : ℕ). drop n image) at ∙ sym last-is ∙ told }

pub too_many : (image last : List ℕ) (count : ℕ) → 4 ≤ length image → last ≡ drop (length image - 4) image → last ≡ number_bytes 4 count → count < 2 ^ 32 → length image - 4 < 4 * count → HasNoEnd image
too_many image last count long last-is told small over n x =
    let w = x.whole in
    let s = x.small in
    let at : n + 4 * x.count ≡ length image - 4 = omega arith in
    let same = number_bytes-unique 4 x.count count [] [] (omega arith) (omega arith) (append-nil (number_bytes 4 x.count) ∙ sym x.told ∙ ap (λ (m : ℕ). drop m image) at ∙ sym last-is ∙ told ∙ sym (append-nil (number_bytes 4 count))) in
    omega (arith, same.0)

pub length-offsets : (ns : List ℕ) → length (flat_map (number_bytes 4) ns) ≡ 4 * length ns
length-offsets [] = refl
length-offsets (n ∷ ns) = omega (arith, length-append (number_bytes 4 n) (flat_map (number_bytes 4) ns), length-number_bytes 4 n, length-offsets ns)

-- a block ends where its entries do
pub own_end : (form : Form) (image : List ℕ) (vs : List Item) → IsBlock form vs → image ≡ block form vs → EndsAt image (length (block_entries form vs))
own_end form image vs h e =
    let es = block_entries form vs in
    let ns = block_restarts form vs in
    let offsets = flat_map (number_bytes 4) ns in
    let count = number_bytes 4 (length ns) in
    let whole : image ≡ (es ++ offsets) ++ count = e ∙ sym (append_assoc es offsets count) in
    let len : length (es ++ offsets) ≡ length es + 4 * length ns = length-append es offsets ∙ omega (arith, length-offsets ns) in
    record {
      count = length ns;
      small = h.offsets.count;
      whole = omega (arith, ap length whole, length-append (es ++ offsets) count, length-number_bytes 4 (length ns), len);
      told = ap (drop (length es + 4 * length ns)) whole ∙ drop_at (es ++ offsets) count (length es + 4 * length ns) len;
    }

pub own_region : (form : Form) (image : List ℕ) (vs : List Item) → image ≡ block form vs → take (length (block_entries form vs)) image ≡ block_entries form vs
own_region form image vs e = let es = block_entries form vs in ap (take (length es)) e ∙ take_at es (numbers (block_restarts form vs)) (length es) refl

pub own_run : (form : Form) (image : List ℕ) (vs : List Item) (n : ℕ) → IsBlock form vs → image ≡ block form vs → length (block_entries form vs) ≡ n → IsRun form (take n image) vs []
own_run form image vs n h e at =
    record { parts = ap (λ (m : ℕ). take m image) (sym at) ∙ own_region form image vs e ∙ sym (append-nil (block_entries form vs)); items = h.items; sorted = h.sorted }

-- one more number of 32 bits
pub narrowed_more : (ns out new : List ℕ) (i d : ℕ) → i < length ns → All (λ n. n < 2 ^ 32) (take i ns) → out ≡ take i ns → get_or ns i d < 2 ^ 32 → new ≡ out ++ get_or ns i d ∷ [] → All (λ n. n < 2 ^ 32) (take (i + 1) ns) × (new ≡ take (i + 1) ns)
narrowed_more ns out new i d lt short same low is =
    let more = take_more ns i d lt in
    (subst (λ (xs : List ℕ). All (λ n. n < 2 ^ 32) xs) (sym more) (All-push (λ n. n < 2 ^ 32) (take i ns) (get_or ns i d) short low), is ∙ ap (λ (xs : List ℕ). xs ++ get_or ns i d ∷ []) same ∙ sym more)
