-- What is counted of versions, one more.
use Rattle.std.proofs.Common.{◌≡◌, ℕ, zero, suc, ◌+◌, ◌-◌, ◌<◌, ◌≤◌, List, [], ◌∷◌, ◌++◌, length, take, refl, sym, ap, ◌∙◌, arith, length-append, min, max, Some}
use Rattle.std.specs.Prelude.{slice_get}
use Rattle.ts_key.specs.Items.{Item}
use Rattle.std.proofs.lemmas.Bool.Decides.{nat_tests}
use Rattle.ts_key.specs.Lists.{standing, onward}
use Rattle.block_table.specs.declared.tally.Tally.{Tally}
use Rattle.block_table.specs.Contents.{least_of, greatest_of, first_key, last_user_key}
use Rattle.block_table.specs.Tallies.{tally_of}

least_snoc : (f : Item → ℕ) (vs : List Item) (v : Item) → least_of f (vs ++ v ∷ []) ≡ min (least_of f vs) (f v)
least_snoc f [] v = omega arith
least_snoc f (w ∷ vs) v = omega (arith, least_snoc f vs v)

greatest_snoc : (f : Item → ℕ) (vs : List Item) (v : Item) → greatest_of f (vs ++ v ∷ []) ≡ max (greatest_of f vs) (f v)
greatest_snoc f [] v = omega arith
greatest_snoc f (w ∷ vs) v = omega (arith, greatest_snoc f vs v)

pub tally_more : (old new : Tally) (vs : List Item) (v : Item) → old ≡ tally_of vs → new.count ≡ old.count + 1 → new.least_seq.0 ≡ min old.least_seq.0 v.sort_key.seq → new.greatest_seq.0 ≡ max old.greatest_seq.0 v.sort_key.seq → new.greatest_ts.0 ≡ max old.greatest_ts.0 v.sort_key.ts → new ≡ tally_of (vs ++ v ∷ [])
tally_more old new vs v is count least greatest stamp =
    let seq = λ (u : Item). u.sort_key.seq in
    let ts = λ (u : Item). u.sort_key.ts in
    let n : new.count ≡ length (vs ++ v ∷ []) = count ∙ ap (λ (o : Tally). o.count + 1) is ∙ sym (length-append vs (v ∷ [])) in
    let l : new.least_seq.0 ≡ least_of seq (vs ++ v ∷ []) = least ∙ ap (λ (o : Tally). min o.least_seq.0 v.sort_key.seq) is ∙ sym (least_snoc seq vs v) in
    let g : new.greatest_seq.0 ≡ greatest_of seq (vs ++ v ∷ []) = greatest ∙ ap (λ (o : Tally). max o.greatest_seq.0 v.sort_key.seq) is ∙ sym (greatest_snoc seq vs v) in
    let t : new.greatest_ts.0 ≡ greatest_of ts (vs ++ v ∷ []) = stamp ∙ ap (λ (o : Tally). max o.greatest_ts.0 v.sort_key.ts) is ∙ sym (greatest_snoc ts vs v) in
    λ i. record { count = n i; least_seq = record { 0 = l i }; greatest_seq = record { 0 = g i }; greatest_ts = record { 0 = t i } }

-- ---- keys

pub first_snoc : (vs : List Item) (v : Item) → 0 < length vs → first_key (vs ++ v ∷ []) ≡ first_key vs
first_snoc [] v l = absurd (omega arith)
first_snoc (w ∷ vs) v l = refl

pub last_snoc : (vs : List Item) (v : Item) → last_user_key (vs ++ v ∷ []) ≡ v.sort_key.key
last_snoc [] v = refl
last_snoc (w ∷ []) v = refl
last_snoc (w ∷ x ∷ vs) v = last_snoc (x ∷ vs) v

pub first_standing : (vs : List Item) (v : Item) → Some v ≡ standing vs 1 → v.sort_key.key ≡ first_key vs
first_standing [] v e = absurd cc
first_standing (w ∷ vs) v e = let same : v ≡ w = cc in ap (λ (u : Item). u.sort_key.key) same

last_get : (w : Item) (vs : List Item) (v : Item) → Some v ≡ slice_get (w ∷ vs) (length vs) → v.sort_key.key ≡ last_user_key (w ∷ vs)
last_get w [] v e = let same : v ≡ w = cc in ap (λ (u : Item). u.sort_key.key) same
last_get w (x ∷ vs) v e = last_get x vs v e

pub last_standing : (vs : List Item) (v : Item) → Some v ≡ standing vs (length vs) → v.sort_key.key ≡ last_user_key vs
last_standing [] v e = absurd cc
last_standing (w ∷ vs) v e = last_get w vs v e

-- ---- a walk

pub onward_more : (len place : ℕ) → place ≤ len → onward len place ≡ place + 1
onward_more len place l = grind (arith, nat_tests)

get_some : (vs : List Item) (i : ℕ) → i < length vs → (v : Item) × (Some v ≡ slice_get vs i)
get_some [] i l = absurd (omega arith)
get_some (w ∷ vs) zero l = (w, refl)
get_some (w ∷ vs) (suc i) l = get_some vs i (omega arith)

pub some_standing : (vs : List Item) (p : ℕ) → 1 ≤ p → p ≤ length vs → (v : Item) × (Some v ≡ standing vs p)
some_standing vs zero l h = absurd (omega arith)
some_standing vs (suc i) l h = get_some vs i (omega arith)

take_get : (vs : List Item) (i : ℕ) (v : Item) → Some v ≡ slice_get vs i → take (suc i) vs ≡ take i vs ++ v ∷ []
take_get [] i v e = absurd cc
take_get (w ∷ vs) zero v e = let same : v ≡ w = cc in ap (λ (u : Item). u ∷ []) (sym same)
take_get (w ∷ vs) (suc i) v e = ap (λ (us : List Item). w ∷ us) (take_get vs i v e)

pub take_standing : (vs : List Item) (p : ℕ) (v : Item) → Some v ≡ standing vs p → take p vs ≡ take (p - 1) vs ++ v ∷ []
take_standing vs zero v e = absurd cc
take_standing vs (suc i) v e = let back : suc i - 1 ≡ i = omega arith in take_get vs i v e ∙ ap (λ (k : ℕ). take k vs ++ v ∷ []) (sym back)

get_past : (vs : List Item) (i : ℕ) (v : Item) → Some v ≡ slice_get vs i → i < length vs
get_past [] i v e = absurd cc
get_past (w ∷ vs) zero v e = omega arith
get_past (w ∷ vs) (suc i) v e = omega (arith, get_past vs i v e)

pub standing_within : (vs : List Item) (p : ℕ) (v : Item) → Some v ≡ standing vs p → (1 ≤ p) × (p ≤ length vs)
standing_within vs zero v e = absurd cc
standing_within vs (suc i) v e = let l = get_past vs i v e in (omega arith, omega arith)
