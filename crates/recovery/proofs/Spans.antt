-- The span of a table's keys by its properties, and its greatest sequence.
use Rattle.std.proofs.Common.{◌≡◌, ℕ, ◌≤◌, Bool, true, not, List, [], ◌∷◌, map, refl, sym, ap, ◌∙◌, arith, inl, inr, ◌⊎◌}
use Rattle.std.specs.Prelude.{All, if◌then◌else◌}
use Rattle.std.specs.List.{AllByRecursion}
use Rattle.std.specs.Ordering.{is_le, nat_cmp}
use Rattle.std.specs.Cmp.Lexicographic.{slice_cmp}
use Rattle.std.specs.declared.cmp.Ordering.TheVariants.{Less}
use Rattle.std.proofs.lemmas.Bool.{cases_Bool}
use Rattle.std.proofs.lemmas.List.Elements.{All-from_recursion, recursion_from_All}
use Rattle.ts_key.specs.declared.numbers.Family.{Family}
use Rattle.ts_key.specs.declared.version.Version.{Version}
use Rattle.ts_key.specs.Items.{Item}
use Rattle.ts_key.specs.Lists.{IsSorted}
use Rattle.ts_key.specs.Order.{SortKey, sort_cmp}
use Rattle.ts_key.specs.Orders.{before_back, before_from}
use Rattle.ts_key.specs.Firsts.{key_upto}
use Rattle.udt_model.specs.Orders.{higher_of, is_at_most, is_below, lower_of, span_of, span_of_both, span_of_key}
use Rattle.udt_model.specs.declared.reply.KeySpan.{KeySpan}
use Rattle.floor_laws.proofs.Keys.{at_most_itself, at_most_same, below_not, not_below}
use Rattle.manifest_fold.specs.declared.fold.FamilyFold.{FamilyFold}
use Rattle.block_table.specs.declared.properties.Properties.{Properties}
use Rattle.block_table.specs.Contents.{Contents, first_key, greatest_of, last_user_key, properties_of}
use Rattle.block_table.specs.Tables.{IsTable}
use Rattle.super_version.specs.Contents.{version_of_item}
use Rattle.recovery.specs.Places.{IsFitting, span_in}
use Rattle.recovery.specs.Tables.{says_of}

-- ---- spans

at_most_from : (a b : List ℕ) → (slice_cmp nat_cmp a b ≡ Less) ⊎ (a ≡ b) → is_at_most a b ≡ true
at_most_from a b (inl less) = ap is_le less
at_most_from a b (inr same) = ap (λ (c : List ℕ). is_at_most c b) same ∙ at_most_itself b

-- the key of what stands earlier isn't above
earlier_at_most : (a b : SortKey) → sort_cmp a b ≡ Less → is_at_most a.key b.key ≡ true
earlier_at_most a b less = at_most_from a.key b.key (key_upto a b (before_back a b (before_from a b less)))

last_above : (v w : Item) (vs : List Item) → AllByRecursion (λ (x : Item). sort_cmp v.sort_key x.sort_key ≡ Less) (w ∷ vs) → is_at_most v.sort_key.key (last_user_key (w ∷ vs)) ≡ true
last_above v w [] later = earlier_at_most v.sort_key w.sort_key later.0
last_above v w (x ∷ vs) later = last_above v x vs later.1

lower_is : (v w : List ℕ) → is_at_most v w ≡ true → lower_of v w ≡ v
lower_is v w up = ap (λ (b : Bool). if b then w else v) (below_not w v ∙ ap not up)

higher_is : (v last : List ℕ) → is_at_most v last ≡ true → higher_of v last ≡ last
higher_is v last up = elim (cases_Bool (is_below v last)) [
  | inl below ↦ ap (λ (b : Bool). if b then last else v) below
  | inr other ↦ ap (λ (b : Bool). if b then last else v) other ∙ at_most_same v last up (not_below v last other)
]

both_ends : (v w last : List ℕ) → is_at_most v w ≡ true → is_at_most v last ≡ true → span_of_both (span_of_key v) (record { low = w; high = last }) ≡ record { low = v; high = last }
both_ends v w last low high =
    let made : List ℕ → List ℕ → KeySpan = λ a b. record { low = a; high = b } in
    ap (λ (a : List ℕ). made a (higher_of v last)) (lower_is v w low) ∙ ap (made v) (higher_is v last high)

span_sorted : (family : Family) (v : Item) (vs : List Item) → IsSorted (v ∷ vs) → span_of (map (version_of_item family) (v ∷ vs)) ≡ record { low = v.sort_key.key; high = last_user_key (v ∷ vs) }
span_sorted family v [] sorted = refl
span_sorted family v (w ∷ vs) sorted =
    ap (span_of_both (span_of_key v.sort_key.key)) (span_sorted family w vs sorted.1)
    ∙ both_ends v.sort_key.key w.sort_key.key (last_user_key (w ∷ vs)) (earlier_at_most v.sort_key w.sort_key sorted.0.0) (last_above v w vs sorted.0)

span_items : (family : Family) (vs : List Item) → IsSorted vs → span_of (map (version_of_item family) vs) ≡ record { low = first_key vs; high = last_user_key vs }
span_items family [] sorted = refl
span_items family (v ∷ vs) sorted = span_sorted family v vs sorted

-- a table's properties tell the span of its keys
pub span_of_table : (t : Contents) (bytes : List ℕ) → IsTable t bytes → span_of (says_of t).versions ≡ span_in t
span_of_table t bytes table = span_items (record { 0 = t.family }) t.items table.blocks.sorted

last_rises : (vs : List Item) → IsSorted vs → is_at_most (first_key vs) (last_user_key vs) ≡ true
last_rises [] sorted = refl
last_rises (v ∷ []) sorted = at_most_itself v.sort_key.key
last_rises (v ∷ w ∷ vs) sorted = last_above v w vs sorted.0

-- the least key isn't above the greatest
pub span_rises : (t : Contents) (bytes : List ℕ) → IsTable t bytes → is_at_most (span_in t).low (span_in t).high ≡ true
span_rises t bytes table = last_rises t.items table.blocks.sorted

-- ---- sequences

all_upto : (family : Family) (n : ℕ) (vs : List Item) → greatest_of (λ (v : Item). v.sort_key.seq) vs ≤ n → AllByRecursion (λ (v : Version). v.seq.0 ≤ n) (map (version_of_item family) vs)
all_upto family n [] most = tt
all_upto family n (v ∷ vs) most = (omega (arith, most), all_upto family n vs (omega (arith, most)))

greatest_upto : (family : Family) (n : ℕ) (vs : List Item) → AllByRecursion (λ (v : Version). v.seq.0 ≤ n) (map (version_of_item family) vs) → greatest_of (λ (v : Item). v.sort_key.seq) vs ≤ n
greatest_upto family n [] each = omega arith
greatest_upto family n (v ∷ vs) each = omega (arith, each.0, greatest_upto family n vs each.1)

pub flushed_from : (n : ℕ) (t : Contents) → greatest_of (λ (v : Item). v.sort_key.seq) t.items ≤ n → All (λ (v : Version). v.seq.0 ≤ n) (says_of t).versions
flushed_from n t most = All-from_recursion (λ (v : Version). v.seq.0 ≤ n) (says_of t).versions (all_upto (record { 0 = t.family }) n t.items most)

pub flushed_back : (n : ℕ) (t : Contents) → All (λ (v : Version). v.seq.0 ≤ n) (says_of t).versions → greatest_of (λ (v : Item). v.sort_key.seq) t.items ≤ n
flushed_back n t all = greatest_upto (record { 0 = t.family }) n t.items (recursion_from_All (λ (v : Version). v.seq.0 ≤ n) (says_of t).versions all)

-- ---- what a table's properties tell of its family

pub fitting_from : (number : Family) (f : FamilyFold) (t : Contents) (p : Properties) → p ≡ properties_of t → p.family.0 ≡ number.0 → p.form ≡ f.form → p.collected_by.0 ≤ f.floor.0 → p.greatest_seq.0 ≤ f.through.0 → IsFitting number f t
fitting_from number f t p is family form collected most = record {
  fits = record { family = ap (λ (n : ℕ). (let x : Family = record { 0 = n } in x)) (sym (ap (λ (q : Properties). q.family.0) is) ∙ family); form = sym (ap (λ (q : Properties). q.form) is) ∙ form; collected = omega (arith, collected, ap (λ (q : Properties). q.collected_by.0) is) };
  flushed = flushed_from f.through.0 t (omega (arith, most, ap (λ (q : Properties). q.greatest_seq.0) is));
}

pub record IsToldFitting (number : Family) (f : FamilyFold) (p : Properties) : Type 0 where
  pub family : p.family.0 ≡ number.0
  pub form : p.form ≡ f.form
  pub collected : p.collected_by.0 ≤ f.floor.0
  pub most : p.greatest_seq.0 ≤ f.through.0

pub fitting_told : (number : Family) (f : FamilyFold) (t : Contents) (p : Properties) → p ≡ properties_of t → IsFitting number f t → IsToldFitting number f p
fitting_told number f t p is fitting = record {
  family = ap (λ (q : Properties). q.family.0) is ∙ ap (λ (x : Family). x.0) fitting.fits.family;
  form = ap (λ (q : Properties). q.form) is ∙ fitting.fits.form;
  collected = omega (arith, fitting.fits.collected, ap (λ (q : Properties). q.collected_by.0) is);
  most = omega (arith, flushed_back f.through.0 t fitting.flushed, ap (λ (q : Properties). q.greatest_seq.0) is);
}
