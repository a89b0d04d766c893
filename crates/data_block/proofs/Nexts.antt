-- What is read at the front is the entry there.
use Rattle.std.proofs.Common.{◌≡◌, ℕ, zero, suc, ◌+◌, ◌-◌, ◌%◌, ◌≤◌, Bool, true, false, cond, List, [], ◌∷◌, ◌++◌, length, take, drop, refl, sym, ap, subst, ◌∙◌, length-take, length-drop, arith}
use Rattle.std.specs.Prelude.{nat_eq, ◌==◌}
use Rattle.std.specs.List.{common_prefix_len}
use Rattle.std.proofs.lemmas.List.{drop_at, take-append-drop}
use Rattle.std.proofs.lemmas.List.Sums.{common_prefix_len-le}
use Rattle.std.proofs.lemmas.Bool.{eqb-true, eq-eqb, ne_eqb}
use Rattle.ts_key.specs.Order.{SortKey}
use Rattle.ts_key.specs.StoredKeys.{stored_key, IsStored}
use Rattle.ts_key.proofs.StoredKeys.{stored_key_short, one_spelling}
use Rattle.ts_key.specs.declared.version.Form.{Form}
use Rattle.ts_key.specs.declared.version.Kind.{Kind}
use Rattle.ts_key.specs.declared.version.Kind.TheVariants.{Del, Put}
use Rattle.data_block.specs.declared.fields.Fields.{Fields}
use Rattle.ts_key.specs.Items.{Item, IsValue}
use Rattle.data_block.specs.Grammar.{stored_key_of, shared, entry, entry_of}
use Rattle.data_block.specs.Fields.{fields, Fit, bytes_of_fields, IsFit}
use Rattle.data_block.specs.Reading.{IsNextEntry, joined_key, IsJoined}
use Rattle.data_block.proofs.Fielded.{fields_once}

-- the common bytes are the same in both
same_front_at : (b : Bool) (x y : ℕ) (k : ℕ) (xs ys : List ℕ) → nat_eq x y ≡ b → take k xs ≡ take k ys → take (cond b (1 + k) 0) (x ∷ xs) ≡ take (cond b (1 + k) 0) (y ∷ ys)
same_front_at true x y k xs ys e h = let same : x ≡ y = eqb-true x y e in let more : 1 + k ≡ suc k = omega arith in ap (λ (n : ℕ). take n (x ∷ xs)) more ∙ (λ i. same i ∷ h i) ∙ ap (λ (n : ℕ). take n (y ∷ ys)) (sym more)
same_front_at false x y k xs ys e h = refl

pub same_front : (xs ys : List ℕ) → take (common_prefix_len nat_eq xs ys) xs ≡ take (common_prefix_len nat_eq xs ys) ys
same_front [] ys = refl
same_front (x ∷ xs) [] = refl
same_front (x ∷ xs) (y ∷ ys) = same_front_at (nat_eq x y) x y (common_prefix_len nat_eq xs ys) xs ys refl (same_front xs ys)

pub record IsShared (s : ℕ) (last key : List ℕ) : Type 0 where
  pub same : take s last ≡ take s key
  pub in_last : s ≤ length last
  pub in_key : s ≤ length key

shared_at : (b : Bool) (last key : List ℕ) → IsShared (cond b 0 (common_prefix_len nat_eq last key)) last key
shared_at true last key = record { same = refl; in_last = omega arith; in_key = omega arith }
shared_at false last key = let le = common_prefix_len-le nat_eq last key in record { same = same_front last key; in_last = le.0; in_key = le.1 }

pub is_shared : (n : ℕ) (last key : List ℕ) → IsShared (shared n last key) last key
is_shared n last key = shared_at (n % 16 == 0) last key

pub entry_fields : (s : ℕ) (key value : List ℕ) → entry s key value ≡ fields s (drop s key) value
entry_fields s key value = let e : length key - s ≡ length (drop s key) = sym (length-drop s key) in rw e refl

pub value_short : (kind : Kind) (value : List ℕ) → IsValue kind value → length value ≤ 65536
value_short Del value h = omega (arith, ap length h)
value_short Put value h = h

-- what the parts spell
pub is_next : (form : Form) (n : ℕ) (last : List ℕ) (f : Fields) (k : SortKey) (kind : Kind) → IsJoined n last f → joined_key last f ≡ stored_key form k kind → IsStored form k → IsValue kind f.value.now
    → IsNextEntry form n last (bytes_of_fields f) (record { sort_key = k; kind = kind; value = f.value.now }) f.rest.now
is_next form n last f k kind j e h v =
    let s = f.shared in
    let key = stored_key form k kind in
    let u : drop s key ≡ f.key.now = ap (drop s) (sym e) ∙ drop_at (take s last) f.key.now s (let w = j.within in omega (arith, length-take s last)) in
    let s-is : s ≡ shared n last key = j.exact ∙ ap (shared n last) e in
    let whole : fields s f.key.now f.value.now ≡ entry_of form n last (record { sort_key = k; kind = kind; value = f.value.now }) =
    ap (λ (x : List ℕ). fields s x f.value.now) (sym u) ∙ sym (entry_fields s key f.value.now) ∙ ap (λ (m : ℕ). entry m key f.value.now) s-is in
    record { parts = ap (λ (x : List ℕ). x ++ f.rest.now) whole; item = record { spelled = h; value = v } }

-- an entry at the front gives these parts
pub record Gives (form : Form) (n : ℕ) (last : List ℕ) (f : Fields) (v : Item) : Type 0 where
  pub joined : IsJoined n last f
  pub key : joined_key last f ≡ stored_key_of form v
  pub value : f.value.now ≡ v.value

pub gives : (form : Form) (n : ℕ) (last : List ℕ) (f : Fields) (v : Item) (rest : List ℕ) → IsFit f → IsNextEntry form n last (bytes_of_fields f) v rest → Gives form n last f v
gives form n last f v rest fit h =
    let key = stored_key_of form v in
    let s = shared n last key in
    let sh = is_shared n last key in
    let short = stored_key_short form v.sort_key v.kind h.item.spelled in
    let value-short = value_short v.kind v.value h.item.value in
    let sk = sh.in_key in
    let own : Fit s (drop s key) v.value = record { shared = omega arith; key = omega (arith, length-drop s key); value = omega arith } in
    let e : fields f.shared f.key.now f.value.now ++ f.rest.now ≡ fields s (drop s key) v.value ++ rest = h.parts ∙ ap (λ (x : List ℕ). x ++ rest) (entry_fields s key v.value) in
    let o = fields_once f.shared s f.key.now (drop s key) f.value.now v.value f.rest.now rest fit own e in
    let sl = sh.in_last in
    let key-is : joined_key last f ≡ key = (λ i. take (o.0 i) last ++ o.1 i) ∙ ap (λ (x : List ℕ). x ++ drop s key) sh.same ∙ take-append-drop s key in
    record { joined = record { within = omega (arith, o.0); exact = o.0 ∙ ap (shared n last) (sym key-is) }; key = key-is; value = o.2 }

same_self : (x : ℕ) → nat_eq x x ≡ true
same_self x = eq-eqb x x refl

skip_at : (b : Bool) (k m : ℕ) → b ≡ true → k ≡ m → cond b (1 + k) 0 ≡ 1 + m
skip_at true k m e h = ap (λ (n : ℕ). 1 + n) h
skip_at false k m e h = absurd cc

-- what is shared with a key that begins alike
pub common_skip : (s : ℕ) (last u : List ℕ) → s ≤ length last → common_prefix_len nat_eq last (take s last ++ u) ≡ s + common_prefix_len nat_eq (drop s last) u
common_skip zero last u h = omega arith
common_skip (suc s) [] u h = absurd (omega arith)
common_skip (suc s) (x ∷ last) u h =
    skip_at (nat_eq x x) (common_prefix_len nat_eq last (take s last ++ u)) (s + common_prefix_len nat_eq (drop s last) u) (same_self x) (common_skip s last u (omega arith)) ∙ omega arith

pub middle : (n : ℕ) (last u : List ℕ) (s r : ℕ) → (n % 16 ≡ 0 → ⊥) → s ≤ length last → r ≡ common_prefix_len nat_eq (drop s last) u → shared n last (take s last ++ u) ≡ s + r
middle n last u s r ne le e =
    let test : (n % 16 == 0) ≡ false = ne_eqb (n % 16) 0 ne in
    ap (λ (b : Bool). cond b 0 (common_prefix_len nat_eq last (take s last ++ u))) test ∙ common_skip s last u le ∙ ap (λ (m : ℕ). s + m) (sym e)

pub unvalued : (form : Form) (n : ℕ) (last : List ℕ) (f : Fields) (k : SortKey) (kind : Kind) → IsFit f → IsStored form k → joined_key last f ≡ stored_key form k kind → (IsValue kind f.value.now → ⊥) → (v : Item) (rest : List ℕ) → IsNextEntry form n last (bytes_of_fields f) v rest → ⊥
unvalued form n last f k kind fit hk e bad v rest h =
    let g = gives form n last f v rest fit h in
    let same = one_spelling form v.sort_key k v.kind kind h.item.spelled hk (sym g.key ∙ e) in
    bad (subst (λ (x : Kind). IsValue x f.value.now) same.1 (subst (IsValue v.kind) (sym g.value) h.item.value))

pub unkeyed : (form : Form) (n : ℕ) (last : List ℕ) (f : Fields) → IsFit f → ((k : SortKey) (kind : Kind) → IsStored form k → joined_key last f ≡ stored_key form k kind → ⊥) → (v : Item) (rest : List ℕ) → IsNextEntry form n last (bytes_of_fields f) v rest → ⊥
unkeyed form n last f fit bad v rest h = let g = gives form n last f v rest fit h in bad v.sort_key v.kind h.item.spelled g.key
