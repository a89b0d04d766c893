-- Tables as entries of a map from numbers to levels.
use Rattle.std.proofs.Common.{◌≡◌, ◌<◌, ℕ, Bool, true, false, not, cond, nat_lt, ◌==◌, ◌||◌, List, [], ◌∷◌, refl, sym, ap, ◌∙◌, arith, subst}
use Rattle.std.specs.Prelude.{is_some, Option, Some, if◌then◌else◌}
use Rattle.std.proofs.lemmas.Bool.Decides.{nat_tests}
use Rattle.std.specs.List.{AllByRecursion}
use Rattle.std.specs.List.Sorted.{IsStrictlySortedBy}
use Rattle.std.proofs.Common.{Ordering, Less, Equal, Greater}
use Rattle.std.specs.Ordering.{is_eq, nat_cmp, match_ordering}
use Rattle.std.specs.Map.{lookup, remove_entry, keys_of}
use Rattle.std.specs.BTreeMap.{is_at, insert_entry}
use Rattle.std.proofs.lemmas.Map.Keys.{sorted_head, sorted_tail}
use Rattle.manifest_edit.specs.declared.edit.TableAt.{TableAt}
use Rattle.manifest_edit.specs.LiveTables.{has_table_number, place_table, without_table, entry_table, entry_tables}

-- how two numbers compare
data Compared (x y : ℕ) : Type 0 where
  is_below : x < y → Compared x y
  is_same : x ≡ y → Compared x y
  is_above : y < x → Compared x y

lt_from : (x y : ℕ) → nat_lt x y ≡ true → x < y
lt_from x y h = grind (arith, nat_tests)

eq_from : (x y : ℕ) → (x == y) ≡ true → x ≡ y
eq_from x y h = grind (arith, nat_tests)

gt_from : (x y : ℕ) → nat_lt x y ≡ false → (x == y) ≡ false → y < x
gt_from x y h k = grind (arith, nat_tests)

told : (x y : ℕ) (a b : Bool) → nat_lt x y ≡ a → (x == y) ≡ b → Compared x y
told x y true b p q = is_below (lt_from x y p)
told x y false true p q = is_same (eq_from x y q)
told x y false false p q = is_above (gt_from x y p q)

compared : (x y : ℕ) → Compared x y
compared x y = told x y (nat_lt x y) (x == y) refl refl

lt_true : (x y : ℕ) → x < y → nat_lt x y ≡ true
lt_true x y h = grind (arith, nat_tests)

lt_false : (x y : ℕ) → y < x → nat_lt x y ≡ false
lt_false x y h = grind (arith, nat_tests)

cmp_less : (x y : ℕ) → x < y → nat_cmp x y ≡ Less
cmp_less x y h = grind (arith, nat_tests)

cmp_greater : (x y : ℕ) → y < x → nat_cmp x y ≡ Greater
cmp_greater x y h = grind (arith, nat_tests)

less_differs : (x y : ℕ) → nat_cmp x y ≡ Less → (y == x) ≡ false
less_differs x y h = grind (arith, nat_tests)

-- the query finds exactly the number
at_below : (x y : ℕ) → x < y → is_eq (nat_cmp x y) ≡ (y == x)
at_below x y h = grind (arith, nat_tests)

at_equal : (x y : ℕ) → x ≡ y → is_eq (nat_cmp x y) ≡ (y == x)
at_equal x y h = grind (arith, nat_tests)

at_above : (x y : ℕ) → y < x → is_eq (nat_cmp x y) ≡ (y == x)
at_above x y h = grind (arith, nat_tests)

at_case : (x y : ℕ) → Compared x y → is_eq (nat_cmp x y) ≡ (y == x)
at_case x y (is_below h) = at_below x y h
at_case x y (is_same h) = at_equal x y h
at_case x y (is_above h) = at_above x y h

at_same : (x y : ℕ) → is_eq (nat_cmp x y) ≡ (y == x)
at_same x y = at_case x y (compared x y)

lt_not : (x y : ℕ) → x ≡ y → nat_lt x y ≡ false
lt_not x y h = grind (arith, nat_tests)

eq_here : (x y : ℕ) → x ≡ y → (x == y) ≡ true
eq_here x y h = grind (arith, nat_tests)

eq_apart : (x y : ℕ) → y < x → (x == y) ≡ false
eq_apart x y h = grind (arith, nat_tests)

cmp_equal : (x y : ℕ) → x ≡ y → nat_cmp x y ≡ Equal
cmp_equal x y h = grind (arith, nat_tests)

by_test : (b : Bool) (v : ℕ) (rest : Bool) (o : Option ℕ) → rest ≡ is_some o → (b || rest) ≡ is_some (cond b (Some v) o)
by_test true v rest o h = refl
by_test false v rest o h = h

pub has_looked : (es : List (ℕ × ℕ)) (n : ℕ) → has_table_number (entry_tables es) n ≡ is_some (lookup (is_at (nat_cmp n)) es)
has_looked [] n = refl
has_looked (e ∷ es) n =
    by_test (e.0 == n) e.1 (has_table_number (entry_tables es) n) (lookup (is_at (nat_cmp n)) es) (has_looked es n) ∙ ap (λ (b : Bool). is_some (cond b (Some e.1) (lookup (is_at (nat_cmp n)) es))) (sym (at_same n e.0))

-- ---- an entry more

placed_case : (e : ℕ × ℕ) (es : List (ℕ × ℕ)) (k v : ℕ) → Compared k e.0 → entry_tables (insert_entry nat_cmp es k v) ≡ place_table (entry_table (k, v)) (entry_tables es)
    → entry_tables (insert_entry nat_cmp (e ∷ es) k v) ≡ place_table (entry_table (k, v)) (entry_tables (e ∷ es))
placed_case e es k v case rest =
    let t = entry_table (k, v) in
    let others = entry_tables es in
    let map_side : Ordering → List TableAt = λ o. entry_tables (match_ordering o ((k, v) ∷ e ∷ es) ((e.0, v) ∷ es) (e ∷ insert_entry nat_cmp es k v)) in
    let list_side : Bool → Bool → List TableAt = λ a b. if a then (t ∷ entry_table e ∷ others) else (if b then (t ∷ others) else (entry_table e ∷ place_table t others)) in
    elim case as (λ _. map_side (nat_cmp k e.0) ≡ list_side (nat_lt k e.0) (k == e.0)) [
      | is_below h ↦ ap map_side (cmp_less k e.0 h) ∙ sym (ap (λ (a : Bool). list_side a (k == e.0)) (lt_true k e.0 h))
      | is_same h ↦ ap map_side (cmp_equal k e.0 h) ∙ ap (λ (n : ℕ). entry_table (n, v) ∷ others) (sym h) ∙ sym (ap (λ (a : Bool). list_side a (k == e.0)) (lt_not k e.0 h) ∙ ap (list_side false) (eq_here k e.0 h))
      | is_above h ↦ ap map_side (cmp_greater k e.0 h) ∙ ap (λ (ts : List TableAt). entry_table e ∷ ts) rest ∙ sym (ap (λ (a : Bool). list_side a (k == e.0)) (lt_false k e.0 h) ∙ ap (list_side false) (eq_apart k e.0 h))
    ]

pub placed_so : (es : List (ℕ × ℕ)) (k v : ℕ) → entry_tables (insert_entry nat_cmp es k v) ≡ place_table (entry_table (k, v)) (entry_tables es)
placed_so [] k v = refl
placed_so (e ∷ es) k v = placed_case e es k v (compared k e.0) (placed_so es k v)

-- ---- an entry less

none_more : (es : List (ℕ × ℕ)) (n : ℕ) → AllByRecursion (λ y. nat_cmp n y ≡ Less) (keys_of es) → without_table (entry_tables es) n ≡ entry_tables es
none_more [] n above = refl
none_more (e ∷ es) n above =
    ap (λ (b : Bool). cond (not b) (entry_table e ∷ without_table (entry_tables es) n) (without_table (entry_tables es) n)) (less_differs n e.0 above.0) ∙ ap (λ (ts : List TableAt). entry_table e ∷ ts) (none_more es n above.1)

removed_case : (e : ℕ × ℕ) (es : List (ℕ × ℕ)) (n : ℕ) (b : Bool) → (e.0 == n) ≡ b → AllByRecursion (λ y. nat_cmp e.0 y ≡ Less) (keys_of es) → entry_tables (remove_entry (is_at (nat_cmp n)) es) ≡ without_table (entry_tables es) n
    → entry_tables (remove_entry (is_at (nat_cmp n)) (e ∷ es)) ≡ without_table (entry_tables (e ∷ es)) n
removed_case e es n true is above rest =
    let same : e.0 ≡ n = eq_from e.0 n is in
    ap (λ (b : Bool). entry_tables (cond b es (e ∷ remove_entry (is_at (nat_cmp n)) es))) (at_same n e.0 ∙ is)
    ∙ sym (none_more es n (subst (λ (m : ℕ). AllByRecursion (λ y. nat_cmp m y ≡ Less) (keys_of es)) same above))
    ∙ sym (ap (λ (b : Bool). cond (not b) (entry_table e ∷ without_table (entry_tables es) n) (without_table (entry_tables es) n)) is)
removed_case e es n false is above rest =
    ap (λ (b : Bool). entry_tables (cond b es (e ∷ remove_entry (is_at (nat_cmp n)) es))) (at_same n e.0 ∙ is)
    ∙ ap (λ (ts : List TableAt). entry_table e ∷ ts) rest
    ∙ sym (ap (λ (b : Bool). cond (not b) (entry_table e ∷ without_table (entry_tables es) n) (without_table (entry_tables es) n)) is)

pub removed_so : (es : List (ℕ × ℕ)) (n : ℕ) → IsStrictlySortedBy nat_cmp (keys_of es) → entry_tables (remove_entry (is_at (nat_cmp n)) es) ≡ without_table (entry_tables es) n
removed_so [] n sorted = refl
removed_so (e ∷ es) n sorted =
    removed_case e es n (e.0 == n) refl (sorted_head nat_cmp e.0 (keys_of es) sorted) (removed_so es n (sorted_tail nat_cmp e.0 (keys_of es) sorted))
