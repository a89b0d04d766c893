-- Lists of tables, one table or number more.
use Rattle.std.proofs.Common.{◌≡◌, ℕ, ◌+◌, ◌<◌, Bool, true, false, not, cond, ◌==◌, ◌||◌, List, [], ◌∷◌, ◌++◌, length, take, get_or, refl, sym, ap, ◌∙◌}
use Rattle.std.specs.Prelude.{filter}
use Rattle.std.specs.List.{list_any}
use Rattle.std.proofs.lemmas.List.{take_more}
use Rattle.manifest_edit.specs.declared.edit.TableAt.{TableAt}
use Rattle.manifest_edit.specs.LiveTables.{place_table, place_tables, without_table, without_tables}

-- nothing is taken out
pub none_out : (ts : List TableAt) → ts ≡ without_tables [] ts
none_out [] = refl
none_out (t ∷ ts) = ap (λ (us : List TableAt). t ∷ us) (none_out ts)

place_more : (us : List TableAt) (u : TableAt) (ts : List TableAt) → place_tables (us ++ u ∷ []) ts ≡ place_table u (place_tables us ts)
place_more [] u ts = refl
place_more (v ∷ us) u ts = place_more us u (place_table v ts)

pub placed_on : (us ts now new : List TableAt) (i : ℕ) (d : TableAt) → i < length us → now ≡ place_tables (take i us) ts → new ≡ place_table (get_or us i d) now → new ≡ place_tables (take (i + 1) us) ts
placed_on us ts now new i d within so_far step =
    step ∙ ap (place_table (get_or us i d)) so_far ∙ sym (place_more (take i us) (get_or us i d) ts) ∙ ap (λ (vs : List TableAt). place_tables vs ts) (sym (take_more us i d within))

any_more : (ns : List ℕ) (n m : ℕ) → list_any (λ k. m == k) (ns ++ n ∷ []) ≡ (list_any (λ k. m == k) ns || (m == n))
any_more [] n m = or_false (m == n)
  where
    or_false : (b : Bool) → (b || false) ≡ b
    or_false true = refl
    or_false false = refl
any_more (k ∷ ns) n m = or_again (m == k) (list_any (λ k. m == k) (ns ++ n ∷ [])) (list_any (λ k. m == k) ns) (m == n) (any_more ns n m)
  where
    or_again : (a b c d : Bool) → b ≡ (c || d) → (a || b) ≡ ((a || c) || d)
    or_again true b c d h = refl
    or_again false b c d h = h

-- taken out one after the other
twice : (a b : Bool) (t : TableAt) (kept : List TableAt) → cond (not a) (cond (not b) (t ∷ kept) kept) kept ≡ cond (not (a || b)) (t ∷ kept) kept
twice true b t kept = refl
twice false b t kept = refl

inner : (a b : Bool) (t : TableAt) (kept : List TableAt) (test : TableAt → Bool) → filter test (cond a (t ∷ kept) kept) ≡ cond a (cond (test t) (t ∷ filter test kept) (filter test kept)) (filter test kept)
inner true b t kept test = refl
inner false b t kept test = refl

without_more : (ts : List TableAt) (ns : List ℕ) (n : ℕ) → without_table (without_tables ns ts) n ≡ without_tables (ns ++ n ∷ []) ts
without_more [] ns n = refl
without_more (t ∷ ts) ns n =
    let a = list_any (λ k. t.number == k) ns in
    let kept = without_table (without_tables ns ts) n in
    inner (not a) true t (without_tables ns ts) (λ (u : TableAt). not (u.number == n)) ∙ twice a (t.number == n) t kept ∙ ap (λ (b : Bool). cond (not b) (t ∷ kept) kept) (sym (any_more ns n t.number)) ∙ ap (λ (us : List TableAt). cond (not (list_any (λ k. t.number == k) (ns ++ n ∷ []))) (t ∷ us) us) (without_more ts ns n)

pub removed_on : (ns : List ℕ) (ts now new : List TableAt) (i : ℕ) → i < length ns → now ≡ without_tables (take i ns) ts → new ≡ without_table now (get_or ns i 0) → new ≡ without_tables (take (i + 1) ns) ts
removed_on ns ts now new i within so_far step =
    step ∙ ap (λ (us : List TableAt). without_table us (get_or ns i 0)) so_far ∙ without_more ts (take i ns) (get_or ns i 0) ∙ ap (λ (ms : List ℕ). without_tables ms ts) (sym (take_more ns i 0 within))
