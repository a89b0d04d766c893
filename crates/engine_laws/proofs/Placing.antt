-- Live tables by ascending number, in a manifest and in a state.
use Rattle.std.proofs.Common.{◌≡◌, ◌⊎◌, ℕ, ◌<◌, ◌==◌, Bool, true, false, List, [], ◌∷◌, map, refl, sym, ap, ◌∙◌, subst, arith, inl, inr}
use Rattle.std.specs.Prelude.{nat_lt, not}
use Rattle.std.specs.List.{filter, list_any}
use Rattle.std.proofs.lemmas.Bool.{cases_Bool, ltb-true, lt-ltb, eqb-true, eq-eqb, cases_lt, false≢true, false_from_ne_true}
use Rattle.udt_model.specs.State.{LiveTable, with_table, with_tables}
use Rattle.udt_model.specs.Jobs.{has_number, is_input}
use Rattle.manifest_edit.specs.declared.edit.TableAt.{TableAt}
use Rattle.manifest_edit.specs.LiveTables.{place_table, place_tables, without_tables}
use Rattle.std.proofs.lemmas.List.Elements.{filter_agree}
use Rattle.floor_laws.proofs.Members.{In, In-map, map-In, filter-In}
use Rattle.floor_laws.proofs.Tables.{Sorted}
use Rattle.engine_laws.specs.Manifests.{table_number}
use Rattle.engine_laws.specs.Standing.{TableSays, table_of}
use Rattle.engine_laws.proofs.Places.{filter-map}

-- ---- what is in them

pub place-In : (t v : TableAt) (us : List TableAt) → In v (place_table t us) → (t ≡ v) ⊎ In v us
place-In t v [] h = h
place-In t v (u ∷ us) h =
    elim (cases_Bool (nat_lt t.number u.number)) [
      | inl a ↦ let h2 : In v (t ∷ u ∷ us) = rw a at h in h2
      | inr a ↦ elim (cases_Bool (t.number == u.number)) [
        | inl b ↦ let h2 : In v (t ∷ us) = rw (a, b) at h in elim h2 [ inl q ↦ inl q | inr i ↦ inr (inr i) ]
        | inr b ↦
            let h2 : In v (u ∷ place_table t us) = rw (a, b) at h in
            elim h2 [ inl q ↦ inr (inl q) | inr i ↦ elim (place-In t v us i) [ inl q ↦ inl q | inr j ↦ inr (inr j) ] ]
      ]
    ]

pub placed-In : (v : TableAt) (us ts : List TableAt) → In v (place_tables us ts) → In v ts ⊎ In v us
placed-In v [] ts h = inl h
placed-In v (u ∷ us) ts h = elim (placed-In v us (place_table u ts) h) [
  | inl i ↦ elim (place-In u v ts i) [ inl q ↦ inr (inl q) | inr j ↦ inl j ]
  | inr i ↦ inr (inr i)
]

-- ---- ascending

pub sorted_filter : (p : TableAt → Bool) (ys : List TableAt) → Sorted (map table_number ys) → Sorted (map table_number (filter p ys))
sorted_filter p [] h = tt
sorted_filter p (y ∷ ys) h =
    let r = sorted_filter p ys h.1 in
    elim (cases_Bool (p y)) [
      | inl a ↦ rw a ((λ m i. let x = map-In table_number m (filter p ys) i in h.0 m (subst (λ z. In z (map table_number ys)) x.2 (In-map table_number x.0 ys (filter-In p x.0 ys x.1).0))), r)
      | inr a ↦ rw a r
    ]

-- two numbers of which neither is below the other, nor the same, don't exist
pub behind_of : (a b : ℕ) → nat_lt a b ≡ false → (a == b) ≡ false → b < a
behind_of a b l e = elim (cases_lt a b) [
  | inl k ↦ absurd (false≢true (sym l ∙ lt-ltb a b k))
  | inr k ↦ elim (cases_lt b a) [ inl j ↦ j | inr j ↦ absurd (false≢true (sym e ∙ eq-eqb a b (omega (arith, k, j)))) ]
]

pub sorted_place : (t : TableAt) (us : List TableAt) → Sorted (map table_number us) → Sorted (map table_number (place_table t us))
sorted_place t [] h = ((λ m i. absurd i), tt)
sorted_place t (u ∷ us) h =
    elim (cases_Bool (nat_lt t.number u.number)) [
      | inl a ↦ let l = ltb-true t.number u.number a in rw a ((λ m i. elim i [ inl q ↦ omega (arith, l, q) | inr j ↦ let k = h.0 m j in omega (arith, l, k) ]), h)
      | inr a ↦ elim (cases_Bool (t.number == u.number)) [
        | inl b ↦ let e = eqb-true t.number u.number b in rw (a, b) ((λ m i. let k = h.0 m i in omega (arith, k, e)), h.1)
        | inr b ↦
            let l = behind_of t.number u.number a b in
            let r = sorted_place t us h.1 in
            rw (a, b) (
              (λ m i.
                  let w = map-In table_number m (place_table t us) i in
                  let e = w.2 in
                  elim (place-In t w.0 us w.1) [
                    | inl q ↦ let d : t.number ≡ w.0.number = ap table_number q in omega (arith, l, d, e)
                    | inr j ↦ let k = h.0 w.0.number (In-map table_number w.0 us j) in omega (arith, k, e)
                  ]),
              r,
            )
      ]
    ]

pub sorted_placed : (us ts : List TableAt) → Sorted (map table_number ts) → Sorted (map table_number (place_tables us ts))
sorted_placed [] ts h = h
sorted_placed (u ∷ us) ts h = sorted_placed us (place_table u ts) (sorted_place u ts h)

-- ---- as a state has them

-- two tables of different numbers are put at their places in either order
table_swap : (a b : LiveTable) (ts : List LiveTable) → (a.number ≡ b.number → ⊥) → with_table a (with_table b ts) ≡ with_table b (with_table a ts)
table_swap a b [] ne =
    elim (cases_Bool (nat_lt b.number a.number)) [
      | inl p ↦
          let l = ltb-true b.number a.number p in
          let q : nat_lt a.number b.number ≡ false = false_from_ne_true (nat_lt a.number b.number) (λ y. let k = ltb-true a.number b.number y in omega (arith, l, k)) in
          rw (p, q) refl
      | inr p ↦
          let l : a.number < b.number = elim (cases_lt a.number b.number) [
            | inl k ↦ k
            | inr k ↦ elim (cases_lt b.number a.number) [ inl j ↦ absurd (false≢true (sym p ∙ lt-ltb b.number a.number j)) | inr j ↦ absurd (ne (omega (arith, k, j))) ]
          ] in
          let q : nat_lt a.number b.number ≡ true = lt-ltb a.number b.number l in
          rw (p, q) refl
    ]
table_swap a b (o ∷ os) ne =
    let r = table_swap a b os ne in
    elim (cases_Bool (nat_lt o.number a.number)) [
      | inl p ↦ elim (cases_Bool (nat_lt o.number b.number)) [
        | inl q ↦ rw (p, q) (rw p (ap (λ z. o ∷ z) r))
        | inr q ↦
            -- b goes before o, and o before a
            let lo = ltb-true o.number a.number p in
            let bo : b.number < a.number = elim (cases_lt b.number a.number) [
              | inl k ↦ k
              | inr k ↦ elim (cases_lt o.number b.number) [ inl j ↦ absurd (false≢true (sym q ∙ lt-ltb o.number b.number j)) | inr j ↦ absurd (omega (arith, lo, k, j)) ]
            ] in
            let x : nat_lt b.number a.number ≡ true = lt-ltb b.number a.number bo in
            rw (p, q, x) (rw p refl)
      ]
      | inr p ↦ elim (cases_Bool (nat_lt o.number b.number)) [
        | inl q ↦
            let lo = ltb-true o.number b.number q in
            let ao : a.number < b.number = elim (cases_lt a.number b.number) [
              | inl k ↦ k
              | inr k ↦ elim (cases_lt o.number a.number) [ inl j ↦ absurd (false≢true (sym p ∙ lt-ltb o.number a.number j)) | inr j ↦ absurd (omega (arith, lo, k, j)) ]
            ] in
            let x : nat_lt a.number b.number ≡ true = lt-ltb a.number b.number ao in
            rw (p, q, x) (rw p refl)
        | inr q ↦ elim (cases_Bool (nat_lt b.number a.number)) [
          | inl x ↦
              let l = ltb-true b.number a.number x in
              let y : nat_lt a.number b.number ≡ false = false_from_ne_true (nat_lt a.number b.number) (λ z. let k = ltb-true a.number b.number z in omega (arith, l, k)) in
              rw (p, q, x, y) (rw p refl)
          | inr x ↦
              let l : a.number < b.number = elim (cases_lt a.number b.number) [
                | inl k ↦ k
                | inr k ↦ elim (cases_lt b.number a.number) [ inl j ↦ absurd (false≢true (sym x ∙ lt-ltb b.number a.number j)) | inr j ↦ absurd (ne (omega (arith, k, j))) ]
              ] in
              let y : nat_lt a.number b.number ≡ true = lt-ltb a.number b.number l in
              rw (p, q, x, y) refl
        ]
      ]
    ]

tables_swap : (a : LiveTable) (bs ts : List LiveTable) → ((b : LiveTable) → In b bs → a.number ≡ b.number → ⊥) → with_table a (with_tables bs ts) ≡ with_tables bs (with_table a ts)
tables_swap a [] ts ne = refl
tables_swap a (b ∷ bs) ts ne = table_swap a b (with_tables bs ts) (ne b (inl refl)) ∙ ap (with_table b) (tables_swap a bs ts (λ x i. ne x (inr i)))

eq_swap : (a b : ℕ) → (a == b) ≡ (b == a)
eq_swap a b = elim (cases_Bool (a == b)) [
  | inl y ↦ y ∙ sym (eq-eqb b a (sym (eqb-true a b y)))
  | inr n ↦ n ∙ sym (false_from_ne_true (b == a) (λ z. false≢true (sym n ∙ eq-eqb a b (sym (eqb-true b a z)))))
]

any_swap : (n : ℕ) (ns : List ℕ) → list_any (λ m. n == m) ns ≡ has_number ns n
any_swap n [] = refl
any_swap n (m ∷ ns) = let a = eq_swap n m in let b = any_swap n ns in rw (a, b) refl

module _ (tables : ℕ → TableSays) where
  map-place : (t : TableAt) (us : List TableAt) → ((u : TableAt) → In u us → t.number ≡ u.number → ⊥) → map (table_of tables) (place_table t us) ≡ with_table (table_of tables t) (map (table_of tables) us)
  map-place t [] ne = refl
  map-place t (u ∷ us) ne =
      elim (cases_Bool (nat_lt t.number u.number)) [
        | inl a ↦
            let l = ltb-true t.number u.number a in
            let b : nat_lt u.number t.number ≡ false = false_from_ne_true (nat_lt u.number t.number) (λ y. let k = ltb-true u.number t.number y in omega (arith, l, k)) in
            rw (a, b) refl
        | inr a ↦ elim (cases_Bool (t.number == u.number)) [
          | inl b ↦ absurd (ne u (inl refl) (eqb-true t.number u.number b))
          | inr b ↦
              let d : nat_lt u.number t.number ≡ true = lt-ltb u.number t.number (behind_of t.number u.number a b) in
              rw (a, b, d) (ap (λ z. table_of tables u ∷ z) (map-place t us (λ x i. ne x (inr i))))
        ]
      ]

  -- new tables, of numbers that ascend and that none has, stand in a state where they stand in a manifest
  pub map-placed : (us ts : List TableAt) → Sorted (map table_number us) → ((u t : TableAt) → In u us → In t ts → u.number ≡ t.number → ⊥) → map (table_of tables) (place_tables us ts) ≡ with_tables (map (table_of tables) us) (map (table_of tables) ts)
  map-placed [] ts up ne = refl
  map-placed (u ∷ us) ts up ne =
      let apart : (v : TableAt) → In v us → u.number ≡ v.number → ⊥ = λ v i e. let l = up.0 v.number (In-map table_number v us i) in omega (arith, l, e) in
      map-placed us (place_table u ts) up.1 (λ v t i j e. elim (place-In u t ts j) [ inl q ↦ apart v i (ap table_number q ∙ sym e) | inr k ↦ ne v t (inr i) k e ])
      ∙ ap (with_tables (map (table_of tables) us)) (map-place u ts (λ t j. ne u t (inl refl) j))
      ∙ sym (tables_swap (table_of tables u) (map (table_of tables) us) (map (table_of tables) ts) (λ b i e. let r = map-In (table_of tables) b us i in apart r.0 r.1 (e ∙ sym (ap (λ (z : LiveTable). z.number) r.2))))

  -- and the removed ones leave it
  pub map-without : (removed : List ℕ) (ts : List TableAt) → map (table_of tables) (without_tables removed ts) ≡ filter (λ t. not (is_input removed t)) (map (table_of tables) ts)
  map-without removed ts =
      ap (map (table_of tables)) (filter_agree (λ (t : TableAt). not (list_any (λ n. t.number == n) removed)) (λ (t : TableAt). not (has_number removed t.number)) (λ t. ap not (any_swap t.number removed)) ts)
      ∙ sym (filter-map (λ (t : LiveTable). not (is_input removed t)) (table_of tables) ts)
