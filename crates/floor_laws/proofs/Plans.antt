-- What a closed plan gives of the tables that it leaves out.
use Rattle.std.proofs.Common.{◌≡◌, ◌≢◌, ◌⊎◌, ℕ, ◌<◌, ◌&&◌, ◌||◌, true, false, not, List, sym, ap, ◌∙◌, arith, inl, inr, subst}
use Rattle.std.specs.Prelude.{◌==◌, nat_lt}
use Rattle.std.specs.List.{filter, list_any, list_all}
use Rattle.std.proofs.lemmas.Bool.{false≢true, and_from, or_cases, or_parts, lt-ltb, eq-eqb, cases_order, false_from_ne_true}
use Rattle.ts_key.specs.declared.version.Version.{Version}
use Rattle.udt_model.specs.declared.reply.KeySpan.{KeySpan}
use Rattle.udt_model.specs.Orders.{is_in, is_in_some, meets, span_of}
use Rattle.udt_model.specs.State.{LiveTable}
use Rattle.udt_model.specs.Jobs.{has_number, is_input, spans_of, is_amid, goes_with, hull_of, is_wanted}
use Rattle.floor_laws.specs.Tables.{contents}
use Rattle.floor_laws.proofs.Members.{In, In-filter, any-In, all-In, In-map}
use Rattle.floor_laws.proofs.Keys.{meets_from, span_has}
use Rattle.floor_laws.proofs.Tables.{ins, ins-In, Ordered}
use Rattle.floor_laws.proofs.Pieces.{hull_has}

-- the spans of the tables below a level that aren't inputs
abbrev pub deeper_in : List LiveTable → List ℕ → ℕ → List KeySpan
deeper_in ts inputs level = spans_of (filter (λ t. nat_lt level t.level && not (is_input inputs t)) ts)

abbrev pub IsTakenIn : List LiveTable → List ℕ → ℕ → Type 0
IsTakenIn ts inputs level = list_all (λ t. is_input inputs t || not (is_wanted level (ins inputs ts) t)) ts ≡ true

-- a table that is no input and meets the hull of the inputs goes with none of them
free_of : (ts : List LiveTable) (inputs : List ℕ) (level : ℕ) → IsTakenIn ts inputs level → (t : LiveTable) → In t ts → is_input inputs t ≡ false → meets (span_of t.versions) (hull_of (ins inputs ts)) ≡ true → (x : LiveTable) → In x (ins inputs ts) → goes_with level x t ≡ false
free_of ts inputs level taken t i out meet x j =
    false_from_ne_true (goes_with level x t) (λ y.
    let w : is_wanted level (ins inputs ts) t ≡ true = and_from (meets (span_of t.versions) (hull_of (ins inputs ts))) (list_any (λ input. goes_with level input t) (ins inputs ts)) meet (any-In (λ input. goes_with level input t) x (ins inputs ts) j y) in
    elim (or_cases (is_input inputs t) (not (is_wanted level (ins inputs ts) t)) (all-In (λ z. is_input inputs z || not (is_wanted level (ins inputs ts) z)) t ts taken i)) [
      | inl a ↦ false≢true (sym out ∙ a)
      | inr a ↦ false≢true (sym (ap not w) ∙ a)
    ])

pub record NotWith (level : ℕ) (x t : LiveTable) : Type 0 where
  pub other : t.level ≡ level → ⊥
  pub up : x.level < t.level → t.level < level → ⊥
  pub down : level < t.level → t.level < x.level → ⊥
  pub bottom : x.level ≡ 0 → t.level ≡ 0 → ⊥

not_with : (level : ℕ) (x t : LiveTable) → goes_with level x t ≡ false → NotWith level x t
not_with level x t h =
    let p = or_parts (t.level == level || is_amid x.level t.level level) (x.level == 0 && t.level == 0) h in
    let q = or_parts (t.level == level) (is_amid x.level t.level level) p.0 in
    let r = or_parts (nat_lt x.level t.level && nat_lt t.level level) (nat_lt level t.level && nat_lt t.level x.level) q.1 in
    record {
      other = λ e. false≢true (sym q.0 ∙ eq-eqb t.level level e);
      up = λ a b. false≢true (sym r.0 ∙ and_from (nat_lt x.level t.level) (nat_lt t.level level) (lt-ltb x.level t.level a) (lt-ltb t.level level b));
      down = λ a b. false≢true (sym r.1 ∙ and_from (nat_lt level t.level) (nat_lt t.level x.level) (lt-ltb level t.level a) (lt-ltb t.level x.level b));
      bottom = λ a b. false≢true (sym p.1 ∙ and_from (x.level == 0) (t.level == 0) (eq-eqb x.level 0 a) (eq-eqb t.level 0 b));
    }

-- a version in no input is newer than the inputs' of its key and lies on a smaller level than the output, or is older, lies on a greater
-- one and in a deeper span
pub closed_outside : (ts : List LiveTable) (inputs : List ℕ) (level : ℕ) → 0 < level → IsTakenIn ts inputs level → Ordered ts → (t : LiveTable) → In t ts → is_input inputs t ≡ false → (a b : Version) → In a (contents (ins inputs ts)) → In b t.versions → a.key ≡ b.key → ((t.level < level) × (a.seq.0 < b.seq.0)) ⊎ ((level < t.level) × (b.seq.0 < a.seq.0) × (is_in_some (deeper_in ts inputs level) b.key ≡ true))
closed_outside ts inputs level pos taken order t it out a b ia ib k =
    let x = ins-In inputs ts a ia in
    let xin : In x.0 (ins inputs ts) = In-filter (is_input inputs) x.0 ts x.1 x.2 in
    let spanned : is_in (span_of t.versions) b.key ≡ true = span_has t.versions b ib in
    let hull : is_in (hull_of (ins inputs ts)) b.key ≡ true = subst (λ z. is_in (hull_of (ins inputs ts)) z ≡ true) k (hull_has (ins inputs ts) a ia) in
    let meet : meets (span_of t.versions) (hull_of (ins inputs ts)) ≡ true = meets_from b.key (span_of t.versions) (hull_of (ins inputs ts)) spanned hull in
    let n = not_with level x.0 t (free_of ts inputs level taken t it out meet x.0 xin) in
    let both : meets (span_of x.0.versions) (span_of t.versions) ≡ true = meets_from b.key (span_of x.0.versions) (span_of t.versions) (subst (λ z. is_in (span_of x.0.versions) z ≡ true) k (span_has x.0.versions a x.3)) spanned in
    let differ : x.0.number ≢ t.number = λ e. false≢true (sym out ∙ ap (λ m. has_number inputs m) (sym e) ∙ x.2) in
    let apart : t.level ≡ x.0.level → ⊥ = λ e. elim (cases_order t.level 0) [
      | inl z ↦ n.bottom (sym e ∙ z) z
      | inr z ↦ false≢true (sym (order.spread x.0 t x.1 it (sym e) (elim z [ inl lt ↦ absurd (omega (arith, lt)) | inr lt ↦ omega (arith, lt, e) ]) differ) ∙ both)
    ] in
    elim (cases_order t.level level) [
      | inl e ↦ absurd (n.other e)
      | inr c ↦ elim c [
        | inl lt ↦ elim (cases_order t.level x.0.level) [
          | inl e ↦ absurd (apart e)
          | inr d ↦ elim d [
            | inl l2 ↦ inl (lt, order.levels t x.0 it x.1 l2 b a ib x.3 (sym k))
            | inr l2 ↦ absurd (n.up l2 lt)
          ]
        ]
        | inr lt ↦ elim (cases_order t.level x.0.level) [
          | inl e ↦ absurd (apart e)
          | inr d ↦ elim d [
            | inl l2 ↦ absurd (n.down lt l2)
            | inr l2 ↦ inr (
              lt,
              order.levels x.0 t x.1 it l2 a b x.3 ib k,
              any-In (λ span. is_in span b.key) (span_of t.versions) (deeper_in ts inputs level)
                  (In-map (λ (z : LiveTable). span_of z.versions) t (filter (λ (z : LiveTable). nat_lt level z.level && not (is_input inputs z)) ts)
                  (In-filter (λ (z : LiveTable). nat_lt level z.level && not (is_input inputs z)) t ts it (and_from (nat_lt level t.level) (not (is_input inputs t)) (lt-ltb level t.level lt) (ap not out)))) spanned,
            )
          ]
        ]
      ]
    ]

-- a table on the output level that is no input doesn't meet the hull of the inputs
pub closed_clear : (ts : List LiveTable) (inputs : List ℕ) (level : ℕ) → IsTakenIn ts inputs level → (x : LiveTable) → In x (ins inputs ts) → (t : LiveTable) → In t ts → is_input inputs t ≡ false → t.level ≡ level → meets (span_of t.versions) (hull_of (ins inputs ts)) ≡ false
closed_clear ts inputs level taken x xin t it out e =
    false_from_ne_true (meets (span_of t.versions) (hull_of (ins inputs ts))) (λ y. (not_with level x t (free_of ts inputs level taken t it out y x xin)).other e)
