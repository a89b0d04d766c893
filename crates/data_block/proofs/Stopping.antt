-- Where reading stops is one place, and no list of versions is spelled there.
use Rattle.std.proofs.Common.{◌≡◌, ℕ, ◌+◌, ◌⊎◌, inl, inr, List, [], ◌∷◌, ◌++◌, length, refl, sym, ap, subst, ◌∙◌, append_assoc, length-append, add-zero, arith}
use Rattle.std.specs.List.{AllByRecursion}
use Rattle.std.specs.declared.cmp.Ordering.TheVariants.{Less}
use Rattle.ts_key.specs.Order.{sort_cmp}
use Rattle.ts_key.specs.Items.{Item}
use Rattle.ts_key.specs.StoredKeys.{IsItem}
use Rattle.ts_key.specs.Lists.{IsSorted}
use Rattle.ts_key.specs.declared.version.Form.{Form}
use Rattle.data_block.specs.Grammar.{stored_key_of, shared, entry_of, entries, last_key}
use Rattle.data_block.specs.Reading.{IsNextEntry}
use Rattle.data_block.specs.Regions.{IsRun, StopsAt}
use Rattle.data_block.proofs.Lengths.{length-entry}
use Rattle.data_block.proofs.Runs.{next_once}

-- the versions ws go on behind vs, from the front of `rest` on
pub record GoesOn (form : Form) (n : ℕ) (last : List ℕ) (vs : List Item) (rest : List ℕ) (ws : List Item) : Type 0 where
  pub w : Item
  pub more : List Item
  pub after : List ℕ
  pub whole : ws ≡ vs ++ w ∷ more
  pub next : IsNextEntry form (n + length vs) (last_key form last vs) rest w after

pub some_entry : (form : Form) (n : ℕ) (last : List ℕ) (v : Item) (x : List ℕ) → [] ≡ entry_of form n last v ++ x → ⊥
some_entry form n last v x e = omega (arith, ap length e, length-append (entry_of form n last v) x, length-entry (shared n last (stored_key_of form v)) (stored_key_of form v) v.value)

goes_on_at : (form : Form) (n : ℕ) (last : List ℕ) (rest : List ℕ) (w : Item) (ws : List Item) (after : List ℕ) → IsItem form w → rest ≡ entry_of form n last w ++ after → GoesOn form n last [] rest (w ∷ ws)
goes_on_at form n last rest w ws after item e =
    record {
      w = w;
      more = ws;
      after = after;
      whole = refl;
      next = subst (λ (m : ℕ). IsNextEntry form m last rest w after) (sym (add-zero n)) (record { parts = e; item = item });
    }

goes_on_more : (form : Form) (n : ℕ) (last : List ℕ) (v x : Item) (vs ws : List Item) (rest : List ℕ) → v ≡ x → GoesOn form (n + 1) (stored_key_of form v) vs rest ws → GoesOn form n last (v ∷ vs) rest (x ∷ ws)
goes_on_more form n last v x vs ws rest same g =
    let index : n + 1 + length vs ≡ n + length (v ∷ vs) = omega arith in
    record {
      w = g.w;
      more = g.more;
      after = g.after;
      whole = λ i. sym same i ∷ g.whole i;
      next = subst (λ (m : ℕ). IsNextEntry form m (last_key form (stored_key_of form v) vs) rest g.w g.after) index g.next;
    }

abbrev Compared : Form → ℕ → List ℕ → List Item → List ℕ → List Item → List ℕ → Type 0
Compared form n last vs rest ws other = ((vs ≡ ws) × (rest ≡ other)) ⊎ (GoesOn form n last vs rest ws ⊎ GoesOn form n last ws other vs)

compared_more : (form : Form) (n : ℕ) (last : List ℕ) (v x : Item) (vs ws : List Item) (rest other : List ℕ) → v ≡ x → Compared form (n + 1) (stored_key_of form v) vs rest ws other → Compared form n last (v ∷ vs) rest (x ∷ ws) other
compared_more form n last v x vs ws rest other same (inl h) = inl (λ i. same i ∷ h.0 i, h.1)
compared_more form n last v x vs ws rest other same (inr (inl g)) = inr (inl (goes_on_more form n last v x vs ws rest same g))
compared_more form n last v x vs ws rest other same (inr (inr g)) =
    inr (inr (goes_on_more form n last x v ws vs other (sym same) (subst (λ (y : Item). GoesOn form (n + 1) (stored_key_of form y) ws other vs) same g)))

-- of two runs of the same bytes one goes on behind the other, or they are the same
pub compared : (form : Form) (n : ℕ) (last : List ℕ) (vs : List Item) (rest : List ℕ) (ws : List Item) (other : List ℕ) → AllByRecursion (IsItem form) vs → AllByRecursion (IsItem form) ws → entries form n last vs ++ rest ≡ entries form n last ws ++ other → Compared form n last vs rest ws other
unfolding entries
compared form n last [] rest [] other a b e = inl (refl, e)
compared form n last [] rest (w ∷ ws) other a b e =
    inr (inl (goes_on_at form n last rest w ws (entries form (n + 1) (stored_key_of form w) ws ++ other) b.0 (e ∙ append_assoc (entry_of form n last w) (entries form (n + 1) (stored_key_of form w) ws) other)))
compared form n last (v ∷ vs) rest [] other a b e =
    inr (inr (goes_on_at form n last other v vs (entries form (n + 1) (stored_key_of form v) vs ++ rest) a.0 (sym e ∙ append_assoc (entry_of form n last v) (entries form (n + 1) (stored_key_of form v) vs) rest)))
compared form n last (v ∷ vs) rest (w ∷ ws) other a b e =
    let bytes = entries form n last (w ∷ ws) ++ other in
    let o = next_once form n last bytes v w (entries form (n + 1) (stored_key_of form v) vs ++ rest) (entries form (n + 1) (stored_key_of form w) ws ++ other)
    (record { parts = sym e ∙ append_assoc (entry_of form n last v) (entries form (n + 1) (stored_key_of form v) vs) rest; item = a.0 })
    (record { parts = append_assoc (entry_of form n last w) (entries form (n + 1) (stored_key_of form w) ws) other; item = b.0 }) in
    let e2 : entries form (n + 1) (stored_key_of form v) vs ++ rest ≡ entries form (n + 1) (stored_key_of form v) ws ++ other = o.1 ∙ ap (λ (x : Item). entries form (n + 1) (stored_key_of form x) ws ++ other) (sym o.0) in
    compared_more form n last v w vs ws rest other o.0 (compared form (n + 1) (stored_key_of form v) vs rest ws other a.1 b.1 e2)

cut_all : (P : Item → Type 0) (vs : List Item) (w : Item) (more : List Item) → AllByRecursion P (vs ++ w ∷ more) → AllByRecursion P (vs ++ w ∷ [])
cut_all P [] w more h = (h.0, tt)
cut_all P (v ∷ vs) w more h = (h.0, cut_all P vs w more h.1)

cut_sorted : (vs : List Item) (w : Item) (more : List Item) → IsSorted (vs ++ w ∷ more) → IsSorted (vs ++ w ∷ [])
cut_sorted [] w more h = (tt, tt)
cut_sorted (v ∷ vs) w more h = (cut_all (λ x. sort_cmp v.sort_key x.sort_key ≡ Less) vs w more h.0, cut_sorted vs w more h.1)

-- nothing goes on behind the versions before the place where reading stops
none_on : (form : Form) (region : List ℕ) (n : ℕ) (s : StopsAt form region n) (ws : List Item) → IsSorted ws → GoesOn form 0 [] s.vs s.rest ws → ⊥
none_on form region n s ws sorted g =
    let next : IsNextEntry form (length s.vs) (last_key form [] s.vs) s.rest g.w g.after = subst (λ (m : ℕ). IsNextEntry form m (last_key form [] s.vs) s.rest g.w g.after) (omega arith) g.next in
    s.none g.w g.after next (cut_sorted s.vs g.w g.more (subst IsSorted g.whole sorted))

pub stops_right : (form : Form) (region : List ℕ) (n : ℕ) → StopsAt form region n → (ws : List Item) → IsRun form region ws [] → ⊥
stops_right form region n s ws r =
    elim (compared form 0 [] s.vs s.rest ws [] s.run.items r.items (sym s.run.parts ∙ r.parts)) [
      | inl h ↦ (let some = s.some in omega (arith, ap length h.1))
      | inr (inl g) ↦ none_on form region n s ws r.sorted g
      | inr (inr g) ↦ some_entry form (0 + length ws) (last_key form [] ws) g.w g.after g.next.parts
    ]

pub stops_once : (form : Form) (region : List ℕ) (a b : ℕ) → StopsAt form region a → StopsAt form region b → a ≡ b
stops_once form region a b s t =
    elim (compared form 0 [] s.vs s.rest t.vs t.rest s.run.items t.run.items (sym s.run.parts ∙ t.run.parts)) [
      | inl h ↦ s.at ∙ ap (λ (vs : List Item). length (entries form 0 [] vs)) h.0 ∙ sym t.at
      | inr (inl g) ↦ absurd (none_on form region a s t.vs t.run.sorted g)
      | inr (inr g) ↦ absurd (none_on form region b t s.vs s.run.sorted g)
    ]
