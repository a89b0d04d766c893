-- What stands at the front of bytes.
use Rattle.std.proofs.Common.{◌≡◌, ℕ, ◌+◌, ◌<◌, ◌≤◌, List, [], ◌∷◌, ◌++◌, length, take, drop, Result, Ok, Err, refl, sym, ap, ◌∙◌, arith, subst}
use Rattle.std.specs.Prelude.{All, IsErrAnd}
use Rattle.std.specs.List.{flat_map}
use Rattle.std.proofs.lemmas.List.{length-append, append_assoc, flat_map_more}
use Rattle.std.proofs.lemmas.List.Elements.{All-head, All-tail, All-push}
use Rattle.std.proofs.Math.Seq.{take-append_seam, drop-append_seam}
use Rattle.ts_key.specs.Reading.{SpellsNone, ReadsFront}
use Rattle.wal.specs.Reading.{BodyFaultTells, IsBodyFault}
use Rattle.wal.specs.declared.fault.BodyFault.{BodyFault}
use Rattle.wal.specs.declared.fault.BodyFault.TheVariants.{Bad, NoMemory}

-- fronts of one length are the same, and so is what stands behind them
pub fronts_same : {A : Type 0} (a b r s : List A) → length a ≡ length b → a ++ r ≡ b ++ s → (a ≡ b) × (r ≡ s)
fronts_same a b r s len same =
    (sym (take-append_seam a r) ∙ ap (λ (n : ℕ). take n (a ++ r)) len ∙ ap (take (length b)) same ∙ take-append_seam b s, sym (drop-append_seam a r) ∙ ap (λ (n : ℕ). drop n (a ++ r)) len ∙ ap (drop (length b)) same ∙ drop-append_seam b s)

module _ {V : Type 0} (spelled : V → List ℕ) (Allowed : V → Type 0) where
  -- a reader hands on this fault
  pub hands_on : {R : Type 0} (view : R → V) (old new : List ℕ) (r : Result R BodyFault) (fault : BodyFault) → IsErrAnd r (λ y. y ≡ fault) → (fault ≡ Bad → SpellsNone spelled Allowed old) → ReadsFront BodyFaultTells view spelled Allowed old new r
  hands_on view old new (Ok x) fault is none = absurd is
  hands_on view old new (Err Bad) fault is none = none (sym is)
  hands_on view old new (Err NoMemory) fault is none = tt

  -- a reader that calls the bytes bad
  pub none_there : (old : List ℕ) (fault : BodyFault) → IsBodyFault spelled Allowed old fault → fault ≡ Bad → SpellsNone spelled Allowed old
  none_there old fault read is = subst (IsBodyFault spelled Allowed old) is read

  -- bytes that are too short for any spelling
  pub short_front : (n : ℕ) (old : List ℕ) → ((v : V) → Allowed v → n ≤ length (spelled v)) → length old < n → SpellsNone spelled Allowed old
  short_front n old least short v rest allowed is =
      absurd (omega (arith, least v allowed, ap length is, length-append (spelled v) rest))

  -- a list with one value more
  pub list_more : (vs : List V) (v : V) (new : List V) (old mid rest : List ℕ) (n : ℕ) → new ≡ vs ++ v ∷ [] → (length vs ≡ n) × All Allowed vs × (old ≡ flat_map spelled vs ++ mid) → Allowed v × (mid ≡ spelled v ++ rest) → (length new ≡ n + 1) × All Allowed new × (old ≡ flat_map spelled new ++ rest)
  list_more vs v new old mid rest n is so_far next =
      (ap length is ∙ length-append vs (v ∷ []) ∙ omega (arith, so_far.0), subst (All Allowed) (sym is) (All-push Allowed vs v so_far.1 next.0), so_far.2 ∙ ap (λ (xs : List ℕ). flat_map spelled vs ++ xs) next.1 ∙ sym (append_assoc (flat_map spelled vs) (spelled v) rest) ∙ ap (λ (xs : List ℕ). xs ++ rest) (flat_map_more spelled [] vs v) ∙ ap (λ (ws : List V). flat_map spelled ws ++ rest) (sym is))

  -- a spelling is known by the bytes that begin with it
  abbrev pub IsUnique : Type 0
  IsUnique = (v w : V) (r s : List ℕ) → Allowed v → Allowed w → spelled v ++ r ≡ spelled w ++ s → (v ≡ w) × (r ≡ s)

  module _ (unique : IsUnique) where
    -- no list goes on where no value is spelled
    pub stops : (vs : List V) (mid : List ℕ) (count : ℕ) → All Allowed vs → length vs < count → SpellsNone spelled Allowed mid
        → SpellsNone (flat_map spelled) (λ (ws : List V). (length ws ≡ count) × All Allowed ws) (flat_map spelled vs ++ mid)
    stops [] mid count all less none [] rest allowed is = absurd (omega (arith, allowed.0))
    stops [] mid count all less none (w ∷ ws) rest allowed is =
        none w (flat_map spelled ws ++ rest) (All-head Allowed w ws allowed.1) (is ∙ append_assoc (spelled w) (flat_map spelled ws) rest)
    stops (v ∷ vs) mid count all less none [] rest allowed is = absurd (omega (arith, allowed.0))
    stops (v ∷ vs) mid count all less none (w ∷ ws) rest allowed is =
        let same = unique v w (flat_map spelled vs ++ mid) (flat_map spelled ws ++ rest) (All-head Allowed v vs all) (All-head Allowed w ws allowed.1) (sym (append_assoc (spelled v) (flat_map spelled vs) mid) ∙ is ∙ append_assoc (spelled w) (flat_map spelled ws) rest) in
        stops vs mid (length ws) (All-tail Allowed v vs all) (omega (arith, allowed.0)) none ws rest (refl, All-tail Allowed w ws allowed.1) same.1

    -- lists of one length are known by the bytes that begin with their spellings
    pub lists_same : (vs ws : List V) (r s : List ℕ) → All Allowed vs → All Allowed ws → length vs ≡ length ws → flat_map spelled vs ++ r ≡ flat_map spelled ws ++ s → (vs ≡ ws) × (r ≡ s)
    lists_same [] [] r s all_v all_w len is = (refl, is)
    lists_same [] (w ∷ ws) r s all_v all_w len is = absurd (omega arith)
    lists_same (v ∷ vs) [] r s all_v all_w len is = absurd (omega arith)
    lists_same (v ∷ vs) (w ∷ ws) r s all_v all_w len is =
        let same = unique v w (flat_map spelled vs ++ r) (flat_map spelled ws ++ s) (All-head Allowed v vs all_v) (All-head Allowed w ws all_w) (sym (append_assoc (spelled v) (flat_map spelled vs) r) ∙ is ∙ append_assoc (spelled w) (flat_map spelled ws) s) in
        let more = lists_same vs ws r s (All-tail Allowed v vs all_v) (All-tail Allowed w ws all_w) (omega arith) same.1 in
        (ap (λ (x : V). x ∷ vs) same.0 ∙ ap (λ (xs : List V). w ∷ xs) more.0, more.1)

    module _ (some : (v : V) → 1 ≤ length (spelled v)) where
      -- bytes that are whole lists of spellings, and the lists
      pub wholes_same : (vs ws : List V) → All Allowed vs → All Allowed ws → flat_map spelled vs ≡ flat_map spelled ws → vs ≡ ws
      wholes_same [] [] all_v all_w is = refl
      wholes_same [] (w ∷ ws) all_v all_w is = absurd (omega (arith, some w, ap length is, length-append (spelled w) (flat_map spelled ws)))
      wholes_same (v ∷ vs) [] all_v all_w is = absurd (omega (arith, some v, ap length is, length-append (spelled v) (flat_map spelled vs)))
      wholes_same (v ∷ vs) (w ∷ ws) all_v all_w is =
          let same = unique v w (flat_map spelled vs) (flat_map spelled ws) (All-head Allowed v vs all_v) (All-head Allowed w ws all_w) is in
          ap (λ (x : V). x ∷ vs) same.0 ∙ ap (λ (xs : List V). w ∷ xs) (wholes_same vs ws (All-tail Allowed v vs all_v) (All-tail Allowed w ws all_w) same.1)

      -- bytes that go on where no value is spelled are no list of spellings
      pub never_whole : (vs : List V) (mid : List ℕ) → All Allowed vs → 0 < length mid → SpellsNone spelled Allowed mid → (ws : List V) → All Allowed ws → flat_map spelled vs ++ mid ≡ flat_map spelled ws → ⊥
      never_whole [] mid all goes_on none [] allowed is = omega (arith, ap length is)
      never_whole [] mid all goes_on none (w ∷ ws) allowed is = none w (flat_map spelled ws) (All-head Allowed w ws allowed) is
      never_whole (v ∷ vs) mid all goes_on none [] allowed is =
          omega (arith, some v, ap length is, length-append (spelled v ++ flat_map spelled vs) mid, length-append (spelled v) (flat_map spelled vs))
      never_whole (v ∷ vs) mid all goes_on none (w ∷ ws) allowed is =
          let same = unique v w (flat_map spelled vs ++ mid) (flat_map spelled ws) (All-head Allowed v vs all) (All-head Allowed w ws allowed) (sym (append_assoc (spelled v) (flat_map spelled vs) mid) ∙ is) in
          never_whole vs mid (All-tail Allowed v vs all) goes_on none ws (All-tail Allowed w ws allowed) same.1
