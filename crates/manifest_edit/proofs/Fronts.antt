-- What stands at the front of bytes, part after part.
use Rattle.std.proofs.Common.{◌≡◌, ℕ, ◌+◌, ◌<◌, ◌^◌, List, [], ◌∷◌, ◌++◌, length, Result, Ok, Err, refl, sym, ap, ◌∙◌, arith, subst}
use Rattle.std.specs.Prelude.{All, IsErrAnd}
use Rattle.std.specs.List.{flat_map}
use Rattle.std.proofs.lemmas.List.{length-append, append_assoc, flat_map_more}
use Rattle.std.proofs.lemmas.List.Elements.{All-head, All-tail, All-push}
use Rattle.ts_key.specs.Numbers.{number_bytes}
use Rattle.ts_key.specs.Reading.{SpellsNone, ReadsFront}
use Rattle.ts_key.proofs.NumberBytes.{number_bytes-unique}
use Rattle.manifest_edit.specs.Edits.{counted_text, AreCounted}
use Rattle.manifest_edit.specs.Reading.{TellsBad}
use Rattle.manifest_edit.specs.declared.fault.EditFault.{EditFault}
use Rattle.manifest_edit.specs.declared.fault.EditFault.TheVariants.{Bad, NoMemory}

module _ {V : Type 0} (spelled : V → List ℕ) (Allowed : V → Type 0) where
  -- a reader hands on this fault
  pub hands_on : {R : Type 0} (view : R → V) (old new : List ℕ) (r : Result R EditFault) (fault : EditFault) → IsErrAnd r (λ y. y ≡ fault) → (fault ≡ Bad → SpellsNone spelled Allowed old) → ReadsFront TellsBad view spelled Allowed old new r
  hands_on view old new (Ok x) fault is none = absurd is
  hands_on view old new (Err Bad) fault is none = none (sym is)
  hands_on view old new (Err NoMemory) fault is none = tt

  -- a reader that calls the bytes bad
  pub none_there : (old : List ℕ) (fault : EditFault) → TellsBad fault (SpellsNone spelled Allowed old) → fault ≡ Bad → SpellsNone spelled Allowed old
  none_there old fault read is = subst (λ (f : EditFault). TellsBad f (SpellsNone spelled Allowed old)) is read

  -- a list with one value more
  pub list_more : (vs : List V) (v : V) (new : List V) (old mid rest : List ℕ) (n : ℕ) → new ≡ vs ++ v ∷ [] → (length vs ≡ n) × All Allowed vs × (old ≡ flat_map spelled vs ++ mid) → Allowed v × (mid ≡ spelled v ++ rest) → (length new ≡ n + 1) × All Allowed new × (old ≡ flat_map spelled new ++ rest)
  list_more vs v new old mid rest n is so_far next =
      (ap length is ∙ length-append vs (v ∷ []) ∙ omega (arith, so_far.0), subst (All Allowed) (sym is) (All-push Allowed vs v so_far.1 next.0), so_far.2 ∙ ap (λ (xs : List ℕ). flat_map spelled vs ++ xs) next.1 ∙ sym (append_assoc (flat_map spelled vs) (spelled v) rest) ∙ ap (λ (xs : List ℕ). xs ++ rest) (flat_map_more spelled [] vs v) ∙ ap (λ (ws : List V). flat_map spelled ws ++ rest) (sym is))

  -- a spelling is known by the bytes that begin with it
  abbrev pub IsUnique : Type 0
  IsUnique = (v w : V) (r s : List ℕ) → Allowed v → Allowed w → spelled v ++ r ≡ spelled w ++ s → (v ≡ w) × (r ≡ s)

  -- nothing is spelled of which this is not even the first part
  pub first_none : {W : Type 0} (get : W → V) (tail : W → List ℕ) (Whole : W → Type 0) → ((w : W) → Whole w → Allowed (get w)) → (old : List ℕ) → SpellsNone spelled Allowed old → SpellsNone (λ (w : W). spelled (get w) ++ tail w) Whole old
  first_none get tail Whole part old none w rest whole is = none (get w) (tail w ++ rest) (part w whole) (is ∙ append_assoc (spelled (get w)) (tail w) rest)

  -- what a reader of so many answers is what one of counted ones answers, behind the count
  pub counted_on : {R : Type 0} (view : R → List V) (old mid new : List ℕ) (count : ℕ) (r : Result R EditFault) → count < 2 ^ 32 → old ≡ number_bytes 4 count ++ mid
      → ReadsFront TellsBad view (flat_map spelled) (λ (vs : List V). (length vs ≡ count) × All Allowed vs) mid new r
      → ReadsFront TellsBad view (counted_text spelled) (AreCounted Allowed) old new r
  counted_on view old mid new count (Ok x) few is read =
      (record { few = omega (arith, read.0.0, few); each = read.0.1 }, is ∙ ap (λ (n : ℕ). number_bytes 4 n ++ mid) (sym read.0.0) ∙ ap (λ (xs : List ℕ). number_bytes 4 (length (view x)) ++ xs) read.1 ∙ sym (append_assoc (number_bytes 4 (length (view x))) (flat_map spelled (view x)) new))
  counted_on view old mid new count (Err Bad) few is read = λ vs rest allowed spelled_so.
      let same = number_bytes-unique 4 count (length vs) mid (flat_map spelled vs ++ rest) (omega (arith, few)) (omega (arith, allowed.few)) (sym is ∙ spelled_so ∙ append_assoc (number_bytes 4 (length vs)) (flat_map spelled vs) rest) in
      read vs rest (sym same.0, allowed.each) same.1
  counted_on view old mid new count (Err NoMemory) few is read = tt

  -- no counted list is spelled where no count is
  pub count_none : (old : List ℕ) → SpellsNone (number_bytes 4) (λ n. n < 2 ^ 32) old → SpellsNone (counted_text spelled) (AreCounted Allowed) old
  count_none old none vs rest allowed is = none (length vs) (flat_map spelled vs ++ rest) allowed.few (is ∙ append_assoc (number_bytes 4 (length vs)) (flat_map spelled vs) rest)

  module _ (unique : IsUnique) where
    -- nothing is spelled where the first part is there and none follows it
    pub later_none : {W : Type 0} (get : W → V) (tail : W → List ℕ) (Whole : W → Type 0) → ((w : W) → Whole w → Allowed (get w)) → (v : V) (old mid : List ℕ) → Allowed v → old ≡ spelled v ++ mid → SpellsNone tail Whole mid → SpellsNone (λ (w : W). spelled (get w) ++ tail w) Whole old
    later_none get tail Whole part v old mid allowed here none w rest whole is =
        none w rest whole (unique v (get w) mid (tail w ++ rest) allowed (part w whole) (sym here ∙ is ∙ append_assoc (spelled (get w)) (tail w) rest)).1

    -- no list goes on where no value is spelled
    pub stops : (vs : List V) (mid : List ℕ) (count : ℕ) → All Allowed vs → length vs < count → SpellsNone spelled Allowed mid
        → SpellsNone (flat_map spelled) (λ (ws : List V). (length ws ≡ count) × All Allowed ws) (flat_map spelled vs ++ mid)
    stops [] mid count all less none [] rest allowed is = absurd (omega (arith, allowed.0))
    stops [] mid count all less none (w ∷ ws) rest allowed is =
        none w (flat_map spelled ws ++ rest) (All-head Allowed w ws allowed.1) (is ∙ append_assoc (spelled w) (flat_map spelled ws) rest)
    stops (v ∷ vs) mid count all less none [] rest allowed is = absurd (omega (arith, allowed.0))
    stops (v ∷ vs) mid count all less none (w ∷ ws) rest allowed is =
        let same = unique v w (flat_map spelled vs ++ mid) (flat_map spelled ws ++ rest) (All-head Allowed v vs all) (All-head Allowed w ws allowed.1) (sym (append_assoc (spelled v) (flat_map spelled vs) mid) ∙ is ∙ append_assoc (spelled w) (flat_map spelled ws) rest) in
        stops vs mid (length ws) (All-tail Allowed v vs all) (omega (arith, allowed.0)) none ws rest (refl, All-tail Allowed w ws allowed.1) same.1

    -- lists of one length are known by the bytes that begin with their spellings
    pub lists_same : (vs ws : List V) (r s : List ℕ) → All Allowed vs → All Allowed ws → length vs ≡ length ws → flat_map spelled vs ++ r ≡ flat_map spelled ws ++ s → (vs ≡ ws) × (r ≡ s)
    lists_same [] [] r s all_v all_w len is = (refl, is)
    lists_same [] (w ∷ ws) r s all_v all_w len is = absurd (omega arith)
    lists_same (v ∷ vs) [] r s all_v all_w len is = absurd (omega arith)
    lists_same (v ∷ vs) (w ∷ ws) r s all_v all_w len is =
        let same = unique v w (flat_map spelled vs ++ r) (flat_map spelled ws ++ s) (All-head Allowed v vs all_v) (All-head Allowed w ws all_w) (sym (append_assoc (spelled v) (flat_map spelled vs) r) ∙ is ∙ append_assoc (spelled w) (flat_map spelled ws) s) in
        let more = lists_same vs ws r s (All-tail Allowed v vs all_v) (All-tail Allowed w ws all_w) (omega arith) same.1 in
        (ap (λ (x : V). x ∷ vs) same.0 ∙ ap (λ (xs : List V). w ∷ xs) more.0, more.1)

    -- and so are counted lists
    pub counted_same : (vs ws : List V) (r s : List ℕ) → AreCounted Allowed vs → AreCounted Allowed ws → counted_text spelled vs ++ r ≡ counted_text spelled ws ++ s → (vs ≡ ws) × (r ≡ s)
    counted_same vs ws r s all_v all_w is =
        let count = number_bytes-unique 4 (length vs) (length ws) (flat_map spelled vs ++ r) (flat_map spelled ws ++ s) (omega (arith, all_v.few)) (omega (arith, all_w.few)) (sym (append_assoc (number_bytes 4 (length vs)) (flat_map spelled vs) r) ∙ is ∙ append_assoc (number_bytes 4 (length ws)) (flat_map spelled ws) s) in
        lists_same vs ws r s all_v.each all_w.each count.0 count.1
