-- The bodies of a log and the batches that they hold, from frame to frame.
use Rattle.std.proofs.Common.{◌≡◌, ◌==◌, ℕ, ◌<◌, ◌≤◌, Bool, true, false, List, [], ◌∷◌, ◌++◌, length, refl, sym, ap, ◌∙◌, arith, subst}
use Rattle.std.specs.Prelude.{All}
use Rattle.std.specs.List.{flat_map}
use Rattle.std.proofs.lemmas.List.{length-append, append_assoc, append_cancel_left, append-nil}
use Rattle.std.proofs.lemmas.List.Elements.{All-append, All-nil, All-weaker}
use Rattle.std.proofs.lemmas.Bool.Decides.{nat_tests}
use Rattle.wal.specs.Records.{batch_bytes, IsLoggedBatch}
use Rattle.wal.specs.Bodies.{front_bytes, IsBodyOf, is_first_behind, AreBodiesOf, HoldsBatches}
use Rattle.wal.specs.Sequences.{sequence_after, next_sequence, GoesOn, IsInSequence, IsNumberedWithin}
use Rattle.wal.proofs.Fronts.{wholes_same}
use Rattle.wal.proofs.Batches.{batch_same, batch_some}
use Rattle.wal.specs.declared.numbered.Numbered.{Numbered}
use Rattle.std.proofs.Common.{Option, Some, None}

-- a body has one list of batches
pub body_same : (sizes : List ℕ) (is_first : Bool) (ms bs : List Numbered) (body : List ℕ) → length sizes ≤ 16 → IsBodyOf sizes is_first ms body → IsBodyOf sizes is_first bs body → ms ≡ bs
body_same sizes is_first ms bs body few a b =
    wholes_same batch_bytes (IsLoggedBatch (length sizes)) (batch_same (length sizes) few) batch_some ms bs a.allowed b.allowed (append_cancel_left (front_bytes sizes is_first) (flat_map batch_bytes ms) (flat_map batch_bytes bs) (sym a.spelled ∙ b.spelled))

-- whether the first of the bodies behind these is the log's first, if that of these is
is_first_after : Bool → List (List ℕ) → Bool
is_first_after f [] = f
is_first_after f (body ∷ bodies) = false

begins_later : (bodies : List (List ℕ)) → is_first_after false bodies ≡ false
unfolding is_first_after
begins_later [] = refl
begins_later (body ∷ bodies) = refl

begins_first : (bodies : List (List ℕ)) → is_first_after true bodies ≡ is_first_behind bodies
unfolding is_first_after
begins_first [] = refl
begins_first (body ∷ bodies) = refl

module _ (sizes : List ℕ) where
  -- one body more
  bodies_push : (f : Bool) (bodies : List (List ℕ)) (bs here : List Numbered) (body : List ℕ) → AreBodiesOf sizes f bodies bs → IsBodyOf sizes (is_first_after f bodies) here body → AreBodiesOf sizes f (bodies ++ body ∷ []) (bs ++ here)
  unfolding is_first_after
  bodies_push f [] bs here body none is = (here, [], ap (λ (xs : List Numbered). xs ++ here) none ∙ sym (append-nil here), is, refl)
  bodies_push f (b ∷ bodies) bs here body parts is =
      (parts.0, parts.1 ++ here, ap (λ (xs : List Numbered). xs ++ here) parts.2 ∙ append_assoc parts.0 parts.1 here, parts.3, bodies_push false bodies parts.1 here body parts.4 (subst (λ (g : Bool). IsBodyOf sizes g here body) (sym (begins_later bodies)) is))

  -- the parts of a log that goes on
  bodies_cut : (f : Bool) (front behind : List (List ℕ)) (bs : List Numbered) → AreBodiesOf sizes f (front ++ behind) bs → (ms : List Numbered) × (cs : List Numbered) × (bs ≡ ms ++ cs) × AreBodiesOf sizes f front ms × AreBodiesOf sizes (is_first_after f front) behind cs
  unfolding is_first_after
  bodies_cut f [] behind bs all = ([], bs, refl, refl, all)
  bodies_cut f (b ∷ front) behind bs all =
      let more = bodies_cut false front behind all.1 all.4 in
      (all.0 ++ more.0, more.1, all.2 ∙ ap (λ (xs : List Numbered). all.0 ++ xs) more.2 ∙ sym (append_assoc all.0 more.0 more.1), (all.0, more.0, refl, all.3, more.3), subst (λ (g : Bool). AreBodiesOf sizes g behind more.1) (begins_later front) more.4)

  bodies_same : (f : Bool) (bodies : List (List ℕ)) (ms bs : List Numbered) → length sizes ≤ 16 → AreBodiesOf sizes f bodies ms → AreBodiesOf sizes f bodies bs → ms ≡ bs
  bodies_same f [] ms bs few a b = a ∙ sym b
  bodies_same f (body ∷ bodies) ms bs few a b =
      let here = body_same sizes f a.0 b.0 body few a.3 b.3 in
      let later = bodies_same false bodies a.1 b.1 few a.4 b.4 in
      a.2 ∙ ap (λ (xs : List Numbered). xs ++ a.1) here ∙ ap (λ (xs : List Numbered). b.0 ++ xs) later ∙ sym b.2

  pub bodies_allowed : (f : Bool) (bodies : List (List ℕ)) (bs : List Numbered) → AreBodiesOf sizes f bodies bs → All (IsLoggedBatch (length sizes)) bs
  bodies_allowed f [] bs none = subst (All (IsLoggedBatch (length sizes))) (sym none) (All-nil (IsLoggedBatch (length sizes)))
  bodies_allowed f (body ∷ bodies) bs parts =
      subst (All (IsLoggedBatch (length sizes))) (sym parts.2) (All-append (IsLoggedBatch (length sizes)) parts.0 parts.1 parts.3.allowed (bodies_allowed false bodies parts.1 parts.4))

  -- there is a batch exactly where there is a body
  pub bodies_some : (bodies : List (List ℕ)) (bs : List Numbered) (f : Bool) → AreBodiesOf sizes f bodies bs → is_first_behind bodies ≡ (length bs == 0)
  bodies_some [] bs f none = sym (ap (λ (xs : List Numbered). length xs == 0) none)
  bodies_some (body ∷ bodies) bs f parts = some_is (length bs) (omega (arith, ap length parts.2, length-append parts.0 parts.1, parts.3.some))
    where
      some_is : (n : ℕ) → 0 < n → false ≡ (n == 0)
      some_is n some = grind (arith, nat_tests)

  -- where a sequence goes on
  after : Option ℕ → List Numbered → Option ℕ
  after next [] = next
  after next (b ∷ bs) = after (Some (sequence_after b)) bs

  after_next : (b : Numbered) (bs : List Numbered) (next : Option ℕ) → after next (b ∷ bs) ≡ next_sequence (b ∷ bs)
  unfolding after
  after_next b [] next = refl
  after_next b (c ∷ bs) next = after_next c bs (Some (sequence_after b))

  next_after : (bs : List Numbered) → after None bs ≡ next_sequence bs
  unfolding after
  next_after [] = refl
  next_after (b ∷ bs) = after_next b bs None

  goes_on_join : (next : Option ℕ) (ms bs : List Numbered) → GoesOn next ms → GoesOn (after next ms) bs → GoesOn next (ms ++ bs)
  unfolding after
  goes_on_join next [] bs here later = later
  goes_on_join next (a ∷ ms) bs here later = (here.0, goes_on_join (Some (sequence_after a)) ms bs here.1 later)

  goes_on_cut : (next : Option ℕ) (ms bs : List Numbered) → GoesOn next (ms ++ bs) → GoesOn next ms × GoesOn (after next ms) bs
  unfolding after
  goes_on_cut next [] bs all = (tt, all)
  goes_on_cut next (a ∷ ms) bs all =
      let more = goes_on_cut (Some (sequence_after a)) ms bs all.1 in
      ((all.0, more.0), more.1)

  pub in_sequence_join : (ms bs : List Numbered) → IsInSequence ms → GoesOn (next_sequence ms) bs → IsInSequence (ms ++ bs)
  in_sequence_join ms bs here later = goes_on_join None ms bs here (subst (λ (n : Option ℕ). GoesOn n bs) (sym (next_after ms)) later)

  pub in_sequence_cut : (ms bs : List Numbered) → IsInSequence (ms ++ bs) → IsInSequence ms × GoesOn (next_sequence ms) bs
  in_sequence_cut ms bs all =
      let parts = goes_on_cut None ms bs all in
      (parts.0, subst (λ (n : Option ℕ). GoesOn n bs) (next_after ms) parts.1)

  -- a log with one frame more
  pub holds_push : (bodies : List (List ℕ)) (bs here : List Numbered) (body : List ℕ) → HoldsBatches sizes bodies bs → IsBodyOf sizes (is_first_behind bodies) here body → GoesOn (next_sequence bs) here → HoldsBatches sizes (bodies ++ body ∷ []) (bs ++ here)
  holds_push bodies bs here body held is goes_on = record {
    held = bodies_push true bodies bs here body held.held (subst (λ (g : Bool). IsBodyOf sizes g here body) (sym (begins_first bodies)) is);
    sequence = in_sequence_join bs here held.sequence goes_on;
  }

  -- a log's front is a log
  pub holds_front : (front behind : List (List ℕ)) (bs : List Numbered) → HoldsBatches sizes (front ++ behind) bs → (ms : List Numbered) × HoldsBatches sizes front ms
  holds_front front behind bs held =
      let parts = bodies_cut true front behind bs held.held in
      (parts.0, record { held = parts.3; sequence = (in_sequence_cut parts.0 parts.1 (subst IsInSequence parts.2 held.sequence)).0 })

  -- a log holds one list of batches
  pub holds_same : (bodies : List (List ℕ)) (ms bs : List Numbered) → length sizes ≤ 16 → HoldsBatches sizes bodies ms → HoldsBatches sizes bodies bs → ms ≡ bs
  holds_same bodies ms bs few a b = bodies_same true bodies ms bs few a.held b.held

  -- the last frame of a log
  last_body : (bodies : List (List ℕ)) (bs cs : List Numbered) (body : List ℕ) → length sizes ≤ 16 → HoldsBatches sizes bodies bs → HoldsBatches sizes (bodies ++ body ∷ []) cs → (here : List Numbered) × IsBodyOf sizes (is_first_behind bodies) here body × GoesOn (next_sequence bs) here
  last_body bodies bs cs body few held all =
      let parts = bodies_cut true bodies (body ∷ []) cs all.held in
      let front : parts.0 ≡ bs = bodies_same true bodies parts.0 bs few parts.3 held.held in
      let here = parts.4.0 in
      let only : parts.1 ≡ here = parts.4.2 ∙ ap (λ (xs : List Numbered). here ++ xs) parts.4.4 ∙ append-nil here in
      let goes_on = (in_sequence_cut parts.0 parts.1 (subst IsInSequence parts.2 all.sequence)).1 in
      (here, subst (λ (g : Bool). IsBodyOf sizes g here body) (begins_first bodies) parts.4.3, subst (GoesOn (next_sequence bs)) only (subst (λ (xs : List Numbered). GoesOn (next_sequence xs) parts.1) front goes_on))

  -- no log goes on with a body that spells no batches
  pub no_body : (bodies : List (List ℕ)) (bs : List Numbered) (body : List ℕ) → length sizes ≤ 16 → HoldsBatches sizes bodies bs → ((here : List Numbered) → IsBodyOf sizes (is_first_behind bodies) here body → ⊥) → (cs : List Numbered) → HoldsBatches sizes (bodies ++ body ∷ []) cs → ⊥
  no_body bodies bs body few held none cs all =
      let last = last_body bodies bs cs body few held all in
      none last.0 last.1

  -- nor with one whose sequences don't go on
  pub no_sequence : (bodies : List (List ℕ)) (bs here : List Numbered) (body : List ℕ) → length sizes ≤ 16 → HoldsBatches sizes bodies bs → IsBodyOf sizes (is_first_behind bodies) here body → (GoesOn (next_sequence bs) here → ⊥) → (cs : List Numbered) → HoldsBatches sizes (bodies ++ body ∷ []) cs → ⊥
  no_sequence bodies bs here body few held is none cs all =
      let last = last_body bodies bs cs body few held all in
      none (subst (GoesOn (next_sequence bs)) (body_same sizes (is_first_behind bodies) last.0 here body few last.1 is) last.2)

-- every batch of a log ends within the sequences
pub holds_within : (sizes : List ℕ) (bodies : List (List ℕ)) (bs : List Numbered) → HoldsBatches sizes bodies bs → All IsNumberedWithin bs
holds_within sizes bodies bs held = All-weaker (IsLoggedBatch (length sizes)) IsNumberedWithin (λ b is. is.last) bs (bodies_allowed sizes true bodies bs held.held)

-- a log without frames
pub holds_none : (sizes : List ℕ) → HoldsBatches sizes [] []
holds_none sizes = record { held = refl; sequence = tt }
