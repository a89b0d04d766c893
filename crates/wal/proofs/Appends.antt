-- Batches that wait, and the frame that they become.
use Rattle.std.proofs.Common.{◌≡◌, inl, inr, ⊎_elim, ◌==◌, ◌&&◌, ℕ, ◌+◌, ◌*◌, ◌^◌, ◌<◌, ◌≤◌, Bool, true, false, List, [], ◌∷◌, ◌++◌, length, take, refl, sym, ap, ◌∙◌, arith, subst}
use Rattle.std.proofs.Common.{Some, None}
use Rattle.std.specs.Prelude.{All}
use Rattle.std.specs.List.{flat_map}
use Rattle.std.proofs.lemmas.List.{length-append, append_assoc, append_cancel_left, append-nil, flat_map_more}
use Rattle.std.proofs.lemmas.List.Elements.{All-head, All-tail}
use Rattle.std.proofs.lemmas.Bool.Decides.{nat_tests}
use Rattle.std.proofs.Math.Seq.{take-append_seam}
use Rattle.udt_disk.specs.Crash.{Image}
use Rattle.gate_log.specs.Frames as frames
use Rattle.ts_key.specs.Batches.{IsBatch}
use Rattle.ts_key.specs.declared.batch.WriteOp.{WriteOp}
use Rattle.ts_key.specs.Numbers.{number_bytes}
use Rattle.wal.specs.Records.{op_bytes, value_bytes, batch_bytes, families_bytes, IsShortValue, IsLoggedBatch}
use Rattle.wal.specs.Heads.{op_head_bytes, batch_head_bytes}
use Rattle.ts_key.specs.Writing.{Extends}
use Rattle.wal.specs.Writing.{IsShortOp}
use Rattle.wal.specs.Sequences.{next_sequence, sequence_after, IsNextSequence, IsInSequence}
use Rattle.wal.specs.Bodies.{front_bytes, IsBodyOf, is_first_behind, HoldsBatches}
use Rattle.wal.specs.Replays.{ReadsAs, IsBeforeOrAfter}
use Rattle.wal.specs.Wals.{waiting_bytes}
use Rattle.ts_key.proofs.NumberBytes.{length-number_bytes}
use Rattle.wal.proofs.Fronts.{wholes_same}
use Rattle.wal.proofs.Heads.{length-op_head, length-batch_head}
use Rattle.wal.proofs.Operations as operations
use Rattle.wal.proofs.Batches as batches
use Rattle.wal.proofs.Bodies.{in_sequence_join, in_sequence_cut, holds_push}
use Rattle.wal.specs.declared.numbered.Numbered.{Numbered}
use Rattle.ts_key.specs.declared.version.Op.{Op}
use Rattle.ts_key.specs.declared.version.Op.TheVariants.{Put, Del}

-- the size record comes first exactly where nothing waits
flag_none : (fresh : Bool) (old : List ℕ) → length old ≡ 0 → (fresh && (length old == 0)) ≡ fresh
flag_none true old none = grind (arith, nat_tests)
flag_none false old none = refl

flag_some : (fresh : Bool) (old : List ℕ) → 0 < length old → (fresh && (length old == 0)) ≡ false
flag_some true old some = grind (arith, nat_tests)
flag_some false old some = refl

-- one batch more waits
pub waits_more : (sizes : List ℕ) (fresh : Bool) (ws : List Numbered) (n : Numbered) (old new : List ℕ) → old ≡ waiting_bytes sizes fresh ws → new ≡ old ++ (front_bytes sizes (fresh && (length old == 0)) ++ batch_bytes n) → new ≡ waiting_bytes sizes fresh (ws ++ n ∷ [])
waits_more sizes fresh [] n old new is more =
    let flag = flag_none fresh old (ap length is) in
    more ∙ ap (λ (bs : List ℕ). bs ++ (front_bytes sizes (fresh && (length old == 0)) ++ batch_bytes n)) is ∙ ap (λ (f : Bool). front_bytes sizes f ++ batch_bytes n) flag ∙ ap (λ (bs : List ℕ). front_bytes sizes fresh ++ bs) (sym (append-nil (batch_bytes n)))
waits_more sizes fresh (w ∷ ws) n old new is more =
    let some : 0 < length old = omega (arith, ap length is, length-append (front_bytes sizes fresh) (flat_map batch_bytes (w ∷ ws)), length-append (batch_bytes w) (flat_map batch_bytes ws), batches.batch_some w) in
    let flag = flag_some fresh old some in
    more ∙ ap (λ (f : Bool). old ++ (front_bytes sizes f ++ batch_bytes n)) flag ∙ ap (λ (bs : List ℕ). bs ++ batch_bytes n) is ∙ flat_map_more batch_bytes (front_bytes sizes fresh) (w ∷ ws) n

-- what waits is known by its bytes
pub waits_same : (sizes : List ℕ) (fresh : Bool) (vs ws : List Numbered) → length sizes ≤ 16 → All (IsLoggedBatch (length sizes)) vs → All (IsLoggedBatch (length sizes)) ws → waiting_bytes sizes fresh vs ≡ waiting_bytes sizes fresh ws → vs ≡ ws
waits_same sizes fresh [] [] few all_v all_w is = refl
waits_same sizes fresh [] (w ∷ ws) few all_v all_w is =
    absurd (omega (arith, ap length is, length-append (front_bytes sizes fresh) (flat_map batch_bytes (w ∷ ws)), length-append (batch_bytes w) (flat_map batch_bytes ws), batches.batch_some w))
waits_same sizes fresh (v ∷ vs) [] few all_v all_w is =
    absurd (omega (arith, ap length is, length-append (front_bytes sizes fresh) (flat_map batch_bytes (v ∷ vs)), length-append (batch_bytes v) (flat_map batch_bytes vs), batches.batch_some v))
waits_same sizes fresh (v ∷ vs) (w ∷ ws) few all_v all_w is =
    wholes_same batch_bytes (IsLoggedBatch (length sizes)) (batches.batch_same (length sizes) few) batches.batch_some (v ∷ vs) (w ∷ ws) all_v all_w (append_cancel_left (front_bytes sizes fresh) (flat_map batch_bytes (v ∷ vs)) (flat_map batch_bytes (w ∷ ws)) is)

-- a batch that may stand in the log
pub logged_batch : (families first : ℕ) (ops : List WriteOp) → IsBatch ops → All IsShortOp ops → All (λ (op : WriteOp). op.family.0 < families) ops → 1 ≤ first → first + length ops ≤ 2 ^ 56 → IsLoggedBatch families (record { first = record { 0 = first }; batch = ops })
logged_batch families first ops batch short named one last = record {
  some = batch.some;
  within = batch.within;
  ops = λ k d h. record { family = named k d h; stamp = batch.stamped k d h; key = (short k d h).key; value = (short k d h).value };
  first = one;
  last = last;
}

-- it goes on where the others end
pub sequence_more : (bs ws : List Numbered) (n : Numbered) → IsInSequence (bs ++ ws) → IsNextSequence (next_sequence (bs ++ ws)) n.first.0 → IsInSequence (bs ++ (ws ++ n ∷ []))
sequence_more bs ws n so_far next =
    subst IsInSequence (append_assoc bs ws (n ∷ [])) (in_sequence_join [] (bs ++ ws) (n ∷ []) so_far (next, tt))

-- the old bytes are what is left of those that extend them
pub cut_back : (old mid new : List ℕ) (n : ℕ) → Extends old mid → n ≡ length old → new ≡ take n mid → new ≡ old
cut_back old mid new n more len is =
    is ∙ ap (λ (k : ℕ). take k mid) len ∙ ap (take (length old)) more.is ∙ take-append_seam old more.more

-- how long a record is
op_short : (op : WriteOp) → IsShortOp op → length (op_bytes op) ≤ 66579
op_short op short =
    omega (arith, length-append (op_head_bytes (operations.op_head_of op)) (op.key ++ value_bytes op.op), length-append op.key (value_bytes op.op), length-op_head (operations.op_head_of op), short.key, value_short op.op short.value)
  where
    value_short : (op : Op) → IsShortValue op → length (value_bytes op) ≤ 65540
    value_short (Put value) short = omega (arith, length-append (number_bytes 4 (length value)) value, length-number_bytes 4 (length value), short)
    value_short Del short = omega arith

ops_short : (ops : List WriteOp) → All IsShortOp ops → length (flat_map op_bytes ops) ≤ 66579 * length ops
ops_short [] all = omega arith
ops_short (op ∷ ops) all =
    omega (arith, length-append (op_bytes op) (flat_map op_bytes ops), op_short op (All-head IsShortOp op ops all), ops_short ops (All-tail IsShortOp op ops all))

batch_short : (n : Numbered) → length n.batch ≤ 64 → All IsShortOp n.batch → length (batch_bytes n) ≤ 4261066
batch_short n few short =
    omega (arith, length-append (batch_head_bytes (batches.batch_head_of n)) (flat_map op_bytes n.batch), length-batch_head (batches.batch_head_of n), ops_short n.batch short)

families_short : (k : ℕ) (sizes : List ℕ) → length (families_bytes k sizes) ≤ 5 * length sizes
families_short k [] = omega arith
families_short k (size ∷ sizes) =
    omega (arith, length-append (number_bytes 4 k ++ size ∷ []) (families_bytes (k + 1) sizes), length-append (number_bytes 4 k) (size ∷ []), length-number_bytes 4 k, families_short (k + 1) sizes)

front_short : (sizes : List ℕ) (f : Bool) → length sizes ≤ 16 → length (front_bytes sizes f) ≤ 85
front_short sizes true few = omega (arith, length-append (number_bytes 4 (length sizes)) (families_bytes 0 sizes), length-number_bytes 4 (length sizes), families_short 0 sizes)
front_short sizes false few = omega arith

-- what waits fits a frame
pub fits_frame : (sizes : List ℕ) (f : Bool) (n : Numbered) (old new : List ℕ) → length sizes ≤ 16 → length n.batch ≤ 64 → All IsShortOp n.batch → length old < 1048576 → new ≡ old ++ (front_bytes sizes f ++ batch_bytes n) → length new ≤ 8388608
fits_frame sizes f n old new few within short room is =
    omega (arith, ap length is, length-append old (front_bytes sizes f ++ batch_bytes n), length-append (front_bytes sizes f) (batch_bytes n), front_short sizes f few, batch_short n within short)

pub grows : (front : List ℕ) (n : Numbered) (old new : List ℕ) → new ≡ old ++ (front ++ batch_bytes n) → length old < length new
grows front n old new is =
    omega (arith, ap length is, length-append old (front ++ batch_bytes n), length-append front (batch_bytes n), batches.batch_some n)

-- what waits is the body of a frame
pub waiting_body : (sizes : List ℕ) (fresh : Bool) (ws : List Numbered) (waiting : List ℕ) → 0 < length waiting → waiting ≡ waiting_bytes sizes fresh ws → All (IsLoggedBatch (length sizes)) ws → IsBodyOf sizes fresh ws waiting
waiting_body sizes fresh [] waiting some is all = absurd (omega (arith, some, ap length is))
waiting_body sizes fresh (w ∷ ws) waiting some is all = record { some = omega arith; allowed = all; spelled = is }

pub waits_none : (sizes : List ℕ) (fresh : Bool) (ws : List Numbered) (waiting : List ℕ) → length waiting ≡ 0 → waiting ≡ waiting_bytes sizes fresh ws → ws ≡ []
waits_none sizes fresh [] waiting none is = refl
waits_none sizes fresh (w ∷ ws) waiting none is =
    absurd (omega (arith, none, ap length is, length-append (front_bytes sizes fresh) (flat_map batch_bytes (w ∷ ws)), length-append (batch_bytes w) (flat_map batch_bytes ws), batches.batch_some w))

pub not_first_behind : (bodies : List (List ℕ)) (body : List ℕ) → is_first_behind (bodies ++ body ∷ []) ≡ false
not_first_behind [] body = refl
not_first_behind (b ∷ bodies) body = refl

-- a log with the frame that waited
pub holds_synced : (sizes : List ℕ) (bodies : List (List ℕ)) (bs ws : List Numbered) (fresh : Bool) (waiting : List ℕ) → HoldsBatches sizes bodies bs → fresh ≡ is_first_behind bodies → 0 < length waiting → waiting ≡ waiting_bytes sizes fresh ws → All (IsLoggedBatch (length sizes)) ws → IsInSequence (bs ++ ws) → HoldsBatches sizes (bodies ++ waiting ∷ []) (bs ++ ws)
holds_synced sizes bodies bs ws fresh waiting held first some is all sequence =
    holds_push sizes bodies bs ws waiting held (subst (λ (f : Bool). IsBodyOf sizes f ws waiting) first (waiting_body sizes fresh ws waiting some is all)) (in_sequence_cut sizes bs ws sequence).1

-- each image of a log of frames, as one of batches
pub reads_as : (sizes : List ℕ) (bodies : List (List ℕ)) (bs : List Numbered) → HoldsBatches sizes bodies bs → (c : Image) → frames.IsLogImage bodies c → ReadsAs sizes bs c
reads_as sizes bodies bs held None none = none
reads_as sizes bodies bs held (Some bytes) log = record { bodies = bodies; log = log; held = held }

pub before_or_after : (sizes : List ℕ) (bodies : List (List ℕ)) (bs ws : List Numbered) (waiting : List ℕ) → HoldsBatches sizes bodies bs → HoldsBatches sizes (bodies ++ waiting ∷ []) (bs ++ ws) → (c : Image) → frames.IsWithOrWithout bodies waiting c → IsBeforeOrAfter sizes bs ws c
before_or_after sizes bodies bs ws waiting held all c image =
    ⊎_elim (λ before. inl (reads_as sizes bodies bs held c before)) (λ after. inr (reads_as sizes (bodies ++ waiting ∷ []) (bs ++ ws) all c after)) image

-- the sequence behind one batch more
pub next_push : (bs : List Numbered) (n : Numbered) → next_sequence (bs ++ n ∷ []) ≡ Some (sequence_after n)
next_push [] n = refl
next_push (b ∷ []) n = refl
next_push (b ∷ c ∷ bs) n = next_push (c ∷ bs) n
