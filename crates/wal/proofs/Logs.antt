-- What the frames of a log hold.
use Rattle.std.proofs.Common.{◌≡◌, ℕ, ◌+◌, ◌<◌, ◌≤◌, List, [], ◌∷◌, ◌++◌, length, take, map, get_or, sym, ap, ◌∙◌, subst}
use Rattle.std.proofs.lemmas.List.{map-append, take_more}
use Rattle.gate_log.specs.Placed.{Placed}
use Rattle.gate_log.specs.Reads.{body_of}
use Rattle.gate_log.specs.Outcomes.{IsReading}
use Rattle.gate_log.proofs.Reading.{only_log}
use Rattle.wal.specs.Bodies.{HoldsBatches}
use Rattle.wal.specs.Replays.{LogHolds}
use Rattle.wal.proofs.Bodies.{holds_same}
use Rattle.wal.specs.declared.numbered.Numbered.{Numbered}

pub reading_holds : (sizes : List ℕ) (frames : List Placed) (bytes : List ℕ) (batches : List Numbered) → IsReading frames bytes → HoldsBatches sizes (map body_of frames) batches → LogHolds sizes batches bytes
reading_holds sizes frames bytes batches reading held = record { bodies = map body_of frames; log = reading.log; held = held }

pub reading_only : (sizes : List ℕ) (frames : List Placed) (bytes : List ℕ) (batches : List Numbered) → length sizes ≤ 16 → IsReading frames bytes → HoldsBatches sizes (map body_of frames) batches → (others : List Numbered) → LogHolds sizes others bytes → others ≡ batches
reading_only sizes frames bytes batches few reading held others holds =
    holds_same sizes (map body_of frames) others batches few (subst (λ (bs : List (List ℕ)). HoldsBatches sizes bs others) (reading.only holds.bodies holds.log) holds.held) held

-- one frame more
pub holds_more : (sizes : List ℕ) (frames : List Placed) (i : ℕ) (frame : Placed) (batches : List Numbered) → i < length frames → frame ≡ get_or frames i frame → HoldsBatches sizes (map body_of (take i frames) ++ frame.bytes ∷ []) batches → HoldsBatches sizes (map body_of (take (i + 1) frames)) batches
holds_more sizes frames i frame batches within item held =
    let more : map body_of (take (i + 1) frames) ≡ map body_of (take i frames) ++ frame.bytes ∷ [] = ap (map body_of) (take_more frames i frame within ∙ ap (λ (p : Placed). take i frames ++ p ∷ []) (sym item)) ∙ map-append body_of (take i frames) (frame ∷ []) in
    subst (λ (bs : List (List ℕ)). HoldsBatches sizes bs batches) (sym more) held

-- given bytes mean one list of batches
pub log_holds_one : (sizes : List ℕ) (as_one as_other : List Numbered) (bytes : List ℕ) → length sizes ≤ 16 → LogHolds sizes as_one bytes → LogHolds sizes as_other bytes → as_one ≡ as_other
log_holds_one sizes as_one as_other bytes few one other =
    holds_same sizes other.bodies as_one as_other few (subst (λ (bs : List (List ℕ)). HoldsBatches sizes bs as_one) (only_log one.bodies other.bodies bytes one.log other.log) one.held) other.held
