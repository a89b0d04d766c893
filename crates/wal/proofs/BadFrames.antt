-- The first frame of a log that is torn or whose body is not in the grammar, and the fault that reading tells.
use Rattle.std.proofs.Common.{◌≡◌, inl, inr, ℕ, suc, ◌<◌, List, [], ◌∷◌, ◌++◌, length, take, drop, map, get_or, drop-cons, refl, sym, ap, ◌∙◌, arith, subst, Vec, Err, false}
use Rattle.std.proofs.lemmas.List.{length-append, append_assoc, map-append, take-append-drop}
use Rattle.std.proofs.Math.Seq.{drop-append_seam}
use Rattle.gate_log.specs.Placed.{Placed}
use Rattle.gate_log.specs.Frames.{framed, IsLog}
use Rattle.gate_log.specs.Reads.{body_of, IsFront, IsTorn, IsBad}
use Rattle.gate_log.specs.Outcomes.{IsReading}
use Rattle.wal.specs.Bodies.{HoldsBatches}
use Rattle.wal.specs.Replays.{LogHolds, IsStrange, IsBadFrame, IsBadLogAt, ReadsFrames, IsReplayFault, is_replay_disk_fault, log_fault_of}
use Rattle.wal.specs.declared.fault.FrameFault.{FrameFault}
use Rattle.wal.specs.declared.fault.FrameFault.TheVariants.{Bad, NoMemory}
use Rattle.wal.proofs.Bodies.{holds_front}
use Rattle.gate_log.specs.Outcomes.{IsFramesFault}
use Rattle.gate_log.specs.declared.fault.FramesFault.{FramesFault}
use Rattle.gate_log.specs.declared.fault.FramesFault.TheVariants.{BadFrame}
use Rattle.wal.specs.declared.fault.ReplayFault.{ReplayFault}
use Rattle.wal.specs.declared.fault.ReplayFault.TheVariants.{BadLog}
use Rattle.wal.specs.declared.numbered.Numbered.{Numbered}
use Rattle.std.specs.declared.alloc.Global.{Global}
use Rattle.wal.proofs.Places.{stands_at}

-- the frames before a bad one stand where they do, and it stands behind them
front_before : (sizes : List ℕ) (frames : List Placed) (end : ℕ) (bytes : List ℕ) (at : ℕ) → IsFront frames end bytes → 0 < length (drop end bytes) → IsBadFrame sizes frames at → IsBadLogAt sizes bytes at
front_before sizes frames end bytes at front gate bad =
    let here = stands_at frames bad.before bad.behind bad.bad bad.parts end bytes front in
    let rest = framed (map body_of bad.behind) ++ drop end bytes in
    let found : IsBadLogAt sizes bytes bad.bad.at = record {
      before = bad.before;
      front = here.0;
      batches = bad.batches;
      held = bad.held;
      bad = inr (record { body = bad.bad.bytes; rest = rest; is = here.1; fits = here.2; gate = omega (arith, length-append (framed (map body_of bad.behind)) (drop end bytes)); strange = bad.strange });
    } in
    subst (IsBadLogAt sizes bytes) (sym bad.place) found

reading_front : (frames : List Placed) (bytes : List ℕ) → IsReading frames bytes → IsFront frames (length (framed (map body_of frames))) bytes × (0 < length (drop (length (framed (map body_of frames))) bytes))
reading_front frames bytes reading =
    let bodies = map body_of frames in
    let tail = reading.log.gate ∷ reading.log.rest in
    let behind : drop (length (framed bodies)) bytes ≡ tail = ap (drop (length (framed bodies))) reading.log.is ∙ drop-append_seam (framed bodies) tail in
    let some : 0 < length (drop (length (framed bodies)) bytes) = omega (arith, ap length behind) in
    (record { is = reading.log.is ∙ ap (λ (bs : List ℕ). framed bodies ++ bs) (sym behind); end = refl; fit = reading.log.fit; places = reading.places }, some)

-- a frame whose body isn't in the grammar, in a log of frames
pub reading_bad : (sizes : List ℕ) (frames : List Placed) (bytes : List ℕ) (at : ℕ) → IsReading frames bytes → IsBadFrame sizes frames at → IsBadLogAt sizes bytes at
reading_bad sizes frames bytes at reading bad =
    let front = reading_front frames bytes reading in
    front_before sizes frames (length (framed (map body_of frames))) bytes at front.0 front.1 bad

pub bad_holds_none : (sizes : List ℕ) (frames : List Placed) (bytes : List ℕ) (at : ℕ) → IsReading frames bytes → IsBadFrame sizes frames at → (batches : List Numbered) → LogHolds sizes batches bytes → ⊥
bad_holds_none sizes frames bytes at reading bad batches holds =
    let xs = map body_of bad.before in
    let ys = map body_of bad.behind in
    let bodies : holds.bodies ≡ (xs ++ bad.bad.bytes ∷ []) ++ ys = reading.only holds.bodies holds.log ∙ ap (map body_of) bad.parts ∙ map-append body_of bad.before (bad.bad ∷ bad.behind) ∙ sym (append_assoc xs (bad.bad.bytes ∷ []) ys) in
    let front = holds_front sizes (xs ++ bad.bad.bytes ∷ []) ys batches (subst (λ (bs : List (List ℕ)). HoldsBatches sizes bs batches) bodies holds.held) in
    bad.strange front.0 front.1

-- a frame that isn't whole
pub torn_bad : (sizes : List ℕ) (before : List Placed) (bytes : List ℕ) (at : ℕ) (batches : List Numbered) → IsBad before at bytes → HoldsBatches sizes (map body_of before) batches → IsBadLogAt sizes bytes at
torn_bad sizes before bytes at batches torn held = record {
  before = before;
  front = torn.front;
  batches = batches;
  held = held;
  bad = inl torn.torn;
}

-- a frame whose body isn't in the grammar, before one that isn't whole
pub torn_strange : (sizes : List ℕ) (before : List Placed) (bytes : List ℕ) (end at : ℕ) → IsBad before end bytes → IsBadFrame sizes before at → IsBadLogAt sizes bytes at
torn_strange sizes before bytes end at torn bad =
    front_before sizes before end bytes at torn.front (some before (drop end bytes) (omega (arith, ap length bad.parts, length-append bad.before (bad.bad ∷ bad.behind))) torn.torn) bad
  where
    some : (before : List Placed) (rest : List ℕ) → 0 < length before → IsTorn before rest → 0 < length rest
    some before [] frames torn = absurd (omega (arith, frames, ap length torn))
    some before (gate ∷ rest) frames torn = omega arith

-- no torn log holds batches
pub torn_holds_none : (sizes : List ℕ) (bytes : List ℕ) → ((bodies : List (List ℕ)) → IsLog bodies bytes → ⊥) → (batches : List Numbered) → LogHolds sizes batches bytes → ⊥
torn_holds_none sizes bytes none batches holds = none holds.bodies holds.log

-- the first frame that isn't in the grammar, by the frames before it
pub bad_frame : (sizes : List ℕ) (frames : List Placed) (i : ℕ) (bad : Placed) (at : ℕ) (batches : List Numbered) → i < length frames → bad ≡ get_or frames i bad → at ≡ bad.at → HoldsBatches sizes (map body_of (take i frames)) batches → IsStrange sizes (map body_of (take i frames)) bad.bytes → IsBadFrame sizes frames at
bad_frame sizes frames i bad at batches within item place held strange = record {
  before = take i frames;
  bad = bad;
  behind = drop (suc i) frames;
  parts = sym (take-append-drop i frames) ∙ ap (λ (ps : List Placed). take i frames ++ ps) (drop-cons frames i bad within ∙ ap (λ (p : Placed). p ∷ drop (suc i) frames) (sym item));
  place = place;
  batches = batches;
  held = held;
  strange = strange;
}

-- why a log isn't read, by its frames before one that isn't whole
pub fault_torn : (sizes : List ℕ) (number at : ℕ) (before : List Placed) (batches : List Numbered) → HoldsBatches sizes (map body_of before) batches → (bytes : List ℕ) → IsBad before at bytes → ((bodies : List (List ℕ)) → IsLog bodies bytes → ⊥) → IsReplayFault sizes number bytes (BadLog number at)
fault_torn sizes number at before batches held bytes torn none =
    (refl, torn_bad sizes before bytes at batches torn held, torn_holds_none sizes bytes none)

pub fault_strange : (sizes : List ℕ) (number end : ℕ) (before : List Placed) (earlier : FrameFault) → ReadsFrames sizes before (Err earlier) → (bytes : List ℕ) → IsBad before end bytes → ((bodies : List (List ℕ)) → IsLog bodies bytes → ⊥) → IsReplayFault sizes number bytes (log_fault_of number earlier)
fault_strange sizes number end before (Bad at) bad bytes torn none =
    (refl, torn_strange sizes before bytes end at torn bad, torn_holds_none sizes bytes none)
fault_strange sizes number end before NoMemory bad bytes torn none = tt

pub fault_handed : (sizes : List ℕ) (number at : ℕ) (before : Vec Placed Global) (list : List Placed) (fault : FramesFault) (r : ReplayFault) → fault ≡ BadFrame at before → list ≡ before.items → ((bytes : List ℕ) → IsBad list at bytes → ((bodies : List (List ℕ)) → IsLog bodies bytes → ⊥) → IsReplayFault sizes number bytes r) → (bytes : List ℕ) → IsFramesFault fault bytes → IsReplayFault sizes number bytes r
fault_handed sizes number at before list fault r is same told bytes refused =
    let torn = subst (λ (f : FramesFault). IsFramesFault f bytes) is refused in
    told bytes (subst (λ (ps : List Placed). IsBad ps at bytes) (sym same) torn.0) torn.1

-- want of memory, or a bad body, in a log whose file didn't fail
pub not_the_disks : (number : ℕ) (fault : FrameFault) → is_replay_disk_fault (log_fault_of number fault) ≡ false
not_the_disks number (Bad at) = refl
not_the_disks number NoMemory = refl

pub reading_refused : (sizes : List ℕ) (number : ℕ) (frames list : List Placed) (bytes : List ℕ) (fault : FrameFault) → frames ≡ list → IsReading list bytes → ReadsFrames sizes frames (Err fault) → IsReplayFault sizes number bytes (log_fault_of number fault)
reading_refused sizes number frames list bytes (Bad at) same reading bad =
    let here = subst (λ (ps : List Placed). IsBadFrame sizes ps at) same bad in
    (refl, reading_bad sizes list bytes at reading here, bad_holds_none sizes list bytes at reading here)
reading_refused sizes number frames list bytes NoMemory same reading bad = tt
