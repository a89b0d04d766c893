-- What the two writes of an append make of a log, and what a crash may make of it.
use Rattle.std.proofs.Common.{◌≡◌, ◌≢◌, ◌⊎◌, inl, inr, ℕ, ◌+◌, ◌≤◌, List, [], ◌∷◌, ◌++◌, length, get_or, take, drop, sym, ◌∙◌, ap, subst, arith, append_assoc, length-append, take-append-drop}
use Rattle.std.specs.Prelude.{Some, None}
use Rattle.std.specs.Int.{w32, to_le_bytes}
use Rattle.std.proofs.lemmas.List.{take_at, drop_at, drop_more, append-nil, take-take, take-append-le, length-take-le}
use Rattle.std.proofs.lemmas.Bool.{cases_eq}
use Rattle.udt_disk.specs.Bytes.{overwritten, Torn}
use Rattle.udt_disk.specs.Crash.{Image, Tears}
use Rattle.gate_log.specs.Frames.{frame, framed, staged, IsBody, AreBodies, IsLog, IsLogImage, IsWithOrWithout}

-- a byte before what was written behind it: both are one write
pub overwritten-before : (at byte : ℕ) (bytes old : List ℕ) → at + 1 ≤ length old → overwritten (overwritten old (at + 1) bytes) at (byte ∷ []) ≡ overwritten old at (byte ∷ bytes)
overwritten-before at byte bytes old within =
    let front = take (at + 1) old in
    let back = drop (at + 1 + length bytes) old in
    let long : length front ≡ at + 1 = length-take-le (at + 1) old within in
    let split : overwritten old (at + 1) bytes ≡ front ++ (bytes ++ back) = append_assoc front bytes back in
    let before : take at (overwritten old (at + 1) bytes) ≡ take at old =
    ap (take at) split ∙ take-append-le at front (bytes ++ back) (omega (arith, long)) ∙ take-take at (at + 1) old (omega arith) in
    let behind : drop (at + 1) (overwritten old (at + 1) bytes) ≡ bytes ++ back = ap (drop (at + 1)) split ∙ drop_at front (bytes ++ back) (at + 1) long in
    ap (λ (l : List ℕ). (l ++ byte ∷ []) ++ drop (at + 1) (overwritten old (at + 1) bytes)) before
    ∙ ap (λ (l : List ℕ). (take at old ++ byte ∷ []) ++ l) behind
    ∙ append_assoc (take at old) (byte ∷ []) (bytes ++ back)
    ∙ sym (append_assoc (take at old) (byte ∷ bytes) back)
    ∙ ap (λ (k : ℕ). (take at old ++ byte ∷ bytes) ++ drop k old) (omega arith)

-- a log has a byte at its end
pub gate_there : (bodies : List (List ℕ)) (end : ℕ) (bytes : List ℕ) → end ≡ length (framed bodies) → IsLog bodies bytes → end + 1 ≤ length bytes
gate_there bodies end bytes ends log = omega (arith, ends, ap length log.is, length-append (framed bodies) (log.gate ∷ log.rest))

pub framed-push : (bodies : List (List ℕ)) (body rest : List ℕ) → framed (bodies ++ body ∷ []) ++ rest ≡ framed bodies ++ (frame body ++ rest)
framed-push [] body rest = ap (λ (l : List ℕ). l ++ rest) (append-nil (frame body))
framed-push (b ∷ bodies) body rest =
    append_assoc (frame b) (framed (bodies ++ body ∷ [])) rest ∙ ap (λ (l : List ℕ). frame b ++ l) (framed-push bodies body rest) ∙ sym (append_assoc (frame b) (framed bodies) (frame body ++ rest))

pub length-framed-push : (bodies : List (List ℕ)) (body : List ℕ) → length (framed (bodies ++ body ∷ [])) ≡ length (framed bodies) + (length body + 5)
length-framed-push [] body = omega (arith, length-append (frame body) [])
length-framed-push (b ∷ bodies) body =
    omega (arith, length-append (frame b) (framed (bodies ++ body ∷ [])), length-append (frame b) (framed bodies), length-framed-push bodies body)

pub fit-push : (bodies : List (List ℕ)) (body : List ℕ) → AreBodies bodies → IsBody body → AreBodies (bodies ++ body ∷ [])
fit-push [] body fit is = (is, tt)
fit-push (b ∷ bodies) body fit is = (fit.0, fit-push bodies body fit.1 is)

-- the log with a frame behind its closed gate
pub record IsStaged (bodies : List (List ℕ)) (body bytes : List ℕ) : Type 0 where
  pub gate : ℕ
  pub rest : List ℕ
  pub shut : gate ≢ 165
  pub is : bytes ≡ framed bodies ++ gate ∷ (staged body ++ rest)
  pub fit : AreBodies bodies

-- its gate is closed, so it is no frame yet
pub staged_reads : (bodies : List (List ℕ)) (body bytes : List ℕ) → IsStaged bodies body bytes → IsLog bodies bytes
staged_reads bodies body bytes log = record { gate = log.gate; rest = staged body ++ log.rest; shut = log.shut; is = log.is; fit = log.fit }

-- an open gate before it makes it a frame
pub opens : (bodies : List (List ℕ)) (body rest : List ℕ) → AreBodies bodies → IsBody body → IsLog (bodies ++ body ∷ []) (framed bodies ++ 165 ∷ (staged body ++ rest))
opens bodies body rest fit is = record {
  gate = 90;
  rest = rest;
  shut = omega arith;
  is = ap (λ (l : List ℕ). framed bodies ++ 165 ∷ l) regroup ∙ sym (framed-push bodies body (90 ∷ rest));
  fit = fit-push bodies body fit is;
}
  where
    regroup : staged body ++ rest ≡ to_le_bytes w32 (length body) ++ (body ++ 90 ∷ rest)
    regroup = ap (λ (l : List ℕ). to_le_bytes w32 (length body) ++ l) (append_assoc body (90 ∷ []) rest)

module _ (bodies : List (List ℕ)) (end : ℕ) (ends : end ≡ length (framed bodies)) where
  front : (gate : ℕ) (rest : List ℕ) → take (end + 1) (framed bodies ++ gate ∷ rest) ≡ framed bodies ++ gate ∷ []
  front gate rest =
      ap (take (end + 1)) (sym (append_assoc (framed bodies) (gate ∷ []) rest)) ∙ take_at (framed bodies ++ gate ∷ []) rest (end + 1) (omega (arith, length-append (framed bodies) (gate ∷ [])))

  back : (gate : ℕ) (rest : List ℕ) → drop (end + 1) (framed bodies ++ gate ∷ rest) ≡ rest
  back gate rest =
      ap (drop (end + 1)) (sym (append_assoc (framed bodies) (gate ∷ []) rest)) ∙ drop_at (framed bodies ++ gate ∷ []) rest (end + 1) (omega (arith, length-append (framed bodies) (gate ∷ [])))

  -- what stands behind the closed gate doesn't count
  behind : (n : ℕ) (old new : List ℕ) → IsLog bodies old → Torn (end + 1) n old new → IsLog bodies new
  behind n old new log torn = record {
    gate = log.gate;
    rest = drop (end + 1) new;
    shut = log.shut;
    is = sym (take-append-drop (end + 1) new)
        ∙ ap (λ (l : List ℕ). l ++ drop (end + 1) new) (torn.before ∙ ap (take (end + 1)) log.is ∙ front log.gate log.rest)
        ∙ append_assoc (framed bodies) (log.gate ∷ []) (drop (end + 1) new);
    fit = log.fit;
  }

  pub torn_behind : (n : ℕ) (old : List ℕ) → IsLog bodies old → (c : Image) → Tears (end + 1) n (Some old) c → IsLogImage bodies c
  torn_behind n old log None torn = torn
  torn_behind n old log (Some new) torn = behind n old new log torn

  pub written_behind : (body old new : List ℕ) → IsLog bodies old → new ≡ overwritten old (end + 1) (staged body) → IsStaged bodies body new
  written_behind body old new log is = record {
    gate = log.gate;
    rest = drop (end + 1 + length (staged body)) old;
    shut = log.shut;
    is = is
        ∙ ap (λ (l : List ℕ). l ++ staged body ++ drop (end + 1 + length (staged body)) old) (ap (take (end + 1)) log.is ∙ front log.gate log.rest)
        ∙ append_assoc (framed bodies ++ log.gate ∷ []) (staged body) (drop (end + 1 + length (staged body)) old)
        ∙ append_assoc (framed bodies) (log.gate ∷ []) (staged body ++ drop (end + 1 + length (staged body)) old);
    fit = log.fit;
  }

  -- either the gate opens or it doesn't
  either : (body old new : List ℕ) → IsBody body → IsStaged bodies body old → Torn end 1 old new → IsLog bodies new ⊎ IsLog (bodies ++ body ∷ []) new
  either body old new fit log torn =
      let gate = get_or new end 0 in
      let rest = staged body ++ log.rest in
      let rest_is : drop end new ≡ gate ∷ rest =
      drop_more new end 0 (omega (arith, torn.no_shorter, ap length log.is, length-append (framed bodies) (log.gate ∷ rest))) ∙ ap (λ (l : List ℕ). gate ∷ l) (torn.after ∙ ap (drop (end + 1)) log.is ∙ back log.gate rest) in
      let whole : new ≡ framed bodies ++ gate ∷ rest =
      sym (take-append-drop end new) ∙ ap (λ (l : List ℕ). l ++ drop end new) (torn.before ∙ ap (take end) log.is ∙ take_at (framed bodies) (log.gate ∷ rest) end (sym ends)) ∙ ap (λ (l : List ℕ). framed bodies ++ l) rest_is in
      elim (cases_eq gate 165) [
        | inl open_gate ↦ inr (subst (IsLog (bodies ++ body ∷ [])) (sym (whole ∙ ap (λ (n : ℕ). framed bodies ++ n ∷ rest) open_gate)) (opens bodies body log.rest log.fit fit))
        | inr shut ↦ inl (record { gate = gate; rest = rest; shut = shut; is = whole; fit = log.fit })
      ]

  pub torn_gate : (body old : List ℕ) → IsBody body → IsStaged bodies body old → (c : Image) → Tears end 1 (Some old) c → IsWithOrWithout bodies body c
  torn_gate body old fit log None torn = absurd torn
  torn_gate body old fit log (Some new) torn = either body old new fit log torn

  pub written_gate : (body old new : List ℕ) → IsBody body → IsStaged bodies body old → new ≡ overwritten old end (165 ∷ []) → IsLog (bodies ++ body ∷ []) new
  written_gate body old new fit log is =
      let rest = staged body ++ log.rest in
      let whole : new ≡ framed bodies ++ 165 ∷ rest =
      is
      ∙ ap (λ (l : List ℕ). l ++ (165 ∷ []) ++ drop (end + 1) old) (ap (take end) log.is ∙ take_at (framed bodies) (log.gate ∷ rest) end (sym ends))
      ∙ ap (λ (l : List ℕ). framed bodies ++ (165 ∷ []) ++ l) (ap (drop (end + 1)) log.is ∙ back log.gate rest)
      ∙ append_assoc (framed bodies) (165 ∷ []) rest in
      subst (IsLog (bodies ++ body ∷ [])) (sym whole) (opens bodies body log.rest log.fit fit)
