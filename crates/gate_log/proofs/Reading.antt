-- One more frame that is read, and that given bytes are a log of one list of bodies at most.
use Rattle.std.proofs.Common.{◌≡◌, ◌≢◌, ◌⊎◌, inl, inr, ℕ, zero, suc, ◌+◌, ◌≤◌, ◌<◌, ◌^◌, List, [], ◌∷◌, ◌++◌, length, take, drop, get_or, refl, sym, ◌∙◌, ap, subst, arith, append_assoc, length-append, take-append-drop}
use Rattle.std.specs.Prelude.{map}
use Rattle.std.specs.Int.{w32, to_le_bytes, from_le_bytes}
use Rattle.std.proofs.lemmas.List.{map-append, drop-drop, drop_more, length-take, length-drop, take_at, drop_at}
use Rattle.std.proofs.lemmas.Nat.{from_le_bytes-to_le_bytes_4}
use Rattle.gate_log.specs.Placed.{Placed}
use Rattle.gate_log.specs.Frames.{frame, framed, IsBody, AreBodies, IsLog}
use Rattle.gate_log.specs.Reads.{IsWhole, IsFront, IsTorn, IsBad, placed, body_of}
use Rattle.gate_log.specs.Outcomes.{IsReading, IsFrontFault, IsFramesFault, IsOnlyPlace}
use Rattle.gate_log.specs.declared.fault.FramesFault.{FramesFault}
use Rattle.gate_log.specs.declared.fault.FramesFault.TheVariants.{BadFrame, DiskFault, NoMemory}
use Rattle.gate_log.proofs.Bytes.{framed-push, length-framed-push, fit-push}

placed-push : (start : ℕ) (bodies : List (List ℕ)) (body : List ℕ) → placed start (bodies ++ body ∷ []) ≡ placed start bodies ++ record { at = start + length (framed bodies); bytes = body } ∷ []
placed-push start [] body = let at : start ≡ start + 0 = omega arith in ap (λ (n : ℕ). let p : Placed = record { at = n; bytes = body } in p ∷ []) at
placed-push start (b ∷ bodies) body =
    ap (λ (l : List Placed). record { at = start; bytes = b } ∷ l)
    (placed-push (start + (length b + 5)) bodies body ∙ ap (λ (n : ℕ). placed (start + (length b + 5)) bodies ++ record { at = n; bytes = body } ∷ []) (omega (arith, length-append (frame b) (framed bodies))))

pub reads_more : (frames : List Placed) (at n : ℕ) (bytes : List ℕ) → IsFront frames at bytes → at < length bytes → get_or bytes at 0 ≡ 165 → IsWhole n (drop (at + 1) bytes)
    → IsFront (frames ++ record { at = at; bytes = take n (drop 4 (drop (at + 1) bytes)) } ∷ []) (at + (n + 5)) bytes
reads_more frames at n bytes so_far within gate whole =
    let bodies = map body_of frames in
    let rest = drop (at + 1) bytes in
    let body = take n (drop 4 rest) in
    let read : Placed = record { at = at; bytes = body } in
    let size : length body ≡ n = omega (arith, length-take n (drop 4 rest), length-drop 4 rest, whole.there) in
    let tail : drop 4 rest ≡ body ++ drop (4 + n) rest = sym (take-append-drop n (drop 4 rest)) ∙ ap (λ (l : List ℕ). body ++ l) (drop-drop n 4 rest) in
    let far : drop (4 + n) rest ≡ drop (at + (n + 5)) bytes = drop-drop (4 + n) (at + 1) bytes ∙ ap (λ (k : ℕ). drop k bytes) (omega arith) in
    let here : drop at bytes ≡ frame body ++ drop (at + (n + 5)) bytes =
    drop_more bytes at 0 within
    ∙ ap (λ (k : ℕ). k ∷ rest) gate
    ∙ ap (λ (l : List ℕ). 165 ∷ l) (whole.size ∙ ap (λ (l : List ℕ). to_le_bytes w32 n ++ l) (tail ∙ ap (λ (l : List ℕ). body ++ l) far)
    ∙ ap (λ (k : ℕ). to_le_bytes w32 k ++ (body ++ drop (at + (n + 5)) bytes)) (sym size)
    ∙ sym (append_assoc (to_le_bytes w32 (length body)) body (drop (at + (n + 5)) bytes))) in
    let more : map body_of (frames ++ read ∷ []) ≡ bodies ++ body ∷ [] = map-append body_of frames (read ∷ []) in
    record {
      is = so_far.is ∙ ap (λ (l : List ℕ). framed bodies ++ l) here ∙ sym (framed-push bodies body (drop (at + (n + 5)) bytes)) ∙ ap (λ (l : List (List ℕ)). framed l ++ drop (at + (n + 5)) bytes) (sym more);
      end = omega (arith, so_far.end, length-framed-push bodies body, size) ∙ ap (λ (l : List (List ℕ)). length (framed l)) (sym more);
      fit = subst AreBodies (sym more) (fit-push bodies body so_far.fit (record { some = omega (arith, size, whole.some); short = omega (arith, size, whole.short) }));
      places = ap (λ (l : List Placed). l ++ read ∷ []) so_far.places
          ∙ ap (λ (k : ℕ). placed 0 bodies ++ record { at = k; bytes = body } ∷ []) (so_far.end ∙ omega arith)
          ∙ sym (placed-push 0 bodies body)
          ∙ ap (λ (l : List (List ℕ)). placed 0 l) (sym more);
    }

pub small_take : (n : ℕ) (bytes : List ℕ) → ((i : ℕ) → get_or bytes i 0 < 256) → (i : ℕ) → get_or (take n bytes) i 0 < 256
small_take zero bytes all i = omega arith
small_take (suc n) [] all i = omega arith
small_take (suc n) (b ∷ bytes) all zero = all 0
small_take (suc n) (b ∷ bytes) all (suc i) = small_take n bytes (λ j. all (suc j)) i

-- no frame goes on at the front of these bytes
abbrev IsStop : List ℕ → Type 0
IsStop [] = Unit {0}
IsStop (gate ∷ rest) = gate ≡ 165 → (n : ℕ) → IsWhole n rest → ⊥

pub length_is_four : (n : ℕ) → length (to_le_bytes w32 n) ≡ 4
length_is_four n = refl

-- a frame with a byte behind it is whole
whole_from_frame : (body : List ℕ) (tail : List ℕ) → IsBody body → tail ≢ [] → IsWhole (length body) (to_le_bytes w32 (length body) ++ (body ++ tail))
whole_from_frame body [] is some = absurd (some refl)
whole_from_frame body (gate ∷ tail) is some = record {
  some = is.some;
  short = is.short;
  size = ap (λ (l : List ℕ). to_le_bytes w32 (length body) ++ l) (sym (drop_at (to_le_bytes w32 (length body)) (body ++ gate ∷ tail) 4 (length_is_four (length body))));
  there = omega (arith, length-append (to_le_bytes w32 (length body)) (body ++ gate ∷ tail), length-append body (gate ∷ tail), length_is_four (length body));
}

-- two frames at the front of the same bytes are one
same_frame : (a b s t : List ℕ) → IsBody a → IsBody b → to_le_bytes w32 (length a) ++ (a ++ s) ≡ to_le_bytes w32 (length b) ++ (b ++ t) → (a ≡ b) × (s ≡ t)
same_frame a b s t is_a is_b e =
    let size_a : length a < 2 ^ 32 = omega (arith, is_a.short) in
    let size_b : length b < 2 ^ 32 = omega (arith, is_b.short) in
    let heads : to_le_bytes w32 (length a) ≡ to_le_bytes w32 (length b) =
    sym (take_at (to_le_bytes w32 (length a)) (a ++ s) 4 (length_is_four (length a))) ∙ ap (take 4) e ∙ take_at (to_le_bytes w32 (length b)) (b ++ t) 4 (length_is_four (length b)) in
    let tails : a ++ s ≡ b ++ t =
    sym (drop_at (to_le_bytes w32 (length a)) (a ++ s) 4 (length_is_four (length a))) ∙ ap (drop 4) e ∙ drop_at (to_le_bytes w32 (length b)) (b ++ t) 4 (length_is_four (length b)) in
    let long : length a ≡ length b = sym (from_le_bytes-to_le_bytes_4 (length a) size_a) ∙ ap (from_le_bytes w32) heads ∙ from_le_bytes-to_le_bytes_4 (length b) size_b in
    (sym (take_at a s (length a) refl) ∙ ap (take (length a)) tails ∙ take_at b t (length a) (sym long), sym (drop_at a s (length a) refl) ∙ ap (drop (length a)) tails ∙ drop_at b t (length a) (sym long))

some_behind : (b : List ℕ) (bs : List (List ℕ)) (t : List ℕ) → (t ≡ [] → b ∷ bs ≡ []) → framed bs ++ t ≢ []
some_behind b bs [] stop e = cc (stop refl)
some_behind b [] (x ∷ t) stop e = cc
some_behind b (c ∷ bs) (x ∷ t) stop e = cc

-- what stops before a frame isn't a frame and what stands behind it
no_frame : (b : List ℕ) (bs : List (List ℕ)) (s t : List ℕ) → IsBody b → IsStop s → (t ≡ [] → b ∷ bs ≡ []) → s ≡ frame b ++ (framed bs ++ t) → ⊥
no_frame b bs [] t is stop some e = cc
no_frame b bs (gate ∷ rest) t is stop some e =
    let tail = framed bs ++ t in
    let gate_is : gate ≡ 165 = cc in
    let rest_is : rest ≡ (to_le_bytes w32 (length b) ++ b) ++ tail = cc in
    stop gate_is (length b) (subst (IsWhole (length b)) (sym (rest_is ∙ append_assoc (to_le_bytes w32 (length b)) b tail)) (whole_from_frame b tail is (some_behind b bs t some)))

-- frames up to a stop are one list
pub same_frames : (a b : List (List ℕ)) (s t : List ℕ) → AreBodies a → AreBodies b → IsStop s → IsStop t → (s ≡ [] → a ≡ []) → (t ≡ [] → b ≡ []) → framed a ++ s ≡ framed b ++ t → (a ≡ b) × (s ≡ t)
same_frames [] [] s t fit_a fit_b stop_s stop_t some_s some_t e = (refl, e)
same_frames [] (b ∷ bs) s t fit_a fit_b stop_s stop_t some_s some_t e =
    absurd (no_frame b bs s t fit_b.0 stop_s some_t (e ∙ append_assoc (frame b) (framed bs) t))
same_frames (a ∷ as') [] s t fit_a fit_b stop_s stop_t some_s some_t e =
    absurd (no_frame a as' t s fit_a.0 stop_t some_s (sym e ∙ append_assoc (frame a) (framed as') s))
same_frames (a ∷ as') (b ∷ bs) s t fit_a fit_b stop_s stop_t some_s some_t e =
    let la = to_le_bytes w32 (length a) in
    let lb = to_le_bytes w32 (length b) in
    let left : (frame a ++ framed as') ++ s ≡ 165 ∷ (la ++ (a ++ (framed as' ++ s))) = append_assoc (frame a) (framed as') s ∙ ap (λ (l : List ℕ). 165 ∷ l) (append_assoc la a (framed as' ++ s)) in
    let right : (frame b ++ framed bs) ++ t ≡ 165 ∷ (lb ++ (b ++ (framed bs ++ t))) = append_assoc (frame b) (framed bs) t ∙ ap (λ (l : List ℕ). 165 ∷ l) (append_assoc lb b (framed bs ++ t)) in
    let rest : la ++ (a ++ (framed as' ++ s)) ≡ lb ++ (b ++ (framed bs ++ t)) = ap (drop 1) (sym left ∙ e ∙ right) in
    let one = same_frame a b (framed as' ++ s) (framed bs ++ t) fit_a.0 fit_b.0 rest in
    let more = same_frames as' bs s t fit_a.1 fit_b.1 stop_s stop_t (λ none. absurd (no_nil a as' (some_s none))) (λ none. absurd (no_nil b bs (some_t none))) one.1 in
    (ap (λ (x : List ℕ). x ∷ as') one.0 ∙ ap (λ (l : List (List ℕ)). b ∷ l) more.0, more.1)
  where
    no_nil : (x : List ℕ) (xs : List (List ℕ)) → x ∷ xs ≡ [] → ⊥
    no_nil x xs none = cc

log_stops : (gate : ℕ) (rest : List ℕ) → gate ≢ 165 → IsStop (gate ∷ rest)
log_stops gate rest shut = λ is n whole. shut is

no_tail : (gate : ℕ) (rest : List ℕ) (a : List (List ℕ)) → gate ∷ rest ≡ [] → a ≡ []
no_tail gate rest a e = cc

-- given bytes are a log of one list of bodies
pub only_log : (a b : List (List ℕ)) (bytes : List ℕ) → IsLog a bytes → IsLog b bytes → a ≡ b
only_log a b bytes x y =
    (same_frames a b (x.gate ∷ x.rest) (y.gate ∷ y.rest) x.fit y.fit (log_stops x.gate x.rest x.shut) (log_stops y.gate y.rest y.shut) (no_tail x.gate x.rest a) (no_tail y.gate y.rest b) (sym x.is ∙ y.is)).0

torn_stops : (frames : List Placed) (tail : List ℕ) → IsTorn frames tail → IsStop tail
torn_stops frames [] torn = tt
torn_stops frames (gate ∷ rest) torn = λ is n whole. torn.1 n whole

torn_none : (frames : List Placed) (tail : List ℕ) → IsTorn frames tail → tail ≡ [] → map body_of frames ≡ []
torn_none frames [] torn e = ap (map body_of) torn
torn_none frames (gate ∷ rest) torn e = cc

torn_is_open : (frames : List Placed) (tail : List ℕ) (gate : ℕ) (rest : List ℕ) → IsTorn frames tail → tail ≡ gate ∷ rest → gate ≢ 165 → ⊥
torn_is_open frames [] gate rest torn e shut = cc
torn_is_open frames (g ∷ r) gate rest torn e shut = let same : g ≡ gate = cc in shut (sym same ∙ torn.0)

-- bytes that are bad somewhere are no log
pub bad_is_none : (before : List Placed) (at : ℕ) (bytes : List ℕ) → IsBad before at bytes → (bodies : List (List ℕ)) → IsLog bodies bytes → ⊥
bad_is_none before at bytes bad bodies log =
    let tail = drop at bytes in
    let same = same_frames (map body_of before) bodies tail (log.gate ∷ log.rest) bad.front.fit log.fit (torn_stops before tail bad.torn) (log_stops log.gate log.rest log.shut) (torn_none before tail bad.torn) (no_tail log.gate log.rest bodies) (sym bad.front.is ∙ log.is) in
    torn_is_open before tail log.gate log.rest bad.torn same.1 log.shut

-- given bytes are bad at one place at most
pub only_bad : (a b : List Placed) (at place : ℕ) (bytes : List ℕ) → IsBad a at bytes → IsBad b place bytes → (a ≡ b) × (at ≡ place)
only_bad a b at place bytes x y =
    let s = drop at bytes in
    let t = drop place bytes in
    let same = same_frames (map body_of a) (map body_of b) s t x.front.fit y.front.fit (torn_stops a s x.torn) (torn_stops b t y.torn) (torn_none a s x.torn) (torn_none b t y.torn) (sym x.front.is ∙ y.front.is) in
    (x.front.places ∙ ap (λ (l : List (List ℕ)). placed 0 l) same.0 ∙ sym y.front.places, x.front.end ∙ ap (λ (l : List (List ℕ)). length (framed l)) same.0 ∙ sym y.front.end)

-- the frames up to a gate that isn't open are all of the log
pub whole_log : (frames : List Placed) (at : ℕ) (bytes : List ℕ) → IsFront frames at bytes → at < length bytes → get_or bytes at 0 ≢ 165 → IsReading frames bytes
whole_log frames at bytes front within shut =
    let log : IsLog (map body_of frames) bytes = record {
      gate = get_or bytes at 0;
      rest = drop (at + 1) bytes;
      shut = shut;
      is = front.is ∙ ap (λ (l : List ℕ). framed (map body_of frames) ++ l) (drop_more bytes at 0 within);
      fit = front.fit;
    } in
    record { log = log; places = front.places; only = λ others is. only_log others (map body_of frames) bytes is log }

torn_at_front : (frames : List Placed) (bytes : List ℕ) → 0 ≡ length (framed (map body_of frames)) → length bytes ≡ 0 → IsTorn frames bytes
torn_at_front [] [] end long = refl
torn_at_front (frame ∷ frames) [] end long = absurd (omega (arith, end, length-append (to_le_bytes w32 (length frame.bytes) ++ frame.bytes) (framed (map body_of frames))))
torn_at_front frames (byte ∷ bytes) end long = absurd (omega (arith, long))

-- bytes without a gate behind the frames that were read are none at all
pub none_is_bad : (frames : List Placed) (at : ℕ) (bytes : List ℕ) → IsFront frames at bytes → (at ≡ 0) ⊎ (at < length bytes) → length bytes ≤ at → IsBad frames at bytes
none_is_bad frames at bytes front (inl first) past =
    record { front = front; torn = subst (λ (k : ℕ). IsTorn frames (drop k bytes)) (sym first) (torn_at_front frames bytes (sym first ∙ front.end) (omega (arith, first, past))) }
none_is_bad frames at bytes front (inr within) past = absurd (omega (arith, within, past))

-- where no frame goes on, and no gate is shut, the bytes are bad
pub bad_there : (frames : List Placed) (at : ℕ) (bytes : List ℕ) → IsFront frames at bytes → (at ≡ 0) ⊎ (at < length bytes)
    → (length bytes ≤ at) ⊎ ((at < length bytes) × (get_or bytes at 0 ≡ 165) × ((n : ℕ) → IsWhole n (drop (at + 1) bytes) → ⊥)) → IsBad frames at bytes
bad_there frames at bytes front within (inl past) = none_is_bad frames at bytes front within past
bad_there frames at bytes front within (inr torn) =
    record { front = front; torn = subst (λ (l : List ℕ). IsTorn frames l) (sym (drop_more bytes at 0 torn.0)) (torn.1, torn.2) }

-- what is refused as bad is no log
pub refused_by : (fault : FramesFault) (bytes : List ℕ) → IsFrontFault fault bytes → IsFramesFault fault bytes
refused_by (BadFrame at before) bytes bad = (bad, bad_is_none before.items at bytes bad)
refused_by DiskFault bytes bad = tt
refused_by NoMemory bytes bad = tt

pub placed_by : (fault : FramesFault) (bytes : List ℕ) → IsFrontFault fault bytes → IsOnlyPlace fault bytes
placed_by (BadFrame at before) bytes bad = λ others place other. only_bad others before.items place at bytes other bad
placed_by DiskFault bytes bad = tt
placed_by NoMemory bytes bad = tt
