-- Texts pushed one after another.
use Rattle.std.proofs.Common.{◌≡◌, ℕ, ◌+◌, ◌<◌, ◌≤◌, ◌∙◌, cond, List, [], ◌++◌, length, sym, ap, subst, append_assoc, append-nil, length-append, arith, take, drop, get_or, Result, Ok, Err, IsErr, OnOk, OnErr, is_ok}
use Rattle.std.specs.Prelude.{vec_len, vec_capacity}
use Rattle.std.proofs.lemmas.List.{take_all, take-append-drop, take-append-le}
use Rattle.std.specs.List.{flat_map}
use Rattle.std.specs.declared.vec.Vec.{Vec}
use Rattle.std.specs.declared.alloc.Global.{Global}
use Rattle.std.specs.declared.alloc.AllocError.{AllocError}
use Rattle.client_lang.specs.Pushes.{Pushes}
use Rattle.client_lang.proofs.Texts.{flat_map-one_more, flat_map-around}

-- a push's result
abbrev pub Answer : Type 0
Answer = Result (Unit {0}) AllocError

-- the text was pushed
abbrev pub Pushed : Vec ℕ Global → Vec ℕ Global → List ℕ → Type 0
Pushed old new text = Pushes {T = Unit {0}} {E = AllocError} old new (Ok tt) text

-- ---- what a list begins with

-- a list begins with itself
front_self : (n : ℕ) (x : List ℕ) → length x ≤ n → take n x ≡ x
front_self n x le = take_all n x le

-- what an append begins with
front_append : (n : ℕ) (x y : List ℕ) → n ≡ length x → take n (x ++ y) ≡ x
front_append n x y e = take-append-le n x y (omega arith) ∙ take_all n x (omega arith)

-- a front of a front
front_front : (x y z first : List ℕ) (m n : ℕ) → m ≡ length x → n ≡ length y → y ≡ x ++ first → take n z ≡ y → take m z ≡ x
front_front x y z first m n em en e f =
    let whole : z ≡ (x ++ first) ++ drop n z = sym (take-append-drop n z) ∙ ap (λ (t : List ℕ). t ++ drop n z) (f ∙ e) in
    ap (take m) whole ∙ take-append-le m (x ++ first) (drop n z) (omega (arith, length-append x first)) ∙ front_append m x first em

-- ---- pushes

-- nothing was pushed yet
pub none : (old : Vec ℕ Global) → Pushed old old []
none old = record { pushed = sym (append-nil old.items); full = tt; front = tt; room = omega arith }

-- the bytes were added to a vector, or nothing was
pub extended : {old new : Vec ℕ Global} (result : Answer) (text : List ℕ) → new.items ≡ cond (is_ok result) (old.items ++ text) old.items → OnErr result (vec_capacity old < vec_len old + length text) → vec_capacity old ≤ vec_capacity new → Pushes old new result text
extended {old} {new} (Ok t) text items full room = record { pushed = items; full = tt; front = tt; room = room }
extended {old} {new} (Err e) text items full room = record {
  pushed = tt;
  full = full;
  front = rw items (front_self (vec_len old) old.items (omega (arith, old.ok.0)));
  room = room;
}

-- a push that gave Ok
pub done : {old new : Vec ℕ Global} {result : Answer} {text : List ℕ} → Pushes old new result text → result ≡ Ok tt → Pushed old new text
done {old} {new} {result} {text} p ok = rw ok at p

-- a text is pushed, and then another
pub then : {old mid new : Vec ℕ Global} {result : Answer} {first second : List ℕ} → Pushed old mid first → Pushes mid new result second → Pushes old new result (first ++ second)
then {old} {mid} {new} {result = Ok t} {first} {second} p q = record {
  pushed = rw (q.pushed, p.pushed) (append_assoc old.items first second);
  full = tt;
  front = tt;
  room = omega arith;
}
then {old} {mid} {new} {result = Err e} {first} {second} p q = record {
  pushed = tt;
  full = omega (arith, q.full, old.ok.0, mid.ok.0, ap length p.pushed, length-append old.items first, length-append first second);
  front = front_front old.items mid.items new.items first (vec_len old) (vec_len mid) (omega (arith, old.ok.0)) (omega (arith, mid.ok.0)) p.pushed q.front;
  room = omega arith;
}

-- a push that failed, as a call answers that ends there
pub failed : {old new : Vec ℕ Global} {result answer : Answer} {e : AllocError} {text : List ℕ} → Pushes old new result text → result ≡ Err e → IsErr answer → Pushes old new answer text
failed {old} {new} {result} {answer = Ok t} {e} {text} p was err = cc err
failed {old} {new} {result} {answer = Err f} {e} {text} p was err =
    let stopped = rw was at p in
    record { pushed = tt; full = stopped.full; front = stopped.front; room = stopped.room }

-- what fails at a front of a text fails at the text
pub stops : {old new : Vec ℕ Global} {answer : Answer} {first : List ℕ} (second : List ℕ) → IsErr answer → Pushes old new answer first → Pushes old new answer (first ++ second)
stops {old} {new} {answer = Ok t} {first} second err p = cc err
stops {old} {new} {answer = Err e} {first} second err p = record {
  pushed = tt;
  full = omega (arith, p.full, length-append first second);
  front = p.front;
  room = p.room;
}

-- a push of the same text
pub as_text : {old new : Vec ℕ Global} {answer : Answer} {text same : List ℕ} → Pushes old new answer same → text ≡ same → Pushes old new answer text
as_text {old} {new} {answer} {text} {same} p e = rw e p

-- ---- a buffer that is cut back after a push that failed

-- the bytes are as before
pub cut_keeps : {old mid : Vec ℕ Global} (new : Vec ℕ Global) {pushed result : Answer} {text : List ℕ} {before : ℕ} → before ≡ vec_len old → Pushes old mid pushed text → result ≡ pushed → OnErr pushed (new.items ≡ take before mid.items) → OnErr result (new.items ≡ old.items)
cut_keeps {old} {mid} new {pushed = Ok t} {result} {text} {before} b p same err = rw same tt
cut_keeps {old} {mid} new {pushed = Err e} {result} {text} {before} b p same err = rw same (err ∙ (rw b p.front))

-- it is still a push
pub cut : {old mid new : Vec ℕ Global} {pushed result : Answer} {text : List ℕ} {before : ℕ} → before ≡ vec_len old → Pushes old mid pushed text → result ≡ pushed → OnOk pushed (new.items ≡ mid.items) → OnErr pushed (new.items ≡ take before mid.items) → vec_capacity new ≡ vec_capacity mid → Pushes old new result text
cut {old} {mid} {new} {pushed = Ok t} {result} {text} {before} b p same ok err room =
    rw same (record { pushed = ok ∙ p.pushed; full = tt; front = tt; room = omega (arith, p.room) })
cut {old} {mid} {new} {pushed = Err e} {result} {text} {before} b p same ok err room =
    let kept : new.items ≡ old.items = err ∙ (rw b p.front) in
    rw same (record {
      pushed = tt;
      full = p.full;
      front = rw kept (front_self (vec_len old) old.items (omega (arith, old.ok.0)));
      room = omega (arith, p.room);
    })

-- ---- loops that push a text for each item

-- one more
pub each_more : {X : Type 0} (f : X → List ℕ) (xs : List X) (i : ℕ) (d : X) {old mid new : Vec ℕ Global} → i < length xs → Pushed old mid (flat_map f (take i xs)) → Pushed mid new (f (get_or xs i d)) → Pushed old new (flat_map f (take (i + 1) xs))
each_more f xs i d {old} {mid} {new} lt p q = rw (flat_map-one_more f xs i d lt) (then p q)

-- it stops at one
pub each_stops : {X : Type 0} (f : X → List ℕ) (xs : List X) (i : ℕ) (d : X) {old mid new : Vec ℕ Global} {answer : Answer} → i < length xs → IsErr answer → Pushed old mid (flat_map f (take i xs)) → Pushes mid new answer (f (get_or xs i d)) → Pushes old new answer (flat_map f xs)
each_stops f xs i d {old} {mid} {new} {answer} lt err p q = rw (flat_map-around f xs i d lt) (stops (flat_map f (drop (i + 1) xs)) err (then p q))

-- the same at an item that is known by itself
pub each_stops_at : {X : Type 0} (f : X → List ℕ) (xs : List X) (i : ℕ) (x : X) {old mid new : Vec ℕ Global} {answer : Answer} → i < length xs → x ≡ get_or xs i x → IsErr answer → Pushed old mid (flat_map f (take i xs)) → Pushes mid new answer (f x) → Pushes old new answer (flat_map f xs)
each_stops_at {X} f xs i x {old} {mid} {new} {answer} lt e err p q = each_stops f xs i x lt err p (subst (λ (y : X). Pushes mid new answer (f y)) e q)

pub each_more_at : {X : Type 0} (f : X → List ℕ) (xs : List X) (i : ℕ) (x : X) {old mid new : Vec ℕ Global} → i < length xs → x ≡ get_or xs i x → Pushed old mid (flat_map f (take i xs)) → Pushed mid new (f x) → Pushed old new (flat_map f (take (i + 1) xs))
each_more_at {X} f xs i x {old} {mid} {new} lt e p q = each_more f xs i x lt p (subst (λ (y : X). Pushed mid new (f y)) e q)
