-- Texts that go through a buffer to a sink.
use Rattle.std.proofs.Common.{◌≡◌, ℕ, ◌+◌, ◌<◌, ◌≤◌, List, [], ◌∷◌, ◌++◌, length, take, drop, get_or, Option, Some, None, Result, Ok, Err, IsOk, refl, sym, ap, subst, ◌∙◌, append_assoc, append-nil, arith}
use Rattle.std.specs.Prelude.{All, vec_capacity, OnErr}
use Rattle.std.proofs.lemmas.List.{take_all}
use Rattle.std.specs.declared.vec.Vec.{Vec}
use Rattle.std.specs.declared.alloc.Global.{Global}
use Rattle.std.specs.Io.KnownBytes.{Appends}
use Rattle.std.proofs.lemmas.List.Elements.{All-nil, All-get_or, All-from_get_or, All-more, All-weaker}
use Rattle.udt_model.specs.declared.line.Line.{Line}
use Rattle.client_runner.specs.Flows.{AppendsFront}
use Rattle.client_runner.specs.Output.{HasRoomForLines, HasRoomFor, Passes, Flushes}
use Rattle.client_lang.specs.Print.{print_line, print_lines}
use Rattle.client_lang.proofs.Texts.{flat_map-one_more, flat_map-around}

pub Appends-nil : (a : Option (List ℕ)) → Appends a a []
Appends-nil None = tt
Appends-nil (Some x) = sym (append-nil x)

pub Appends-append : (a b c : Option (List ℕ)) (s t : List ℕ) → Appends a b s → Appends b c t → Appends a c (s ++ t)
Appends-append None b c s t p q = tt
Appends-append (Some x) None c s t p q = absurd p
Appends-append (Some x) (Some y) None s t p q = absurd q
Appends-append (Some x) (Some y) (Some z) s t p q = q ∙ ap (λ (u : List ℕ). u ++ t) p ∙ append_assoc x s t

-- a front of a text is one of a longer text
pub front_more : (a b : Option (List ℕ)) (text more : List ℕ) → AppendsFront a b text → AppendsFront a b (text ++ more)
front_more a b text more f = (f.0, f.1 ++ more, ap (λ (u : List ℕ). u ++ more) f.2 ∙ append_assoc f.0 f.1 more, f.3)

-- a whole text, and then a front of another
pub front_after : (a b c : Option (List ℕ)) (text next : List ℕ) → Appends a b text → AppendsFront b c next → AppendsFront a c (text ++ next)
front_after a b c text next p f = (text ++ f.0, f.1, ap (λ (u : List ℕ). text ++ u) f.2 ∙ sym (append_assoc text f.0 f.1), Appends-append a b c text f.0 p f.3)

pub nothing_passed : (a : Option (List ℕ)) (v : Vec ℕ Global) → Passes a a v v []
nothing_passed a v = record { written = []; taken = Appends-nil a; in_order = append-nil v.items; room = omega arith }

pub passes_more : (a b c : Option (List ℕ)) (u v w : Vec ℕ Global) (s t : List ℕ) → Passes a b u v s → Passes b c v w t → Passes a c u w (s ++ t)
passes_more a b c u v w s t p q = record {
  written = p.written ++ q.written;
  taken = Appends-append a b c p.written q.written p.taken q.taken;
  in_order = sym (append_assoc u.items s t) ∙ ap (λ (x : List ℕ). x ++ t) p.in_order ∙ append_assoc p.written v.items t ∙ ap (λ (x : List ℕ). p.written ++ x) q.in_order ∙ sym (append_assoc p.written q.written w.items);
  room = omega arith;
}

-- one line more has passed
pub lines_more : (a b c : Option (List ℕ)) (u v w : Vec ℕ Global) (lines : List Line) (i : ℕ) (line : Line) → i < length lines → line ≡ get_or lines i line → Passes a b u v (print_lines (take i lines)) → Passes b c v w (print_line line) → Passes a c u w (print_lines (take (i + 1) lines))
lines_more a b c u v w lines i line lt at p q =
    let here : Passes b c v w (print_line (get_or lines i line)) = subst (λ (l : Line). Passes b c v w (print_line l)) at q in
    rw (flat_map-one_more print_line lines i line lt) (passes_more a b c u v w (print_lines (take i lines)) (print_line (get_or lines i line)) p here)

around : (lines : List Line) (i : ℕ) (line : Line) → i < length lines → line ≡ get_or lines i line → print_lines lines ≡ print_lines (take i lines) ++ print_line line ++ print_lines (drop (i + 1) lines)
around lines i line lt at = flat_map-around print_line lines i line lt ∙ ap (λ (l : Line). print_lines (take i lines) ++ print_line l ++ print_lines (drop (i + 1) lines)) (sym at)

stopped : (u v : List ℕ) (before line behind written : List ℕ) → u ++ before ≡ written ++ v → u ++ (before ++ line ++ behind) ≡ (written ++ (v ++ line)) ++ behind
stopped u v before line behind written e =
    sym (append_assoc u (before ++ line) behind)
    ∙ ap (λ (x : List ℕ). x ++ behind) (sym (append_assoc u before line) ∙ ap (λ (x : List ℕ). x ++ line) e ∙ append_assoc written v line)

-- it stops in a line
pub lines_stop : (a b c : Option (List ℕ)) (u v : Vec ℕ Global) (lines : List Line) (i : ℕ) (line : Line) → i < length lines → line ≡ get_or lines i line → Passes a b u v (print_lines (take i lines)) → AppendsFront b c (v.items ++ print_line line) → AppendsFront a c (u.items ++ print_lines lines)
lines_stop a b c u v lines i line lt at p f =
    let behind = print_lines (drop (i + 1) lines) in
    let whole : u.items ++ print_lines lines ≡ (p.written ++ (v.items ++ print_line line)) ++ behind =
    ap (λ (x : List ℕ). u.items ++ x) (around lines i line lt at) ∙ stopped u.items v.items (print_lines (take i lines)) (print_line line) behind p.written p.in_order in
    subst (λ (x : List ℕ). AppendsFront a c x) (sym whole) (front_more a c (p.written ++ (v.items ++ print_line line)) behind (front_after a b c p.written (v.items ++ print_line line) p.taken f))

-- all lines have passed, and the buffer is written
pub lines_end : (a b c : Option (List ℕ)) (u v : Vec ℕ Global) (text : List ℕ) → Passes a b u v text → Appends b c v.items → Appends a c (u.items ++ text)
lines_end a b c u v text p q = subst (λ (x : List ℕ). Appends a c x) (sym p.in_order) (Appends-append a b c p.written v.items p.taken q)

pub lines_end_stop : (a b c : Option (List ℕ)) (u v : Vec ℕ Global) (text : List ℕ) → Passes a b u v text → AppendsFront b c v.items → AppendsFront a c (u.items ++ text)
lines_end_stop a b c u v text p f = subst (λ (x : List ℕ). AppendsFront a c x) (sym p.in_order) (front_after a b c p.written v.items p.taken f)

-- a flush, and then a line in the buffer
pub line_passes : (a b : Option (List ℕ)) (u v w : Vec ℕ Global) (text : List ℕ) → Flushes a b u v → w.items ≡ v.items ++ text → vec_capacity v ≤ vec_capacity w → Passes a b u w text
line_passes a b u v w text f e le = record {
  written = f.written;
  taken = f.taken;
  in_order = ap (λ (x : List ℕ). x ++ text) f.in_order ∙ append_assoc f.written v.items text ∙ ap (λ (x : List ℕ). f.written ++ x) (sym e);
  room = omega (arith, f.room);
}

-- the room of a line is kept
pub room_kept : (u v : Vec ℕ Global) (line : Line) → vec_capacity u ≤ vec_capacity v → HasRoomFor u line → HasRoomFor v line
room_kept u v line le h = omega arith

pub room_for_all : (v : Vec ℕ Global) (lines : List Line) (longest : ℕ) → All (λ l. length (print_line l) ≤ longest) lines → 65536 + longest ≤ vec_capacity v → HasRoomForLines v lines
room_for_all v [] longest all le = All-nil (HasRoomFor v)
room_for_all v (l ∷ lines) longest all le = All-from_get_or (HasRoomFor v) (l ∷ lines) l (λ i lt. let h = All-get_or (λ (k : Line). length (print_line k) ≤ longest) (l ∷ lines) i l lt all in omega (arith, h))

-- what fails only for want of room doesn't fail with it
pub IsOk-from_room : {T E : Type 0} (r : Result T E) (m n : ℕ) → OnErr r (m < n) → n ≤ m → IsOk r
IsOk-from_room (Ok x) m n h le = refl
IsOk-from_room (Err e) m n h le = absurd (omega arith)

-- the longest line so far, and one more
pub longest_more : (lines : List Line) (i : ℕ) (line : Line) (old new : ℕ) → i < length lines → line ≡ get_or lines i line → All (λ l. length (print_line l) ≤ old) (take i lines) → old ≤ new → length (print_line line) ≤ new → All (λ l. length (print_line l) ≤ new) (take (i + 1) lines)
longest_more lines i line old new lt at all le here =
    All-more (λ (l : Line). length (print_line l) ≤ new) lines i line lt
    (All-weaker (λ (l : Line). length (print_line l) ≤ old) (λ (l : Line). length (print_line l) ≤ new) (λ l h. omega arith) (take i lines) all)
    (subst (λ (l : Line). length (print_line l) ≤ new) at here)

pub all_lines : (P : Line → Type 0) (lines : List Line) (n : ℕ) → length lines ≤ n → All P (take n lines) → All P lines
all_lines P lines n le all = subst (λ (ls : List Line). All P ls) (take_all n lines le) all

-- a text alone in a buffer
pub alone_in : (cleared new text : List ℕ) → cleared ≡ [] → new ≡ cleared ++ text → new ≡ text
alone_in cleared new text e p = p ∙ ap (λ (x : List ℕ). x ++ text) e

-- what an error says, said otherwise
pub OnErr-map : {T E : Type 0} (r : Result T E) (P Q : Type 0) → (P → Q) → OnErr r P → OnErr r Q
OnErr-map (Ok x) P Q f h = tt
OnErr-map (Err e) P Q f h = f h
