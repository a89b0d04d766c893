-- Frames of a log with their places: one among others stands behind those before it.
use Rattle.std.proofs.Common.{◌≡◌, ℕ, ◌+◌, List, [], ◌∷◌, ◌++◌, length, drop, map, refl, sym, ap, ◌∙◌, arith, subst}
use Rattle.std.proofs.lemmas.List.{length-append, append_assoc, map-append, length-map}
use Rattle.std.proofs.Math.Seq.{drop-append_seam}
use Rattle.gate_log.specs.Placed.{Placed}
use Rattle.gate_log.specs.Frames.{frame, framed, IsBody, AreBodies}
use Rattle.gate_log.specs.Reads.{body_of, placed, IsFront}
use Rattle.wal.proofs.Fronts.{fronts_same}

framed-append : (xs ys : List (List ℕ)) → framed (xs ++ ys) ≡ framed xs ++ framed ys
framed-append [] ys = refl
framed-append (x ∷ xs) ys = ap (λ (bs : List ℕ). frame x ++ bs) (framed-append xs ys) ∙ sym (append_assoc (frame x) (framed xs) (framed ys))

bodies-split : (xs ys : List (List ℕ)) → AreBodies (xs ++ ys) → AreBodies xs × AreBodies ys
bodies-split [] ys all = (tt, all)
bodies-split (x ∷ xs) ys all =
    let more = bodies-split xs ys all.1 in
    ((all.0, more.0), more.1)

length-frame : (x : List ℕ) → length (frame x) ≡ length x + 5
length-frame x = omega arith

placed-append : (at : ℕ) (xs ys : List (List ℕ)) → placed at (xs ++ ys) ≡ placed at xs ++ placed (at + length (framed xs)) ys
placed-append at [] ys = ap (λ (n : ℕ). placed n ys) (omega arith)
placed-append at (x ∷ xs) ys =
    let first : Placed = record { at = at; bytes = x } in
    let later = placed (at + (length x + 5)) xs in
    let place : at + (length x + 5) + length (framed xs) ≡ at + length (framed (x ∷ xs)) = omega (arith, length-frame x, length-append (frame x) (framed xs)) in
    ap (λ (ps : List Placed). first ∷ ps) (placed-append (at + (length x + 5)) xs ys ∙ ap (λ (n : ℕ). later ++ placed n ys) place)

length-placed : (at : ℕ) (xs : List (List ℕ)) → length (placed at xs) ≡ length xs
length-placed at [] = refl
length-placed at (x ∷ xs) = let more = length-placed (at + (length x + 5)) xs in omega arith

place_of : List Placed → ℕ
place_of [] = 0
place_of (p ∷ ps) = p.at

-- a frame among others stands behind those before it
module _ (frames before behind : List Placed) (bad : Placed) (parts : frames ≡ before ++ bad ∷ behind) (end : ℕ) (bytes : List ℕ) (front : IsFront frames end bytes) where
  abbrev xs : List (List ℕ)
  xs = map body_of before

  abbrev pub ys : List (List ℕ)
  ys = map body_of behind

  bodies_are : map body_of frames ≡ xs ++ bad.bytes ∷ ys
  bodies_are = ap (map body_of) parts ∙ map-append body_of before (bad ∷ behind)

  whole_is : bytes ≡ framed xs ++ (frame bad.bytes ++ (framed ys ++ drop end bytes))
  whole_is =
      front.is ∙ ap (λ (bs : List (List ℕ)). framed bs ++ drop end bytes) bodies_are ∙ ap (λ (bs : List ℕ). bs ++ drop end bytes) (framed-append xs (bad.bytes ∷ ys))
      ∙ append_assoc (framed xs) (frame bad.bytes ++ framed ys) (drop end bytes) ∙ ap (λ (bs : List ℕ). framed xs ++ bs) (append_assoc (frame bad.bytes) (framed ys) (drop end bytes))

  places_are : (before ≡ placed 0 xs) × (bad ∷ behind ≡ placed (0 + length (framed xs)) (bad.bytes ∷ ys))
  places_are =
      fronts_same before (placed 0 xs) (bad ∷ behind) (placed (0 + length (framed xs)) (bad.bytes ∷ ys)) (sym (length-placed 0 xs ∙ length-map before body_of)) (sym parts ∙ front.places ∙ ap (placed 0) bodies_are ∙ placed-append 0 xs (bad.bytes ∷ ys))

  place_is : bad.at ≡ length (framed xs)
  unfolding place_of
  place_is = ap place_of places_are.1 ∙ omega arith

  pub stands_at : IsFront before bad.at bytes × (drop bad.at bytes ≡ frame bad.bytes ++ (framed ys ++ drop end bytes)) × IsBody bad.bytes
  stands_at =
      let there : drop bad.at bytes ≡ frame bad.bytes ++ (framed ys ++ drop end bytes) = ap (λ (n : ℕ). drop n bytes) place_is ∙ ap (drop (length (framed xs))) whole_is ∙ drop-append_seam (framed xs) (frame bad.bytes ++ (framed ys ++ drop end bytes)) in
      let fit = bodies-split xs (bad.bytes ∷ ys) (subst AreBodies bodies_are front.fit) in
      (record { is = whole_is ∙ ap (λ (bs : List ℕ). framed xs ++ bs) (sym there); end = place_is; fit = fit.0; places = places_are.0 }, there, fit.1.0)
