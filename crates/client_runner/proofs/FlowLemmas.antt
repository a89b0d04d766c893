-- Bytes that are taken piece by piece.
use Rattle.std.proofs.Common.{◌≡◌, ℕ, ◌+◌, ◌-◌, ◌<◌, List, [], ◌∷◌, ◌++◌, length, take, drop, Option, Some, None, refl, sym, ap, ◌∙◌, append_assoc, append-nil, arith, zero, suc}
use Rattle.std.specs.Prelude.{IfSome}
use Rattle.std.proofs.lemmas.List.{take_rest, take-append-drop, length-append}
use Rattle.std.specs.Io.KnownBytes.{Appends, Consumes, IsAtEnd, Keeps}
use Rattle.client_runner.specs.Flows.{AppendsFront}
use Rattle.udt_disk.specs.Opens.{Standing, IsStanding, Told}

nothing : (n : ℕ) → take n (let none : List ℕ = [] in none) ≡ []
nothing zero = refl
nothing (suc n) = refl

take-add : (m n : ℕ) (xs : List ℕ) → take (m + n) xs ≡ take m xs ++ take n (drop m xs)
take-add zero n xs = let k : zero + n ≡ n = omega arith in rw k refl
take-add (suc m) n [] = let k : suc m + n ≡ suc (m + n) = omega arith in rw k (sym (nothing n))
take-add (suc m) n (x ∷ xs) = let k : suc m + n ≡ suc (m + n) = omega arith in rw k (ap (λ (t : List ℕ). x ∷ t) (take-add m n xs))

pub appends_more : (a b c : Option (List ℕ)) (at n : ℕ) (text : List ℕ) → Appends a b (take at text) → Appends b c (take n (take (length text - at) (drop at text)))
    → Appends a c (take (at + n) text)
appends_more None b c at n text p q = tt
appends_more (Some x) None c at n text p q = absurd p
appends_more (Some x) (Some y) None at n text p q = absurd q
appends_more (Some x) (Some y) (Some z) at n text p q =
    let rest : take (length text - at) (drop at text) ≡ drop at text = take_rest text at in
    let q' = rw rest at q in
    rw (q', p, take-add at n text) (append_assoc x (take at text) (take n (drop at text)))

pub consumes_more : (a b c : Option (List ℕ)) (bs ds : List ℕ) → Consumes a b bs → Consumes b c ds → Consumes a c (bs ++ ds)
consumes_more None b c bs ds p q = tt
consumes_more (Some x) None c bs ds p q = absurd p
consumes_more (Some x) (Some y) None bs ds p q = absurd q
consumes_more (Some x) (Some y) (Some z) bs ds p q = p ∙ ap (λ (t : List ℕ). bs ++ t) q ∙ sym (append_assoc bs ds z)

-- at the end all has been read
pub consumes_all : (a b : Option (List ℕ)) (bs : List ℕ) → Consumes a b bs → IsAtEnd b → IfSome a (λ left. left ≡ bs)
consumes_all None b bs p q = tt
consumes_all (Some x) None bs p q = absurd p
consumes_all (Some x) (Some y) bs p q = p ∙ ap (λ (t : List ℕ). bs ++ t) q ∙ append-nil bs

-- what was read is a front of all
pub consumes_long : (a b : Option (List ℕ)) (bs : List ℕ) (n : ℕ) → Consumes a b bs → n < length bs → IfSome a (λ left. n < length left)
consumes_long None b bs n p lt = tt
consumes_long (Some x) None bs n p lt = absurd p
consumes_long (Some x) (Some y) bs n p lt = omega (arith, ap length p, length-append bs y)

-- a source that is too long stands there
pub told_long : (standing : Standing) (left : Option (List ℕ)) (n : ℕ) → IsStanding standing left → IfSome left (λ bytes. n < length bytes) → Told standing (λ bytes. n < length bytes)
told_long None left n p q = tt
told_long (Some None) left n p q = p
told_long (Some (Some bytes)) left n p q = rw p at q

-- a write that failed leaves the front that was taken before
pub front_kept : (a b c : Option (List ℕ)) (at : ℕ) (text : List ℕ) → Appends a b (take at text) → Keeps b c → AppendsFront a c text
front_kept None b c at text p q = (take at text, drop at text, sym (take-append-drop at text), tt)
front_kept (Some x) None c at text p q = absurd p
front_kept (Some x) (Some y) None at text p q = absurd q
front_kept (Some x) (Some y) (Some z) at text p q = (take at text, drop at text, sym (take-append-drop at text), q ∙ p)
