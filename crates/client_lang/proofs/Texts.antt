-- Texts of lists, and words with one space between them.
use Rattle.std.proofs.Common.{◌≡◌, ℕ, ◌+◌, ◌-◌, ◌<◌, ◌≤◌, List, [], ◌∷◌, ◌++◌, length, map, take, drop, get_or, refl, sym, ap, ◌∙◌, append-nil, append_assoc, arith}
use Rattle.std.proofs.lemmas.List.{take_all, take_more, take-append-drop}
use Rattle.std.proofs.lemmas.Grind.{flat_map-append}
use Rattle.std.specs.List.{flat_map}
use Rattle.hex.specs.Hex.{encode_with, encode_lower}
use Rattle.std.specs.Prelude.{codes}
use Rattle.udt_model.specs.declared.event.NamedOp.{NamedOp}
use Rattle.client_lang.specs.Print.{spaced, line_of, op_words, ops_words}
use Rattle.client_lang.specs.Words.{followed, next_op_text}

-- the texts of one item more
pub flat_map-one_more : {X : Type 0} (f : X → List ℕ) (xs : List X) (i : ℕ) (d : X) → i < length xs → flat_map f (take (i + 1) xs) ≡ flat_map f (take i xs) ++ f (get_or xs i d)
flat_map-one_more f xs i d lt = rw (take_more xs i d lt, flat_map-append f (take i xs) (get_or xs i d ∷ []), append-nil (f (get_or xs i d))) refl

-- the texts before an item, its own, and those behind it
pub flat_map-around : {X : Type 0} (f : X → List ℕ) (xs : List X) (i : ℕ) (d : X) → i < length xs → flat_map f xs ≡ flat_map f (take i xs) ++ f (get_or xs i d) ++ flat_map f (drop (i + 1) xs)
flat_map-around f xs i d lt =
    ap (flat_map f) (sym (take-append-drop (i + 1) xs)) ∙ flat_map-append f (take (i + 1) xs) (drop (i + 1) xs) ∙ ap (λ (t : List ℕ). t ++ flat_map f (drop (i + 1) xs)) (flat_map-one_more f xs i d lt)

-- the two digits of a byte
abbrev pub digits : ℕ → List ℕ
digits b = encode_lower (b ∷ [])

-- hex text is the digits of each byte
pub encode_lower-each : (bytes : List ℕ) → encode_lower bytes ≡ flat_map digits bytes
unfolding encode_with
encode_lower-each [] = refl
encode_lower-each (b ∷ bytes) = ap (λ (t : List ℕ). digits b ++ t) (encode_lower-each bytes)

-- the first word, and then each with a space before it
pub spaced_cons : (first : List ℕ) (words : List (List ℕ)) → spaced (first ∷ words) ≡ first ++ followed words
spaced_cons first [] = sym (append-nil first)
spaced_cons first (second ∷ words) = ap (λ (t : List ℕ). first ++ 32 ∷ t) (spaced_cons second words)

-- a line of no words
pub line_none : {W : Type 0} (text : W → List ℕ) (words : List W) → length words < 1 → line_of (map text words) ≡ 10 ∷ []
line_none text [] lt = refl
line_none text (w ∷ words) lt = absurd (omega arith)

-- a line's first word, the others, and the line feed
pub line_cons : {W : Type 0} (text : W → List ℕ) (words : List W) (d : W) → 1 ≤ length words → line_of (map text words) ≡ text (get_or words 0 d) ++ followed (map text (take (length words - 1) (drop 1 words))) ++ 10 ∷ []
line_cons text [] d le = absurd (omega arith)
line_cons text (w ∷ words) d le =
    let all : take (length (w ∷ words) - 1) words ≡ words = take_all (length (w ∷ words) - 1) words (omega arith) in
    rw (all, spaced_cons (text w) (map text words)) refl

-- a line of a first word, some words, a word, and more words
pub line_parts : (first second third : List ℕ) (front back : List (List ℕ)) → line_of (first ∷ second ∷ front ++ third ∷ back) ≡ first ++ 32 ∷ second ++ followed front ++ 32 ∷ third ++ followed back ++ 10 ∷ []
line_parts first second third front back = rw (spaced_cons first (second ∷ front ++ third ∷ back), flat_map-append (λ (w : List ℕ). 32 ∷ w) front (third ∷ back)) (simp append_assoc)

-- the words of operations behind others
followed_ops : (os : List NamedOp) → followed (flat_map (λ (o : NamedOp). codes ";" ∷ [] ++ op_words o) os) ≡ flat_map next_op_text os
followed_ops [] = refl
followed_ops (o ∷ os) = flat_map-append (λ (w : List ℕ). 32 ∷ w) (codes ";" ∷ op_words o) (flat_map (λ (o : NamedOp). codes ";" ∷ [] ++ op_words o) os) ∙ ap (λ (t : List ℕ). next_op_text o ++ t) (followed_ops os)

-- the first operation's words, and those of the others behind it
text_of_ops : (os : List NamedOp) (d : NamedOp) → 1 ≤ length os → followed (ops_words os) ≡ followed (op_words (get_or os 0 d)) ++ flat_map next_op_text (take (length os - 1) (drop 1 os))
text_of_ops [] d le = absurd (omega arith)
text_of_ops (o ∷ os) d le =
    let all : take (length (o ∷ os) - 1) os ≡ os = take_all (length (o ∷ os) - 1) os (omega arith) in
    rw all (flat_map-append (λ (w : List ℕ). 32 ∷ w) (op_words o) (flat_map (λ (p : NamedOp). codes ";" ∷ [] ++ op_words p) os) ∙ ap (λ (t : List ℕ). followed (op_words o) ++ t) (followed_ops os))

pub ops_text : (os : List NamedOp) (first : NamedOp) → 1 ≤ length os → first ≡ get_or os 0 first → followed (ops_words os) ≡ followed (op_words first) ++ flat_map next_op_text (take (length os - 1) (drop 1 os))
ops_text os first le e = text_of_ops os first le ∙ ap (λ (o : NamedOp). followed (op_words o) ++ flat_map next_op_text (take (length os - 1) (drop 1 os))) (sym e)
