-- What compactions take and make.
use Rattle.std.proofs.Common.{◌≡◌, ℕ, zero, suc, ◌+◌, ◌-◌, ◌<◌, ◌≤◌, Bool, true, false, not, ◌&&◌, ◌||◌, List, [], ◌∷◌, ◌++◌, length, get_or, take, drop, Option, Some, None, refl, sym, ap, ◌∙◌, inl, inr, arith, append_assoc}
use Rattle.std.specs.Prelude.{filter, nat_le, nat_lt, ◌==◌, if◌then◌else◌}
use Rattle.std.specs.List.{list_all, list_any}
use Rattle.std.specs.Str.{bytes_eq}
use Rattle.std.proofs.lemmas.Bool.{cases_Bool}
use Rattle.std.proofs.lemmas.Bool.Decides.{nat_tests}
use Rattle.std.proofs.lemmas.List.{at_drop_more, at_drop_all, append-nil, drop-drop, length-drop}
use Rattle.ts_key.specs.declared.version.Version.{Version}
use Rattle.udt_model.specs.declared.reply.KeySpan.{KeySpan}
use Rattle.udt_model.specs.declared.reply.Piece.{Piece}
use Rattle.udt_model.specs.Orders.{hull_with, meets, span_of, span_of_both, span_of_key}
use Rattle.udt_model.specs.Jobs.{are_new, are_parts, goes_with, has_number, hull_of, is_ascending, is_cut, is_input, is_wanted, numbers_of_pieces, spans_of, tables_from}
use Rattle.udt_model.specs.State.{LiveTable}
use Rattle.floor_core.specs.Steps.{hull_from, hull_of_spans, is_above_last, may_part, parted, span_of_some, span_with}

-- ---- ascending numbers

-- the numbers ascend behind the last one
abbrev pub ascends_from : Option ℕ → List ℕ → Bool
ascends_from None ns = is_ascending ns
ascends_from (Some before) ns = is_ascending (before ∷ ns)

pub ascends_one : (before : Option ℕ) (n : ℕ) (ns : List ℕ) → ascends_from before (n ∷ ns) ≡ (is_above_last before n && ascends_from (Some n) ns)
ascends_one None n ns = refl
ascends_one (Some b) n ns = refl

ascends_none : (before : Option ℕ) → ascends_from before [] ≡ true
ascends_none None = refl
ascends_none (Some b) = refl

and_true : (a b : Bool) → a ≡ true → (a && b) ≡ b
and_true true b e = refl
and_true false b e = absurd (cc)

and_false : (a b : Bool) → a ≡ false → (a && b) ≡ false
and_false true b e = absurd (cc)
and_false false b e = refl

pub ascends_more : (before : Option ℕ) (ns : List ℕ) (i n : ℕ) → i < length ns → n ≡ get_or ns i n → is_above_last before n ≡ true → ascends_from before (drop i ns) ≡ is_ascending ns → ascends_from (Some n) (drop (i + 1) ns) ≡ is_ascending ns
ascends_more before ns i n lt at above inv =
    let rest = drop (i + 1) ns in
    sym (at_drop_more (ascends_from before) ns i n lt ∙ ap (λ z. ascends_from before (z ∷ rest)) (sym at) ∙ ascends_one before n rest ∙ and_true (is_above_last before n) (ascends_from (Some n) rest) above) ∙ inv

pub ascends_stops : (before : Option ℕ) (ns : List ℕ) (i n : ℕ) → i < length ns → n ≡ get_or ns i n → is_above_last before n ≡ false → ascends_from before (drop i ns) ≡ is_ascending ns → false ≡ is_ascending ns
ascends_stops before ns i n lt at above inv =
    let rest = drop (i + 1) ns in
    sym (at_drop_more (ascends_from before) ns i n lt ∙ ap (λ z. ascends_from before (z ∷ rest)) (sym at) ∙ ascends_one before n rest ∙ and_false (is_above_last before n) (ascends_from (Some n) rest) above) ∙ inv

pub ascends_all : (before : Option ℕ) (ns : List ℕ) (i : ℕ) → length ns ≤ i → ascends_from before (drop i ns) ≡ is_ascending ns → true ≡ is_ascending ns
ascends_all before ns i le inv = sym (at_drop_all (ascends_from before) ns i le ∙ ascends_none before) ∙ inv

-- ---- spans of versions

span_more : (v : Version) (vs : List Version) → span_of (v ∷ vs) ≡ span_with v.key (span_of_some vs)
span_more v [] = refl
span_more v (w ∷ vs) = ap (span_of_both (span_of_key v.key)) (span_more w vs)

pub span_some : (vs : List Version) (span : KeySpan) → Some span ≡ span_of_some vs → span ≡ span_of vs
span_some [] span e = absurd (cc)
span_some (v ∷ vs) span e = some_is span (span_with v.key (span_of_some vs)) e ∙ sym (span_more v vs)
  where
    some_is : (a b : KeySpan) → Some a ≡ Some b → a ≡ b
    some_is a b e = cc

pub span_none : (vs : List Version) → None ≡ span_of_some vs → span_of_key [] ≡ span_of vs
span_none [] e = refl
span_none (v ∷ vs) e = absurd (cc)

-- one more from the end
pub span_back : (vs : List Version) (i : ℕ) (v : Version) → i < length vs → v ≡ get_or vs (length vs - 1 - i) v → Some (span_with v.key (span_of_some (drop (length vs - i) vs))) ≡ span_of_some (drop (length vs - (i + 1)) vs)
span_back vs i v lt at =
    let k : ℕ = length vs - 1 - i in
    let inside : k < length vs = omega arith in
    let next : k + 1 ≡ length vs - i = omega arith in
    let same : k ≡ length vs - (i + 1) = omega arith in
    sym (ap (λ n. span_of_some (drop n vs)) (sym same) ∙ at_drop_more span_of_some vs k v inside ∙ ap (λ (z : Version). span_of_some (z ∷ drop (k + 1) vs)) (sym at) ∙ ap (λ n. Some (span_with v.key (span_of_some (drop n vs)))) next)

-- ---- hulls

hull_some : (a : KeySpan) (ss : List KeySpan) → hull_from (Some a) ss ≡ Some (hull_with a ss)
hull_some a [] = refl
hull_some a (s ∷ ss) = hull_some (span_of_both a s) ss

pub hull_found : (ss : List KeySpan) (hull : KeySpan) → Some hull ≡ hull_from None ss → hull ≡ hull_of_spans ss
hull_found [] hull e = absurd (cc)
hull_found (s ∷ ss) hull e = some_is hull (hull_with s ss) (e ∙ hull_some s ss)
  where
    some_is : (a b : KeySpan) → Some a ≡ Some b → a ≡ b
    some_is a b e = cc

pub hull_missing : (ss : List KeySpan) → None ≡ hull_from None ss → span_of_key [] ≡ hull_of_spans ss
hull_missing [] e = refl
hull_missing (s ∷ ss) e = let h : None ≡ Some (hull_with s ss) = e ∙ hull_some s ss in absurd (cc)

pub hull_is : (ts : List LiveTable) → hull_of ts ≡ hull_of_spans (spans_of ts)
hull_is [] = refl
hull_is (t ∷ ts) = refl

-- ---- what has to be taken in

any_filter : {X : Type 0} (p q : X → Bool) (xs : List X) → list_any q (filter p xs) ≡ list_any (λ x. p x && q x) xs
any_filter p q [] = refl
any_filter p q (x ∷ xs) =
    elim (cases_Bool (p x)) [
      | inl y ↦ ap (λ b. list_any q (if b then x ∷ filter p xs else filter p xs)) y ∙ ap (λ z. q x || z) (any_filter p q xs) ∙ sym (ap (λ b. (b && q x) || list_any (λ z. p z && q z) xs) y)
      | inr n ↦ ap (λ b. list_any q (if b then x ∷ filter p xs else filter p xs)) n ∙ any_filter p q xs ∙ sym (ap (λ b. (b && q x) || list_any (λ z. p z && q z) xs) n)
    ]

-- it has to be taken in and is no input
abbrev pub is_left_out : List LiveTable → List ℕ → ℕ → KeySpan → LiveTable → Bool
is_left_out tables inputs level hull t = not (is_input inputs t) && (meets (span_of t.versions) hull && list_any (λ o. is_input inputs o && goes_with level o t) tables)

-- it is an input, or needn't be
abbrev pub is_settled_in : List LiveTable → List ℕ → ℕ → LiveTable → Bool
is_settled_in tables inputs level t = is_input inputs t || not (is_wanted level (filter (is_input inputs) tables) t)

or_not : (a b : Bool) → (a || not b) ≡ not (not a && b)
or_not true b = refl
or_not false b = refl

left_is : (tables : List LiveTable) (inputs : List ℕ) (level : ℕ) (hull : KeySpan) (t : LiveTable) → hull ≡ hull_of_spans (spans_of (filter (is_input inputs) tables)) → is_settled_in tables inputs level t ≡ not (is_left_out tables inputs level hull t)
left_is tables inputs level hull t e =
    ap (λ z. is_input inputs t || not (meets (span_of t.versions) z && list_any (λ o. goes_with level o t) (filter (is_input inputs) tables))) (hull_is (filter (is_input inputs) tables) ∙ sym e)
    ∙ ap (λ z. is_input inputs t || not (meets (span_of t.versions) hull && z)) (any_filter (is_input inputs) (λ o. goes_with level o t) tables)
    ∙ or_not (is_input inputs t) (meets (span_of t.versions) hull && list_any (λ o. is_input inputs o && goes_with level o t) tables)

pub settled_more : (tables : List LiveTable) (inputs : List ℕ) (level : ℕ) (hull : KeySpan) (i : ℕ) (t : LiveTable) → hull ≡ hull_of_spans (spans_of (filter (is_input inputs) tables)) → i < length tables → t ≡ get_or tables i t
    → is_left_out tables inputs level hull t ≡ false → list_all (is_settled_in tables inputs level) (drop i tables) ≡ list_all (is_settled_in tables inputs level) tables
    → list_all (is_settled_in tables inputs level) (drop (i + 1) tables) ≡ list_all (is_settled_in tables inputs level) tables
settled_more tables inputs level hull i t e lt at left inv =
    let p : LiveTable → Bool = is_settled_in tables inputs level in
    let rest = drop (i + 1) tables in
    let here : p t ≡ true = left_is tables inputs level hull t e ∙ ap not left in
    sym (at_drop_more (list_all p) tables i t lt ∙ ap (λ (z : LiveTable). list_all p (z ∷ rest)) (sym at) ∙ and_true (p t) (list_all p rest) here) ∙ inv

pub settled_stops : (tables : List LiveTable) (inputs : List ℕ) (level : ℕ) (hull : KeySpan) (i : ℕ) (t : LiveTable) → hull ≡ hull_of_spans (spans_of (filter (is_input inputs) tables)) → i < length tables → t ≡ get_or tables i t
    → is_left_out tables inputs level hull t ≡ true → list_all (is_settled_in tables inputs level) (drop i tables) ≡ list_all (is_settled_in tables inputs level) tables
    → false ≡ list_all (is_settled_in tables inputs level) tables
settled_stops tables inputs level hull i t e lt at left inv =
    let p : LiveTable → Bool = is_settled_in tables inputs level in
    let rest = drop (i + 1) tables in
    let here : p t ≡ false = left_is tables inputs level hull t e ∙ ap not left in
    sym (at_drop_more (list_all p) tables i t lt ∙ ap (λ (z : LiveTable). list_all p (z ∷ rest)) (sym at) ∙ and_false (p t) (list_all p rest) here) ∙ inv

pub settled_all : (tables : List LiveTable) (inputs : List ℕ) (level : ℕ) (i : ℕ) → length tables ≤ i → list_all (is_settled_in tables inputs level) (drop i tables) ≡ list_all (is_settled_in tables inputs level) tables
    → true ≡ list_all (is_settled_in tables inputs level) tables
settled_all tables inputs level i le inv = sym (at_drop_all (list_all (is_settled_in tables inputs level)) tables i le) ∙ inv

-- ---- new numbers

pub new_more : (used more : List ℕ) (ps : List Piece) (i : ℕ) (p : Piece) (all : Bool) → i < length ps → p ≡ get_or ps i p → has_number used p.table ≡ false → more ≡ p.table ∷ used
    → are_new used (numbers_of_pieces (drop i ps)) ≡ all → are_new more (numbers_of_pieces (drop (i + 1) ps)) ≡ all
new_more used more ps i p all lt at has e inv =
    let rest = drop (i + 1) ps in
    ap (λ z. are_new z (numbers_of_pieces rest)) e
    ∙ sym (at_drop_more (λ z. are_new used (numbers_of_pieces z)) ps i p lt ∙ ap (λ (z : Piece). are_new used (numbers_of_pieces (z ∷ rest))) (sym at) ∙ and_true (not (has_number used p.table)) (are_new (p.table ∷ used) (numbers_of_pieces rest)) (ap not has))
    ∙ inv

pub new_stops : (used : List ℕ) (ps : List Piece) (i : ℕ) (p : Piece) (all : Bool) → i < length ps → p ≡ get_or ps i p → has_number used p.table ≡ true → are_new used (numbers_of_pieces (drop i ps)) ≡ all → false ≡ all
new_stops used ps i p all lt at has inv =
    let rest = drop (i + 1) ps in
    sym (at_drop_more (λ z. are_new used (numbers_of_pieces z)) ps i p lt ∙ ap (λ (z : Piece). are_new used (numbers_of_pieces (z ∷ rest))) (sym at) ∙ and_false (not (has_number used p.table)) (are_new (p.table ∷ used) (numbers_of_pieces rest)) (ap not has)) ∙ inv

pub new_all : (used : List ℕ) (ps : List Piece) (i : ℕ) (all : Bool) → length ps ≤ i → are_new used (numbers_of_pieces (drop i ps)) ≡ all → true ≡ all
new_all used ps i all le inv = sym (at_drop_all (λ z. are_new used (numbers_of_pieces z)) ps i le) ∙ inv

-- ---- parts

cut_more : (x y : Version) (vs bs : List Version) → is_cut (x ∷ y ∷ vs) bs ≡ is_cut (y ∷ vs) bs
cut_more x y vs [] = refl
cut_more x y vs (b ∷ bs) = refl

cut_end : (vs : List Version) → is_cut vs [] ≡ true
cut_end [] = refl
cut_end (v ∷ vs) = refl

cut_at : (d : List Version) (n : ℕ) (v w : Version) → suc n < length d → v ≡ get_or d n v → w ≡ get_or d (suc n) w → is_cut (take (suc n) d) (drop (suc n) d) ≡ not (bytes_eq v.key w.key)
cut_at [] n v w lt a b = absurd (omega arith)
cut_at (x ∷ []) n v w lt a b = absurd (omega arith)
cut_at (x ∷ y ∷ zs) zero v w lt a b = ap (λ (z : Version). not (bytes_eq z.key y.key)) (sym a) ∙ ap (λ (z : Version). not (bytes_eq v.key z.key)) (sym b)
cut_at (x ∷ y ∷ zs) (suc n) v w lt a b = cut_more x y (take n zs) (drop (suc n) (y ∷ zs)) ∙ cut_at (y ∷ zs) n v w (omega arith) a b

le_true : (a b : ℕ) → a ≤ b → nat_le a b ≡ true
le_true a b h = grind (arith, nat_tests)

le_false : (a b : ℕ) → b < a → nat_le a b ≡ false
le_false a b h = grind (arith, nat_tests)

lt_true : (a b : ℕ) → a < b → nat_lt a b ≡ true
lt_true a b h = grind (arith, nat_tests)

pub part_none : (d : List Version) → false ≡ may_part d 0
part_none d = refl

pub part_long : (d : List Version) (count : ℕ) → length d < count → false ≡ may_part d count
part_long d count lt =
    sym (and_false (nat_lt 0 count && nat_le count (length d)) (is_cut (take count d) (drop count d)) (second (nat_lt 0 count) (nat_le count (length d)) (le_false count (length d) lt)))
  where
    second : (a b : Bool) → b ≡ false → (a && b) ≡ false
    second true b e = e
    second false b e = refl

both_hold : (a b c : Bool) → a ≡ true → b ≡ true → ((a && b) && c) ≡ c
both_hold a b c e f = and_true (a && b) c (and_true a b e ∙ f)

pub part_end : (d : List Version) (count : ℕ) → 0 < count → count ≡ length d → true ≡ may_part d count
part_end d count some e =
    let none : drop count d ≡ [] = at_drop_all (λ z. z) d count (omega (arith, e)) in
    sym (both_hold (nat_lt 0 count) (nat_le count (length d)) (is_cut (take count d) (drop count d)) (lt_true 0 count some) (le_true count (length d) (omega (arith, e))) ∙ ap (is_cut (take count d)) none ∙ cut_end (take count d))

pub part_cut : (d : List Version) (count : ℕ) (v w : Version) → 0 < count → count < length d → v ≡ get_or d (count - 1) v → w ≡ get_or d count w → not (bytes_eq v.key w.key) ≡ may_part d count
part_cut d count v w some lt a b =
    let n : ℕ = count - 1 in
    let same : count ≡ suc n = omega arith in
    let cut : is_cut (take (suc n) d) (drop (suc n) d) ≡ not (bytes_eq v.key w.key) = cut_at d n v w (omega (arith, same, lt)) a (b ∙ ap (λ k. get_or d k w) same) in
    sym (both_hold (nat_lt 0 count) (nat_le count (length d)) (is_cut (take count d) (drop count d)) (lt_true 0 count some) (le_true count (length d) (omega (arith, lt))) ∙ ap (λ k. is_cut (take k d) (drop k d)) same ∙ cut)

-- the tables so far and those of the rest are all
pub record Parting (level : ℕ) (vs : List Version) (ps : List Piece) (i start : ℕ) (made : List LiveTable) : Type 0 where
  pub within : start ≤ length vs
  pub parts : are_parts (drop start vs) (drop i ps) ≡ are_parts vs ps
  pub tables : made ++ tables_from level (drop start vs) (drop i ps) ≡ tables_from level vs ps

pub parting_none : (level : ℕ) (vs : List Version) (ps : List Piece) → Parting level vs ps 0 0 []
parting_none level vs ps = record { within = omega arith; parts = refl; tables = refl }

pub parting_more : (level : ℕ) (vs : List Version) (ps : List Piece) (i start next : ℕ) (p : Piece) (made new : List LiveTable) (t : LiveTable) → i < length ps → p ≡ get_or ps i p → true ≡ may_part (drop start vs) p.count → next ≡ start + p.count
    → t ≡ record { number = p.table; level = level; versions = take p.count (drop start vs) } → new ≡ made ++ t ∷ [] → next ≤ length vs → Parting level vs ps i start made → Parting level vs ps (i + 1) next new
parting_more level vs ps i start next p made new t lt at fits e is more le h =
    let d = drop start vs in
    let rest = drop (i + 1) ps in
    let here : drop i ps ≡ p ∷ rest = at_drop_more (λ (z : List Piece). z) ps i p lt ∙ ap (λ (z : Piece). z ∷ rest) (sym at) in
    let on : drop p.count d ≡ drop next vs = drop-drop p.count start vs ∙ ap (λ n. drop n vs) (sym e) in
    record {
      within = le;
      parts =
          ap (λ z. are_parts z rest) (sym on)
          ∙ sym (and_true (may_part d p.count) (are_parts (drop p.count d) rest) (sym fits))
          ∙ ap (are_parts d) (sym here)
          ∙ h.parts;
      tables =
          ap (λ z. z ++ tables_from level (drop next vs) rest) more
          ∙ append_assoc made (t ∷ []) (tables_from level (drop next vs) rest)
          ∙ ap (λ (z : LiveTable). made ++ z ∷ tables_from level (drop next vs) rest) is
          ∙ ap (λ z. made ++ record { number = p.table; level = level; versions = take p.count d } ∷ tables_from level z rest) (sym on)
          ∙ ap (λ z. made ++ tables_from level d z) (sym here)
          ∙ h.tables;
    }

none_parted : (level : ℕ) (vs : List Version) (ps : List Piece) → are_parts vs ps ≡ false → None ≡ parted level vs ps
none_parted level vs ps e = sym (ap (λ b. if b then Some (tables_from level vs ps) else None) e)

pub parting_stops : (level : ℕ) (vs : List Version) (ps : List Piece) (i start : ℕ) (p : Piece) (made : List LiveTable) → i < length ps → p ≡ get_or ps i p → false ≡ may_part (drop start vs) p.count → Parting level vs ps i start made → None ≡ parted level vs ps
parting_stops level vs ps i start p made lt at fits h =
    let d = drop start vs in
    let rest = drop (i + 1) ps in
    let here : drop i ps ≡ p ∷ rest = at_drop_more (λ (z : List Piece). z) ps i p lt ∙ ap (λ (z : Piece). z ∷ rest) (sym at) in
    none_parted level vs ps (sym h.parts ∙ ap (are_parts d) here ∙ and_false (may_part d p.count) (are_parts (drop p.count d) rest) (sym fits))

empty_is : {X : Type 0} (d : List X) → length d ≡ 0 → (length d == 0) ≡ true
empty_is d e = grind (arith, nat_tests, e)

some_is : {X : Type 0} (d : List X) → 0 < length d → (length d == 0) ≡ false
some_is d e = grind (arith, nat_tests, e)

pub parting_left : (level : ℕ) (vs : List Version) (ps : List Piece) (i start : ℕ) (made : List LiveTable) → length ps ≤ i → start < length vs → Parting level vs ps i start made → None ≡ parted level vs ps
parting_left level vs ps i start made le lt h =
    let d = drop start vs in
    let l = length-drop start vs in
    none_parted level vs ps (sym h.parts ∙ at_drop_all (are_parts d) ps i le ∙ some_is d (omega (arith, l, lt)))

pub parting_all : (level : ℕ) (vs : List Version) (ps : List Piece) (i start : ℕ) (made : List LiveTable) → length ps ≤ i → length vs ≤ start → Parting level vs ps i start made → Some made ≡ parted level vs ps
parting_all level vs ps i start made le done h =
    let d = drop start vs in
    let l = length-drop start vs in
    let whole : are_parts vs ps ≡ true = sym h.parts ∙ at_drop_all (are_parts d) ps i le ∙ empty_is d (omega (arith, l, done)) in
    let all : made ≡ tables_from level vs ps = sym (append-nil made) ∙ sym (at_drop_all (λ z. made ++ tables_from level d z) ps i le) ∙ h.tables in
    ap Some all ∙ sym (ap (λ b. if b then Some (tables_from level vs ps) else None) whole)
