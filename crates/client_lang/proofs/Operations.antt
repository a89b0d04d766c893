-- Operations one behind another: what stands at the front, and what behind it.
use Rattle.std.proofs.Common.{◌≡◌, ℕ, suc, ◌*◌, ◌<◌, ◌≤◌, Bool, true, false, List, [], ◌∷◌, ◌++◌, length, take, drop, get_or, refl, sym, ap, subst, ◌∙◌, inl, inr, arith, append_assoc, length-append}
use Rattle.std.specs.Prelude.{◌⊎◌, codes}
use Rattle.std.specs.List.{AllZip, flat_map}
use Rattle.std.proofs.lemmas.List.{take-append-drop}
use Rattle.udt_model.specs.declared.event.NamedOp.{NamedOp}
use Rattle.client_lang.specs.Grammar.{with_semicolons}
use Rattle.client_lang.specs.Print.{sync_words}
use Rattle.client_lang.specs.Readers.{op_length}

-- the operations with the word ; before each
abbrev pub listed : List (List (List ℕ)) → List (List ℕ)
listed parts = flat_map (λ part. codes ";" ∷ [] ++ part) parts

-- one operation or more, each of whose words R says
pub record Ops (R : List (List ℕ) → NamedOp → Type 0) (words : List (List ℕ)) (os : List NamedOp) (sync : Bool) : Type 0 where
  pub parts : List (List (List ℕ))
  pub words_are : words ≡ with_semicolons parts ++ sync_words sync
  pub parts_are : AllZip R parts os
  pub some : 0 < length os

-- what may stand behind an operation
pub record Behind (R : List (List ℕ) → NamedOp → Type 0) (words : List (List ℕ)) (os : List NamedOp) (sync : Bool) : Type 0 where
  pub parts : List (List (List ℕ))
  pub words_are : words ≡ listed parts ++ sync_words sync
  pub parts_are : AllZip R parts os

-- the words of an operation tell how many they are, and which operation it is
pub record IsClear (R : List (List ℕ) → NamedOp → Type 0) : Type 0 where
  pub front : (words rest : List (List ℕ)) (o : NamedOp) → R words o → op_length (words ++ rest) ≡ length words
  pub short : (words : List (List ℕ)) (o : NamedOp) → R words o → length words ≤ 5
  pub once : (words : List (List ℕ)) (a b : NamedOp) → R words a → R words b → a ≡ b

-- the first operation, and what is behind it
pub record First (R : List (List ℕ) → NamedOp → Type 0) (words : List (List ℕ)) (n : ℕ) (os : List NamedOp) (sync : Bool) : Type 0 where
  pub op : NamedOp
  pub more : List NamedOp
  pub os_are : os ≡ op ∷ more
  pub op_is : R (take n words) op
  pub behind : Behind R (drop n words) more sync

take_front : (xs ys : List (List ℕ)) (n : ℕ) → n ≡ length xs → take n (xs ++ ys) ≡ xs
take_front [] ys n e = rw e refl
take_front (x ∷ xs) ys n e = let k : n ≡ suc (length xs) = omega arith in rw k (ap (λ (t : List (List ℕ)). x ∷ t) (take_front xs ys (length xs) refl))

drop_front : (xs ys : List (List ℕ)) (n : ℕ) → n ≡ length xs → drop n (xs ++ ys) ≡ ys
drop_front [] ys n e = rw e refl
drop_front (x ∷ xs) ys n e = let k : n ≡ suc (length xs) = omega arith in rw k (drop_front xs ys (length xs) refl)

first_at : (R : List (List ℕ) → NamedOp → Type 0) → IsClear R → (words : List (List ℕ)) (parts : List (List (List ℕ))) (os : List NamedOp) (sync : Bool)
    → words ≡ with_semicolons parts ++ sync_words sync → AllZip R parts os → 0 < length os → First R words (op_length words) os sync
first_at R clear words [] [] sync e each some = absurd (omega arith)
first_at R clear words [] (o ∷ os) sync e each some = absurd each
first_at R clear words (p ∷ ps) [] sync e each some = absurd each
first_at R clear words (p ∷ ps) (o ∷ os) sync e each some =
    let rest : List (List ℕ) = listed ps ++ sync_words sync in
    let whole : words ≡ p ++ rest = e ∙ append_assoc p (listed ps) (sync_words sync) in
    let n : op_length words ≡ length p = ap op_length whole ∙ clear.front p rest o each.0 in
    record {
      op = o;
      more = os;
      os_are = refl;
      op_is = subst (λ (ws : List (List ℕ)). R ws o) (sym (ap (take (op_length words)) whole ∙ take_front p rest (op_length words) n)) each.0;
      behind = record { parts = ps; words_are = ap (drop (op_length words)) whole ∙ drop_front p rest (op_length words) n; parts_are = each.1 };
    }

pub ops_first : (R : List (List ℕ) → NamedOp → Type 0) → IsClear R → (words : List (List ℕ)) (os : List NamedOp) (sync : Bool) → Ops R words os sync → First R words (op_length words) os sync
ops_first R clear words os sync h = first_at R clear words h.parts os sync h.words_are h.parts_are h.some

pub ops_from : (R : List (List ℕ) → NamedOp → Type 0) (words : List (List ℕ)) (n : ℕ) (o : NamedOp) (os : List NamedOp) (sync : Bool) → R (take n words) o → Behind R (drop n words) os sync → Ops R words (o ∷ os) sync
ops_from R words n o os sync p b = record {
  parts = take n words ∷ b.parts;
  words_are = sym (take-append-drop n words) ∙ ap (λ (ws : List (List ℕ)). take n words ++ ws) b.words_are ∙ sym (append_assoc (take n words) (listed b.parts) (sync_words sync));
  parts_are = (p, b.parts_are);
  some = omega arith;
}

-- ---- what is behind

pub end_behind : (R : List (List ℕ) → NamedOp → Type 0) → Behind R [] [] false
end_behind R = record { parts = []; words_are = refl; parts_are = tt }

pub sync_behind : (R : List (List ℕ) → NamedOp → Type 0) → Behind R (codes "sync" ∷ []) [] true
sync_behind R = record { parts = []; words_are = refl; parts_are = tt }

more_at : (R : List (List ℕ) → NamedOp → Type 0) (words : List (List ℕ)) (parts : List (List (List ℕ))) (os : List NamedOp) (sync : Bool)
    → words ≡ with_semicolons parts ++ sync_words sync → AllZip R parts os → 0 < length os → Behind R (codes ";" ∷ words) os sync
more_at R words [] [] sync e each some = absurd (omega arith)
more_at R words [] (o ∷ os) sync e each some = absurd each
more_at R words (p ∷ ps) os sync e each some = record { parts = p ∷ ps; words_are = ap (λ (ws : List (List ℕ)). codes ";" ∷ ws) e; parts_are = each }

pub more_behind : (R : List (List ℕ) → NamedOp → Type 0) (words : List (List ℕ)) (os : List NamedOp) (sync : Bool) → Ops R words os sync → Behind R (codes ";" ∷ words) os sync
more_behind R words os sync h = more_at R words h.parts os sync h.words_are h.parts_are h.some

abbrev pub AtEnd : List (List ℕ) → List NamedOp → Bool → Type 0
AtEnd words os sync = (words ≡ []) × (os ≡ []) × (sync ≡ false)

abbrev pub AtSync : List (List ℕ) → List NamedOp → Bool → Type 0
AtSync words os sync = (words ≡ codes "sync" ∷ []) × (os ≡ []) × (sync ≡ true)

pub record AtMore (R : List (List ℕ) → NamedOp → Type 0) (words : List (List ℕ)) (os : List NamedOp) (sync : Bool) : Type 0 where
  pub rest : List (List ℕ)
  pub words_are : words ≡ codes ";" ∷ rest
  pub ops : Ops R rest os sync

behind_at : (R : List (List ℕ) → NamedOp → Type 0) (words : List (List ℕ)) (parts : List (List (List ℕ))) (os : List NamedOp) (sync : Bool)
    → words ≡ listed parts ++ sync_words sync → AllZip R parts os → AtEnd words os sync ⊎ (AtSync words os sync ⊎ AtMore R words os sync)
behind_at R words [] [] false e each = inl (e, refl, refl)
behind_at R words [] [] true e each = inr (inl (e, refl, refl))
behind_at R words [] (o ∷ os) sync e each = absurd each
behind_at R words (p ∷ ps) [] sync e each = absurd each
behind_at R words (p ∷ ps) (o ∷ os) sync e each =
    inr (inr (record { rest = with_semicolons (p ∷ ps) ++ sync_words sync; words_are = e; ops = record { parts = p ∷ ps; words_are = refl; parts_are = each; some = omega arith } }))

-- nothing, sync alone, or ; and more operations
pub behind_cases : (R : List (List ℕ) → NamedOp → Type 0) (words : List (List ℕ)) (os : List NamedOp) (sync : Bool) → Behind R words os sync → AtEnd words os sync ⊎ (AtSync words os sync ⊎ AtMore R words os sync)
behind_cases R words os sync b = behind_at R words b.parts os sync b.words_are b.parts_are

end_isn't_word : (words rest : List (List ℕ)) (w : List ℕ) → words ≡ [] → words ≡ w ∷ rest → ⊥
end_isn't_word words rest w p q = let e = ap length (sym p ∙ q) in omega arith

sync_isn't_more : (words rest : List (List ℕ)) → words ≡ codes "sync" ∷ [] → words ≡ codes ";" ∷ rest → ⊥
sync_isn't_more words rest p q = let e = ap (λ (ws : List (List ℕ)). length (get_or ws 0 [])) (sym p ∙ q) in omega arith

pub at_end : (R : List (List ℕ) → NamedOp → Type 0) (words : List (List ℕ)) (os : List NamedOp) (sync : Bool) → words ≡ [] → Behind R words os sync → AtEnd words os sync
at_end R words os sync e b =
    elim (behind_cases R words os sync b) [
      | inl here ↦ here
      | inr (inl last) ↦ absurd (end_isn't_word words [] (codes "sync") e last.0)
      | inr (inr more) ↦ absurd (end_isn't_word words more.rest (codes ";") e more.words_are)
    ]

pub at_sync : (R : List (List ℕ) → NamedOp → Type 0) (words : List (List ℕ)) (os : List NamedOp) (sync : Bool) → words ≡ codes "sync" ∷ [] → Behind R words os sync → AtSync words os sync
at_sync R words os sync e b =
    elim (behind_cases R words os sync b) [
      | inl here ↦ absurd (end_isn't_word words [] (codes "sync") here.0 e)
      | inr (inl last) ↦ last
      | inr (inr more) ↦ absurd (sync_isn't_more words more.rest e more.words_are)
    ]

pub at_more : (R : List (List ℕ) → NamedOp → Type 0) (words rest : List (List ℕ)) (os : List NamedOp) (sync : Bool) → words ≡ codes ";" ∷ rest → Behind R words os sync → Ops R rest os sync
at_more R words rest os sync e b =
    elim (behind_cases R words os sync b) [
      | inl here ↦ absurd (end_isn't_word words rest (codes ";") here.0 e)
      | inr (inl last) ↦ absurd (sync_isn't_more words rest last.0 e)
      | inr (inr more) ↦ subst (λ (ws : List (List ℕ)). Ops R ws os sync) (ap (drop 1) (sym more.words_are ∙ e)) more.ops
    ]

-- ---- one list of operations at most

abbrev pub Same : List NamedOp → List NamedOp → Bool → Bool → Type 0
Same xs ys a b = (xs ≡ ys) × (a ≡ b)

cons_same_op : (x y : NamedOp) (xs ys : List NamedOp) → x ≡ y → xs ≡ ys → x ∷ xs ≡ y ∷ ys
cons_same_op x y xs ys p q = rw (p, q) refl

head_of : (x y : NamedOp) (xs ys : List NamedOp) → x ∷ xs ≡ y ∷ ys → x ≡ y
head_of x y xs ys e = ap (λ (os : List NamedOp). get_or os 0 x) e

tail_of : (x y : NamedOp) (xs ys : List NamedOp) → x ∷ xs ≡ y ∷ ys → xs ≡ ys
tail_of x y xs ys e = ap (λ (os : List NamedOp). drop 1 os) e

pub ops_once : (R : List (List ℕ) → NamedOp → Type 0) → IsClear R → (words : List (List ℕ)) (xs ys : List NamedOp) (a b : Bool) → Ops R words xs a → Ops R words ys b → Same xs ys a b
ops_once R clear words [] ys a b p q = absurd (omega (arith, p.some))
ops_once R clear words (x ∷ xs) ys a b p q =
    let n : ℕ = op_length words in
    let f = ops_first R clear words (x ∷ xs) a p in
    let g = ops_first R clear words ys b q in
    let same : x ≡ g.op = head_of x f.op xs f.more f.os_are ∙ clear.once (take n words) f.op g.op f.op_is g.op_is in
    let behind : Behind R (drop n words) xs a = subst (λ (os : List NamedOp). Behind R (drop n words) os a) (sym (tail_of x f.op xs f.more f.os_are)) f.behind in
    elim (behind_cases R (drop n words) xs a behind) [
      | inl here ↦
          let other = at_end R (drop n words) g.more b here.0 g.behind in
          (cons_same_op x g.op xs g.more same (here.1 ∙ sym other.1) ∙ sym g.os_are, here.2 ∙ sym other.2)
      | inr (inl last) ↦
          let other = at_sync R (drop n words) g.more b last.0 g.behind in
          (cons_same_op x g.op xs g.more same (last.1 ∙ sym other.1) ∙ sym g.os_are, last.2 ∙ sym other.2)
      | inr (inr more) ↦
          let rest = ops_once R clear more.rest xs g.more a b more.ops (at_more R (drop n words) more.rest g.more b more.words_are g.behind) in
          (cons_same_op x g.op xs g.more same rest.0 ∙ sym g.os_are, rest.1)
    ]

-- ---- how many words

sync_short : (sync : Bool) → length (sync_words sync) ≤ 1
sync_short true = omega arith
sync_short false = omega arith

listed_short : (R : List (List ℕ) → NamedOp → Type 0) → IsClear R → (parts : List (List (List ℕ))) (os : List NamedOp) → AllZip R parts os → length (listed parts) ≤ 6 * length os
listed_short R clear [] os h = omega arith
listed_short R clear (p ∷ ps) [] h = absurd h
listed_short R clear (p ∷ ps) (o ∷ os) h = omega (arith, listed_short R clear ps os h.1, clear.short p o h.0, length-append (codes ";" ∷ p) (listed ps))

short_at : (R : List (List ℕ) → NamedOp → Type 0) → IsClear R → (parts : List (List (List ℕ))) (os : List NamedOp) (sync : Bool) → AllZip R parts os → 0 < length os → length (with_semicolons parts ++ sync_words sync) ≤ 6 * length os
short_at R clear [] [] sync h some = absurd (omega arith)
short_at R clear [] (o ∷ os) sync h some = absurd h
short_at R clear (p ∷ ps) [] sync h some = absurd h
short_at R clear (p ∷ ps) (o ∷ os) sync h some =
    omega (arith, listed_short R clear ps os h.1, clear.short p o h.0, length-append p (listed ps), length-append (p ++ listed ps) (sync_words sync), sync_short sync)

pub ops_short : (R : List (List ℕ) → NamedOp → Type 0) → IsClear R → (words : List (List ℕ)) (os : List NamedOp) (sync : Bool) → Ops R words os sync → length words ≤ 6 * length os
ops_short R clear words os sync h = omega (arith, ap length h.words_are, short_at R clear h.parts os sync h.parts_are h.some)
