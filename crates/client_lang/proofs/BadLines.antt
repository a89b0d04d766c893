-- The first line that ends a file.
use Rattle.std.proofs.Common.{◌≡◌, ℕ, zero, suc, ◌+◌, ◌-◌, ◌<◌, ◌≤◌, true, List, [], ◌∷◌, ◌++◌, length, take, get_or, refl, sym, ap, subst, ◌∙◌, inl, inr, arith}
use Rattle.std.proofs.lemmas.Bool.{cases_Bool, cases_lt}
use Rattle.std.specs.Prelude.{◌⊎◌, All, filter, IfOk, IfErr, Result, Ok, Err}
use Rattle.std.proofs.lemmas.Slice.Zip.{AllZip-long}
use Rattle.std.proofs.lemmas.List.{get_or-take, length-take-le, length_push, take_more, take-take}
use Rattle.client_lang.specs.declared.command.Command.{Command}
use Rattle.client_lang.specs.declared.grammar.lines.ReadFault.{ReadFault}
use Rattle.client_lang.specs.declared.grammar.lines.ReadFault.TheVariants.{BadLine, TooMany, TooLong, NoMemory}
use Rattle.client_lang.specs.Faults.{IsReadFault, Refuses}
use Rattle.client_lang.specs.Print.{IsBuiltCommand}
use Rattle.client_lang.proofs.ReadLines.{all_built, keeps_last, same_file}
use Rattle.client_lang.specs.Grammar.{IsLine, AreLines, AreCommands, IsBadLine, IsTooMany, IsFile, wants_command, lines_of}

-- the line is a command
abbrev IsSpelled : List ℕ → Type 0
IsSpelled line = (command : Command) × IsLine line command

wanted_first : (l : List ℕ) (ls : List (List ℕ)) (commands : List Command) → wants_command l ≡ true → AreLines (l ∷ ls) commands → IsSpelled l × ((es : List Command) × AreLines ls es)
wanted_first l ls [] k h = absurd (rw k at h)
wanted_first l ls (e ∷ es) k h = let p = rw k at h in ((e, p.0), (es, p.1))

-- of lines with commands, each one that wants a command is one
is_spelled : (lines : List (List ℕ)) (commands : List Command) (i : ℕ) → AreLines lines commands → i < length lines → wants_command (get_or lines i []) ≡ true → IsSpelled (get_or lines i [])
is_spelled [] commands i h lt wanted = absurd (omega arith)
is_spelled (l ∷ ls) commands zero h lt wanted = (wanted_first l ls commands wanted h).0
is_spelled (l ∷ ls) commands (suc i) h lt wanted =
    elim (cases_Bool (wants_command l)) [
      | inl k ↦ (let p = wanted_first l ls commands k h in is_spelled ls p.1.0 i p.1.1 (omega arith) wanted)
      | inr k ↦ is_spelled ls commands i (rw k at h) (omega arith) wanted
    ]

-- a front of lines with commands has commands too, and no more
front_commands : (k : ℕ) (lines : List (List ℕ)) (commands : List Command) → AreLines lines commands → (front : List Command) × AreLines (take k lines) front × (length front ≤ length commands)
front_commands zero lines commands h = ([], tt, omega arith)
front_commands (suc k) [] commands h = (commands, h, omega arith)
front_commands (suc k) (l ∷ ls) [] h =
    elim (cases_Bool (wants_command l)) [
      | inl e ↦ absurd (rw e at h)
      | inr e ↦ (let p = front_commands k ls [] (rw e at h) in (p.0, rw e p.1, p.2))
    ]
front_commands (suc k) (l ∷ ls) (c ∷ cs) h =
    elim (cases_Bool (wants_command l)) [
      | inl e ↦ (let q = rw e at h in let p = front_commands k ls cs q.1 in (c ∷ p.0, rw e (q.0, p.1), omega (arith, p.2)))
      | inr e ↦ (let p = front_commands k ls (c ∷ cs) (rw e at h) in (p.0, rw e p.1, p.2))
    ]

-- the n-th line ends the reading: the lines before it are commands, and with it they aren't
record Ends (lines : List (List ℕ)) (n : ℕ) : Type 0 where
  counted : 0 < n
  before : (commands : List Command) × AreCommands (take (n - 1) lines) commands
  none : (commands : List Command) → AreCommands (take n lines) commands → ⊥

bad_ends : (lines : List (List ℕ)) (n : ℕ) → IsBadLine lines n → Ends lines n
bad_ends lines n b =
    let there : get_or (take n lines) (n - 1) [] ≡ get_or lines (n - 1) [] = get_or-take n lines (n - 1) [] (omega (arith, b.place.0)) in
    let long : n - 1 < length (take n lines) = omega (arith, b.place.0, length-take-le n lines b.place.1) in
    record {
      counted = b.place.0;
      before = b.before;
      none = λ commands h.
          let p = rw there at (is_spelled (take n lines) commands (n - 1) h.lines_are long (rw there b.wanted)) in
          b.bad p.0 p.1;
    }

many_ends : (lines : List (List ℕ)) (n : ℕ) → IsTooMany lines n → Ends lines n
many_ends lines n t =
    let lt : n - 1 < length lines = omega (arith, t.place.0, t.place.1) in
    let step : n - 1 + 1 ≡ n = omega (arith, t.place.0) in
    let whole : take n lines ≡ take (n - 1) lines ++ get_or lines (n - 1) [] ∷ [] = ap (λ (k : ℕ). take k lines) (sym step) ∙ take_more lines (n - 1) [] lt in
    let wanted : filter wants_command (take n lines) ≡ filter wants_command (take (n - 1) lines) ++ get_or lines (n - 1) [] ∷ [] = ap (filter wants_command) whole ∙ keeps_last (take (n - 1) lines) (get_or lines (n - 1) []) t.wanted in
    record {
      counted = t.place.0;
      before = (t.before.0, t.before.1);
      none = λ commands h.
          let all = AllZip-long IsLine (filter wants_command (take n lines)) commands h.lines_are in
          let front = AllZip-long IsLine (filter wants_command (take (n - 1) lines)) t.before.0 t.before.1.lines_are in
          let size = ap length wanted ∙ length_push (filter wants_command (take (n - 1) lines)) (get_or lines (n - 1) []) in
          let full = t.before.2 in
          let few = h.few in
          omega arith;
    }

-- lines with commands, and not too many, have no such line
none_ends : (lines : List (List ℕ)) (commands : List Command) (n : ℕ) → AreCommands lines commands → Ends lines n → ⊥
none_ends lines commands n h e =
    let p = front_commands n lines commands h.lines_are in
    e.none p.0 (record { lines_are = p.1; few = omega (arith, p.2, h.few) })

not_before : (lines : List (List ℕ)) (m n : ℕ) → Ends lines m → Ends lines n → m < n → ⊥
not_before lines m n a b lt =
    let p = front_commands m (take (n - 1) lines) b.before.0 b.before.1.lines_are in
    let same : take m (take (n - 1) lines) ≡ take m lines = take-take m (n - 1) lines (omega arith) in
    a.none p.0 (record { lines_are = subst (λ (ls : List (List ℕ)). AreLines ls p.0) same p.1; few = omega (arith, p.2, b.before.1.few) })

-- there is one such line
one_end : (lines : List (List ℕ)) (m n : ℕ) → Ends lines m → Ends lines n → m ≡ n
one_end lines m n a b =
    elim (cases_lt m n) [
      | inl before ↦ absurd (not_before lines m n a b before)
      | inr rest ↦ elim (cases_lt n m) [ inl behind ↦ absurd (not_before lines n m b a behind) | inr most ↦ omega arith ]
    ]

bad_isn't_many : (lines : List (List ℕ)) (m n : ℕ) → IsBadLine lines m → IsTooMany lines n → ⊥
bad_isn't_many lines m n b t =
    let same = one_end lines m n (bad_ends lines m b) (many_ends lines n t) in
    let here : get_or lines (n - 1) [] ≡ get_or lines (m - 1) [] = ap (λ (k : ℕ). get_or lines (k - 1) []) (sym same) in
    b.bad t.more.0 (subst (λ (line : List ℕ). IsLine line t.more.0) here t.more.1)

-- ---- files

-- a command file isn't refused
pub none_refused : (bytes : List ℕ) (commands : List Command) (fault : ReadFault) → IsFile bytes commands → Refuses bytes fault → ⊥
none_refused bytes commands TooLong f r = let short = f.short in omega arith
none_refused bytes commands (BadLine n) f r = none_ends (lines_of bytes) commands n (record { lines_are = f.lines; few = f.few }) (bad_ends (lines_of bytes) n r.1)
none_refused bytes commands (TooMany n) f r = none_ends (lines_of bytes) commands n (record { lines_are = f.lines; few = f.few }) (many_ends (lines_of bytes) n r.1)
none_refused bytes commands NoMemory f r = r

-- bytes are refused for one fault
pub one_refusal : (bytes : List ℕ) (a b : ReadFault) → Refuses bytes a → Refuses bytes b → a ≡ b
one_refusal bytes TooLong TooLong p q = refl
one_refusal bytes TooLong (BadLine n) p q = let short = q.0 in absurd (omega arith)
one_refusal bytes TooLong (TooMany n) p q = let short = q.0 in absurd (omega arith)
one_refusal bytes (BadLine m) TooLong p q = let short = p.0 in absurd (omega arith)
one_refusal bytes (BadLine m) (BadLine n) p q = ap BadLine (one_end (lines_of bytes) m n (bad_ends (lines_of bytes) m p.1) (bad_ends (lines_of bytes) n q.1))
one_refusal bytes (BadLine m) (TooMany n) p q = absurd (bad_isn't_many (lines_of bytes) m n p.1 q.1)
one_refusal bytes (TooMany m) TooLong p q = let short = p.0 in absurd (omega arith)
one_refusal bytes (TooMany m) (BadLine n) p q = absurd (bad_isn't_many (lines_of bytes) n m q.1 p.1)
one_refusal bytes (TooMany m) (TooMany n) p q = ap TooMany (one_end (lines_of bytes) m n (many_ends (lines_of bytes) m p.1) (many_ends (lines_of bytes) n q.1))
one_refusal bytes NoMemory b p q = absurd p
one_refusal bytes a NoMemory p q = absurd q

-- ---- results

pub only_memory : {T : Type 0} (bytes : List ℕ) (commands : List Command) (r : Result T ReadFault) → IsFile bytes commands → IfErr r (IsReadFault bytes) → IfErr r (λ fault. fault ≡ NoMemory)
only_memory bytes commands (Ok x) f h = tt
only_memory bytes commands (Err fault) f (inl refuses) = absurd (none_refused bytes commands fault f refuses)
only_memory bytes commands (Err fault) f (inr want) = want

pub told_fault : {T : Type 0} (items : T → List Command) (bytes : List ℕ) (fault : ReadFault) (r : Result T ReadFault) → Refuses bytes fault → IfOk r (λ x. IsFile bytes (items x)) → IfErr r (IsReadFault bytes) → (r ≡ Err fault) ⊎ (r ≡ Err NoMemory)
told_fault items bytes fault (Ok x) p file h = absurd (none_refused bytes (items x) fault file p)
told_fault items bytes fault (Err other) p file (inl refuses) = inl (ap Err (one_refusal bytes other fault refuses p))
told_fault items bytes fault (Err other) p file (inr want) = inr (ap Err want)

pub only_file : {T : Type 0} (items : T → List Command) (bytes : List ℕ) (r : Result T ReadFault) → IfOk r (λ x. IsFile bytes (items x)) → IfOk r (λ x. (other : List Command) → IsFile bytes other → other ≡ items x)
only_file items bytes (Ok x) file = λ other h. same_file bytes other (items x) h file
only_file items bytes (Err fault) file = tt

pub built_file : {T : Type 0} (items : T → List Command) (bytes : List ℕ) (r : Result T ReadFault) → IfOk r (λ x. IsFile bytes (items x)) → IfOk r (λ x. All IsBuiltCommand (items x))
built_file items bytes (Ok x) file = all_built bytes (items x) file
built_file items bytes (Err fault) file = tt
