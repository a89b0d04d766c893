-- The words of a command line are one command at most.
use Rattle.std.proofs.Common.{◌≡◌, ℕ, zero, suc, ◌<◌, false, List, [], ◌∷◌, length, get_or, map, refl, sym, ap, subst, ◌∙◌, arith}
use Rattle.std.specs.Prelude.{codes, All}
use Rattle.std.proofs.lemmas.List.{append_cancel_right}
use Rattle.std.proofs.lemmas.List.Elements.{All-head, All-tail}
use Rattle.ts_key.specs.Names.{is_name}
use Rattle.ts_key.specs.declared.version.Form.{Form}
use Rattle.ts_key.specs.declared.numbers.Ts.{Ts}
use Rattle.udt_model.specs.declared.line.FamilyHead.{FamilyHead}
use Rattle.head_manifest.specs.Heads.{AreNew, IsNewFamily, IsNamed}
use Rattle.client_runner.specs.Commands.{IsHelpCommand, IsVersionCommand, IsTryCommand, IsInitCommand, IsRunCommand, IsInitWord, family_word, IsNamePart, IsFamilyWord, AreFamilyWords, AreHeadWords}

-- ---- the words of families

-- a word has one name before :persist
pub part_once : (word a b : List ℕ) → IsNamePart word a → IsNamePart word b → a ≡ b
part_once word a b p q = append_cancel_right a b (codes ":persist") (sym p ∙ q)

abbrev at_ts : ℕ → Ts
at_ts n = record { 0 = n }

abbrev family : List ℕ → Form → Ts → FamilyHead
family name form floor = record { name = name; form = form; floor = floor }

-- new families of one name are one family
same_family : (f g : FamilyHead) → IsNewFamily f → IsNewFamily g → f.name ≡ g.name → f ≡ g
same_family f g p q same =
    ap (λ (name : List ℕ). family name f.form f.floor) same ∙ ap (λ (form : Form). family g.name form f.floor) (p.form ∙ sym q.form)
    ∙ ap (λ (n : ℕ). family g.name g.form (at_ts n)) (p.floor ∙ sym q.floor)

-- new families that one word spells are one family
pub family_once : (f g : FamilyHead) → IsNewFamily f → IsNewFamily g → family_word f ≡ family_word g → f ≡ g
family_once f g p q same = same_family f g p q (append_cancel_right f.name g.name (codes ":persist") same)

-- new families that one list of words spells are one list
pub families_once : (fs gs : List FamilyHead) → All IsNewFamily fs → All IsNewFamily gs → map family_word fs ≡ map family_word gs → fs ≡ gs
families_once [] [] p q same = refl
families_once [] (g ∷ gs) p q same = absurd (cc same)
families_once (f ∷ fs) [] p q same = absurd (cc same)
families_once (f ∷ fs) (g ∷ gs) p q same =
    let word : family_word f ≡ family_word g = cc in
    let words : map family_word fs ≡ map family_word gs = cc in
    let first = family_once f g (All-head IsNewFamily f fs p) (All-head IsNewFamily g gs q) word in
    let others = families_once fs gs (All-tail IsNewFamily f fs p) (All-tail IsNewFamily g gs q) words in
    ap (λ (h : FamilyHead). h ∷ fs) first ∙ ap (λ (l : List FamilyHead). g ∷ l) others

-- no family is spelled where the name before :persist isn't one
pub no_family : (word name : List ℕ) → IsNamePart word name → is_name name ≡ false → (f : FamilyHead) → IsFamilyWord word f → ⊥
no_family word name part bad f p =
    let same : name ≡ f.name = part_once word name f.name part p.is in
    let at : is_name f.name ≡ false = subst (λ (n : List ℕ). is_name n ≡ false) same bad in
    let named = p.named in cc

-- ---- the words that were read

-- no families are spelled where one of the words spells none
pub none_spelled : (words : List (List ℕ)) (i : ℕ) (d : List ℕ) → i < length words → ((f : FamilyHead) → IsFamilyWord (get_or words i d) f → ⊥)
    → (families : List FamilyHead) → AreFamilyWords words families → ⊥
none_spelled [] i d within none families p = omega arith
none_spelled (w ∷ words) i d within none [] p = let e = p.is in cc e
none_spelled (w ∷ words) zero d within none (f ∷ families) p =
    let e = p.is in
    let word : w ≡ family_word f = cc in
    none f (record { is = word; new = All-head IsNewFamily f families p.each; named = All-head IsNamed f families p.named })
none_spelled (w ∷ words) (suc i) d within none (f ∷ families) p =
    let e = p.is in
    let behind : words ≡ map family_word families = cc in
    none_spelled words i d (omega arith) none families
    (record { is = behind; each = All-tail IsNewFamily f families p.each; named = All-tail IsNamed f families p.named })

-- the families that were read aren't a head's, so the words spell no head
pub no_head : (words : List (List ℕ)) (found : List FamilyHead) → AreFamilyWords words found → (AreNew found → ⊥) → (families : List FamilyHead) → AreHeadWords words families → ⊥
no_head words found read bad families h =
    let same = families_once found families read.each h.new.each (sym read.is ∙ h.is) in
    bad (subst AreNew (sym same) h.new)

-- ---- one command

pub help_no_version : (words : List (List ℕ)) → IsHelpCommand words → IsVersionCommand words → ⊥
help_no_version words p q = let e = sym p ∙ q in cc e

pub help_no_try : (words : List (List ℕ)) (file : List ℕ) → IsHelpCommand words → IsTryCommand words file → ⊥
help_no_try words file p q = let e = sym p ∙ q.0 in cc e

pub help_no_init : (words : List (List ℕ)) (folder : List ℕ) (families : List FamilyHead) → IsHelpCommand words → IsInitCommand words folder families → ⊥
help_no_init words folder families p q = let e = sym p ∙ q.is in cc e

pub help_no_run : (words : List (List ℕ)) (folder file : List ℕ) → IsHelpCommand words → IsRunCommand words folder file → ⊥
help_no_run words folder file p q = let e = sym p ∙ q.0 in cc e

pub version_no_try : (words : List (List ℕ)) (file : List ℕ) → IsVersionCommand words → IsTryCommand words file → ⊥
version_no_try words file p q = let e = sym p ∙ q.0 in cc e

pub version_no_init : (words : List (List ℕ)) (folder : List ℕ) (families : List FamilyHead) → IsVersionCommand words → IsInitCommand words folder families → ⊥
version_no_init words folder families p q = let e = sym p ∙ q.is in cc e

pub version_no_run : (words : List (List ℕ)) (folder file : List ℕ) → IsVersionCommand words → IsRunCommand words folder file → ⊥
version_no_run words folder file p q = let e = sym p ∙ q.0 in cc e

pub try_no_init : (words : List (List ℕ)) (file folder : List ℕ) (families : List FamilyHead) → IsTryCommand words file → IsInitCommand words folder families → ⊥
try_no_init words file folder families p q = let e = sym p.0 ∙ q.is in cc e

pub try_no_run : (words : List (List ℕ)) (file folder other : List ℕ) → IsTryCommand words file → IsRunCommand words folder other → ⊥
try_no_run words file folder other p q = let e = sym p.0 ∙ q.0 in cc e

pub init_no_run : (words : List (List ℕ)) (at : List ℕ) (families : List FamilyHead) (folder file : List ℕ) → IsInitCommand words at families → IsRunCommand words folder file → ⊥
init_no_run words at families folder file p q = let e = sym p.is ∙ q.0 in cc e

-- ---- the word init

pub init_word : (words : List (List ℕ)) (folder : List ℕ) (families : List FamilyHead) → IsInitCommand words folder families → IsInitWord words
init_word words folder families p = (folder ∷ map family_word families, p.is)

pub init_word_no_help : (words : List (List ℕ)) → IsInitWord words → IsHelpCommand words → ⊥
init_word_no_help words p q = let e = sym p.1 ∙ q in cc e

pub init_word_no_version : (words : List (List ℕ)) → IsInitWord words → IsVersionCommand words → ⊥
init_word_no_version words p q = let e = sym p.1 ∙ q in cc e

pub init_word_no_try : (words : List (List ℕ)) (file : List ℕ) → IsInitWord words → IsTryCommand words file → ⊥
init_word_no_try words file p q = let e = sym p.1 ∙ q.0 in cc e

pub init_word_no_run : (words : List (List ℕ)) (folder file : List ℕ) → IsInitWord words → IsRunCommand words folder file → ⊥
init_word_no_run words folder file p q = let e = sym p.1 ∙ q.0 in cc e

-- ---- one meaning

pub try_once : (words : List (List ℕ)) (a b : List ℕ) → IsTryCommand words a → IsTryCommand words b → a ≡ b
try_once words a b p q = let e = sym p.0 ∙ q.0 in cc

pub run_once : (words : List (List ℕ)) (a b c d : List ℕ) → IsRunCommand words a b → IsRunCommand words c d → (a ≡ c) × (b ≡ d)
run_once words a b c d p q = let e = sym p.0 ∙ q.0 in (cc, cc)

pub init_once : (words : List (List ℕ)) (a b : List ℕ) (fs gs : List FamilyHead) → IsInitCommand words a fs → IsInitCommand words b gs → (a ≡ b) × (fs ≡ gs)
init_once words a b fs gs p q =
    let e = sym p.is ∙ q.is in
    let behind : map family_word fs ≡ map family_word gs = cc in
    (cc, families_once fs gs p.new.each q.new.each behind)
