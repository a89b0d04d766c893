-- Words are one event at most, and a command is one that is built.
use Rattle.std.proofs.Common.{◌≡◌, ℕ, ◌-◌, ◌<◌, ◌≤◌, Bool, List, [], ◌∷◌, ◌++◌, length, take, map, get_or, Option, Some, None, Result, Ok, Err, refl, sym, ap, subst, ◌∙◌, append_assoc, inl, inr, arith}
use Rattle.std.specs.Prelude.{◌⊎◌, codes, IfOk}
use Rattle.std.specs.List.{AllZip}
use Rattle.std.proofs.lemmas.Bool.{cases_lt}
use Rattle.std.proofs.lemmas.List.{take_all, length-take-le}
use Rattle.ts_key.specs.declared.limits.TheConstants.{BATCH_LIMIT, KEY_LIMIT}
use Rattle.ts_key.specs.declared.numbers.Ts.{Ts}
use Rattle.ts_key.specs.declared.version.Op.{Op}
use Rattle.ts_key.specs.declared.version.Op.TheVariants as ops
use Rattle.udt_model.specs.declared.event.Event.{Event}
use Rattle.udt_model.specs.declared.event.NamedOp.{NamedOp}
use Rattle.udt_model.specs.declared.event.Event.TheVariants.{Write, Get, Sync}
use Rattle.client_lang.specs.declared.command.Command.{Command}
use Rattle.client_lang.specs.declared.command.Command.TheVariants as commands
use Rattle.client_lang.specs.Print.{IsBuilt, IsBuiltCommand, sync_words}
use Rattle.client_lang.specs.Grammar.{IsName, IsNumber, IsByteWord, IsOpAt, IsOp, IsWrite, IsGet, IsEvent, IsCommand, Reads, with_semicolons}
use Rattle.client_lang.specs.Readers.{IsPlainEvent, IsWriteEvent}
use Rattle.client_lang.specs.Readers.{IsTarget}
use Rattle.client_lang.specs.declared.grammar.commands.Target.{Target}
use Rattle.client_lang.proofs.Operations.{Ops, listed, ops_once, ops_short}
use Rattle.client_lang.proofs.OneOperation.{get_isn't_del, get_isn't_put, length-now, op_clear, same_bytes, same_name, same_ts, word_at}

-- ---- events that are no writes

pub record Gets (words : List (List ℕ)) (event : Event) : Type 0 where
  pub name : List ℕ
  pub bytes : List ℕ
  pub t : Ts
  pub event_is : event ≡ Get name bytes t None
  pub get : IsGet words name bytes t.0

abbrev pub Syncs : List (List ℕ) → Event → Type 0
Syncs words event = (event ≡ Sync) × (words ≡ codes "sync" ∷ [])

pub plain_cases : (words : List (List ℕ)) (event : Event) → IsPlainEvent words event → Syncs words event ⊎ Gets words event
plain_cases words (Write os sync) h = absurd h
plain_cases words (Get name bytes t None) h = inr (record { name = name; bytes = bytes; t = t; event_is = refl; get = h })
plain_cases words (Get name bytes t (Some snap)) h = absurd h
plain_cases words Sync h = inl (refl, h)
plain_cases words event h = absurd h

pub no_lone : (word : List ℕ) → (word ≡ codes "sync" → ⊥) → (event : Event) → IsPlainEvent (word ∷ []) event → ⊥
no_lone word other event h =
    elim (plain_cases (word ∷ []) event h) [
      | inl s ↦ other (word_at 0 _ _ s.1)
      | inr g ↦ let e = ap length g.get.words_are in omega arith
    ]

-- what four words ask for, if it is no write
pub record GetsAt (verb family key number : List ℕ) (event : Event) : Type 0 where
  pub verb_is : verb ≡ codes "get"
  pub target : Target
  pub event_is : event ≡ Get target.family target.key target.ts None
  pub is_target : IsTarget family key number target

pub four_gets : (verb family key number : List ℕ) (event : Event) → IsPlainEvent (verb ∷ family ∷ key ∷ number ∷ []) event → GetsAt verb family key number event
four_gets verb family key number event h =
    elim (plain_cases (verb ∷ family ∷ key ∷ number ∷ []) event h) [
      | inl s ↦ let e = ap length s.1 in absurd (omega arith)
      | inr g ↦ record {
        verb_is = word_at 0 _ _ g.get.words_are;
        target = record { family = g.name; key = g.bytes; ts = g.t };
        event_is = g.event_is;
        is_target = record {
          family_is = subst (λ (w : List ℕ). IsName w g.name) (sym (word_at 1 _ _ g.get.words_are)) g.get.family_is;
          key_is = subst (λ (w : List ℕ). IsByteWord KEY_LIMIT w g.bytes) (sym (word_at 2 _ _ g.get.words_are)) g.get.key_is;
          number_is = subst (λ (w : List ℕ). IsNumber w g.t.0) (sym (word_at 3 _ _ g.get.words_are)) g.get.number_is;
        };
      }
    ]

pub no_get_verb : (verb family key number : List ℕ) → (verb ≡ codes "get" → ⊥) → (event : Event) → IsPlainEvent (verb ∷ family ∷ key ∷ number ∷ []) event → ⊥
no_get_verb verb family key number other event h = other (four_gets verb family key number event h).verb_is

pub no_get : (verb family key number : List ℕ) → ((p : Target) → IsTarget family key number p → ⊥) → (event : Event) → IsPlainEvent (verb ∷ family ∷ key ∷ number ∷ []) event → ⊥
no_get verb family key number none event h = let g = four_gets verb family key number event h in none g.target g.is_target

pub got : (verb family key number : List ℕ) (p : Target) → verb ≡ codes "get" → IsTarget family key number p → IsPlainEvent (verb ∷ family ∷ key ∷ number ∷ []) (Get p.family p.key p.ts None)
got verb family key number p v is = record {
  family = family;
  key = key;
  number = number;
  words_are = ap (λ (w : List ℕ). w ∷ family ∷ key ∷ number ∷ []) v;
  family_is = is.family_is;
  key_is = is.key_is;
  number_is = is.number_is;
}

-- so many words ask for nothing but a write
pub no_plain : {W : Type 0} (now : W → List ℕ) (ws : List W) (event : Event) → (length ws ≡ 1 → ⊥) → (length ws ≡ 4 → ⊥) → IsPlainEvent (map now ws) event → ⊥
no_plain now ws event one four h =
    elim (plain_cases (map now ws) event h) [
      | inl s ↦ one (sym (length-now now ws) ∙ ap length s.1)
      | inr g ↦ four (sym (length-now now ws) ∙ ap length g.get.words_are)
    ]

-- ---- writes

pub record Writes (words : List (List ℕ)) (event : Event) : Type 0 where
  pub os : List NamedOp
  pub sync : Bool
  pub event_is : event ≡ Write os sync
  pub write : IsWrite words os sync

pub write_cases : (words : List (List ℕ)) (event : Event) → IsWriteEvent words event → Writes words event
write_cases words (Write os sync) h = record { os = os; sync = sync; event_is = refl; write = h }
write_cases words event h = absurd h

pub ops_of : (words : List (List ℕ)) (os : List NamedOp) (sync : Bool) → IsWrite words os sync → Ops IsOp words os sync
ops_of words os sync h = record { parts = h.parts; words_are = h.words_are; parts_are = h.parts_are; some = h.some }

pub write_of : (words : List (List ℕ)) (os : List NamedOp) (sync : Bool) → length os ≤ BATCH_LIMIT → Ops IsOp words os sync → IsWrite words os sync
write_of words os sync few h = record { parts = h.parts; words_are = h.words_are; parts_are = h.parts_are; some = h.some; few = few }

-- an event is a write or another
pub event_cases : (words : List (List ℕ)) (event : Event) → IsEvent words event → IsPlainEvent words event ⊎ IsWriteEvent words event
event_cases words (Write os sync) h = inr h
event_cases words event h = inl h

pub plain_is : (words : List (List ℕ)) (event : Event) → IsPlainEvent words event → IsEvent words event
plain_is words (Write os sync) h = absurd h
plain_is words event h = h

pub write_is : (words : List (List ℕ)) (event : Event) → IsWriteEvent words event → IsEvent words event
write_is words (Write os sync) h = h
write_is words event h = absurd h

-- the readers of both, one after the other
pub read_both : (words : List (List ℕ)) (found : Option Event) → ((event : Event) → IsPlainEvent words event → ⊥) → Reads (IsWriteEvent words) found → Reads (IsEvent words) found
read_both words (Some event) none h = write_is words event h
read_both words None none h = λ event p.
    elim (event_cases words event p) [
      | inl plain ↦ none event plain
      | inr write ↦ h event write
    ]

pub read_both_ok : {E : Type 0} (words : List (List ℕ)) (r : Result (Option Event) E) → ((event : Event) → IsPlainEvent words event → ⊥) → IfOk r (Reads (IsWriteEvent words)) → IfOk r (Reads (IsEvent words))
read_both_ok words (Ok found) none h = read_both words found none h
read_both_ok words (Err e) none h = tt

-- ---- one event at most

pub same_got : (f g k l : List ℕ) (s t : Ts) → f ≡ g → k ≡ l → s ≡ t → Get f k s None ≡ Get g l t None
same_got f g k l s t a b c = rw (a, b, c) refl

same_get : (words : List (List ℕ)) (f g k l : List ℕ) (s t : Ts) → IsGet words f k s.0 → IsGet words g l t.0 → Get f k s None ≡ Get g l t None
same_get words f g k l s t p q =
    let e = sym p.words_are ∙ q.words_are in
    same_got f g k l s t (same_name p.family q.family f g (word_at 1 _ _ e) p.family_is q.family_is)
    (same_bytes KEY_LIMIT p.key q.key k l (word_at 2 _ _ e) p.key_is q.key_is) (same_ts p.number q.number s t (word_at 3 _ _ e) p.number_is q.number_is)

same_plain : (words : List (List ℕ)) (a b : Event) → Syncs words a ⊎ Gets words a → Syncs words b ⊎ Gets words b → a ≡ b
same_plain words a b (inl p) (inl q) = p.0 ∙ sym q.0
same_plain words a b (inl p) (inr q) = let e = ap length (sym p.1 ∙ q.get.words_are) in absurd (omega arith)
same_plain words a b (inr p) (inl q) = let e = ap length (sym q.1 ∙ p.get.words_are) in absurd (omega arith)
same_plain words a b (inr p) (inr q) = p.event_is ∙ same_get words p.name q.name p.bytes q.bytes p.t q.t p.get q.get ∙ sym q.event_is

pub same_written : (xs ys : List NamedOp) (a b : Bool) → xs ≡ ys → a ≡ b → Write xs a ≡ Write ys b
same_written xs ys a b p q = rw (p, q) refl

same_write : (words : List (List ℕ)) (a b : Event) → Writes words a → Writes words b → a ≡ b
same_write words a b p q =
    let s = ops_once IsOp op_clear words p.os q.os p.sync q.sync (ops_of words p.os p.sync p.write) (ops_of words q.os q.sync q.write) in
    p.event_is ∙ same_written p.os q.os p.sync q.sync s.0 s.1 ∙ sym q.event_is

-- ---- a write begins with its verb

abbrev IsVerb : List ℕ → Type 0
IsVerb word = (word ≡ codes "put") ⊎ (word ≡ codes "del")

verb_at : (words rest : List (List ℕ)) (f k m : List ℕ) (x : Op) → IsOpAt words f k m x → IsVerb (get_or (words ++ rest) 0 [])
verb_at words rest f k m (ops.Put x) p = rw p.1 (inl refl)
verb_at words rest f k m ops.Del p = rw p (inr refl)

verb_first : (words : List (List ℕ)) (parts : List (List (List ℕ))) (os : List NamedOp) (sync : Bool) → words ≡ with_semicolons parts ++ sync_words sync → AllZip IsOp parts os → 0 < length os → IsVerb (get_or words 0 [])
verb_first words [] [] sync e each some = absurd (omega arith)
verb_first words [] (o ∷ os) sync e each some = absurd each
verb_first words (p ∷ ps) [] sync e each some = absurd each
verb_first words (p ∷ ps) (o ∷ os) sync e each some =
    let o_is = each.0 in
    let whole : words ≡ p ++ (listed ps ++ sync_words sync) = e ∙ append_assoc p (listed ps) (sync_words sync) in
    subst (λ (ws : List (List ℕ)). IsVerb (get_or ws 0 [])) (sym whole) (verb_at p (listed ps ++ sync_words sync) o_is.family o_is.key o_is.number o.op o_is.words_are)

write_verb : (words : List (List ℕ)) (os : List NamedOp) (sync : Bool) → IsWrite words os sync → IsVerb (get_or words 0 [])
write_verb words os sync h = verb_first words h.parts os sync h.words_are h.parts_are h.some

sync_isn't_verb : (word : List ℕ) → word ≡ codes "sync" → IsVerb word → ⊥
sync_isn't_verb word e (inl p) = let l = ap length (sym e ∙ p) in omega arith
sync_isn't_verb word e (inr p) = let l = ap length (sym e ∙ p) in omega arith

get_isn't_verb : (word : List ℕ) → word ≡ codes "get" → IsVerb word → ⊥
get_isn't_verb word e (inl p) = get_isn't_put word e p
get_isn't_verb word e (inr p) = get_isn't_del word e p

not_both : (words : List (List ℕ)) (a b : Event) → IsPlainEvent words a → IsWriteEvent words b → ⊥
not_both words a b p q =
    let w = write_cases words b q in
    let verb = write_verb words w.os w.sync w.write in
    elim (plain_cases words a p) [
      | inl s ↦ sync_isn't_verb (get_or words 0 []) (word_at 0 _ _ s.1) verb
      | inr g ↦ get_isn't_verb (get_or words 0 []) (word_at 0 _ _ g.get.words_are) verb
    ]

same_event : (words : List (List ℕ)) (a b : Event) → IsEvent words a → IsEvent words b → a ≡ b
same_event words a b p q =
    elim (event_cases words a p) [
      | inl pa ↦ elim (event_cases words b q) [
        | inl qb ↦ same_plain words a b (plain_cases words a pa) (plain_cases words b qb)
        | inr qb ↦ absurd (not_both words a b pa qb)
      ]
      | inr pa ↦ elim (event_cases words b q) [
        | inl qb ↦ absurd (not_both words b a qb pa)
        | inr qb ↦ same_write words a b (write_cases words a pa) (write_cases words b qb)
      ]
    ]

pub same_command : (words : List (List ℕ)) (a b : Command) → IsCommand words a → IsCommand words b → a ≡ b
same_command words (commands.Line a) (commands.Line b) p q = ap commands.Line (same_event words a b p q)

-- a command is one that is built
event_built : (words : List (List ℕ)) (event : Event) → IsEvent words event → IsBuilt event
event_built words (Write os sync) h = (h.some, h.few)
event_built words (Get name bytes t None) h = tt
event_built words (Get name bytes t (Some snap)) h = absurd h
event_built words Sync h = tt
event_built words event h = absurd h

pub is_built : (words : List (List ℕ)) (command : Command) → IsCommand words command → IsBuiltCommand command
is_built words (commands.Line event) h = event_built words event h

-- ---- the first words tell the event

few_words : (words : List (List ℕ)) (event : Event) → IsEvent words event → length words ≤ 384
few_words words (Write os sync) h = omega (arith, ops_short IsOp op_clear words os sync (ops_of words os sync h), h.few)
few_words words (Get name bytes t None) h = omega (arith, ap length h.words_are)
few_words words (Get name bytes t (Some snap)) h = absurd h
few_words words Sync h = omega (arith, ap length h)
few_words words event h = absurd h

first_words_at : (words front : List (List ℕ)) (found : Option Event) → (front ≡ words) ⊎ ((length front ≡ 385) × (385 < length words)) → Reads (IsEvent front) found → Reads (IsEvent words) found
first_words_at words front found (inl e) h = subst (λ (ws : List (List ℕ)). Reads (IsEvent ws) found) e h
first_words_at words front None (inr long) h = λ event p. let few = few_words words event p in omega (arith, long.1)
first_words_at words front (Some event) (inr long) h = let few = few_words front event h in absurd (omega (arith, long.0))

pub first_words : {E : Type 0} (words : List (List ℕ)) (r : Result (Option Event) E) → IfOk r (Reads (IsEvent (take 385 words))) → IfOk r (Reads (IsEvent words))
first_words words (Ok found) h =
    elim (cases_lt 385 (length words)) [
      | inl long ↦ first_words_at words (take 385 words) found (inr (length-take-le 385 words (omega arith), long)) h
      | inr short ↦ first_words_at words (take 385 words) found (inl (take_all 385 words (omega arith))) h
    ]
first_words words (Err e) h = tt
