-- An event of a store, and the act by the families' numbers that it asks for.
use Rattle.std.proofs.Common.{◌≡◌, ℕ, Bool, List, map, Option, Some, None, refl, sym, ap, ◌∙◌, subst, inl, inr}
use Rattle.std.specs.Prelude.{IsTrue}
use Rattle.std.proofs.lemmas.Bool.{cases_Bool}
use Rattle.ts_key.specs.declared.batch.WriteOp.{WriteOp}
use Rattle.ts_key.specs.declared.numbers.Family.{Family}
use Rattle.ts_key.specs.declared.numbers.Ts.{Ts}
use Rattle.udt_model.specs.declared.event.Event.{Event}
use Rattle.udt_model.specs.declared.event.Event.TheVariants.{Floor, FlushEnd, FlushStart, Get, Raise, Sync, Write}
use Rattle.udt_model.specs.declared.event.NamedOp.{NamedOp}
use Rattle.udt_model.specs.declared.reply.Reply.{Reply}
use Rattle.udt_model.specs.declared.reply.Reply.TheVariants.{NoMemory}
use Rattle.udt_model.specs.Acts.{Act}
use Rattle.udt_model.specs.Acts.Act.{ask_floor, flush_end, flush_start, get, raise, sync_all, write}
use Rattle.udt_model.specs.Lines.{IsReply, IsReplyOr, is_numbered, is_read, steps_with, takes_memory}
use Rattle.udt_model.specs.Names.{no_names, seen_by}
use Rattle.udt_model.specs.Crashes.{Course, course_after, course_after_or}
use Rattle.udt_model.specs.Steps.{IsReplyTo, after, is_running}
use Rattle.udt_model.specs.State.{State, family_of, heads_of}
use Rattle.solo_store.specs.Acting.{act_in, course_behind_event, state_behind_event}
use Rattle.solo_store.specs.Names.{family_named, names_in, op_named}
use Rattle.solo_store.proofs.Behind.{after_still, course_still, is_still}
use Rattle.solo_store.proofs.Naming.{family_same, ops_same}

-- in a state whose families have these names the event asks for this act, is judged there, and has a number
pub record Asks (names : List (List ℕ)) (event : Event) (act : Act) : Type 0 where
  pub bound : (m : State) → names ≡ names_in m → act_in m event ≡ Some act
  pub seen : (m : State) → seen_by m no_names event ≡ m
  pub numbered : IsTrue (is_numbered event)

module _ (names : List (List ℕ)) where
  named_same : (m : State) (name : List ℕ) → names ≡ names_in m → (act : Family → Act) → Some (act (family_of (heads_of m) name)) ≡ Some (act (family_named names name))
  named_same m name e act = ap (λ (i : Family). Some (act i)) (family_same m names name e)

  pub asks_write : (ops : List NamedOp) (sync : Bool) → Asks names (Write ops sync) (write (map (op_named names) ops) sync)
  asks_write ops sync = record { bound = λ m e. ap (λ (os : List WriteOp). Some (write os sync)) (ops_same m names ops e); seen = λ m. refl; numbered = refl }

  pub asks_get : (name key : List ℕ) (t : Ts) → Asks names (Get name key t None) (get (family_named names name) key t None)
  asks_get name key t = record { bound = λ m e. named_same m name e (λ i. get i key t None); seen = λ m. refl; numbered = refl }

  pub asks_raise : (name : List ℕ) (floor : Ts) → Asks names (Raise name floor) (raise (family_named names name) floor)
  asks_raise name floor = record { bound = λ m e. named_same m name e (λ i. raise i floor); seen = λ m. refl; numbered = refl }

  pub asks_floor : (name : List ℕ) → Asks names (Floor name) (ask_floor (family_named names name))
  asks_floor name = record { bound = λ m e. named_same m name e ask_floor; seen = λ m. refl; numbered = refl }

  pub asks_sync : Asks names Sync sync_all
  asks_sync = record { bound = λ m e. refl; seen = λ m. refl; numbered = refl }

  pub asks_flush_start : (name : List ℕ) → Asks names (FlushStart name) (flush_start (family_named names name))
  asks_flush_start name = record { bound = λ m e. named_same m name e flush_start; seen = λ m. refl; numbered = refl }

  pub asks_flush_end : (name : List ℕ) (start : ℕ) → Asks names (FlushEnd name start) (flush_end (family_named names name) start)
  asks_flush_end name start = record { bound = λ m e. named_same m name e (λ i. flush_end i start); seen = λ m. refl; numbered = refl }

  module _ (event : Event) (act : Act) (asks : Asks names event act) (m : State) (e : names ≡ names_in m) where
    -- the model's reply is legal, and so is want of memory where the event takes some
    pub legal_told : (reply : Reply) → IsReplyTo m act reply → IsReply 0 m no_names event reply
    legal_told reply told =
        subst (λ (o : Option Act). IsReplyOr 0 (seen_by m no_names event) event o reply) (sym (asks.bound m e))
        (subst (λ (n : State). IsReplyOr 0 n event (Some act) reply) (sym (asks.seen m)) (inl told))

    pub legal_want : IsTrue (is_running m act) → IsTrue (takes_memory event) → IsReply 0 m no_names event NoMemory
    legal_want runs takes =
        subst (λ (o : Option Act). IsReplyOr 0 (seen_by m no_names event) event o NoMemory) (sym (asks.bound m e))
        (subst (λ (n : State). IsReplyOr 0 n event (Some act) NoMemory) (sym (asks.seen m)) (inr (runs, inl (refl, takes))))

    -- what it leaves
    pub state_told : (number : ℕ) (reply : Reply) → IsTrue (steps_with (is_read event) reply) → state_behind_event m number event reply ≡ after m number act reply
    state_told number reply steps = let numbered = asks.numbered in let bound = asks.bound m e in rw (numbered, steps, bound) refl

    pub course_told : (number : ℕ) (c : Course) (reply : Reply) → course_behind_event m number c event reply ≡ course_after m number c act reply
    course_told number c reply = ap (λ (o : Option Act). course_after_or m number c o reply) (asks.bound m e)

    pub state_want : (number : ℕ) → IsTrue (is_still act NoMemory) → state_behind_event m number event NoMemory ≡ m
    state_want number still = elim (cases_Bool (is_read event)) [
      | inl y ↦ let numbered = asks.numbered in let bound = asks.bound m e in rw (numbered, y, bound) (after_still m number act NoMemory still)
      | inr y ↦ let numbered = asks.numbered in rw (numbered, y) refl
    ]

    pub course_wanted : (number : ℕ) (c : Course) → IsTrue (is_still act NoMemory) → course_behind_event m number c event NoMemory ≡ c
    course_wanted number c still = course_told number c NoMemory ∙ course_still m number c act NoMemory still
