-- When an event isn't refused.
use Rattle.std.proofs.Common.{◌≡◌, ℕ, ◌+◌, ◌<◌, ◌≤◌, Bool, true, false, ◌&&◌, List, ◌++◌, length, Option, Some, None, refl, sym, ap, ◌∙◌, arith}
use Rattle.std.specs.Prelude.{is_none, is_some, nat_lt, option_map, if◌then◌else◌}
use Rattle.std.proofs.lemmas.Bool.Decides.{nat_tests}
use Rattle.ts_key.specs.declared.limits.TheConstants.{SEQUENCE_LIMIT}
use Rattle.ts_key.specs.declared.numbers.Family.{Family}
use Rattle.ts_key.specs.declared.numbers.Ts.{Ts}
use Rattle.ts_key.specs.declared.batch.WriteOp.{WriteOp}
use Rattle.ts_key.specs.declared.version.Version.{Version}
use Rattle.udt_model.specs.declared.reply.Reply.{Reply}
use Rattle.udt_model.specs.declared.reply.Reply.TheVariants.{Full, Halted}
use Rattle.udt_model.specs.State.{State, live_numbers}
use Rattle.udt_model.specs.Versions.{made}
use Rattle.udt_model.specs.Refusals.{full, halt, refused, unknown, ◌or_else◌}
use Rattle.floor_core.specs.declared.event.CoreEvent.{CoreEvent}
use Rattle.floor_core.specs.declared.event.CoreEvent.TheVariants.{Write, Get, PinnedGet}
use Rattle.floor_core.specs.Cores.{CoreState, PinnedView, with_live_numbers}
use Rattle.floor_core.specs.declared.event.CoreReply.TheVariants as replies
use Rattle.floor_core.specs.Machine.{changed_by, effect, is_accepted, pinned_too, told}
use Rattle.floor_core.specs.Steps.{admitted_versions, judged}

none_or : (a b : Option Reply) → is_none (a or_else b) ≡ (is_none a && is_none b)
none_or None b = refl
none_or (Some x) b = refl

-- the test of a write, one by one
taken_by : (c : CoreState) (ops : List WriteOp) → is_accepted c (Write ops) ≡ (((is_none (unknown c.store ops) && is_none (halt c.store)) && is_none (refused c.store c.store.versions c.store.last.0 1 ops)) && is_none (full c.store ops))
taken_by c ops =
    let m = c.store in
    let u = unknown m ops in
    let h = halt m in
    let r = refused m m.versions m.last.0 1 ops in
    none_or ((u or_else h) or_else r) (full m ops) ∙ ap (λ z. z && is_none (full m ops)) (none_or (u or_else h) r ∙ ap (λ z. z && is_none r) (none_or u h))

some_none : {X : Type 0} (o : Option X) → true ≡ is_some o → is_none o ≡ false
some_none None e = absurd (cc)
some_none (Some x) e = refl

none_none : {X : Type 0} (o : Option X) → false ≡ is_some o → is_none o ≡ true
none_none None e = refl
none_none (Some x) e = absurd (cc)

halt_none : (o : Option ℕ) → is_none (option_map Halted o) ≡ is_none o
halt_none None = refl
halt_none (Some n) = refl

all_three : (b x y z : Bool) → b ≡ false → (((b && x) && y) && z) ≡ false
all_three true x y z e = absurd (cc)
all_three false x y z e = refl

second : (b x y z : Bool) → b ≡ false → (((x && b) && y) && z) ≡ false
second true x y z e = absurd (cc)
second false true y z e = refl
second false false y z e = refl

last_one : (b : Bool) (x : Bool) → b ≡ false → (x && b) ≡ false
last_one true x e = absurd (cc)
last_one false true e = refl
last_one false false e = refl

not_judged : (c : CoreState) (ops : List WriteOp) → is_accepted c (Write ops) ≡ false → None ≡ judged c ops
not_judged c ops e = sym (ap (λ b. if b then Some (c.store.versions ++ made c.store.last.0 ops) else None) e)

pub judged_unknown : (c : CoreState) (ops : List WriteOp) → true ≡ is_some (unknown c.store ops) → None ≡ judged c ops
judged_unknown c ops e = not_judged c ops (taken_by c ops ∙ all_three _ _ _ _ (some_none (unknown c.store ops) e))

pub judged_halted : (c : CoreState) (ops : List WriteOp) → true ≡ is_some c.store.halted → None ≡ judged c ops
judged_halted c ops e = not_judged c ops (taken_by c ops ∙ second _ _ _ _ (halt_none c.store.halted ∙ some_none c.store.halted e))

full_none : (m : State) (ops : List WriteOp) (b : Bool) → nat_lt SEQUENCE_LIMIT (m.last.0 + length ops) ≡ b → is_none (full m ops) ≡ (if b then false else true)
full_none m ops true e = ap (λ b. is_none (if b then Some (Full m.last) else None)) e
full_none m ops false e = ap (λ b. is_none (if b then Some (Full m.last) else None)) e

is_above : (a b : ℕ) → a < b → nat_lt a b ≡ true
is_above a b h = grind (arith, nat_tests)

isnt_above : (a b : ℕ) → b ≤ a → nat_lt a b ≡ false
isnt_above a b h = grind (arith, nat_tests)

pub judged_full : (c : CoreState) (ops : List WriteOp) → SEQUENCE_LIMIT < c.store.last.0 + length ops → None ≡ judged c ops
judged_full c ops lt = not_judged c ops (taken_by c ops ∙ last_one _ _ (full_none c.store ops true (is_above SEQUENCE_LIMIT (c.store.last.0 + length ops) lt)))

rest_only : (a b x y : Bool) → a ≡ true → b ≡ true → y ≡ true → (((a && b) && x) && y) ≡ x
rest_only true true true true p q r = refl
rest_only true true false true p q r = refl
rest_only true true x false p q r = absurd (cc)
rest_only true false x y p q r = absurd (cc)
rest_only false b x y p q r = absurd (cc)

pub judged_admitted : (c : CoreState) (ops : List WriteOp) → false ≡ is_some (unknown c.store ops) → false ≡ is_some c.store.halted → c.store.last.0 + length ops ≤ SEQUENCE_LIMIT → admitted_versions c.store ops ≡ judged c ops
judged_admitted c ops u h le =
    let m = c.store in
    sym (ap (λ b. if b then Some (m.versions ++ made m.last.0 ops) else None) (taken_by c ops
    ∙ rest_only _ _ _ _ (none_none (unknown m ops) u) (halt_none m.halted ∙ none_none m.halted h) (full_none m ops false (isnt_above SEQUENCE_LIMIT (m.last.0 + length ops) le))))

-- ---- a write, by what it is judged

judged_none : (c : CoreState) (ops : List WriteOp) → None ≡ judged c ops → is_accepted c (Write ops) ≡ false
judged_none c ops e = on (is_accepted c (Write ops)) e
  where
    on : (b : Bool) → None ≡ (if b then Some (c.store.versions ++ made c.store.last.0 ops) else None) → b ≡ false
    on true e = absurd (cc)
    on false e = refl

judged_some : (c : CoreState) (ops : List WriteOp) (w : List Version) → Some w ≡ judged c ops → (is_accepted c (Write ops) ≡ true) × (w ≡ c.store.versions ++ made c.store.last.0 ops)
judged_some c ops w e = on (is_accepted c (Write ops)) e
  where
    on : (b : Bool) → Some w ≡ (if b then Some (c.store.versions ++ made c.store.last.0 ops) else None) → (b ≡ true) × (w ≡ c.store.versions ++ made c.store.last.0 ops)
    on true e = (refl, cc)
    on false e = absurd (cc)

pub write_refused : (c : CoreState) (ops : List WriteOp) → None ≡ judged c ops → replies.Refused ≡ told c (Write ops)
write_refused c ops e = sym (ap (λ b. if b then replies.Written (record { 0 = c.store.last.0 + length ops }) else replies.Refused) (judged_none c ops e))

pub write_stays : (c : CoreState) (ops : List WriteOp) → None ≡ judged c ops → c ≡ changed_by c (Write ops)
write_stays c ops e = sym (ap (λ b. record c { store = if b then with_live_numbers (effect c.store (c.events + 1) (Write ops)) else c.store }) (judged_none c ops e))

pub write_told : (c : CoreState) (ops : List WriteOp) (w : List Version) → Some w ≡ judged c ops → replies.Written (record { 0 = c.store.last.0 + length ops }) ≡ told c (Write ops)
write_told c ops w e = sym (ap (λ b. if b then replies.Written (record { 0 = c.store.last.0 + length ops }) else replies.Refused) (judged_some c ops w e).0)

pub write_turns : (c : CoreState) (ops : List WriteOp) (w : List Version) → Some w ≡ judged c ops → record c { store = with_live_numbers (record c.store { versions = w; last = record { 0 = c.store.last.0 + length ops } }) } ≡ changed_by c (Write ops)
write_turns c ops w e =
    let j = judged_some c ops w e in
    ap (λ z. record c { store = with_live_numbers (record c.store { versions = z; last = record { 0 = c.store.last.0 + length ops } }) }) j.1
    ∙ sym (ap (λ b. record c { store = if b then with_live_numbers (effect c.store (c.events + 1) (Write ops)) else c.store }) j.0)

-- ---- reads

if_same : {X : Type 0} (b : Bool) (x y : X) → x ≡ y → (if b then x else y) ≡ y
if_same true x y e = e
if_same false x y e = refl

-- what neither changes the store nor pins leaves the core as it was
pub event_leaves : (c : CoreState) (e : CoreEvent) → with_live_numbers (effect c.store (c.events + 1) e) ≡ c.store → pinned_too c e ≡ c.pins → c ≡ changed_by c e
event_leaves c e same pins =
    let of_store : State → CoreState = λ m. record { store = m; pins = pinned_too c e; events = c.events } in
    let of_views : List PinnedView → CoreState = λ vs. record { store = c.store; pins = vs; events = c.events } in
    sym (ap of_store (if_same (is_accepted c e) (with_live_numbers (effect c.store (c.events + 1) e)) c.store same) ∙ ap of_views pins)

live_already : (m : State) → m.used ≡ live_numbers m → with_live_numbers m ≡ m
live_already m e = ap (λ (z : List ℕ). record m { used = z }) (sym e)

pub get_leaves : (c : CoreState) (family : Family) (key : List ℕ) (t : Ts) (snap : Option ℕ) → c.store.used ≡ live_numbers c.store → c ≡ changed_by c (Get family key t snap)
get_leaves c family key t snap e = event_leaves c (Get family key t snap) (live_already c.store e) refl

pub pinned_get_leaves : (c : CoreState) (pin : ℕ) (family : Family) (key : List ℕ) (t : Ts) (snap : Option ℕ) → c.store.used ≡ live_numbers c.store → c ≡ changed_by c (PinnedGet pin family key t snap)
pinned_get_leaves c pin family key t snap e = event_leaves c (PinnedGet pin family key t snap) (live_already c.store e) refl
