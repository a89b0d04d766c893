-- What a halted store answers to a write, and the model's reply.
use Rattle.std.proofs.Common.{◌≡◌, ℕ, Bool, true, false, List, [], ◌∷◌, length, map, refl, ap, ◌∙◌, arith, inl, inr, Some, None}
use Rattle.std.specs.Prelude.{if◌then◌else◌}
use Rattle.std.proofs.lemmas.Bool.{cases_Bool}
use Rattle.std.proofs.lemmas.List.{length-map}
use Rattle.std.proofs.lemmas.Option.{slice_get_cases}
use Rattle.udt_model.specs.declared.event.NamedOp.{NamedOp}
use Rattle.udt_model.specs.declared.line.FamilyHead.{FamilyHead}
use Rattle.udt_model.specs.declared.reply.Reply.{Reply}
use Rattle.udt_model.specs.declared.reply.Reply.TheVariants as replies
use Rattle.udt_model.specs.Acts.Act.{write}
use Rattle.udt_model.specs.Refusals.{unknown}
use Rattle.udt_model.specs.State.{State, heads_of}
use Rattle.udt_model.specs.State.{FamilyState as ModelFamily}
use Rattle.udt_model.specs.Steps.{IsReplyTo, admitted}
use Rattle.solo_store.specs.Names.{is_any_unnamed, is_unnamed, names_in, op_named, place_by_name}

-- as many names as families
pub count_names : (m : State) (names : List (List ℕ)) → names ≡ names_in m → length names ≡ length m.families
count_names m names e = ap length e ∙ (length-map (heads_of m) (λ (h : FamilyHead). h.name) ∙ length-map m.families (λ (f : ModelFamily). f.head))

-- an operation names no family where its name isn't there
unnamed_unknown : (m : State) (names : List (List ℕ)) (os : List NamedOp) → length names ≡ length m.families → unknown m (map (op_named names) os) ≡ (if is_any_unnamed names os then Some replies.Unknown else None)
unnamed_unknown m names [] e = refl
unnamed_unknown m names (o ∷ os) e =
    let rest = unnamed_unknown m names os e in
    elim (slice_get_cases m.families (place_by_name 0 names o.family)).1 [
      | inl some ↦
          let there = some.2 in let within = some.1 in
          let named : is_unnamed names o.family ≡ false = grind (arith, e, within) in
          rw (there, named) rest
      | inr past ↦
          let none = past.1 in let beyond = past.0 in
          let unnamed : is_unnamed names o.family ≡ true = grind (arith, e, beyond) in
          rw (none, unnamed) refl
    ]

-- a halted store refuses the write as the model does
pub write_halted : (m : State) (names : List (List ℕ)) (os : List NamedOp) (sync : Bool) (since : ℕ) (reply : Reply) → names ≡ names_in m → m.halted ≡ Some since
    → reply ≡ (if is_any_unnamed names os then replies.Unknown else replies.Halted since) → IsReplyTo m (write (map (op_named names) os) sync) reply
write_halted m names os sync since reply e halted is =
    let ops = map (op_named names) os in
    let told : reply ≡ admitted m ops = elim (cases_Bool (is_any_unnamed names os)) [
      | inl y ↦ let u : unknown m ops ≡ Some replies.Unknown = unnamed_unknown m names os (count_names m names e) ∙ rw y refl in rw (is, y, u) refl
      | inr y ↦ let u : unknown m ops ≡ None = unnamed_unknown m names os (count_names m names e) ∙ rw y refl in rw (is, y, u, halted) refl
    ] in
    record { running = refl; is = inl told }
