use Rattle.std.proofs.Common.{not, sym, subst, ◌≤◌, ◌∙◌, length}
use Rattle.std.specs.Prelude.{nat_lt}
use Rattle.floor_core.proofs.Flushes.{place_found, place_missing, place_most}
use Rattle.floor_core.proofs.flushing.place_from.Goals as goal

pub returns-in-Some-clause-place : goal.returns-in-Some-clause-place
returns-in-Some-clause-place c = place_found (λ o. not (nat_lt o.number c.args.table.now.number)) c.args.tables.now c.in-Some.place (sym c.first_from.ensures ∙ c.in-Some.is)

pub returns-in-Some-clause-within : goal.returns-in-Some-clause-within
returns-in-Some-clause-within c =
    subst (λ n. n ≤ length c.args.tables.now) (sym (place_found (λ o. not (nat_lt o.number c.args.table.now.number)) c.args.tables.now c.in-Some.place (sym c.first_from.ensures ∙ c.in-Some.is)))
    (place_most (λ o. not (nat_lt o.number c.args.table.now.number)) c.args.tables.now)

pub returns-in-None-clause-place : goal.returns-in-None-clause-place
returns-in-None-clause-place c = place_missing (λ o. not (nat_lt o.number c.args.table.now.number)) c.args.tables.now (sym c.first_from.ensures ∙ c.in-None.is)
