use Rattle.std.proofs.Common.{not, sym, subst, ◌≤◌, ◌∙◌, length}
use Rattle.udt_model.specs.Orders.{is_version_before}
use Rattle.collection_laws.proofs.Collects.{place_some, place_none, place_most}
use Rattle.collection_laws.proofs.collect.place_of.Goals as goal

pub returns-in-Some-clause-place : goal.returns-in-Some-clause-place
returns-in-Some-clause-place c = place_some (λ o. not (is_version_before o c.args.v.now)) c.args.versions.now c.in-Some.place (sym c.first_behind.ensures ∙ c.in-Some.is)

pub returns-in-Some-clause-within : goal.returns-in-Some-clause-within
returns-in-Some-clause-within c =
    subst (λ n. n ≤ length c.args.versions.now) (sym (place_some (λ o. not (is_version_before o c.args.v.now)) c.args.versions.now c.in-Some.place (sym c.first_behind.ensures ∙ c.in-Some.is)))
    (place_most (λ o. not (is_version_before o c.args.v.now)) c.args.versions.now)

pub returns-in-None-clause-place : goal.returns-in-None-clause-place
returns-in-None-clause-place c = place_none (λ o. not (is_version_before o c.args.v.now)) c.args.versions.now (sym c.first_behind.ensures ∙ c.in-None.is)
