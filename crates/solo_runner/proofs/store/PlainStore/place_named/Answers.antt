use Rattle.std.proofs.Common.{List, ap, sym, ◌∙◌}
use Rattle.udt_model.specs.declared.line.FamilyHead.{FamilyHead}
use Rattle.udt_model.specs.State.{State, place_from}
use Rattle.udt_model.proofs.Laws.{heads_unflushed}
use Rattle.solo_runner.specs.Named.{place_of}
use Rattle.solo_runner.proofs.store.PlainStore.place_named.Goals as goal

pub returns : goal.returns
returns c =
    let name = c.args.name.now in
    let heads = c.self.inside.heads.items in
    c.plain_place.ensures
    ∙ ap (λ (hs : List FamilyHead). place_from 0 hs name) (c.deref.ensures.value ∙ sym (heads_unflushed heads))
    ∙ ap (λ (m : State). place_of m name) c.self.view_is
