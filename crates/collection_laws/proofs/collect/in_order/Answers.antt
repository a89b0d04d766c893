use Rattle.std.proofs.Common.{◌≡◌, not, [], ◌∷◌, ◌++◌, List, length, refl, sym, ap, ◌∙◌, arith}
use Rattle.std.specs.List.{insert, position_or_len}
use Rattle.std.proofs.lemmas.List.{append-nil}
use Rattle.ts_key.specs.declared.version.Version.{Version}
use Rattle.udt_model.specs.Orders.{is_version_before, stored, with_version}
use Rattle.collection_laws.proofs.Collects.{insert_is, one_back, none_back}
use Rattle.collection_laws.proofs.collect.in_order.Goals as goal

pub loop-v-init : goal.loop-v-init
loop-v-init c = ([], append-nil c.args.versions.items, c.new-ordered.ensures.items)

pub loop-v-preserved : goal.loop-v-preserved
loop-v-preserved c =
    let inv = c.loop-v.invariant in
    let v = c.in-Some.v in (
      v ∷ inv.0,
      one_back c.loop-v.rest.items c.pop.new.self.items inv.0 c.args.versions.items c.pop.result v c.in-Some.is c.pop.ensures.items inv.1,
      c.in_ok-insert.ensures.items
          ∙ ap (λ n. insert c.loop-v.ordered.items n v) (c.place_of-place.ensures.place ∙ ap (λ (l : List Version). position_or_len (λ o. not (is_version_before o v)) l) c.deref.ensures.value)
          ∙ insert_is v c.loop-v.ordered.items ∙ ap (with_version v) inv.2,
    )

pub returns : goal.returns
returns c =
    let inv = c.loop-v.invariant in
    inv.2 ∙ ap stored (none_back c.loop-v.rest.items inv.0 c.args.versions.items c.loop-v.rest.len c.pop.result (sym c.loop-v.rest.ok.0) c.in_default.is c.pop.ensures.variant inv.1)
