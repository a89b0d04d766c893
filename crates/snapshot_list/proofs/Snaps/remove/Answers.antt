use Rattle.std.proofs.Common.{◌≡◌, sym, ap, ◌∙◌, arith, Some, None}
use Rattle.std.specs.Prelude.{position, ◌==◌}
use Rattle.std.specs.List.{remove}
use Rattle.std.proofs.lemmas.List.Edits.{length-remove}
use Rattle.snapshot_list.specs.Registered.{IsList, paired, without_id}
use Rattle.snapshot_list.proofs.Snapshots.{ascending_remove, distinct_remove, place_within, removed_is, none_is}
use Rattle.snapshot_list.proofs.Snaps.remove.Goals as goal

pub invariant_of-self : goal.invariant_of-self
invariant_of-self c =
    let x = c.self.inside in
    let inv = c.self.invariant in
    let i = c.in-Some.place in
    let found : position (λ j. j == c.args.id) x.ids.items ≡ Some i = sym (c.place_of.ensures ∙ ap (λ l. position (λ j. j == c.args.id) l) c.deref.ensures.value) ∙ c.in-Some.is in
    let l = (place_within c.args.id x.ids.items i found).1 in
    let e = inv.0.paired in
    let m = length-remove x.ids.items i l in
    let n = length-remove x.seqs.items i (omega (arith, e, l)) in
    let w = inv.0.within in
    let list : IsList (remove x.ids.items i) (remove x.seqs.items i) = record {
      paired = omega (arith, m, n, e);
      within = omega (arith, n, w);
      ascending = ascending_remove x.seqs.items i (omega (arith, e, l)) inv.0.ascending;
      distinct = distinct_remove x.ids.items i inv.0.distinct;
    } in
    let a = c.remove.ensures.capacity in
    let b = c.remove-in-Some.ensures.capacity in
    let ia = inv.1 in
    let ib = inv.2 in
    (rw (c.remove.ensures.items, c.remove-in-Some.ensures.items) list, omega (arith, a, ia), omega (arith, b, ib))

pub returns-in-Some : goal.returns-in-Some
returns-in-Some c =
    let x = c.self.inside in
    let inv = c.self.invariant in
    let i = c.in-Some.place in
    let found : position (λ j. j == c.args.id) x.ids.items ≡ Some i = sym (c.place_of.ensures ∙ ap (λ l. position (λ j. j == c.args.id) l) c.deref.ensures.value) ∙ c.in-Some.is in
    (λ k. paired (c.remove.ensures.items k) (c.remove-in-Some.ensures.items k))
    ∙ removed_is c.args.id x.ids.items x.seqs.items i inv.0.paired inv.0.distinct found
    ∙ ap (λ l. without_id l c.args.id) c.self.view_is

pub returns-in_default : goal.returns-in_default
returns-in_default c =
    let x = c.self.inside in
    let none : position (λ j. j == c.args.id) x.ids.items ≡ None = sym (c.place_of.ensures ∙ ap (λ l. position (λ j. j == c.args.id) l) c.deref.ensures.value) ∙ c.in_default.is in
    sym c.self.view_is ∙ sym (none_is c.args.id x.ids.items x.seqs.items none) ∙ ap (λ l. without_id l c.args.id) c.self.view_is
