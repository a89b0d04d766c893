use Rattle.std.proofs.Common.{rules, ap, ◌∙◌}
use Rattle.std.proofs.lemmas.List.Sorted.{IsNonDecreasingBy-from_sort_by_key}
use Rattle.std.specs.List.Sorted.{IsPermutation}
use Rattle.recovery.specs.Places.{number_at, places_from}
use Rattle.recovery.proofs.Placed.{live_places}
use Rattle.recovery.proofs.live.live_tables.Goals as goal

pub returns : goal.returns
returns c =
    let listed = c.in_ok-places.places.items in
    let places = c.sort_unstable_by_key.new.self.items in
    let moved : IsPermutation listed places = search rules in
    live_places c.args.fold.now c.requires.places listed places (c.in_ok-places.ensures ∙ ap (places_from 0) c.as_slice.ensures) moved (IsNonDecreasingBy-from_sort_by_key number_at _ c.sort_unstable_by_key.ensures.sorted (λ a r q k. search rules))
