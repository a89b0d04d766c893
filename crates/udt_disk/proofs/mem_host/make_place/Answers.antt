use Rattle.std.proofs.Common.{◌≡◌, ◌∙◌, ap, refl, List, None}
use Rattle.std.specs.List.{position}
use Rattle.udt_disk.specs.Places.{has_path, stands_in}
use Rattle.udt_disk.specs.declared.mem_host.Place.{Place}
use Rattle.udt_disk.proofs.Places.{pushed_place, pushed_stands}
use Rattle.udt_disk.proofs.mem_host.make_place.Goals as goal

pub returns-in_ok-push-in-None-clause-place : goal.returns-in_ok-push-in-None-clause-place
returns-in_ok-push-in-None-clause-place c =
    let at : None ≡ position (has_path c.args.path.now) c.args.places.now.items = c.in-None.ensures ∙ ap (position (has_path c.args.path.now)) c.deref.ensures.value in
    rw c.in_ok-push-in-None.ensures.items (pushed_place c.args.path.now c.args.places.now.items _ at c.in_ok-path-in-None.ensures refl)

pub returns-in_ok-push-in-None-clause-same : goal.returns-in_ok-push-in-None-clause-same
returns-in_ok-push-in-None-clause-same c q =
    let at : None ≡ position (has_path c.args.path.now) c.args.places.now.items = c.in-None.ensures ∙ ap (position (has_path c.args.path.now)) c.deref.ensures.value in
    ap (λ (places : List Place). stands_in places q) c.in_ok-push-in-None.ensures.items ∙ pushed_stands c.args.path.now c.args.places.now.items _ at c.in_ok-path-in-None.ensures refl q
