use Rattle.std.proofs.Common.{◌≡◌, ◌∙◌, ap, Some}
use Rattle.std.specs.List.{position}
use Rattle.udt_disk.specs.Places.{has_path}
use Rattle.udt_disk.specs.declared.mem_host.Occupant.TheVariants.{Folder}
use Rattle.udt_disk.proofs.Places.{exchanged, exchanged_others, exchanged_places}
use Rattle.udt_disk.proofs.mem_host.put_back.Goals as goal

pub returns-in-Some-clause-put : goal.returns-in-Some-clause-put
returns-in-Some-clause-put c _ =
    let at : Some c.in-Some.i ≡ position (has_path c.args.path.now) c.args.places.now.items = c.in-Some.ensures ∙ ap (position (has_path c.args.path.now)) c.deref.ensures.value in
    exchanged c.args.path.now c.args.places.now.items _ c.in-Some.i (Folder c.args.folder) at c.exchange.ensures.new

pub returns-in-Some-clause-others : goal.returns-in-Some-clause-others
returns-in-Some-clause-others c =
    let at : Some c.in-Some.i ≡ position (has_path c.args.path.now) c.args.places.now.items = c.in-Some.ensures ∙ ap (position (has_path c.args.path.now)) c.deref.ensures.value in
    exchanged_others c.args.path.now c.args.places.now.items _ c.in-Some.i (Folder c.args.folder) at c.exchange.ensures.new

pub returns-in-Some-clause-places : goal.returns-in-Some-clause-places
returns-in-Some-clause-places c =
    let at : Some c.in-Some.i ≡ position (has_path c.args.path.now) c.args.places.now.items = c.in-Some.ensures ∙ ap (position (has_path c.args.path.now)) c.deref.ensures.value in
    exchanged_places c.args.path.now c.args.places.now.items _ c.in-Some.i (Folder c.args.folder) at c.exchange.ensures.new
