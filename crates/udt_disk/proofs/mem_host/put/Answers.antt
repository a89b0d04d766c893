use Rattle.std.proofs.Common.{◌≡◌, ◌∙◌, ap, refl, Some, None}
use Rattle.std.specs.List.{position}
use Rattle.udt_disk.specs.Places.{has_path, stands_in}
use Rattle.udt_disk.proofs.Places.{stands_in-push, stands_in-push_other, exchanged, exchanged_others}
use Rattle.udt_disk.proofs.mem_host.put.Goals as goal

pub returns-in-Some-clause-put : goal.returns-in-Some-clause-put
returns-in-Some-clause-put c =
    let at : Some c.in-Some.i ≡ position (has_path c.args.path) c.args.places.now.items = c.in-Some.ensures ∙ ap (position (has_path c.args.path)) c.deref.ensures.value in
    exchanged c.args.path c.args.places.now.items _ c.in-Some.i c.args.stands at c.exchange.ensures.new

pub returns-in-Some-clause-others : goal.returns-in-Some-clause-others
returns-in-Some-clause-others c =
    let at : Some c.in-Some.i ≡ position (has_path c.args.path) c.args.places.now.items = c.in-Some.ensures ∙ ap (position (has_path c.args.path)) c.deref.ensures.value in
    exchanged_others c.args.path c.args.places.now.items _ c.in-Some.i c.args.stands at c.exchange.ensures.new

pub returns-in_ok-push-in-None-clause-put : goal.returns-in_ok-push-in-None-clause-put
returns-in_ok-push-in-None-clause-put c =
    let at : None ≡ position (has_path c.args.path) c.args.places.now.items = c.in-None.ensures ∙ ap (position (has_path c.args.path)) c.deref.ensures.value in
    ap (λ places. stands_in places c.args.path) c.in_ok-push-in-None.ensures.items ∙ stands_in-push c.args.path c.args.places.now.items _ at refl

pub returns-in_ok-push-in-None-clause-others : goal.returns-in_ok-push-in-None-clause-others
returns-in_ok-push-in-None-clause-others c other apart =
    ap (λ places. stands_in places other) c.in_ok-push-in-None.ensures.items ∙ stands_in-push_other c.args.path other c.args.places.now.items _ refl apart
