use Rattle.std.proofs.Common.{◌≡◌, ◌∙◌, ap, sym, Some}
use Rattle.std.specs.List.{position}
use Rattle.udt_disk.specs.Places.{has_path, stands_in}
use Rattle.udt_disk.specs.declared.mem_host.Occupant.TheVariants.{Nothing}
use Rattle.udt_disk.proofs.Places.{no_place, stands_in-none, stands_in-at, exchanged, exchanged_others, exchanged_places}
use Rattle.udt_disk.proofs.mem_host.take.Goals as goal

missing : (c : goal.In-None) → stands_in c.args.places.now.items c.args.path.now ≡ Nothing
missing c = stands_in-none c.args.path.now c.args.places.now.items (c.in-None.ensures ∙ ap (position (has_path c.args.path.now)) c.deref.ensures.value)

there : (c : goal.After-exchange) → Some c.in-Some.i ≡ position (has_path c.args.path.now) c.args.places.now.items
there c = c.in-Some.ensures ∙ ap (position (has_path c.args.path.now)) c.deref.ensures.value

pub returns-in-Some-clause-taken : goal.returns-in-Some-clause-taken
returns-in-Some-clause-taken c = c.exchange.ensures.old no_place ∙ sym (stands_in-at c.args.path.now c.args.places.now.items c.in-Some.i no_place (there c))

pub returns-in-Some-clause-gone : goal.returns-in-Some-clause-gone
returns-in-Some-clause-gone c = exchanged c.args.path.now c.args.places.now.items _ c.in-Some.i Nothing (there c) c.exchange.ensures.new

pub returns-in-Some-clause-others : goal.returns-in-Some-clause-others
returns-in-Some-clause-others c = exchanged_others c.args.path.now c.args.places.now.items _ c.in-Some.i Nothing (there c) c.exchange.ensures.new

pub returns-in-Some-clause-places : goal.returns-in-Some-clause-places
returns-in-Some-clause-places c = exchanged_places c.args.path.now c.args.places.now.items _ c.in-Some.i Nothing (there c) c.exchange.ensures.new

pub returns-in-None-clause-taken : goal.returns-in-None-clause-taken
returns-in-None-clause-taken c = sym (missing c)

pub returns-in-None-clause-gone : goal.returns-in-None-clause-gone
returns-in-None-clause-gone c = missing c
