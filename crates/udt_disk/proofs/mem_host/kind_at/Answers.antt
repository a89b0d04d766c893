use Rattle.std.proofs.Common.{◌∙◌, ap, sym}
use Rattle.udt_disk.specs.Places.{kind_in}
use Rattle.udt_disk.proofs.Places.{stands_in-none, stands_in-at}
use Rattle.udt_disk.proofs.mem_host.kind_at.Goals as goal

pub returns-in-Some-clause-kind : goal.returns-in-Some-clause-kind
returns-in-Some-clause-kind c = c.kind.ensures ∙ ap kind_in (sym (stands_in-at c.args.path.now c.args.places.now c.in-Some.i c.index-places-i.result c.in-Some.ensures))

pub returns-in-None-clause-kind : goal.returns-in-None-clause-kind
returns-in-None-clause-kind c = ap kind_in (sym (stands_in-none c.args.path.now c.args.places.now c.in-None.ensures))
