use Rattle.std.proofs.Common.{sym, ◌∙◌, ap, refl}
use Rattle.udt_disk.specs.Tree.{early}
use Rattle.udt_disk.specs.declared.tree.Entry.{Entry}
use Rattle.udt_disk.proofs.Directories.{back_same, set_back, removes}
use Rattle.udt_disk.proofs.directory.Directory.remove.Goals as goal

pub returns-in-Some-clause-removed : goal.returns-in-Some-clause-removed
returns-in-Some-clause-removed c =
    let same = ap (λ (x : Entry). x.name) c.remove.ensures ∙ c.in-Some.ensures.named in
    let set = set_back c.args.name c.new.result c.in-Some.entry c.remove.result c.args.self.now.tree c.exchange.new.self c.exchange-in-Some.new.self c.exchange.result c.exchange-in-Some.result c.new.ensures.name c.in-Some.is c.exchange.ensures.old same c.exchange.ensures.changed c.exchange-in-Some.ensures.old c.exchange-in-Some.ensures.changed in
    removes c.args.name c.args.self.now _ refl refl c.remove.result set.0 (ap (λ (x : Entry). x.since) c.remove.ensures ∙ sym (ap early set.1)) c.in-Some.entry set.1 (ap (λ (x : Entry). x.place) c.remove.ensures)

pub returns-in-Some-clause-back : goal.returns-in-Some-clause-back
returns-in-Some-clause-back c =
    let same = ap (λ (x : Entry). x.name) c.remove.ensures ∙ c.in-Some.ensures.named in
    let set = set_back c.args.name c.new.result c.in-Some.entry c.remove.result c.args.self.now.tree c.exchange.new.self c.exchange-in-Some.new.self c.exchange.result c.exchange-in-Some.result c.new.ensures.name c.in-Some.is c.exchange.ensures.old same c.exchange.ensures.changed c.exchange-in-Some.ensures.old c.exchange-in-Some.ensures.changed in
    back_same c.args.name c.args.self.now.tree c.exchange-in-Some.new.self c.in-Some.entry c.remove.result set.0 set.1 (ap (λ (x : Entry). x.before) c.remove.ensures)
