use Rattle.std.proofs.Common.{◌≡◌, ◌∙◌, ap, refl, Some}
use Rattle.udt_disk.specs.Tree.{entry_named, Changed}
use Rattle.udt_disk.specs.declared.tree.Entry.{Entry}
use Rattle.udt_disk.proofs.Directories.{back_same, set_back, takes, leaves_all}
use Rattle.udt_disk.proofs.directory.Directory.take_out.Goals as goal

changes : (c : goal.Joined-exchange) → Changed c.args.name (Some c.take_out-entry.result.0) c.args.self.now.tree c.exchange-2.new.self × (entry_named c.args.self.now.tree c.args.name ≡ Some c.in_ok-exchange.field-0)
changes c =
    let same = ap (λ (x : Entry). x.name) c.take_out-entry.ensures.entry ∙ c.in_ok-exchange.ensures.named in
    set_back c.args.name c.new.result c.in_ok-exchange.field-0 c.take_out-entry.result.0 c.args.self.now.tree c.exchange.new.self c.exchange-2.new.self c.exchange.result c.exchange-2.result c.new.ensures.name c.in_ok-exchange.was c.exchange.ensures.old same c.exchange.ensures.changed c.exchange-2.ensures.old c.exchange-2.ensures.changed

pub returns-clause-taken : goal.returns-clause-taken
returns-clause-taken c = takes c.args.name c.args.self.now _ refl refl c.in_ok-exchange.field-0 c.take_out-entry.result.0 (changes c).0 (changes c).1 c.take_out-entry.ensures.entry c.take_out-entry.result.1 c.take_out-entry.ensures.file

pub returns-clause-same : goal.returns-clause-same
returns-clause-same c = leaves_all c.args.name c.args.self.now _ refl refl c.in_ok-exchange.field-0 c.take_out-entry.result.0 (changes c).0 (changes c).1 c.take_out-entry.ensures.entry c.take_out-entry.result.1 c.take_out-entry.ensures.file

pub returns-clause-back : goal.returns-clause-back
returns-clause-back c =
    let set = changes c in
    back_same c.args.name c.args.self.now.tree c.exchange-2.new.self c.in_ok-exchange.field-0 c.take_out-entry.result.0 set.0 set.1 (ap (λ (x : Entry). x.before) c.take_out-entry.ensures.entry)
