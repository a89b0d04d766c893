use Rattle.std.proofs.Common.{◌≡◌, List, None, sym, subst}
use Rattle.ts_key.specs.declared.version.Version.{Version}
use Rattle.udt_model.specs.Versions.{newest_of, of_key}
use Rattle.solo_runner.specs.VersionLists.{above}
use Rattle.solo_runner.proofs.VersionListLemmas.{none_above}
use Rattle.solo_runner.proofs.versions.Versions.newest_above.Goals as goal

pub returns-then-self-ts : goal.returns-then-self-ts
returns-then-self-ts c =
    subst (λ (w : List Version). None ≡ above c.args.ts (newest_of (of_key w c.args.family c.args.key.now))) c.self.view_is
    (sym (none_above c.self.inside.latest c.args.ts c.self.inside.items.items c.args.family c.args.key.now c.if-self-ts.true c.self.invariant))
