use Rattle.manifest_edit.proofs.Entries.{removed_so}
use Rattle.manifest_edit.proofs.live_tables.LiveTables.remove.Goals as goal

pub returns : goal.returns
returns c = cc (removed_so c.self.inside.levels.entries c.args.number c.self.invariant)
