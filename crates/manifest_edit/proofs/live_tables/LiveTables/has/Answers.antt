use Rattle.manifest_edit.proofs.Entries.{has_looked}
use Rattle.manifest_edit.proofs.live_tables.LiveTables.has.Goals as goal

pub returns : goal.returns
returns c = cc (has_looked c.self.inside.levels.entries c.args.number)
