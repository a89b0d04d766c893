use Rattle.std.proofs.Common.{◌∙◌, ap}
use Rattle.manifest_edit.specs.LiveTables.{place_table, entry_tables}
use Rattle.manifest_edit.proofs.Entries.{placed_so}
use Rattle.manifest_edit.proofs.live_tables.LiveTables.insert.Goals as goal

pub returns-clause-placed : goal.returns-clause-placed
returns-clause-placed c =
    ap entry_tables c.in_ok-insert.ensures.entries ∙ placed_so c.self.inside.levels.entries c.args.table.number c.args.table.level ∙ ap (place_table c.args.table) c.self.view_is
