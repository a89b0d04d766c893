-- Contents of tables with more versions.
use Rattle.std.specs.Prelude.{◌++◌, List}
use Rattle.ts_key.specs.declared.version.Version.{Version}
use Rattle.ts_key.specs.Items.{items_of}
use Rattle.block_table.specs.Contents.{Contents}

-- the contents with these versions behind the others
abbrev pub and_versions : Contents → List Version → Contents
and_versions t vs = record t { items = t.items ++ items_of vs }
