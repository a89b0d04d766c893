use Rattle.std.proofs.Common.{arith}
use Rattle.ts_key.specs.Items.{item_of, shown}
use Rattle.ts_key.specs.Bounds.{stands_at}
use Rattle.merge_cursor.proofs.slice.SliceCursorCursor.at.Goals as goal

pub returns : goal.returns
returns c = stands_at item_of c.args.self.now.versions.now c.args.self.now.place c.index-versions-self.result (shown c.show.result) (omega arith) (omega arith) c.index-versions-self.is c.show.ensures
