use Rattle.std.proofs.Common.{◌≡◌, ℕ, List, map, sym, ap, ◌∙◌}
use Rattle.std.specs.Arc.{arc_value}
use Rattle.ts_key.specs.declared.version.Version.{Version}
use Rattle.ts_key.specs.Items.{items_of}
use Rattle.ts_key.specs.Visible.{newest_ts}
use Rattle.memtable.specs.Memtables.{Memtable, joined}
use Rattle.memtable.proofs.Bests.{newest_ts-sorted}
use Rattle.memtable.proofs.mem.Mem.newest.Goals as goal

pub returns : goal.returns
returns c =
    let key = c.args.key.now in
    let runs : map arc_value c.deref.result.now ≡ c.args.self.now.runs = ap (map arc_value) c.deref.ensures.value ∙ ap (λ (m : Memtable). m.runs) c.self.view_is in
    c.newest_in.ensures
    ∙ ap (λ (rs : List (List Version)). newest_ts (items_of (joined rs)) key) runs
    ∙ sym (newest_ts-sorted (joined c.args.self.now.runs) key)
