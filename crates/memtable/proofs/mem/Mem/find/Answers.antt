use Rattle.std.proofs.Common.{◌≡◌, ℕ, List, map, sym, ap, ◌∙◌}
use Rattle.std.specs.Arc.{arc_value}
use Rattle.ts_key.specs.declared.version.Version.{Version}
use Rattle.ts_key.specs.Items.{items_of}
use Rattle.ts_key.specs.Visible.{visible_item}
use Rattle.memtable.specs.Memtables.{Memtable, joined}
use Rattle.memtable.proofs.Bests.{visible-sorted}
use Rattle.memtable.proofs.mem.Mem.find.Goals as goal

pub returns-clause-visible : goal.returns-clause-visible
returns-clause-visible c =
    let key = c.args.key.now in
    let t = c.args.t.0 in
    let s = c.args.s.0 in
    let runs : map arc_value c.deref.result.now ≡ c.args.self.now.runs = ap (map arc_value) c.deref.ensures.value ∙ ap (λ (m : Memtable). m.runs) c.self.view_is in
    c.find_in.ensures.visible
    ∙ ap (λ (rs : List (List Version)). visible_item (items_of (joined rs)) key t s) runs
    ∙ sym (visible-sorted (joined c.args.self.now.runs) key t s)
