use Rattle.std.proofs.Common.{◌≡◌, ℕ, List, map, sym, ap, ◌∙◌}
use Rattle.std.specs.Arc.{arc_value}
use Rattle.ts_key.specs.declared.version.Version.{Version}
use Rattle.sorted_run.specs.Runs.{latest_of}
use Rattle.memtable.specs.Memtables.{Memtable, joined}
use Rattle.memtable.proofs.Bests.{latest-sorted}
use Rattle.memtable.proofs.mem.Mem.latest.Goals as goal

pub returns : goal.returns
returns c =
    let runs : map arc_value c.deref.result.now ≡ c.args.self.now.runs = ap (map arc_value) c.deref.ensures.value ∙ ap (λ (m : Memtable). m.runs) c.self.view_is in
    c.latest_in.ensures
    ∙ ap (λ (rs : List (List Version)). latest_of (joined rs)) runs
    ∙ sym (latest-sorted (joined c.args.self.now.runs))
