use Rattle.std.proofs.Common.{◌≡◌, ℕ, List, map, min, sym, ap, ◌∙◌}
use Rattle.std.specs.Arc.{arc_value}
use Rattle.ts_key.specs.declared.version.Version.{Version}
use Rattle.memtable.specs.Memtables.{Memtable, joined, capped_weight}
use Rattle.memtable.specs.declared.limits.TheConstants.{BYTES_LIMIT}
use Rattle.memtable.proofs.Sums.{weight-sorted}
use Rattle.memtable.proofs.mem.Mem.bytes.Goals as goal

pub returns : goal.returns
returns c =
    let runs : map arc_value c.self.inside.runs.items ≡ c.args.self.now.runs = ap (λ (m : Memtable). m.runs) c.self.view_is in
    c.self.invariant.bytes
    ∙ ap (λ (rs : List (List Version)). capped_weight (joined rs)) runs
    ∙ ap (λ (n : ℕ). min n BYTES_LIMIT) (sym (weight-sorted (joined c.args.self.now.runs)))
