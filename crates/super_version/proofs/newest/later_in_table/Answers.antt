use Rattle.std.proofs.Common.{◌≡◌, ℕ, true, sym, ap, ◌∙◌}
use Rattle.std.specs.Prelude.{option_map}
use Rattle.memtable.specs.Memtables.{reaches}
use Rattle.block_table.specs.Contents.{greatest_of}
use Rattle.super_version.specs.Contents.{items_of_table}
use Rattle.super_version.proofs.Greatest.{passes_by}
use Rattle.super_version.proofs.newest.later_in_table.Goals as goal

pub returns-then-reaches : goal.returns-then-reaches
returns-then-reaches c =
    let best = option_map (λ ts. ts.0) c.args.best in
    let vs = items_of_table c.args.table.now in
    let above : reaches best (greatest_of (λ v. v.sort_key.ts) vs) ≡ true = ap (λ (n : ℕ). reaches best n) (sym c.latest.ensures) ∙ sym c.reaches.ensures ∙ c.if-reaches.true in
    passes_by best vs c.args.key.now above
