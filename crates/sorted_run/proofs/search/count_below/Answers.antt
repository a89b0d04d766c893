use Rattle.std.proofs.Common.{rules}
use Rattle.std.proofs.lemmas.List.Sorted.{IsPartitionPoint-from_clause}
use Rattle.sorted_run.specs.Runs.{has_key_below}
use Rattle.sorted_run.proofs.Keys.{below_parts}
use Rattle.sorted_run.proofs.search.count_below.Goals as goal

pub returns : goal.returns
returns c =
    let vs = c.args.versions.now in
    let key = c.args.key.now in
    let p = IsPartitionPoint-from_clause (has_key_below key) vs c.partition_point.result c.partition_point.ensures.partitioned (below_parts key vs c.requires) (λ a r f' called. search rules) in
    record { bound = c.partition_point.ensures.bound; below = p.0; from = p.1 }
