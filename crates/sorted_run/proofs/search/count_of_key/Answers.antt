use Rattle.std.proofs.Common.{rules}
use Rattle.std.proofs.lemmas.List.Sorted.{IsPartitionPoint-from_clause}
use Rattle.sorted_run.specs.Runs.{has_key}
use Rattle.sorted_run.proofs.Keys.{key_parts}
use Rattle.sorted_run.proofs.search.count_of_key.Goals as goal

pub returns : goal.returns
returns c =
    let vs = c.args.versions.now in
    let key = c.args.key.now in
    let p = IsPartitionPoint-from_clause (has_key key) vs c.partition_point.result c.partition_point.ensures.partitioned (key_parts key vs c.requires.order c.requires.from) (λ a r f' called. search rules) in
    record { bound = c.partition_point.ensures.bound; same = p.0; other = p.1 }
