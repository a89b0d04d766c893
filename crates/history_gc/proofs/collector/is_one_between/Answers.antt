use Rattle.std.proofs.Common.{◌≡◌, ◌<◌, ◌≤◌, true, false, ltb, length, get_or, sym, ap, ◌∙◌, rules, arith}
use Rattle.std.specs.Prelude.{nat_lt}
use Rattle.std.specs.List.Sorted.{IsPartitionPoint}
use Rattle.std.proofs.lemmas.List.Sorted.{IsPartitionPoint-from_clause, IsPartitionedBy-ltb}
use Rattle.ts_key.specs.declared.numbers.Seq.{Seq}
use Rattle.history_gc.proofs.Queues.{some_decides, none_decides, lt_from, ge_from}
use Rattle.history_gc.proofs.collector.is_one_between.Goals as goal

pub returns-in-Some : goal.returns-in-Some
returns-in-Some c =
    let xs = c.args.seqs.now in
    let seq = c.args.seq in
    let i = c.partition_point-first.result in
    let p : IsPartitionPoint (λ (y : Seq). nat_lt y.0 seq ≡ true) (λ (y : Seq). nat_lt y.0 seq ≡ false) xs i =
    IsPartitionPoint-from_clause (λ (y : Seq). nat_lt y.0 seq) _ _ c.partition_point-first.ensures.partitioned (IsPartitionedBy-ltb (λ (y : Seq). y.0) _ seq c.requires) (λ a r q k. search rules) in
    some_decides seq c.args.least xs i c.in-Some.s.now c.requires p (lt_from i (length xs) c.in-Some.ensures.lookup.0) c.in-Some.ensures.lookup.1

pub returns-in-None : goal.returns-in-None
returns-in-None c =
    let xs = c.args.seqs.now in
    let seq = c.args.seq in
    let i = c.partition_point-first.result in
    let p : IsPartitionPoint (λ (y : Seq). nat_lt y.0 seq ≡ true) (λ (y : Seq). nat_lt y.0 seq ≡ false) xs i =
    IsPartitionPoint-from_clause (λ (y : Seq). nat_lt y.0 seq) _ _ c.partition_point-first.ensures.partitioned (IsPartitionedBy-ltb (λ (y : Seq). y.0) _ seq c.requires) (λ a r q k. search rules) in
    none_decides seq c.args.least xs i c.requires p (ge_from i (length xs) c.in-None.ensures.lookup.0)
