use Rattle.std.proofs.Common.{◌≡◌, List, subst}
use Rattle.std.specs.List.{AllByRecursion}
use Rattle.std.proofs.lemmas.List.Elements.{All-from_recursion}
use Rattle.ts_key.specs.declared.version.Version.{Version}
use Rattle.sorted_run.specs.Sorts.{sorted}
use Rattle.sorted_run.proofs.Sorting.{ordered-sorted}
use Rattle.memtable.specs.Memtables.{Memtable, joined}
use Rattle.memtable.proofs.Sums.{all-sorted}
use Rattle.memtable.proofs.mem.Mem.versions.Goals as goal

pub returns-in_err-all-clause-order : goal.returns-in_err-all-clause-order
returns-in_err-all-clause-order c = ordered-sorted (joined c.args.self.now.runs)

pub returns-in_err-all-clause-family : goal.returns-in_err-all-clause-family
returns-in_err-all-clause-family c =
    let mem = c.args.self.now in
    let own : AllByRecursion (λ (v : Version). v.family ≡ mem.family) (joined mem.runs) = subst (λ (m : Memtable). AllByRecursion (λ (v : Version). v.family ≡ m.family) (joined m.runs)) c.self.view_is c.self.invariant.own in
    All-from_recursion (λ (v : Version). v.family ≡ mem.family) (sorted (joined mem.runs)) (all-sorted (λ (v : Version). v.family ≡ mem.family) (joined mem.runs) own)

pub returns-clause-family : goal.returns-clause-family
returns-clause-family c =
    let mem = c.args.self.now in
    let own : AllByRecursion (λ (v : Version). v.family ≡ mem.family) (joined mem.runs) = subst (λ (m : Memtable). AllByRecursion (λ (v : Version). v.family ≡ m.family) (joined m.runs)) c.self.view_is c.self.invariant.own in
    All-from_recursion (λ (v : Version). v.family ≡ mem.family) (sorted (joined mem.runs)) (all-sorted (λ (v : Version). v.family ≡ mem.family) (joined mem.runs) own)
