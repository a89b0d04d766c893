use Rattle.std.proofs.Common.{◌≡◌, List, [], ◌++◌, append-nil, sym, ap, subst, ◌∙◌}
use Rattle.std.specs.Prelude.{All, IfOk}
use Rattle.ts_key.specs.declared.numbers.Family.{Family}
use Rattle.ts_key.specs.declared.version.Version.{Version}
use Rattle.sorted_run.specs.Sorts.{sorted}
use Rattle.memtable.specs.Memtables.{Memtable, versions_of_memtable}
use Rattle.super_version.specs.Writes.{of_family}
use Rattle.super_version.proofs.Written.{all_own}
use Rattle.recovery.proofs.Stating.{one_run, own_alone}
use Rattle.recovery.proofs.version.memtable_of.Goals as goal

pub with-requires : goal.with-requires
with-requires c =
    let family = c.args.family in
    let vs = c.args.versions.now in
    let is : of_family family vs ≡ vs = own_alone family vs (sym c.are_own.ensures ∙ c.if-are_own.true) in
    subst (λ (n : Family). All (λ (v : Version). v.family ≡ n) vs) (sym (ap (λ (m : Memtable). m.family) c.empty.ensures)) (subst (All (λ (v : Version). v.family ≡ family)) is (all_own family vs))

pub with-requires-2 : goal.with-requires-2
with-requires-2 c =
    let family = c.args.family in
    let vs = c.args.versions.now in
    let own = c.deref.result.now in
    let is : own ≡ of_family family vs = c.deref.ensures.value ∙ c.in_ok-own.ensures in
    subst (λ (n : Family). All (λ (v : Version). v.family ≡ n) own) (sym (ap (λ (m : Memtable). m.family) c.empty-2.ensures)) (subst (All (λ (v : Version). v.family ≡ family)) (sym is) (all_own family vs))

pub returns-then-are_own-clause-versions : goal.returns-then-are_own-clause-versions
returns-then-are_own-clause-versions c =
    let family = c.args.family in
    let vs = c.args.versions.now in
    let is : of_family family vs ≡ vs = own_alone family vs (sym c.are_own.ensures ∙ c.if-are_own.true) in
    let none : versions_of_memtable c.empty.result ≡ [] = ap versions_of_memtable c.empty.ensures in
    let more : vs ++ versions_of_memtable c.empty.result ≡ of_family family vs = ap (λ (l : List Version). vs ++ l) none ∙ append-nil vs ∙ sym is in
    subst (λ (l : List Version). IfOk c.with-then-are_own.result (λ mem. versions_of_memtable mem ≡ sorted l)) more c.with-then-are_own.ensures.versions

pub returns-then-are_own-clause-runs : goal.returns-then-are_own-clause-runs
returns-then-are_own-clause-runs c =
    let empty : c.empty.result.runs ≡ [] = ap (λ (m : Memtable). m.runs) c.empty.ensures in
    one_run c.args.versions.now c.empty.result c.with-then-are_own.result empty c.with-then-are_own.ensures.copy c.with-then-are_own.ensures.keeps

pub returns-clause-runs : goal.returns-clause-runs
returns-clause-runs c =
    let empty : c.empty-2.result.runs ≡ [] = ap (λ (m : Memtable). m.runs) c.empty-2.ensures in
    one_run c.deref.result.now c.empty-2.result c.with-3.result empty c.with-3.ensures.copy c.with-3.ensures.keeps
