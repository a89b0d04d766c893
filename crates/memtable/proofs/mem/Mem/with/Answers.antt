use Rattle.std.proofs.Common.{◌≡◌, ◌+◌, List, [], ◌∷◌, ◌++◌, map, min, drop, sym, ap, subst, ◌∙◌}
use Rattle.std.specs.Prelude.{All}
use Rattle.std.specs.List.{AllByRecursion}
use Rattle.std.specs.Arc.{arc_value}
use Rattle.std.proofs.lemmas.List.Elements.{recursion_from_All}
use Rattle.ts_key.specs.declared.numbers.Family.{Family}
use Rattle.std.proofs.lemmas.Result.{IfOk-weaker}
use Rattle.ts_key.specs.declared.version.Version.{Version}
use Rattle.sorted_run.specs.Sorts.{sorted}
use Rattle.sorted_run.proofs.Sorting.{sorted_again}
use Rattle.memtable.specs.Memtables.{AreDoubled, Memtable, MergesLeast, IsAbsorbed, IsMemtable, joined, versions_of_memtable}
use Rattle.memtable.specs.declared.limits.TheConstants.{BYTES_LIMIT}
use Rattle.memtable.proofs.Sums.{empty_is, absorbs, absorbs_all, absorbs_bytes, new_runs}
use Rattle.memtable.proofs.mem.Mem.with.Goals as goal

pub returns-then-is_empty-clause-versions : goal.returns-then-is_empty-clause-versions
returns-then-is_empty-clause-versions c =
    let vs = c.args.versions.now in
    let mem = c.args.self.now in
    let none : vs ≡ [] = empty_is vs (sym c.is_empty.ensures ∙ c.if-is_empty.true) in
    let same : sorted (vs ++ versions_of_memtable mem) ≡ versions_of_memtable mem = ap (λ (l : List Version). sorted (l ++ versions_of_memtable mem)) none ∙ sorted_again (joined mem.runs) in
    IfOk-weaker c.copy.result (λ (m : Memtable). m ≡ mem) (λ (m : Memtable). versions_of_memtable m ≡ sorted (vs ++ versions_of_memtable mem)) (λ m e. ap versions_of_memtable e ∙ sym same) c.copy.ensures

pub invariant_of-result : goal.invariant_of-result
invariant_of-result c =
    let vs = c.args.versions.now in
    let items = c.self.inside.runs.items in
    let old = map arc_value items in
    let run = c.in_ok-absorbed.absorbed.0 in
    let n = c.in_ok-absorbed.absorbed.1 in
    let family = c.self.inside.family in
    let got : IsAbsorbed vs old run n = subst (λ (rs : List (List Version)). IsAbsorbed vs rs run n) (ap (map arc_value) c.deref.ensures.value) c.in_ok-absorbed.ensures in
    let new : map arc_value c.share.new.out.items ≡ run ∷ drop n old = new_runs arc_value c.share.new.out.items c.push.new.self.items c.in_ok-runs.runs.items c.split_at.result.1.now items c.in_ok-new.field-0 n run
    c.in_ok-share.ensures c.in_ok-push.ensures.items c.in_ok-runs.ensures.items c.in_ok-new.ensures.ok (c.split_at.ensures.back ∙ ap (drop n) c.deref-2.ensures.value) in
    let batch : AllByRecursion (λ (v : Version). v.family ≡ family) vs = recursion_from_All (λ (v : Version). v.family ≡ family) vs (subst (λ (f : Family). All (λ (v : Version). v.family ≡ f) vs) (sym (ap (λ (m : Memtable). m.family) c.self.view_is)) c.requires) in
    let bytes : c.min.result ≡ min (c.self.inside.bytes + c.bytes_in.result) BYTES_LIMIT = c.min.ensures in
    let it : IsMemtable family (run ∷ drop n old) c.min.result = record {
      doubled = got.doubled;
      own = absorbs_all vs old n run got.is (λ (v : Version). v.family ≡ family) batch c.self.invariant.own;
      bytes = bytes ∙ absorbs_bytes vs old n run got.is c.self.inside.bytes c.bytes_in.result c.self.invariant.bytes c.bytes_in.ensures.bytes;
    } in
    subst (λ (rs : List (List Version)). IsMemtable family rs c.min.result) (sym new) it

pub returns-clause-versions : goal.returns-clause-versions
returns-clause-versions c =
    let vs = c.args.versions.now in
    let items = c.self.inside.runs.items in
    let old = map arc_value items in
    let run = c.in_ok-absorbed.absorbed.0 in
    let n = c.in_ok-absorbed.absorbed.1 in
    let got : IsAbsorbed vs old run n = subst (λ (rs : List (List Version)). IsAbsorbed vs rs run n) (ap (map arc_value) c.deref.ensures.value) c.in_ok-absorbed.ensures in
    let new : map arc_value c.share.new.out.items ≡ run ∷ drop n old = new_runs arc_value c.share.new.out.items c.push.new.self.items c.in_ok-runs.runs.items c.split_at.result.1.now items c.in_ok-new.field-0 n run
    c.in_ok-share.ensures c.in_ok-push.ensures.items c.in_ok-runs.ensures.items c.in_ok-new.ensures.ok (c.split_at.ensures.back ∙ ap (drop n) c.deref-2.ensures.value) in
    let runs : old ≡ c.args.self.now.runs = ap (λ (m : Memtable). m.runs) c.self.view_is in
    ap (λ (rs : List (List Version)). sorted (joined rs)) new
    ∙ absorbs vs old n run got.is
    ∙ ap (λ (rs : List (List Version)). sorted (vs ++ sorted (joined rs))) runs

pub returns-clause-merges : goal.returns-clause-merges
returns-clause-merges c = λ some.
    let vs = c.args.versions.now in
    let items = c.self.inside.runs.items in
    let old = map arc_value items in
    let run = c.in_ok-absorbed.absorbed.0 in
    let n = c.in_ok-absorbed.absorbed.1 in
    let got : IsAbsorbed vs old run n = subst (λ (rs : List (List Version)). IsAbsorbed vs rs run n) (ap (map arc_value) c.deref.ensures.value) c.in_ok-absorbed.ensures in
    let new : map arc_value c.share.new.out.items ≡ run ∷ drop n old = new_runs arc_value c.share.new.out.items c.push.new.self.items c.in_ok-runs.runs.items c.split_at.result.1.now items c.in_ok-new.field-0 n run
    c.in_ok-share.ensures c.in_ok-push.ensures.items c.in_ok-runs.ensures.items c.in_ok-new.ensures.ok (c.split_at.ensures.back ∙ ap (drop n) c.deref-2.ensures.value) in
    let runs : old ≡ c.args.self.now.runs = ap (λ (m : Memtable). m.runs) c.self.view_is in
    let it : MergesLeast vs old (map arc_value c.share.new.out.items) = record {
      count = n;
      within = got.within;
      are = new ∙ ap (λ (r : List Version). r ∷ drop n old) got.is;
      doubled = subst (λ (r : List Version). AreDoubled (r ∷ drop n old)) got.is got.doubled;
      least = got.least;
    } in
    subst (λ (rs : List (List Version)). MergesLeast vs rs (map arc_value c.share.new.out.items)) runs it
