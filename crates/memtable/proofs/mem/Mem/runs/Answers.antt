use Rattle.std.proofs.Common.{◌≡◌, ℕ, ◌+◌, ◌-◌, ◌^◌, ◌<◌, ◌≤◌, List, Some, length, map, sym, ap, subst, ◌∙◌, arith, rules}
use Rattle.std.specs.Prelude.{slice_get}
use Rattle.std.specs.Arc.{arc_value}
use Rattle.std.proofs.lemmas.List.{length-map}
use Rattle.ts_key.specs.declared.version.Version.{Version}
use Rattle.memtable.specs.Memtables.{Memtable, AreDoubled, joined, versions_of_memtable}
use Rattle.memtable.proofs.Doubling.{few_runs, fits, get-map}
use Rattle.memtable.proofs.Sums.{length-sorted}
use Rattle.memtable.proofs.mem.Mem.runs.Goals as goal

pub overflow_cast-result : goal.overflow_cast-result
overflow_cast-result c =
    let rs = c.args.self.now.runs in
    let inside = c.self.inside.runs in
    let runs : map arc_value inside.items ≡ rs = ap (λ (m : Memtable). m.runs) c.self.view_is in
    let doubled : AreDoubled rs = subst AreDoubled runs c.self.invariant.doubled in
    let same : length c.deref.result.now ≡ length rs = omega (arith, ap length runs, length-map inside.items arc_value, ap length c.deref.ensures.value) in
    let here : Some c.in-Some.oldest.now ≡ slice_get inside.items (length rs - 1) = c.in-Some.ensures.value ∙ (λ k. slice_get (c.deref.ensures.value k) (same k - 1)) in
    let last : slice_get rs (length rs - 1) ≡ Some (arc_value c.in-Some.oldest.now) = ap (λ (l : List (List Version)). slice_get l (length rs - 1)) (sym runs) ∙ get-map arc_value inside.items (length rs - 1) c.in-Some.oldest.now (sym here) in
    let small : length (arc_value c.in-Some.oldest.now) < 2 ^ 64 = omega (arith, c.len-most.ensures, c.len-most.type_inv, ap length c.as_ref.ensures) in
    let h : length rs < 2 ^ 32 = fits rs (arc_value c.in-Some.oldest.now) doubled last small in
    let e : c.len.result ≡ length rs = omega (arith, ap length runs, length-map inside.items arc_value, inside.ok.0, c.len.ensures) in
    omega (arith, h, e)

pub returns-in-Some-clause-few : goal.returns-in-Some-clause-few
returns-in-Some-clause-few c =
    let rs = c.args.self.now.runs in
    let inside = c.self.inside.runs in
    let runs : map arc_value inside.items ≡ rs = ap (λ (m : Memtable). m.runs) c.self.view_is in
    let doubled : AreDoubled rs = subst AreDoubled runs c.self.invariant.doubled in
    let e : length rs ≡ c.len.result = omega (arith, ap length runs, length-map inside.items arc_value, inside.ok.0, c.len.ensures) in
    let most : 2 ^ length rs ≤ length (versions_of_memtable c.args.self.now) + 1 = omega (arith, few_runs rs doubled, length-sorted (joined rs)) in
    subst (λ (n : ℕ). 2 ^ n ≤ length (versions_of_memtable c.args.self.now) + 1) e most
