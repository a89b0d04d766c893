use Rattle.std.proofs.Common.{◌≡◌, ℕ, ◌+◌, ◌-◌, ◌^◌, ◌≤◌, List, length, map, sym, ap, subst, ◌∙◌, arith}
use Rattle.std.specs.Arc.{arc_value}
use Rattle.std.proofs.lemmas.List.{length-map}
use Rattle.ts_key.specs.declared.version.Version.{Version}
use Rattle.ts_key.specs.Items.{items_of}
use Rattle.ts_key.specs.Visible.{visible_item}
use Rattle.memtable.specs.Memtables.{Memtable, AreDoubled, joined}
use Rattle.memtable.proofs.Bests.{visible-sorted}
use Rattle.memtable.proofs.Doubling.{few_steps}
use Rattle.memtable.proofs.Sums.{length-sorted}
use Rattle.memtable.proofs.mem.Mem.find_counted.Goals as goal

pub returns-clause-visible : goal.returns-clause-visible
returns-clause-visible g c =
    let key = c.args.key.now in
    let t = c.args.t.0 in
    let s = c.args.s.0 in
    let runs : map arc_value c.deref.result.now ≡ c.args.self.now.runs = ap (map arc_value) c.deref.ensures.value ∙ ap (λ (m : Memtable). m.runs) c.self.view_is in
    c.find_counted_in.ensures.visible
    ∙ ap (λ (rs : List (List Version)). visible_item (items_of (joined rs)) key t s) runs
    ∙ sym (visible-sorted (joined c.args.self.now.runs) key t s)

pub returns-clause-steps : goal.returns-clause-steps
returns-clause-steps g c =
    let rs = c.args.self.now.runs in
    let runs : map arc_value c.deref.result.now ≡ rs = ap (map arc_value) c.deref.ensures.value ∙ ap (λ (m : Memtable). m.runs) c.self.view_is in
    let doubled : AreDoubled rs = subst AreDoubled (ap (λ (m : Memtable). m.runs) c.self.view_is) c.self.invariant.doubled in
    let k = c.find_counted_in.new.steps - c.args.steps.now in
    let few : k ≤ length rs = omega (arith, ap length runs, length-map c.deref.result.now arc_value, c.find_counted_in.ensures.steps) in
    let most : 2 ^ k ≤ length (joined rs) + 1 = few_steps rs k doubled few in
    omega (arith, most, length-sorted (joined rs))
