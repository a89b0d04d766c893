use Rattle.std.proofs.Common.{◌≡◌, ℕ, ◌+◌, ◌*◌, ◌/◌, ◌<◌, ◌≤◌, List, Some, ◌∷◌, ◌++◌, length, map, take, drop, sym, ap, subst, ◌∙◌, arith, below_more}
use Rattle.std.specs.Prelude.{slice_get}
use Rattle.std.specs.Arc.{arc_value}
use Rattle.std.proofs.lemmas.List.{length-map, take-map}
use Rattle.sorted_run.specs.Sorts.{sorted}
use Rattle.ts_key.specs.declared.version.Version.{Version}
use Rattle.memtable.specs.Memtables.{AreDoubled, joined, with_batch}
use Rattle.memtable.proofs.Bests.{joined_more}
use Rattle.memtable.proofs.Doubling.{doubled-cons, got_at, not_doubled}
use Rattle.memtable.proofs.Sums.{absorbs_more, first_kept, first_item, length-absorbed, inside, item_at}
use Rattle.memtable.proofs.runs.absorbed.Goals as goal
use Rattle.memtable.proofs.runs.absorbed.Goals.{else-loop-next-test, then-loop-next-test+then-len}

pub loop-next-preserved : goal.loop-next-preserved
loop-next-preserved c =
    let vs = c.args.versions.now in
    let rs = c.args.runs.now in
    let n = c.loop-next.next in
    let was = c.loop-next.run in
    let item = c.index-runs-next.result in
    let older = c.as_ref-older.result.now in
    let taken = joined (map arc_value (take n rs)) in
    let more : joined (map arc_value (take (n + 1) rs)) ≡ taken ++ older = joined_more arc_value rs n item (omega arith) c.index-runs-next.is ∙ ap (λ (l : List Version). taken ++ l) (sym c.as_ref-older.ensures) in
    let half : length older / 2 < length was = omega arith in
    let next : slice_get (map arc_value rs) n ≡ Some older = got_at arc_value rs n item (omega arith) c.index-runs-next.is ∙ ap Some (sym c.as_ref-older.ensures) in
    let is : was ≡ sorted (vs ++ joined (take n (map arc_value rs))) = c.loop-next.invariant.is ∙ ap (λ (l : List (List Version)). sorted (vs ++ joined l)) (sym (take-map arc_value n rs)) in
    record {
      within = omega arith;
      is = absorbs_more vs older was c.in_ok-larger.larger taken (joined (map arc_value (take (n + 1) rs))) c.loop-next.invariant.is c.in_ok-larger.ensures more;
      least = below_more (λ k. AreDoubled (with_batch vs (map arc_value rs) k) → ⊥) n c.loop-next.invariant.least
          (λ h. not_doubled was older (map arc_value rs) n next half (subst (λ (r : List Version). AreDoubled (r ∷ drop n (map arc_value rs))) (sym is) h));
      keeps = λ first e m.
          let z : n ≡ 0 = c.loop-next.invariant.keeps first e m in
          absurd (first_kept vs taken was older first c.loop-next.invariant.is (ap (λ (k : ℕ). length (joined (map arc_value (take k rs)))) z) (first_item arc_value rs n item first z (omega arith) c.index-runs-next.is e ∙ sym c.as_ref-older.ensures) half m);
    }

pub returns : goal.returns
returns c =
    let vs = c.args.versions.now in
    let rs = c.args.runs.now in
    let n = c.loop-next.next in
    let run = c.loop-next.run in
    let taken = joined (map arc_value (take n rs)) in
    let one : 1 ≤ length run = omega (arith, length-absorbed vs taken run c.loop-next.invariant.is, c.requires.some) in
    let next : (older : List Version) → slice_get (map arc_value rs) n ≡ Some older → 2 * length run ≤ length older = elim c.loop-next-test.branch [
      | else-loop-next-test w ↦ λ older e. absurd (let l = inside (map arc_value rs) n older e in omega (arith, l, length-map rs arc_value))
      | then-loop-next-test+then-len w ↦ λ older e.
          let same = ap length (item_at arc_value rs n w.index-runs-next.result older (omega arith) w.index-runs-next.is e ∙ sym w.as_ref-older.ensures) in
          omega (arith, same)
    ] in
    record {
      within = omega (arith, c.loop-next.invariant.within, length-map rs arc_value);
      is = c.loop-next.invariant.is ∙ ap (λ (l : List (List Version)). sorted (vs ++ joined l)) (sym (take-map arc_value n rs));
      doubled = doubled-cons run (map arc_value rs) n one c.requires.doubled next;
      least = c.loop-next.invariant.least;
      keeps = c.loop-next.invariant.keeps;
    }
