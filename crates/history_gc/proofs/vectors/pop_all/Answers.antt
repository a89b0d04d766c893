use Rattle.std.proofs.Common.{◌≡◌, ◌+◌, ◌≤◌, true, cond, [], ◌∷◌, ◌++◌, length, sym, ap, subst, ◌∙◌, arith, length-append}
use Rattle.std.specs.Result.{is_ok}
use Rattle.history_gc.specs.Collecting.{HasFinished}
use Rattle.history_gc.proofs.Queues.{alike_through}
use Rattle.history_gc.proofs.vectors.pop_all.Goals as goal

pub loop-version-preserved : goal.loop-version-preserved
loop-version-preserved c =
    let inv = c.loop-version.invariant in
    let v = c.in-Some.version in
    let out = c.loop-version.out in
    let room = inv.room in
    let held = c.in-Some.ensures.held in
    let ok : is_ok c.push.result ≡ true = c.push.ensures.succeeds (omega (arith, room, held, out.ok.0)) in
    let e : c.push.new.self.items ≡ out.items ++ v ∷ [] = c.push.ensures.items ∙ ap (λ b. cond b (out.items ++ v ∷ []) out.items) ok in
    let n : length c.push.new.self.items ≡ length out.items + 1 = ap length e ∙ omega (arith, length-append out.items (v ∷ [])) in
    let more = c.push.ensures.capacity in
    record {
      finished = λ ps h. subst (λ l. HasFinished c.pop.new.self ps l) (sym e) (c.in-Some.ensures.finished ps out.items (inv.finished ps h));
      room = omega (arith, room, held, n, more);
      alike = alike_through c.args.collector.now c.loop-version.collector c.pop.new.self inv.alike c.pop.ensures.alike;
    }
