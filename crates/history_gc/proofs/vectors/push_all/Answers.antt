use Rattle.std.proofs.Common.{◌≡◌, ◌+◌, ◌≤◌, true, [], ◌∷◌, ◌++◌, length, suc, sym, ap, ◌∙◌, arith, append_assoc}
use Rattle.std.specs.Result.{is_ok}
use Rattle.history_gc.specs.Collecting.{HasCollected}
use Rattle.history_gc.proofs.Queues.{one_on, fewer_left, next_of, ok_of, alike_through}
use Rattle.history_gc.proofs.vectors.push_all.Goals as goal

pub loop-version-preserved : goal.loop-version-preserved
loop-version-preserved c =
    let inv = c.loop-version.invariant in
    let p = inv.pushed in
    let v = c.in-Some.version in
    let all = c.args.versions.items in
    let more = c.next.new.self.rest.items in
    let e : p.0 ++ v ∷ more ≡ all = one_on p.0 c.loop-version.rest.rest.items more all c.next.result v c.in-Some.is c.next.ensures.items p.1 in
    let n = fewer_left c.loop-version.rest.rest.items more c.next.result v c.in-Some.is c.next.ensures.items in
    let room = inv.room in
    let held = inv.held in
    let h1 = c.push.ensures.held in
    let r1 = c.push.ensures.room in
    let ok : is_ok c.push.result ≡ true = c.push.ensures.taken (omega (arith, n, room)) in
    record {
      pushed = (
        p.0 ++ v ∷ [],
        append_assoc p.0 (v ∷ []) more ∙ e,
        λ h s. ok_of c.push.result (HasCollected c.push.new.self (p.0 ++ v ∷ []) []) (HasCollected c.push.new.self p.0 []) ok (c.push.ensures.collected p.0 [] (p.2 h s) (next_of p.0 v more all e s)),
      );
      room = omega (arith, n, room, h1, r1);
      held = omega (arith, n, held, h1);
      alike = alike_through c.args.collector.now c.loop-version.collector c.push.new.self inv.alike c.push.ensures.alike;
    }
