use Rattle.std.proofs.Common.{◌≡◌, ◌≤◌, not, ◌&&◌, ◌||◌, [], ◌∷◌, ◌++◌, List, length, max, min, sym, ap, subst, ◌∙◌, arith}
use Rattle.std.specs.Prelude.{if◌then◌else◌, ◌==◌}
use Rattle.std.specs.List.{list_any}
use Rattle.std.specs.VecDeque.{deque_capacity}
use Rattle.ts_key.specs.declared.version.Version.{Version}
use Rattle.history_gc.specs.Streaming.{is_snapshot_between}
use Rattle.history_gc.specs.States.{AccountsFor}
use Rattle.history_gc.specs.Collecting.{state, state_at, HasCollected}
use Rattle.history_gc.proofs.Queues.{push_is, moved, collected_from}
use Rattle.history_gc.proofs.collector.Collector.push.Goals as goal

pub append-requires : goal.append-requires
append-requires c =
    let ok = c.in_default.ensures.ok in
    let a = c.settle_unless.ensures.shorter in
    let b = c.settle_unless.ensures.capacity in
    let l = ap length (ap (λ r. r.items) c.notes.ensures.same.0) in
    let m = ap deque_capacity c.notes.ensures.same.0 in
    omega (arith, ok, a, b, l, m, c.reserve.new.self.ok.0)

pub returns-then-not-notes-clause-collected : goal.returns-then-not-notes-clause-collected
returns-then-not-notes-clause-collected c = λ ps qs hv b.
    let h = hv.inside in
    let x = c.args.self.now in
    let v = c.args.version in
    let f = x.floor in
    let ss = x.seqs.items in
    let dd = x.deeper.now in
    let q = c.reserve.new.self.items in
    let s = c.settle_unless.new.self in
    let e = c.settle_unless.ensures in
    let n = c.notes.ensures in
    let m = c.notes.new.self in
    let k = c.is_of_run-same_key.result in
    let h' : AccountsFor f ss dd (state_at x.class x.least x.decided q) ps qs = subst (λ r. AccountsFor f ss dd (state_at x.class x.least x.decided r) ps qs) (sym c.reserve.ensures.items) h in
    let l : x.decided ≤ length q = let w = x.within in omega (arith, w, ap length c.reserve.ensures.items) in
    let ke : c.notes.result ≡ (not (k && x.class == max v.ts.0 f.0) || list_any (is_snapshot_between v.seq.0 x.least) ss) = n.kept ∙ (λ i. not (k && e.same.0 i == max v.ts.0 ((e.alike.floor i).0)) || list_any (is_snapshot_between v.seq.0 (e.same.1 i)) (e.alike.snapshots i)) in
    let ce : m.class ≡ max v.ts.0 f.0 = n.class ∙ ap (λ t. max v.ts.0 t.0) e.alike.floor in
    let le : m.least ≡ (if k && x.class == max v.ts.0 f.0 then min x.least v.seq.0 else v.seq.0) = n.least ∙ (λ i. if k && e.same.0 i == max v.ts.0 ((e.alike.floor i).0) then min (e.same.1 i) v.seq.0 else v.seq.0) in
    let qe : m.queue.items ≡ (if c.notes.result then s.queue.items ++ v ∷ [] else s.queue.items) = ap (λ r. r.items) n.same.0 ∙ sym (ap (λ t. if t then s.queue.items ++ v ∷ [] else s.queue.items) c.if-not-notes.true) in
    let done = push_is f ss dd x.class x.least x.decided q ps qs v h' b l k c.is_of_run-same_key.ensures s.queue.items s.decided e.kept e.closed c.notes.result ke m.class m.least ce le m.queue.items qe in
    let at : AccountsFor f ss dd (state m) (ps ++ v ∷ []) qs = subst (λ d. AccountsFor f ss dd (state_at m.class m.least d m.queue.items) (ps ++ v ∷ []) qs) (sym n.same.1) done in
    collected_from m (ps ++ v ∷ []) qs (moved f m.floor ss m.seqs.items dd m.deeper.now (state m) (ps ++ v ∷ []) qs
    (sym (n.alike.floor ∙ e.alike.floor)) (sym (n.alike.snapshots ∙ e.alike.snapshots)) (sym (n.alike.spans ∙ e.alike.spans)) at)

pub returns-clause-collected : goal.returns-clause-collected
returns-clause-collected c = λ ps qs hv b.
    let h = hv.inside in
    let x = c.args.self.now in
    let v = c.args.version in
    let f = x.floor in
    let ss = x.seqs.items in
    let dd = x.deeper.now in
    let q = c.reserve.new.self.items in
    let s = c.settle_unless.new.self in
    let e = c.settle_unless.ensures in
    let n = c.notes.ensures in
    let m = c.notes.new.self in
    let r = c.append.new.queue.items in
    let k = c.is_of_run-same_key.result in
    let h' : AccountsFor f ss dd (state_at x.class x.least x.decided q) ps qs = subst (λ r. AccountsFor f ss dd (state_at x.class x.least x.decided r) ps qs) (sym c.reserve.ensures.items) h in
    let l : x.decided ≤ length q = let w = x.within in omega (arith, w, ap length c.reserve.ensures.items) in
    let ke : c.notes.result ≡ (not (k && x.class == max v.ts.0 f.0) || list_any (is_snapshot_between v.seq.0 x.least) ss) = n.kept ∙ (λ i. not (k && e.same.0 i == max v.ts.0 ((e.alike.floor i).0)) || list_any (is_snapshot_between v.seq.0 (e.same.1 i)) (e.alike.snapshots i)) in
    let ce : m.class ≡ max v.ts.0 f.0 = n.class ∙ ap (λ t. max v.ts.0 t.0) e.alike.floor in
    let le : m.least ≡ (if k && x.class == max v.ts.0 f.0 then min x.least v.seq.0 else v.seq.0) = n.least ∙ (λ i. if k && e.same.0 i == max v.ts.0 ((e.alike.floor i).0) then min (e.same.1 i) v.seq.0 else v.seq.0) in
    let qe : r ≡ (if c.notes.result then s.queue.items ++ v ∷ [] else s.queue.items) = c.append.ensures.items ∙ ap (λ t. t.items ++ v ∷ []) n.same.0 ∙ sym (ap (λ t. if t then s.queue.items ++ v ∷ [] else s.queue.items) c.if-not-notes.false) in
    let done = push_is f ss dd x.class x.least x.decided q ps qs v h' b l k c.is_of_run-same_key.ensures s.queue.items s.decided e.kept e.closed c.notes.result ke m.class m.least ce le r qe in
    let at : AccountsFor f ss dd (state_at m.class m.least m.decided r) (ps ++ v ∷ []) qs = subst (λ d. AccountsFor f ss dd (state_at m.class m.least d r) (ps ++ v ∷ []) qs) (sym n.same.1) done in
    collected_from _ (ps ++ v ∷ []) qs (moved f m.floor ss m.seqs.items dd m.deeper.now (state_at m.class m.least m.decided r) (ps ++ v ∷ []) qs
    (sym (n.alike.floor ∙ e.alike.floor)) (sym (n.alike.snapshots ∙ e.alike.snapshots)) (sym (n.alike.spans ∙ e.alike.spans)) at)
