use Rattle.std.proofs.Common.{◌≡◌, ◌≤◌, ◌+◌, ◌-◌, List, [], ◌∷◌, ◌++◌, length, get_or, take, drop, Some, sym, ap, subst, ◌∙◌, arith, length-append, append_assoc, ◌⊎◌, inl, inr}
use Rattle.std.proofs.lemmas.List.{drop-append-le, take-append-le, take-append-drop}
use Rattle.ts_key.specs.declared.version.Version.{Version}
use Rattle.history_gc.specs.Streaming.{is_old_delete, trim}
use Rattle.history_gc.proofs.Queues.{trim_snoc, trim_stays, popped}
use Rattle.history_gc.proofs.collector.drop_old_deletes.Goals as goal

pub returns-then-not-is_old-clause-items : goal.returns-then-not-is_old-clause-items
returns-then-not-is_old-clause-items c =
    let q = c.loop-floor.queue.items in
    let d = c.args.decided in
    let old : Version → _ = is_old_delete c.args.floor in
    let inv = c.loop-floor.invariant in
    let len = c.loop-floor.queue.ok.0 in
    let x = c.in-Some.last.now in
    let at : x ≡ get_or q (length q - 1) x = subst (λ n. x ≡ get_or q (n - 1) x) len c.in-Some.ensures.lookup in
    let stays : trim old (drop d q) ≡ drop d q = trim_stays old q d (length q - 1) x (omega arith) (omega arith) at (sym c.is_old.ensures ∙ c.if-not-is_old.true) in
    sym (take-append-drop d q) ∙ ap (λ xs. take d q ++ xs) (sym stays) ∙ ap (λ (xs : List Version). xs ++ trim old (drop d q)) inv.front ∙ ap (λ xs. take d c.args.queue.now.items ++ xs) inv.run

pub loop-floor-preserved-else-not-is_old-2 : goal.loop-floor-preserved-else-not-is_old-2
loop-floor-preserved-else-not-is_old-2 c =
    let q = c.loop-floor.queue.items in
    let r = c.pop_back.new.self.items in
    let d = c.args.decided in
    let old : Version → _ = is_old_delete c.args.floor in
    let inv = c.loop-floor.invariant in
    let x = c.in-Some.last.now in
    let is : q ≡ r ++ x ∷ [] = popped q r c.pop_back.result x c.pop_back.ensures.items (c.pop_back.ensures.value x (let len = c.loop-floor.queue.ok.0 in omega arith) ∙ ap Some (sym c.in-Some.ensures.lookup)) in
    let n : length q ≡ length r + 1 = ap length is ∙ omega (arith, length-append r (x ∷ [])) in
    let inside : d ≤ length r = let len = c.loop-floor.queue.ok.0 in omega (arith, n) in
    let front : take d q ≡ take d r = ap (take d) is ∙ take-append-le d r (x ∷ []) inside in
    let rest : drop d q ≡ drop d r ++ x ∷ [] = ap (drop d) is ∙ drop-append-le d r (x ∷ []) inside in
    record {
      within = inside;
      shorter = let s = inv.shorter in omega (arith, n, s);
      capacity = c.pop_back.ensures.capacity ∙ inv.capacity;
      front = sym front ∙ inv.front;
      run = sym (trim_snoc old (drop d r) x (sym c.is_old.ensures ∙ c.if-not-is_old.false)) ∙ ap (trim old) (sym rest) ∙ inv.run;
    }
