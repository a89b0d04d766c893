use Rattle.std.proofs.Common.{length, ◌≡◌, ◌+◌, ◌<◌, ◌++◌, List, ℕ, refl, sym, ap, subst, ◌∙◌, length-append, arith}
use Rattle.ts_key.specs.Items.{item_of}
use Rattle.ts_key.specs.StoredKeys.{IsItem}
use Rattle.ts_key.proofs.StoredKeys.{stored_key_short}
use Rattle.data_block.specs.Grammar.{stored_key_of, entry, restart, shared}
use Rattle.data_block.specs.Written.{Written, HasWritten}
use Rattle.data_block.proofs.Lengths.{length-entry, length-restart}
use Rattle.data_block.proofs.Written.{written_more, is_value_of}
use Rattle.data_block.proofs.writer.BlockWriter.push.Goals as goal

pub append_entry-requires-clause-key : goal.append_entry-requires-clause-key
append_entry-requires-clause-key c =
    let form = c.self.inside.form in
    let v = item_of c.args.v.now in
    let key = c.deref-3.ensures.value ∙ c.in_ok-encode_key_as.ensures.written ∙ ap (λ (x : List ℕ). x ++ stored_key_of form v) c.clear.ensures.items in
    omega (arith, ap length key, stored_key_short form v.sort_key v.kind c.in_ok-encode_key_as.ensures.stored)

pub invariant_of-self-2 : goal.invariant_of-self-2
invariant_of-self-2 c =
    let form = c.self.inside.form in
    let v = item_of c.args.v.now in
    let key = c.deref-3.ensures.value ∙ c.in_ok-encode_key_as.ensures.written ∙ ap (λ (x : List ℕ). x ++ stored_key_of form v) c.clear.ensures.items in
    let short = stored_key_short form v.sort_key v.kind c.in_ok-encode_key_as.ensures.stored in
    let out = c.in_ok-append_entry.ensures.written in
    let len = length-entry c.shared_len-shared.result c.deref-3.result.now c.value.result.now in
    let seen : length c.self.inside.out.items ≡ length c.args.self.now.entries = ap (λ (y : Written). length y.entries) c.self.view_is in
    let room : length c.self.inside.out.items < 4096 = omega (arith, seen, c.requires.room) in
    let old = c.self.invariant in
    let longer : length c.append_entry.new.out.items ≡ length c.self.inside.out.items + length (entry c.shared_len-shared.result c.deref-3.result.now c.value.result.now) = ap length out ∙ length-append c.self.inside.out.items _ in
    let value = c.value.ensures.within in
    (omega (arith, ap length key, len, longer, short, value), omega (arith, ap length c.in_default.ensures.noted, length-append c.self.inside.restarts.items (restart c.self.inside.count c.len-at.result), length-restart c.self.inside.count c.len-at.result, old.1), omega (arith, old.2))

pub returns-clause-pushed : goal.returns-clause-pushed
returns-clause-pushed c = λ vs h.
    let x = c.self.inside in
    let form = x.form in
    let v = item_of c.args.v.now in
    let w : Written = record { form = form; entries = x.out.items; restarts = x.restarts.items; count = x.count; last = x.last.items } in
    let old : HasWritten w vs = subst (λ (y : Written). HasWritten y vs) (sym c.self.view_is) h in
    let key = c.in_ok-encode_key_as.ensures.written ∙ ap (λ (y : List ℕ). y ++ stored_key_of form v) c.clear.ensures.items in
    let s-is = c.shared_len-shared.ensures.shared ∙ (λ i. shared x.count (c.deref.ensures.value i) (c.deref-2.ensures.value i)) in
    let out-is = c.in_ok-append_entry.ensures.written ∙ (λ i. x.out.items ++ entry c.shared_len-shared.result (c.deref-3.ensures.value i) (c.value.ensures.value i)) in
    let at-is : c.len-at.result ≡ length x.out.items = omega (arith, c.len-at.ensures, x.out.ok.0) in
    let restarts-is = c.in_default.ensures.noted ∙ (λ i. x.restarts.items ++ restart x.count (at-is i)) in
    let item : IsItem form v = record { spelled = c.in_ok-encode_key_as.ensures.stored; value = is_value_of c.args.v.now.op (omega (arith, ap length c.value.ensures.value, c.value.ensures.within)) } in
    written_more w _ vs v c.encode_key_as.new.out.items c.shared_len-shared.result old refl key s-is item out-is restarts-is refl (ap (λ (y : _). y.items) c.swap.ensures.x_after)
