use Rattle.std.proofs.Common.{◌++◌, [], ◌∷◌, length, sym, ap, subst, ◌∙◌, arith}
use Rattle.ts_key.specs.Items.{item_of}
use Rattle.ts_key.specs.StoredKeys.{IsStamp, IsItem}
use Rattle.ts_key.specs.declared.version.Form.{Form}
use Rattle.data_block.specs.Grammar.{block_entries}
use Rattle.data_block.specs.Written.{Written, HasWritten}
use Rattle.block_table.proofs.Lists.{all_last}
use Rattle.block_table.proofs.Pushing.{push_full, not_full}
use Rattle.block_table.proofs.writer.TableWriter.push.Goals as goal

pub push-requires-clause-room : goal.push-requires-clause-room
push-requires-clause-room c =
    let room = c.args.self.now.room in
    omega (arith, room, ap (λ (b : Written). length b.entries) c.in_ok-block.ensures.taken)

pub push-requires-clause-stamp : goal.push-requires-clause-stamp
push-requires-clause-stamp c =
    let form-is = ap (λ (b : Written). b.form) c.in_ok-block.ensures.taken ∙ c.args.self.now.alike in
    subst (λ (f : Form). IsStamp f c.args.v.now.ts.0) (sym form-is) c.requires.stamp

pub invariant_of-self-clause-room : goal.invariant_of-self-clause-room
invariant_of-self-clause-room c = not_full (length c.push.new.self.entries) c.full.result c.full.ensures.1 c.if-full.false

pub invariant_of-self-clause-alike : goal.invariant_of-self-clause-alike
invariant_of-self-clause-alike c =
    c.in_ok-push.ensures.form ∙ ap (λ (b : Written). b.form) c.in_ok-block.ensures.taken ∙ c.args.self.now.alike ∙ sym c.in_ok-block.ensures.form ∙ sym c.in_ok-note.ensures.form

pub returns-then-full-clause-pushed : goal.returns-then-full-clause-pushed
returns-then-full-clause-pushed c = λ t h.
    let v = item_of c.args.v.now in
    let os = h.open_items in
    let form-is = c.in_ok-push.ensures.form ∙ ap (λ (b : Written). b.form) c.in_ok-block.ensures.taken ∙ c.args.self.now.alike ∙ h.behind.form in
    let written = c.in_ok-push.ensures.pushed os (subst (λ (b : Written). HasWritten b os) (sym c.in_ok-block.ensures.taken) h.is_open.written) in
    let item : IsItem t.form v = subst (λ (f : Form). IsItem f v) form-is (all_last (IsItem c.push.new.self.form) os v written.items) in
    let noted = c.in_ok-note.ensures.noted t h.done os (c.in_ok-block.ensures.kept t h.done os h.behind) item in
    let closed = c.in_ok-close.ensures.closed _ h.done (os ++ v ∷ []) noted (record { form_is = form-is; written = written }) in
    let entries = ap length written.entries ∙ ap (λ (f : Form). length (block_entries f (os ++ v ∷ []))) form-is in
    let full = c.full.ensures.0 c.if-full.true in
    let block-is = c.in_ok-close.ensures.block ∙ c.in_ok-note.ensures.block in
    let empty = subst (λ (b : Written). HasWritten b []) (sym block-is) c.in_ok-block.ensures.empty in
    push_full c.close.new.self _ h.done os v h.each h.room (omega (arith, full, entries)) closed (record { form_is = c.close.new.self.alike ∙ closed.form; written = empty })

pub returns-clause-pushed : goal.returns-clause-pushed
returns-clause-pushed c = λ t h.
    let v = item_of c.args.v.now in
    let os = h.open_items in
    let form-is = c.in_ok-push.ensures.form ∙ ap (λ (b : Written). b.form) c.in_ok-block.ensures.taken ∙ c.args.self.now.alike ∙ h.behind.form in
    let written = c.in_ok-push.ensures.pushed os (subst (λ (b : Written). HasWritten b os) (sym c.in_ok-block.ensures.taken) h.is_open.written) in
    let item : IsItem t.form v = subst (λ (f : Form). IsItem f v) form-is (all_last (IsItem c.push.new.self.form) os v written.items) in
    let b = c.in_ok-note.ensures.noted t h.done os (c.in_ok-block.ensures.kept t h.done os h.behind) item in
    let entries = ap length written.entries ∙ ap (λ (f : Form). length (block_entries f (os ++ v ∷ []))) form-is in
    let room = not_full (length c.push.new.self.entries) c.full.result c.full.ensures.1 c.if-full.false in
    record {
      done = h.done;
      open_items = os ++ v ∷ [];
      behind = record { family = b.family; form = b.form; collected_by = b.collected_by; items = b.items; bytes = b.bytes; index = b.index; versions = b.versions; tally = b.tally; range = b.range; fit = b.fit; readable = b.readable; few = b.few };
      is_open = record { form_is = form-is; written = written };
      each = h.each;
      room = omega (arith, room, entries);
    }
