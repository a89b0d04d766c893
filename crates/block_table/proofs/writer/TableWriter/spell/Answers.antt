use Rattle.std.proofs.Common.{length, ap, ◌∙◌, arith}
use Rattle.std.proofs.lemmas.List.{append-nil}
use Rattle.ts_key.specs.Lists.{joined_lists}
use Rattle.block_table.specs.Tables.{with_footer, index, properties}
use Rattle.block_table.proofs.Cuts.{length-handles}
use Rattle.block_table.proofs.Pushing.{told_properties}
use Rattle.block_table.proofs.writer.TableWriter.spell.Goals as goal

pub returns : goal.returns
returns c = λ t cuts h.
    let b = h.behind in
    let w = c.args.self in
    let told = told_properties w t cuts _ b c.in-Some.is in
    let family = b.family in
    let floor = b.collected_by in
    let tail = c.in_ok-put_tail.ensures in
    let handles-are = c.deref.ensures.value ∙ b.index in
    record {
      cuts = cuts;
      some = h.some;
      count = omega (arith, ap length b.index, length-handles t.form 0 cuts);
      joins = b.items ∙ append-nil (joined_lists cuts);
      cut = h.cut;
      some_each = h.some_each;
      readable = b.readable;
      few = b.few;
      family = omega (arith, family);
      collected_by = omega (arith, floor);
      spelled = tail ∙ (λ i. with_footer (b.bytes i) (index (handles-are i)) (properties (told i)));
    }
