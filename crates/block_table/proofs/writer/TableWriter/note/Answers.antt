use Rattle.std.proofs.Common.{◌++◌, refl, sym, ap, subst, Option, ◌∙◌, arith, append_assoc, List, [], ◌∷◌, length-append}
use Rattle.ts_key.specs.Items.{Item, item_of}
use Rattle.ts_key.specs.Lists.{joined_lists}
use Rattle.ts_key.specs.StoredKeys.{IsItem}
use Rattle.data_block.proofs.Written.{all_snoc}
use Rattle.block_table.specs.declared.writer.KeyRange.{KeyRange}
use Rattle.block_table.specs.Ranges.{IsRangeOf}
use Rattle.block_table.proofs.writer.TableWriter.note.Goals as goal

pub returns-clause-noted : goal.returns-clause-noted
returns-clause-noted c = λ t done vs b item.
    let v = item_of c.args.v.now in
    let n = b.versions in
    record {
      family = b.family;
      form = b.form;
      collected_by = b.collected_by;
      items = ap (λ (us : List Item). us ++ v ∷ []) b.items ∙ append_assoc (joined_lists done) vs (v ∷ []);
      bytes = b.bytes;
      index = b.index;
      versions = omega (arith, n, length-append vs (v ∷ []));
      tally = c.and-self.ensures.tally t.items v b.tally refl refl;
      range = c.in_ok-range.ensures t.items v (subst (λ (o : Option KeyRange). IsRangeOf o t.items) (sym c.take.ensures.value) b.range) refl;
      fit = all_snoc (IsItem t.form) t.items v b.fit item;
      readable = b.readable;
      few = b.few;
    }
