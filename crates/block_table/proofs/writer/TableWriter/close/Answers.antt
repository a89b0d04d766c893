use Rattle.std.proofs.Common.{◌≡◌, ◌<◌, ◌^◌, ◌++◌, ℕ, List, length, refl, ap, subst, ◌∙◌, arith}
use Rattle.ts_key.specs.Items.{Item}
use Rattle.ts_key.specs.declared.version.Form.{Form}
use Rattle.data_block.specs.Grammar.{block, IsBlock}
use Rattle.data_block.proofs.Written.{all_snoc}
use Rattle.block_table.specs.Pushed.{IsReadable}
use Rattle.block_table.proofs.Pushing.{bytes_more, index_more, items_moved}
use Rattle.block_table.proofs.writer.TableWriter.close.Goals as goal

pub returns-clause-closed : goal.returns-clause-closed
returns-clause-closed c = λ t done vs b o.
    let old = c.args.self.now in
    let n = b.versions in
    let bytes = c.in_ok-bytes.bytes in
    let bytes-is : bytes.items ≡ block t.form vs = c.in_ok-bytes.ensures.written vs o.written ∙ ap (λ (f : Form). block f vs) o.form_is in
    let readable : IsReadable t.form vs = λ sorted some. subst (λ (f : Form). IsBlock f vs) o.form_is (c.in_ok-bytes.ensures.readable vs o.written sorted some) in
    let at : c.len.result ≡ length old.blocks.items = omega (arith, c.len.ensures, old.blocks.ok.0) in
    let size : c.len-2.result ≡ length bytes.items = omega (arith, c.len-2.ensures, bytes.ok.0) in
    record {
      family = b.family;
      form = b.form;
      collected_by = b.collected_by;
      items = items_moved done vs t.items b.items;
      bytes = bytes_more t.form done vs old.blocks.items _ bytes.items b.bytes bytes-is (c.in_ok-extend_from_slice.ensures.items ∙ ap (λ (xs : List ℕ). old.blocks.items ++ xs) c.deref.ensures.value);
      index = index_more t.form done vs old.handles.items _ _ b.index (at ∙ ap length b.bytes) (size ∙ ap length bytes-is) n c.in_ok-push.ensures.items;
      versions = refl;
      tally = b.tally;
      range = b.range;
      fit = b.fit;
      readable = all_snoc (IsReadable t.form) done vs b.readable readable;
      few = all_snoc (λ (us : List Item). length us < 2 ^ 32) done vs b.few (omega (arith, n));
    }
