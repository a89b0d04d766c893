use Rattle.std.proofs.Common.{length, ap, ◌∙◌, arith}
use Rattle.ts_key.specs.declared.version.Form.{Form}
use Rattle.data_block.specs.Grammar.{block}
use Rattle.block_table.proofs.Pushing.{bytes_done, bytes_open}
use Rattle.block_table.proofs.writer.TableWriter.bytes.Goals as goal

pub returns-then-self-eq0 : goal.returns-then-self-eq0
returns-then-self-eq0 c = λ t h. bytes_done c.args.self.now t h _ c.if-self-eq0.true (omega (arith, c.len.ensures, c.args.self.now.blocks.ok.0))

pub returns : goal.returns
returns c = λ t h.
    let size = c.size.ensures.value h.open_items h.is_open.written ∙ ap (λ (f : Form). length (block f h.open_items)) h.is_open.form_is in
    bytes_open c.args.self.now t h _ c.if-self-eq0.false (omega (arith, size, c.len-2.ensures, c.args.self.now.blocks.ok.0))
