use Rattle.std.proofs.Common.{◌≡◌, ◌+◌, ◌++◌, List, ℕ, length, ap, ◌∙◌, arith, length-append}
use Rattle.block_table.specs.Tables.{index, properties, footer, with_footer}
use Rattle.block_table.proofs.writer.put_tail.Goals as goal

pub returns : goal.returns
unfolding with_footer
returns c =
    let out = c.args.out.now in
    let b = out.items in
    let i = index c.args.handles.now in
    let p = properties c.args.p.now in
    let one = c.in_ok-put_index.ensures.written in
    let whole = c.in_ok-put_properties.ensures.written ∙ ap (λ (xs : List ℕ). xs ++ p) one in
    let at : c.len-index_at.result ≡ length b = omega (arith, c.len-index_at.ensures, out.ok.0) in
    let to : c.len-properties_at.result ≡ length b + length i = omega (arith, c.len-properties_at.ensures, c.put_index.new.out.ok.0, ap length one, length-append b i) in
    c.in_ok-put_footer.ensures.written ∙ (λ j. whole j ++ footer (at j) (to j))
