use Rattle.std.proofs.Common.{length, ◌≡◌, refl, arith, ◌∙◌}
use Rattle.data_block.specs.Index.{items_at}
use Rattle.data_block.proofs.Filled.{added}
use Rattle.data_block.proofs.index.add.Goals as goal

pub returns-clause-items : goal.returns-clause-items
returns-clause-items c =
    let x = c.args.index.now in
    let from : c.len-key_from.result ≡ length x.keys.items = omega (arith, c.len-key_from.ensures, x.keys.ok.0) in
    (λ i. items_at (c.in_ok-extend_from_slice.ensures.items i) c.args.image.now (c.in_ok-push.ensures.items i))
    ∙ added x.keys.items c.args.k.now.key.now c.args.image.now x.entries.items _ c.requires.within from refl
