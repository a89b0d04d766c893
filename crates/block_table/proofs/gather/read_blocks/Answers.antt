use Rattle.std.proofs.Common.{◌<◌, length, refl, sym, ap, subst, ◌∙◌, arith}
use Rattle.std.specs.Prelude.{Err}
use Rattle.std.proofs.lemmas.Bool.{eqb-true, eqb-false}
use Rattle.std.proofs.lemmas.Result.{err_from_is_err_and}
use Rattle.block_table.specs.Gathering.{AreOnlyBlocksOf, ReadsBlocks}
use Rattle.block_table.proofs.Blocks.{no_handles, none_read, failed_at, read_at, blocks_read, ends_wrong}
use Rattle.block_table.proofs.gather.read_blocks.Goals as goal

pub returns-then-is_empty : goal.returns-then-is_empty
returns-then-is_empty c = no_handles c.args.form c.args.image c.args.end c.args.handles.now c.requires (eqb-true _ 0 (sym c.is_empty.ensures ∙ c.if-is_empty.true))

pub loop-i-init : goal.loop-i-init
loop-i-init c = record {
  image = c.new-g.ensures.image;
  read = none_read c.args.form c.args.image c.args.end c.args.handles.now c.requires c.new-g.result.items c.new-g.ensures.items;
}

pub returns-in_err-at : goal.returns-in_err-at
returns-in_err-at c =
    let inv = c.loop-i.invariant in
    let form = c.args.form in
    let end = c.args.end in
    let hs = c.args.handles.now in
    let items = c.loop-i.g.items in
    let new = c.add_block.new.g.items in
    let e = c.in_err-at.field-0.0 in
    let told = err_from_is_err_and c.from_residual.result c.from_residual.ensures.1 in
    subst (ReadsBlocks form c.args.image end hs) (sym (told.1 ∙ ap Err told.2))
    (failed_at form c.args.image end hs c.requires c.loop-i.i c.loop-i.at (length hs) items new _ inv.read _ refl c.loop-i-test.true refl c.loop-i.g.image inv.image e c.in_err-at.ensures.added)

pub loop-i-preserved : goal.loop-i-preserved
loop-i-preserved c =
    let inv = c.loop-i.invariant in
    let form = c.args.form in
    let end = c.args.end in
    let hs = c.args.handles.now in
    let items = c.loop-i.g.items in
    let new = c.add_block.new.g.items in
    let to = c.in_ok-at.at in
    record {
      image = c.in_ok-at.ensures.image ∙ inv.image;
      read = read_at form c.args.image end hs c.requires c.loop-i.i c.loop-i.at (length hs) items new _ inv.read _ refl c.loop-i-test.true refl c.loop-i.g.image inv.image to c.in_ok-at.ensures.added;
    }

pub returns-then-at-end : goal.returns-then-at-end
returns-then-at-end c =
    ends_wrong c.args.form c.args.image c.args.end c.args.handles.now c.requires c.loop-i.i c.loop-i.at c.loop-i.g.items c.loop-i.invariant.read c.loop-i-test.false c.if-at-end.true

pub returns : goal.returns
returns c =
    let ne = eqb-false _ 0 (sym c.is_empty.ensures ∙ c.if-is_empty.false) in
    let some : 0 < length c.args.handles.now = omega (arith, ne) in
    subst (AreOnlyBlocksOf c.args.form c.args.image c.args.end c.args.handles.now) (sym c.finish.ensures)
    (blocks_read c.args.form c.args.image c.args.end c.args.handles.now c.requires c.loop-i.i c.loop-i.at c.loop-i.g.items c.loop-i.invariant.read c.loop-i-test.false some c.if-at-end.false)
