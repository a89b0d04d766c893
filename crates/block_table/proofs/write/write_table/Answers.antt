use Rattle.std.proofs.Common.{◌<◌, length, arith}
use Rattle.std.proofs.lemmas.List.{length-map}
use Rattle.ts_key.specs.Items.{item_of, items_of}
use Rattle.block_table.specs.Pushed.{contents_of}
use Rattle.block_table.proofs.write.write_table.Goals as goal

pub finish-requires-clause-whole : goal.finish-requires-clause-whole
finish-requires-clause-whole g c = λ lifetimes outlive.
    let vs = c.args.versions.now in
    let one = c.requires.one_family in
    let some : 0 < length vs = c.requires.some in (
      contents_of one.0 c.args.form c.args.collected_by (items_of vs),
      record {
        pushed = c.in_ok-writer.ensures one.0 one.1;
        some = omega (arith, some, length-map vs item_of);
        sorted = c.requires.sorted;
      },
    )

pub returns : goal.returns
returns g c = λ family all.
    let vs = c.args.versions.now in
    let some : 0 < length vs = c.requires.some in
    c.finish.ensures (contents_of family c.args.form c.args.collected_by (items_of vs)) (record {
      pushed = c.in_ok-writer.ensures family all;
      some = omega (arith, some, length-map vs item_of);
      sorted = c.requires.sorted;
    })
