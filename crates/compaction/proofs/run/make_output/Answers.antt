use Rattle.std.proofs.Common.{◌≡◌, sym, subst}
use Rattle.ts_key.specs.Items.{items_of}
use Rattle.block_table.specs.Contents.{Contents}
use Rattle.block_table.specs.Pushed.{IsWholeTable, contents_of}
use Rattle.compaction.specs.Filling.{key_of}
use Rattle.compaction.specs.Made.{TableEndsBefore, IsPiece}
use Rattle.compaction.proofs.run.make_output.Goals as goal

pub returns-clause-next : goal.returns-clause-next
returns-clause-next g c = λ given h.
    let f = c.in-Ok.ensures.filled given h in
    let t = contents_of c.args.family c.args.form c.args.floor (items_of f.own) in
    let whole : IsWholeTable c.in-Ok.filled.writer t = record { pushed = f.pushed; some = f.piece.some; sorted = f.sorted } in
    let e : c.in_ok-output.output.table.contents ≡ t = c.in_ok-output.ensures.contents t whole in
    record {
      own = f.own;
      first = f.first;
      contents = e;
      piece = subst IsPiece (sym e) f.piece;
      ends = subst (λ (u : Contents). TableEndsBefore u (key_of c.in-Ok.filled.next)) (sym e) f.ends;
      gave = f.next;
    }
