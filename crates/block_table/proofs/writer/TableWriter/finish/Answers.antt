use Rattle.std.proofs.Common.{List, ℕ, sym, subst, arith}
use Rattle.std.specs.Prelude.{Ok, Err}
use Rattle.udt_disk.specs.Runs.{WritesSynced}
use Rattle.udt_disk.specs.declared.traits.Failed.{Failed}
use Rattle.block_table.specs.Tables.{IsTable}
use Rattle.block_table.proofs.Pushing.{spelled_table}
use Rattle.block_table.proofs.writer.TableWriter.finish.Goals as goal

pub unreachable-requires : goal.unreachable-requires
unreachable-requires g c =
    let t = c.requires.whole.0 in
    let h = c.requires.whole.1 in
    let s = c.in_ok-image.ensures t h.pushed h.some in
    (rw c.in-Err-Bad.field-0-is at c.in-Err-Bad.ensures) t (spelled_table t _ s h.sorted (omega arith))

pub returns-in-Ok-write_image : goal.returns-in-Ok-write_image
returns-in-Ok-write_image g c = λ t h.
    let image = c.in_ok-image.image.items in
    let is : IsTable t image = spelled_table t image (c.in_ok-image.ensures t h.pushed h.some) h.sorted (omega arith) in
    let read = c.in-Ok.ensures in
    let wrote = subst (λ (b : List ℕ). WritesSynced {E = Failed} g.F.DiskFile 0 b c.args.file.now c.write_image.new.file (Ok tt)) c.bytes.ensures c.in-Ok-write_image.ensures in
    (sym (read.1.only t is), subst (IsTable t) (sym read.0) is, wrote)

pub returns-in-Err : goal.returns-in-Err
returns-in-Err g c = λ t h.
    let image = c.in_ok-image.image.items in
    let is : IsTable t image = spelled_table t image (c.in_ok-image.ensures t h.pushed h.some) h.sorted (omega arith) in
    let read = c.in-Ok.ensures in
    let failed = c.in-Err.field-0 in
    let wrote = subst (λ (b : List ℕ). WritesSynced {E = Failed} g.F.DiskFile 0 b c.args.file.now c.write_image.new.file (Err failed)) c.bytes.ensures c.in-Err.ensures in
    (c.in-Ok.table.image, failed, (subst (IsTable t) (sym read.0) is, wrote))
