use Rattle.std.proofs.Common.{◌≡◌, ◌++◌, ◌∷◌, [], List, length, subst, sym, arith}
use Rattle.std.specs.Prelude.{All}
use Rattle.std.specs.List.{flat_map}
use Rattle.std.proofs.lemmas.Grind.{common_steps}
use Rattle.ts_key.specs.Reading.{SpellsNone}
use Rattle.wal.specs.Records.{op_bytes, IsLoggedOp}
use Rattle.wal.proofs.Fronts.{hands_on, none_there, list_more, stops}
use Rattle.wal.proofs.Operations.{op_same}
use Rattle.ts_key.specs.declared.batch.WriteOp.{WriteOp}
use Rattle.wal.proofs.body.take_ops.Goals as goal

pub returns-in_err-op : goal.returns-in_err-op
returns-in_err-op c =
    let Allowed = IsLoggedOp c.args.families in
    let Counted = λ (ops : List WriteOp). (length ops ≡ c.args.count) × All Allowed ops in
    hands_on (flat_map op_bytes) Counted _ _ _ c.from_residual.result c.in_err-op.field-0.0 c.from_residual.ensures.1
    (λ is. subst (SpellsNone (flat_map op_bytes) Counted) (sym c.loop.invariant.2)
    (stops op_bytes Allowed (op_same c.args.families c.requires) c.loop.ops.items c.loop.reader.left.now c.args.count c.loop.invariant.1 (omega arith) (none_there op_bytes Allowed _ _ c.in_err-op.ensures is)))

pub loop-preserved : goal.loop-preserved
loop-preserved c =
    let added : c.push.new.self.items ≡ c.loop.ops.items ++ c.in_ok-op.op ∷ [] = grind (arith, common_steps) in
    list_more op_bytes (IsLoggedOp c.args.families) c.loop.ops.items c.in_ok-op.op c.push.new.self.items c.args.reader.now.left.now c.loop.reader.left.now c.take_op.new.reader.left.now c.loop.counter added c.loop.invariant c.in_ok-op.ensures
