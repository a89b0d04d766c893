use Rattle.std.proofs.Common.{◌≡◌, ◌+◌, Some, None, sym, ap, subst, ◌∙◌}
use Rattle.udt_model.specs.declared.reply.Reply.TheVariants.{OkAt}
use Rattle.udt_model.specs.Acts.Act.{write}
use Rattle.udt_model.specs.Steps.{after}
use Rattle.super_version.specs.declared.version.SuperVersion.{SuperVersion}
use Rattle.std.specs.Prelude.{length}
use Rattle.store_engine.specs.Admission.{IsInMemory, RefusesWrite, write_fault}
use Rattle.store_engine.specs.Now.{IsNow}
use Rattle.store_engine.proofs.Admitting.{handed_on, handed_refusal, write_admitted, write_in_memory, write_refused, write_refuses}
use Rattle.store_engine.proofs.NowWritten.{now_written}
use Rattle.store_engine.proofs.admission.admit.Goals as goal

pub returns-in_err-judge-clause-refused : goal.returns-in_err-judge-clause-refused
returns-in_err-judge-clause-refused c = λ m sound up shows.
    let is : write_fault c.args.now.now c.args.batch.now ≡ Some c.in_err-judge.field-0.0 = ap (write_fault c.args.now.now) (sym c.ops.ensures.ops) ∙ sym c.in_err-judge.ensures.fault in
    handed_on (RefusesWrite m c.args.batch.now) c.from_residual.result c.in_err-judge.field-0.0 c.from_residual.ensures.1 (write_refused m c.args.now.now c.args.batch.now c.in_err-judge.field-0.0 sound up shows is)

pub returns-in_err-judge-clause-memory : goal.returns-in_err-judge-clause-memory
returns-in_err-judge-clause-memory c = handed_on IsInMemory c.from_residual.result c.in_err-judge.field-0.0 c.from_residual.ensures.1 (write_in_memory c.args.now.now c.ops.result.now c.in_err-judge.field-0.0 (sym c.in_err-judge.ensures.fault))

pub returns-clause-admitted : goal.returns-clause-admitted
returns-clause-admitted c = λ m sound up shows.
    let is : write_fault c.args.now.now c.args.batch.now ≡ None = ap (write_fault c.args.now.now) (sym c.ops.ensures.ops) ∙ sym c.in_ok-judge.ensures.fault in
    write_admitted m c.args.now.now c.args.batch.now sound up shows is

pub returns-clause-next : goal.returns-clause-next
returns-clause-next c = λ m number sync sound shows.
    subst (λ (v : SuperVersion). IsNow v (after m number (write c.args.batch.now sync) (OkAt (m.last.0 + length c.args.batch.now)))) (sym c.in_ok-share.ensures)
    (now_written m c.args.now.now c.in_ok-with_write.field-0 number c.args.batch.now sync sound shows c.in_ok-with_write.ensures)

pub returns-in_err-judge-clause-answers : goal.returns-in_err-judge-clause-answers
returns-in_err-judge-clause-answers c =
    let is : write_fault c.args.now.now c.args.batch.now ≡ Some c.in_err-judge.field-0.0 = ap (write_fault c.args.now.now) (sym c.ops.ensures.ops) ∙ sym c.in_err-judge.ensures.fault in
    handed_refusal c.from_residual.result c.in_err-judge.field-0.0 c.from_residual.ensures.1 ∙ write_refuses c.args.now.now c.args.batch.now c.in_err-judge.field-0.0 is ∙ sym is

pub returns-clause-answers : goal.returns-clause-answers
returns-clause-answers c = c.in_ok-judge.ensures.fault ∙ ap (write_fault c.args.now.now) c.ops.ensures.ops
