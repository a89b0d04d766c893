use Rattle.std.proofs.Common.{◌∙◌, sym, subst}
use Rattle.std.specs.Prelude.{slice_get}
use Rattle.udt_model.specs.declared.reply.Reply.TheVariants.{Done}
use Rattle.udt_model.specs.Acts.Act.{raise}
use Rattle.udt_model.specs.Steps.{after}
use Rattle.super_version.specs.declared.version.SuperVersion.{SuperVersion}
use Rattle.store_engine.specs.Admission.{RefusesRaise}
use Rattle.store_engine.specs.Now.{IsNow}
use Rattle.store_engine.proofs.Admitting.{handed_on, handed_refusal, raise_admitted, raise_refused, raise_refuses}
use Rattle.store_engine.proofs.NowRaised.{now_raised}
use Rattle.store_engine.proofs.admission.admit_raise.Goals as goal

pub returns-in_err-judge_raise-clause-refused : goal.returns-in_err-judge_raise-clause-refused
returns-in_err-judge_raise-clause-refused c = λ m up shows.
    handed_on (RefusesRaise m c.args.family c.args.floor) c.from_residual.result c.in_err-judge_raise.field-0.0 c.from_residual.ensures.1
    (raise_refused m c.args.now.now c.args.family c.args.floor c.in_err-judge_raise.field-0.0 up shows (sym c.in_err-judge_raise.ensures.fault))

pub returns-clause-admitted : goal.returns-clause-admitted
returns-clause-admitted c = λ m up shows. raise_admitted m c.args.now.now c.args.family c.args.floor up shows (sym c.in_ok-judge_raise.ensures.fault)

pub returns-clause-next : goal.returns-clause-next
returns-clause-next c = λ m number shows.
    subst (λ (v : SuperVersion). IsNow v (after m number (raise c.args.family c.args.floor) Done)) (sym c.in_ok-share.ensures)
    (now_raised m c.args.now.now c.in_ok-with_floor.field-0 number c.args.family c.args.floor (sym c.in_ok-judge_raise.ensures.fault) shows c.in_ok-with_floor.ensures)

pub returns-in_err-judge_raise-clause-answers : goal.returns-in_err-judge_raise-clause-answers
returns-in_err-judge_raise-clause-answers c =
    let is = sym c.in_err-judge_raise.ensures.fault in
    handed_refusal c.from_residual.result c.in_err-judge_raise.field-0.0 c.from_residual.ensures.1 ∙ raise_refuses (slice_get c.args.now.now.families c.args.family.0) c.args.floor c.in_err-judge_raise.field-0.0 is ∙ sym is

pub returns-clause-answers : goal.returns-clause-answers
returns-clause-answers c = c.in_ok-judge_raise.ensures.fault
