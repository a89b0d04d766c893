use Rattle.std.proofs.Common.{◌≡◌, List, subst}
use Rattle.udt_model.specs.declared.event.Event.TheVariants.{Write}
use Rattle.udt_model.specs.declared.event.NamedOp.{NamedOp}
use Rattle.solo_runner.specs.Named.{after_by_name}
use Rattle.solo_runner.proofs.Adding.{written, told_sound}
use Rattle.solo_runner.proofs.store.PlainStore.step.Goals as goal

pub returns-in-Write-clause-after : goal.returns-in-Write-clause-after
returns-in-Write-clause-after c number =
    let w = written c.args.self.now c.write.new.self number c.as_slice.result.now c.in-Write.sync c.write.result c.told_or_want.result c.write.ensures.reply c.write.ensures.ok c.write.ensures.err c.write.ensures.built
    c.told_or_want.ensures.ok c.told_or_want.ensures.err in
    rw c.in-Write.is (subst (λ (os : List NamedOp). c.write.new.self ≡ after_by_name c.args.self.now number (Write os c.in-Write.sync) c.told_or_want.result) c.as_slice.ensures w.after_is)

pub returns-in-Write-clause-sound : goal.returns-in-Write-clause-sound
returns-in-Write-clause-sound c = told_sound c.write.result c.told_or_want.result c.write.ensures.sound c.told_or_want.ensures.ok c.told_or_want.ensures.err
